-- What a removal of a key reads and writes, and what it costs.
use Rattle.std.specs.Prelude.{ℕ, ◌≡◌, Bool, Result}
use Rattle.eaw_face.specs.Command.{Command}
use Rattle.eaw_face.specs.StoreView.{StoreView}
use Rattle.page_store.specs.Access.{Access}
use Rattle.page_store.specs.Index.{Index}
use Rattle.page_store.specs.Works.{Works, blamed, is_done, removal_actions, removal_limits}
use Rattle.page_store.specs.declared.fault.PageFault.{PageFault}
use Rattle.record_table.specs.Faults.{told_as}
use Rattle.record_table.specs.declared.fault.TableFault.{TableFault}

-- Over any store it is a removal from the index of this root, and tells its answer: it reads the pages on the way of the key, makes at most one
-- nested top action and no other call, and a page that it names as damaged was read or written.
pub record RemovesFrom {S : Type 0} (tells : Bool) (view : S → StoreView) (calls : S → Command → ℕ) (index : Index) (access : Access) (t root key : ℕ) (old new : StoreView) (result : Result Bool TableFault) : Type 0 where
  pub removed : Result Bool PageFault
  pub told : result ≡ told_as removed
  pub works : Works (Unit {0}) tells (is_done removed) view calls t (access.finding root key).goes (removal_limits (access.finding root key) old.shape)
      (removal_actions (index.removal old.state.bytes root key)) (blamed removed) old new
