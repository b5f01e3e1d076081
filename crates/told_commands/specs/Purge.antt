-- What a purge of an array does and writes, on a medium that tells its bytes.
use Rattle.std.specs.Prelude.{ℕ, ◌≡◌, Bool, IsTrue, List, codes, Result, Ok, Err, IfOk, IfErr}
use Rattle.mars_base.specs.Causes.{Rose}
use Rattle.pcm_media.specs.View.{View}
use Rattle.array_shape.specs.declared.shape.Shape.{Shape}
use Rattle.array_image.specs.Decided.{settled_data}
use Rattle.eaw_face.specs.Causes.{IsAlive}
use Rattle.eaw_face.specs.StoreView.{StoreView, LeavesOnly}
use Rattle.page_store.specs.Index.{Index}
use Rattle.history.specs.declared.call.Reply.{Reply}
use Rattle.history.specs.declared.call.Reply.TheVariants as says
use Rattle.caller_steps.specs.Purging.{Purges}
use Rattle.caller_steps.specs.State.{State}
use Rattle.mars_core.specs.Making.{OpensAsNamed}
use Rattle.mars_core.specs.Over.{limits_of}
use Rattle.mars_core.specs.declared.fault.CoreFault.{CoreFault}
use Rattle.mars_core.specs.declared.fault.CoreFault.TheVariants as core
use Rattle.history_text.specs.Text.{number_line}
use Rattle.script_run.specs.declared.ended.Ended.{Ended}
use Rattle.array_runs.specs.Forms.{index_in}
use Rattle.array_runs.specs.Records.{HasAll, begun_on}
use Rattle.array_runs.specs.Statuses.{served_status}
use Rattle.array_runs.specs.declared.status.Status.{Status}
use Rattle.told_commands.specs.Told.{HasRecords, names_on, WorksOn, Finishes}

-- Of n keys without a record the index, in version 2, has lost each, and each key without a record that it still has is the last of its page.
-- This is said of the data of a store.
pub record ClearsTo (index : Index) (shape : Shape) (depth : ℕ) (old : List ℕ) (n : ℕ) (new : List ℕ) : Type 0 where
  pub final : State
  pub purged : Purges (limits_of index shape depth) (begun_on index old) n final
  pub left : HasAll index new final

-- how a purge of a core that nobody else calls may be answered
abbrev pub IsAnswer : Reply → Type 0
IsAnswer (says.Purged n) = Unit {0}
IsAnswer says.Media = Unit {0}
IsAnswer (says.Damaged page) = Unit {0}
IsAnswer reply = ⊥

-- what it then came to: so many keys were taken out, or this stopped it
abbrev pub cleared : Reply → Result ℕ CoreFault
cleared (says.Purged n) = Ok n
cleared (says.Damaged page) = Err (core.Damaged page)
cleared reply = Err core.Media

-- why it is stopped: for want of memory never, and by a damaged page only over a store that does not tell its data
abbrev pub StopCause : Bool → CoreFault → Type 0
StopCause tells core.Media = Unit {0}
StopCause tells (core.Damaged page) = ¬ IsTrue tells
StopCause tells core.NoMemory = ⊥

-- the count of the medium's faults, by what came of a purge on a store that was not dead
abbrev pub ClearedCounts : Result ℕ CoreFault → ℕ → ℕ → Type 0
ClearedCounts (Err core.Media) media media' = Rose media media'
ClearedCounts _ media media' = media' ≡ media

-- A purge of the records of a store, which are sound. What stops it is a fault of the medium, or a damaged page. Whatever a loss of
-- power might have left meanwhile, or may leave now, opens with the records that there were, under the names that there were.
pub record ClearsStore (tells : Bool) (Opens : List ℕ → List ℕ → Type 0) (index : Index) (old new : StoreView) (result : Result ℕ CoreFault) : Type 0 where
  pub shape : new.shape ≡ old.shape
  pub sound : IsTrue tells → index.sound old.state.bytes
  pub cause : IfErr result (StopCause tells)
  pub counts : ClearedCounts result old.faults new.faults
  pub alive : IfOk result (λ n. IsAlive new)
  pub cleared : IsTrue tells → IfOk result (λ n. ClearsTo index old.shape old.depth old.state.bytes n new.state.bytes)
  pub time : IsTrue tells → LeavesOnly (OpensAsNamed Opens index old.state.bytes) old new
  pub now : IsTrue tells → (image : List ℕ) → new.left_since new.moment image → OpensAsNamed Opens index old.state.bytes image

-- The records were purged. The index of the data in version 2 has lost so many keys, each without a record, and it has no other key without
-- a record but such as are the last of their page. The records and the names are as they were, and so whatever a loss of power may leave has
-- them. How many keys they are is told.
pub record PurgesRecords (old new : View) (cut : Bool) (text : List ℕ) (ended : Ended) : Type 0 where
  pub shape : Shape
  pub works : WorksOn shape (HasRecords shape old (names_on shape old)) old new
  pub count : ℕ
  pub final : State
  pub purged : Purges (limits_of (index_in shape old) shape 0) (begun_on (index_in shape old) (settled_data shape old.content.bytes)) count final
  pub left : HasAll (index_in shape new) (settled_data shape new.content.bytes) final
  pub finishes : Finishes shape (HasRecords shape old (names_on shape old)) (number_line (codes "purged") count) new cut text ended

-- what is told of a purge: the line of how many keys, or the status with which it ended
abbrev pub purged_end : Result ℕ CoreFault → Result (List ℕ) Status
purged_end (Ok n) = Ok (number_line (codes "purged") n)
purged_end (Err fault) = Err (served_status (Err fault))

-- the records of a store's data were to be purged, of which this is told
abbrev pub LeavesPurged : Bool → (Shape → List ℕ → List ℕ → Type 0) → Index → StoreView → Result (List ℕ) Status → StoreView → Type 0
LeavesPurged tells Opens index old end new = (purged : Result ℕ CoreFault) × (end ≡ purged_end purged) × ClearsStore tells (Opens old.shape) index old new purged
