-- How records begin on pages.
use Rattle.std.specs.Prelude.{ℕ, ◌≡◌, ◌⊎◌, Bool, true, false, IsTrue, List, [], Result, Err}
use Rattle.eaw_face.specs.Command.{Command}
use Rattle.eaw_face.specs.StoreView.{StoreView}
use Rattle.eaw_face.specs.Causes.{IsAlive}
use Rattle.page_store.specs.Access.{Access}
use Rattle.page_store.specs.Index.{Index}
use Rattle.page_store.specs.Looks.{Looks, is_check_failed}
use Rattle.page_store.specs.Shown.{PagesView}
use Rattle.page_store.specs.Tested.{Tests}
use Rattle.page_store.specs.declared.index_fault.CheckFault.{CheckFault}
use Rattle.page_store.specs.declared.index_fault.CheckFault.TheVariants.{Damaged, Media, Dead, NoMemory}
use Rattle.record_table.specs.Shown.{table_of, state_of}

-- The records are those of the data, whose index is sound, and no number has written anything.
pub record Attached (tells : Bool) (Opens : List ℕ → List ℕ → Type 0) (index : Index) (old new : PagesView) : Type 0 where
  pub looks : Looks tells Opens false old new
  pub alive : IsAlive old.store
  pub sound : IsTrue tells → index.sound old.store.state.bytes
  pub table : IsTrue tells → (state_of index new).table ≡ table_of index old.store.state.bytes
  pub idle : IsTrue tells → (t : ℕ) → ((state_of index new).logs t).writes ≡ []

abbrev pub is_refused_by_media : CheckFault → Bool
is_refused_by_media fault = let r : Result (Unit {0}) CheckFault = Err fault in is_check_failed r

-- why records do not begin; if the store tells its data, the page is the first that fails
abbrev pub AttachCause : Bool → Index → StoreView → CheckFault → Type 0
AttachCause tells index old (Damaged page) = IsAlive old × (IsTrue tells → index.fails old.state.bytes page)
AttachCause tells index old Media = IsAlive old
AttachCause tells index old Dead = old.is_dead ≡ true
AttachCause tells index old NoMemory = IsAlive old

-- a test of the whole index, over any store, read this page and ended there, as the first that fails
abbrev pub FailsAt : Bool → (Command → ℕ) → Access → StoreView → ℕ → Type 0
FailsAt tells calls access old page = (calls_now : Command → ℕ) × (moment : ℕ) × (result : Result (Unit {0}) CheckFault) × (result ≡ Err (Damaged page))
    × Tests tells calls calls_now (access.testing old.shape) old (record old { moment = moment }) result

-- Which page is named as damaged: the one at which the test of the index ended, or the super page, which is read again behind it.
abbrev pub BlamesTested : Bool → (Command → ℕ) → Access → StoreView → CheckFault → Type 0
BlamesTested tells calls access old (Damaged page) = (page ≡ 0) ⊎ FailsAt tells calls access old page
BlamesTested tells calls access old fault = Unit {0}
