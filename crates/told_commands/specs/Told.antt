-- Work over the records of an array that is told at its end.
use Rattle.std.specs.Prelude.{ℕ, ◌≡◌, ◌≤◌, ◌⊎◌, Bool, false, if◌then◌else◌, IsTrue, List, [], Result, Ok, Err}
use Rattle.mars_base.specs.Causes.{Rose}
use Rattle.pcm_media.specs.Images.{MayLeave}
use Rattle.pcm_media.specs.View.{View}
use Rattle.array_shape.specs.declared.shape.Shape.{Shape}
use Rattle.array_image.specs.Decided.{settled_data}
use Rattle.device_recovery.specs.Recovered.{HasNoVote}
use Rattle.eaw_face.specs.StoreView.{StoreView}
use Rattle.eaw_device.specs.Opens.{Opens, AllOpen, OpensLike, KeepsData, Attached, IsBehind}
use Rattle.page_store.specs.Index.{Index}
use Rattle.record_table.specs.Does.{OpensNamed}
use Rattle.record_table.specs.Names.{names_of}
use Rattle.record_table.specs.Shown.{table_of}
use Rattle.mars_core.specs.declared.fault.CoreFault.{CoreFault}
use Rattle.texts.specs.Written.{IsWritten}
use Rattle.script_run.specs.declared.ended.Ended.{Ended}
use Rattle.script_run.specs.declared.ended.Ended.TheVariants as script
use Rattle.array_runs.specs.Forms.{index_of_form, index_at, index_in, SaysForm}
use Rattle.array_runs.specs.Records.{HoldsRecords}
use Rattle.array_runs.specs.Statuses.{served_status}
use Rattle.array_runs.specs.Untaken.{Untaken}
use Rattle.array_runs.specs.declared.status.Status.{Status}
use Rattle.array_runs.specs.declared.status.Status.TheVariants.{Good, WriteFault, MediaFault, NoMemory, Damaged, Refused}
use Rattle.told_commands.specs.declared.told_work.Told.{Told}
use Rattle.told_commands.specs.declared.told_work.Told.TheVariants.{Line, Lines}

abbrev pub told_bytes : Told → List ℕ
told_bytes (Line text) = text
told_bytes (Lines text) = text.items

-- the text that is told, or the status with which the work stopped
abbrev pub said : Result Told Status → Result (List ℕ) Status
said (Ok told) = Ok (told_bytes told)
said (Err status) = Err status

-- the statuses with which work stops
abbrev pub IsStop : Status → Type 0
IsStop MediaFault = Unit {0}
IsStop NoMemory = Unit {0}
IsStop (Damaged page) = Unit {0}
IsStop (Refused refusal) = Unit {0}
IsStop _ = ⊥

-- the count of the medium's faults rose if the work stopped at one, and else is as it was
abbrev pub FaultCounts : Result (List ℕ) Status → ℕ → ℕ → Type 0
FaultCounts (Err MediaFault) media media' = Rose media media'
FaultCounts _ media media' = media' ≡ media

-- The records are sound, and work over them was begun. An image that might have been left at some moment is such, or opens with the data of an
-- image that could be left at first, if all of those open. Then no moment is repeated.
pub record WorksOn (shape : Shape) (Is : List ℕ → Type 0) (old new : View) : Type 0 where
  pub holds : HoldsRecords shape old
  pub later : AllOpen shape old.content → old.moment ≤ new.moment
  pub since : AllOpen shape old.content → (image : List ℕ) → new.left_since old.moment image → OpensLike shape old.content image ⊎ Is image

-- the names of the tables in the array that a medium holds, by their numbers
abbrev pub names_on : Shape → View → List (List ℕ)
names_on shape media = names_of (settled_data shape media.content.bytes)

-- an image opens with the records that were there, under these names
abbrev pub HasRecords : Shape → View → List (List ℕ) → List ℕ → Type 0
HasRecords shape old names image = OpensNamed (Opens shape) (index_in shape old) image names (table_of (index_in shape old) (settled_data shape old.content.bytes))

-- The work came to its end: whatever a loss of power may leave is such, no row is voted, and this is told, or a front of it if the sink cut it
-- short.
pub record Finishes (shape : Shape) (Is : List ℕ → Type 0) (whole : List ℕ) (new : View) (cut : Bool) (text : List ℕ) (ended : Ended) : Type 0 where
  pub now : (image : List ℕ) → MayLeave new.content image → Is image
  pub quiet : HasNoVote shape new.content.bytes
  pub end : ended ≡ (if cut then script.WriteFault else script.All)
  pub told : IsWritten cut text whole

-- By how it ended: the work was done, or the medium failed when it had begun, and then nothing is told.
abbrev pub ByEnd : (Shape → Type 0) → (Ended → Type 0) → Bool → List ℕ → Ended → Type 0
ByEnd Begun Done cut text script.MediaFault = IsWritten cut text [] × ((shape : Shape) × Begun shape)
ByEnd Begun Done cut text script.NoMemory = ⊥
ByEnd Begun Done cut text ended = Done ended

-- what is written at the end, and the status: the text, whole or cut, or nothing
abbrev pub Tells : Result (List ℕ) Status → Status → Bool → List ℕ → Type 0
Tells (Ok whole) status cut text = (status ≡ (if cut then WriteFault else Good)) × IsWritten cut text whole
Tells (Err stop) status cut text = (status ≡ stop) × (cut ≡ false) × (text ≡ [])

-- the work was done, or the records were not taken
abbrev pub Leaves : (Index → StoreView → Result (List ℕ) Status → StoreView → Type 0) → (spares tells : Bool) → (Shape → List ℕ → List ℕ → Type 0) → Index → StoreView → Result (List ℕ) Status → StoreView → Type 0
Leaves Done spares tells Opens index old end new = Done index old end new ⊎ ((fault : CoreFault) × (end ≡ Err (served_status (Err fault))) × (IsTrue tells → Untaken spares Opens index old fault false [] new))

-- the same under the index that the data names, once it was looked up
abbrev pub LeavesOwn : {Store : Type 0} → (Store → StoreView) → (Index → StoreView → Result (List ℕ) Status → StoreView → Type 0) → (spares tells : Bool) → (Shape → List ℕ → List ℕ → Type 0) → Store → Result (List ℕ) Status → Store → Type 0
LeavesOwn view Done spares tells Opens old end new = ((mid : _) × (form : ℕ) × SaysForm tells (Opens (view old).shape) form (view old) (view mid) × Done (index_of_form form) (view mid) end (view new))
    ⊎ ((fault : CoreFault) × (end ≡ Err (served_status (Err fault))) × (IsTrue tells → Untaken spares Opens (index_at (view old).state.bytes) (view old) fault false [] (view new)))

-- From a medium an array was opened, and after work on its store, which writes back at once, this is the medium.
pub record Ran (tells : Bool) (old : View) (store later : StoreView) (new : View) : Type 0 where
  pub only_now : (image : List ℕ) → IsTrue tells → old.left_since old.moment image → MayLeave old.content image
  pub attached : Attached tells old store
  pub keeps : KeepsData tells old store.moment store.left_since
  pub at_once : store.depth ≡ 0
  pub behind : IsBehind tells false later new
  pub counts_now : (t : ℕ) (image : List ℕ) → IsTrue tells → t ≤ new.moment → MayLeave new.content image → new.left_since t image
