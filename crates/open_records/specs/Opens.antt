-- How records are opened, and why not.
use Rattle.std.specs.Prelude.{ℕ, ◌≡◌, ◌<◌, ◌≤◌, ◌⊎◌, Bool, true, false, IsTrue, IsFalse, List, []}
use Rattle.mars_base.specs.Moments.{Elapses}
use Rattle.pcm_media.specs.Images.{Content, MayLeave, Touched}
use Rattle.pcm_media.specs.View.{View}
use Rattle.array_shape.specs.declared.shape.Shape.{Shape}
use Rattle.array_image.specs.Decided.{settled_data}
use Rattle.device_recovery.specs.Recovered.{HasNoVote}
use Rattle.eaw_device.specs.Opens.{Opens, AllOpen, OpensLike, IsArray, HoldsArray, AttachCause, AttachLeaves}
use Rattle.eaw_device.specs.declared.fault.AttachFault.TheVariants as array
use Rattle.page_store.specs.Index.{Index}
use Rattle.record_table.specs.Names.{names_of}
use Rattle.record_table.specs.Shown.{table_of}
use Rattle.record_table.specs.Upgrading.{upgraded, OpensUpgraded}
use Rattle.caller_steps.specs.Core.{CoreView}
use Rattle.caller_steps.specs.State.{opened}
use Rattle.mars_core.specs.Over.{limits_of, index_of}
use Rattle.mars_core.specs.declared.fault.CoreFault.{CoreFault}
use Rattle.mars_core.specs.declared.fault.CoreFault.TheVariants.{Damaged, Media}
use Rattle.open_records.specs.declared.opening.OpenFault.{OpenFault}
use Rattle.open_records.specs.declared.opening.OpenFault.TheVariants.{Array, Records, Callers, NoMemory}

-- the core begins with the tables and the records of the data that the image opens with, over that data in version 2, and has the limits of
-- its array, where so many commits may wait for their write-back
pub record Begins (index : Index) (depth : ℕ) (shape : Shape) (bytes : List ℕ) (core : CoreView) : Type 0 where
  pub limits : core.limits ≡ limits_of index shape depth
  pub state : core.state ≡ opened (names_of bytes) (table_of index bytes) (index_of index (upgraded bytes))
  pub sound : index.sound bytes

-- it does so with the data of an array that the medium holds
pub record BeginsOn (index : Index) (depth : ℕ) (media : View) (core : CoreView) : Type 0 where
  pub shape : Shape
  pub array : IsArray shape media
  pub begins : Begins index depth shape (settled_data shape media.content.bytes) core

-- an image opens with the data of one that could be left at first, as that was or in version 2
abbrev pub OpensAsLeft : Shape → Content → List ℕ → Type 0
OpensAsLeft shape content image = (earlier : List ℕ) × MayLeave content earlier × (bytes : List ℕ) × Opens shape earlier bytes × OpensUpgraded (Opens shape) bytes image

-- An opening keeps the records of an array at each of its moments: if all that could be left at first opens, so does all that is new among
-- what might have been left, with data of the former.
abbrev pub KeepsRecords : Bool → View → ℕ → (ℕ → List ℕ → Type 0) → Type 0
KeepsRecords tells media now since = IsTrue tells → (shape : Shape) → AllOpen shape media.content → Elapses media.moment now media.left_since since (OpensAsLeft shape media.content)

-- if the medium tells its bytes, it is so for whatever data the image opens with
abbrev pub OfData : Bool → View → (Shape → List ℕ → Type 0) → Type 0
OfData tells media Holds = IsTrue tells → (shape : Shape) (bytes : List ℕ) → Opens shape media.content.bytes bytes → Holds shape bytes

-- the data of the array has no sound records, and this page is the first that fails
abbrev pub IsUnsound : Index → CoreFault → Shape → List ℕ → Type 0
IsUnsound index (Damaged page) shape bytes = index.fails bytes page
IsUnsound index fault shape bytes = Unit {0}

-- the array has this many numbers, fewer than are asked for
abbrev pub HasFewer : ℕ → ℕ → Shape → List ℕ → Type 0
HasFewer callers numbers shape bytes = (shape.numbers ≡ numbers) × (numbers < callers)

-- why nothing was opened
abbrev pub IsUnopened : Bool → Index → ℕ → View → ℕ → OpenFault → Type 0
IsUnopened tells index callers media faults (Array fault) = AttachCause tells media faults fault
IsUnopened tells index callers media faults (Records fault) = OfData tells media (IsUnsound index fault)
IsUnopened tells index callers media faults (Callers numbers) = OfData tells media (HasFewer callers numbers)
IsUnopened tells index callers media faults NoMemory = Unit {0}

-- the medium failed
abbrev pub is_media : OpenFault → Bool
is_media (Array array.Media) = true
is_media (Records Media) = true
is_media fault = false

-- The medium holds the array that it held: it is as long, and settles to the same data, and unless commits may wait, no row is voted.
pub record StillHolds (late : Bool) (old new : View) : Type 0 where
  pub shape : Shape
  pub array : IsArray shape old
  pub size : new.size ≡ old.size
  pub bytes : settled_data shape new.content.bytes ≡ settled_data shape old.content.bytes
  pub quiet : IsFalse late → HasNoVote shape new.content.bytes

-- How the medium is given back: nothing was written unless it holds an array, and unless it failed, that array is the same.
abbrev pub GivesBack : (tells late : Bool) → View → View → OpenFault → Type 0
GivesBack tells late old new (Array fault) = AttachLeaves tells old new fault
GivesBack tells late old new (Records Media) = IsTrue tells → HoldsArray old
GivesBack tells late old new (Records fault) = IsTrue tells → StillHolds late old new
GivesBack tells late old new (Callers numbers) = IsTrue tells → StillHolds late old new
GivesBack tells late old new NoMemory = IsTrue tells → Touched [] old.content new.content

-- From one view of a medium to a later one no moment is repeated, and each image that is new among those that might have been left has P.
pub record LeavesNew (P : List ℕ → Type 0) (old new : View) : Type 0 where
  pub later : old.moment ≤ new.moment
  pub only : (t : ℕ) (image : List ℕ) → t ≤ old.moment → new.left_since t image → old.left_since t image ⊎ P image

-- data is brought to version 2 last, so an image may open with that only if the medium failed meanwhile
abbrev pub OpensAt : OpenFault → Shape → Content → List ℕ → Type 0
OpensAt (Records Media) shape content image = OpensAsLeft shape content image
OpensAt fault shape content image = OpensLike shape content image

-- if all that could be left at first opens, so does all that might have been left since, with data of the former
abbrev pub KeepsAt : Bool → View → View → OpenFault → Type 0
KeepsAt tells old new fault = IsTrue tells → (shape : Shape) → AllOpen shape old.content → LeavesNew (OpensAt fault shape old.content) old new
