-- What a run leaves on a medium that tells its bytes, and what it writes, by its status.
use Rattle.std.specs.Prelude.{ℕ, ◌≡◌, ◌≤◌, ◌⊎◌, List, [], Bool, true, IsTrue, IsFalse, ⊤}
use Rattle.pcm_media.specs.Images.{Content, MayLeave, Touched}
use Rattle.pcm_media.specs.View.{View}
use Rattle.array_shape.specs.declared.shape.Shape.{Shape}
use Rattle.row_bytes.specs.Header.{HasMark, IsBadIn}
use Rattle.eaw_device.specs.Opens.{header_of, Opens, AllOpen, OpensLike, HasBadRow, HoldsArray}
use Rattle.record_table.specs.Upgrading.{upgraded}
use Rattle.texts.specs.Written.{IsWritten}
use Rattle.script_run.specs.declared.ended.Ended.{Ended}
use Rattle.script_run.specs.declared.ended.Ended.TheVariants as script
use Rattle.array_runs.specs.Records.{Exceeds, IsDamaged}
use Rattle.array_runs.specs.declared.status.Status.{Status}
use Rattle.array_runs.specs.declared.status.Status.TheVariants.{Good, Usage, TooLong, ReadFault, WriteFault, MediaFault, NoMemory, Damaged, BadRow, NotMars, BadShape}

-- an image opens with the data of one that could be left at first, once that data is in version 2
abbrev pub OpensInTwo : Shape → Content → List ℕ → Type 0
OpensInTwo shape content image = (earlier : List ℕ) × MayLeave content earlier × (bytes : List ℕ) × Opens shape earlier bytes × Opens shape image (upgraded bytes)

-- No line was answered, for this cause, and nothing was written to the sink. If all that a loss of power could leave at first opens, then
-- no moment is repeated, and all that it might have left since opens with data of one of those images, or, unless the data was spared, with
-- such data in version 2. Nothing was written to the medium unless MayWrite holds.
pub record Idle (spares : Bool) (MayWrite Cause : Type 0) (old new : View) (cut : Bool) (text : List ℕ) : Type 0 where
  pub silent : IsWritten cut text []
  pub later : (shape : Shape) → AllOpen shape old.content → old.moment ≤ new.moment
  pub keeps : (shape : Shape) → AllOpen shape old.content → (image : List ℕ) → new.left_since old.moment image → OpensLike shape old.content image ⊎ (IsFalse spares × OpensInTwo shape old.content image)
  pub spared : Touched [] old.content new.content ⊎ MayWrite
  pub cause : Cause

-- What was written and done, by the status: the work over an array that was opened, or that there was none to open. The medium may be
-- written only if it holds an array. If it looks, the records of the array are read before the work, so that a page may be named as damaged,
-- and memory may run out meanwhile, and then data that is not spared may be in version 2. Whether the array has numbers for so many callers is
-- tested after the opening and before the records are read. An input that is not taken has its cause by what there was to be read.
abbrev pub OutcomeOf : (spares looks : Bool) → ℕ → (Ended → Type 0) → View → Status → View → Bool → List ℕ → Type 0
OutcomeOf spares looks callers Works old Good new cut text = Works script.All
OutcomeOf spares looks callers Works old WriteFault new cut text = Works script.WriteFault
OutcomeOf spares looks callers Works old MediaFault new cut text = Idle spares (HoldsArray old) ⊤ old new cut text ⊎ Works script.MediaFault
OutcomeOf spares looks callers Works old NoMemory new cut text = Idle true ⊥ ⊤ old new cut text ⊎ (Idle spares (HoldsArray old) (IsTrue looks × HoldsArray old × (Exceeds callers old → ⊥)) old new cut text ⊎ Works script.NoMemory)
OutcomeOf spares looks callers Works old (Damaged page) new cut text = Idle true (HoldsArray old) (IsTrue looks × IsDamaged old page × (Exceeds callers old → ⊥)) old new cut text
OutcomeOf spares looks callers Works old (BadRow logger tid) new cut text = Idle true ⊥ (HasBadRow old logger tid) old new cut text
OutcomeOf spares looks callers Works old NotMars new cut text = Idle true ⊥ (512 ≤ old.size → HasMark (header_of old.content.bytes) → ⊥) old new cut text
OutcomeOf spares looks callers Works old (BadShape which given) new cut text =
    Idle true ⊥ ((512 ≤ old.size) × HasMark (header_of old.content.bytes) × IsBadIn (header_of old.content.bytes) old.size which given) old new cut text
OutcomeOf spares looks callers Works old Usage new cut text = Idle true (HoldsArray old) (Exceeds callers old) old new cut text
OutcomeOf spares looks callers Works old status new cut text = ((status ≡ TooLong) ⊎ (status ≡ ReadFault)) × Idle true (HoldsArray old) ⊤ old new cut text
