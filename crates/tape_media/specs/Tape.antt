-- What a medium with a tape shows.
use Rattle.std.specs.Prelude.{ℕ, ◌-◌, ◌<◌, ◌≤◌, ◌≡◌, ◌⊎◌, ◌↔◌, Bool, true, false, if◌then◌else◌, List, [], ◌∷◌, length, Option, Some, None, Result, OnOk, OnErr}
use Rattle.std.proofs.Common.{inl, ⊎_elim, arith}
use Rattle.mars_base.specs.Causes.{HasCause}
use Rattle.mars_base.specs.Moments.{Ticks}
use Rattle.pcm_media.specs.Images.{MayLeave}
use Rattle.pcm_media.specs.View.{View}
use Rattle.pcm_media.specs.Replay.{at_rest}
use Rattle.tape_media.specs.Steps.{Step, Made, Past, with_steps, with_first_done, all_of, content_of, device_of, LeftBefore, AreMade, AreRising}

-- its steps; its moment; how many of its calls failed; and whether a step was told to have failed on the device
pub record Tape : Type 0 where
  pub past : Past
  pub moment : ℕ
  pub faults : ℕ
  pub has_failed : Bool

-- What a loss of power at moment `t` or later might have left: what it may leave now, and, if `t` is past, what it might have left
-- before some step that was made after `t`.
abbrev pub LeftSince : Tape → ℕ → List ℕ → Type 0
LeftSince tape t image =
    MayLeave (content_of tape.past) image
    ⊎ ((t < tape.moment) × LeftBefore (all_of tape.past) (at_rest tape.past.start) t image)

-- its view as a medium
abbrev pub view_of : Tape → View
view_of tape = record {
  size = length (content_of tape.past).bytes;
  content = content_of tape.past;
  moment = tape.moment;
  left_since = LeftSince tape;
  faults = tape.faults;
  device = device_of tape.past;
}

-- one shows what the other does
pub record ShowsSame (old new : Tape) : Type 0 where
  pub content : content_of new.past ≡ content_of old.past
  pub moment : new.moment ≡ old.moment
  pub faults : new.faults ≡ old.faults
  pub left_since : (t : ℕ) (image : List ℕ) → LeftSince new t image ↔ LeftSince old t image

-- what a device might have left since a moment of its own, the medium might have left since `t`
abbrev pub IsCovered : ℕ → ℕ → View → Tape → Type 0
IsCovered t since device tape = (image : List ℕ) → device.left_since since image → LeftSince tape t image

-- the first step of these
abbrev pub first_step : List Made → Option Step
first_step [] = None
first_step (made ∷ later) = Some made.step

-- the step to be done next on the device
abbrev pub next_of : Tape → Option Step
next_of tape = (if tape.has_failed then None else first_step tape.past.ahead)

-- the tape after the next step was done, or as it was
abbrev pub after_next : Bool → Tape → Tape
after_next true tape = record tape { past = with_first_done tape.past }
after_next false tape = tape

-- the moment up to which all steps were done: the last one before that of the first step ahead
abbrev pub moment_before : ℕ → List Made → ℕ
moment_before now [] = now
moment_before now (made ∷ later) = made.moment - 1

-- so it is with a tape
abbrev pub done_moment : Tape → ℕ
done_moment tape = moment_before tape.moment tape.past.ahead

-- A call was made that, if it was done, put these steps behind those ahead. Nothing else changes but the moment and the faults.
pub record Takes {T E : Type 0} (steps : List Step) (old new : Tape) (result : Result T E) : Type 0 where
  pub ticks : Ticks old.moment new.moment result
  pub later : old.moment ≤ new.moment
  pub cause : HasCause old.faults new.faults result
  pub has_failed : new.has_failed ≡ old.has_failed
  pub ok : OnOk result (new.past ≡ with_steps old.past new.moment steps)
  pub err : OnErr result (new.past ≡ old.past)

-- the bytes in memory are what the steps make of the first ones
pub record Holds (tape : Tape) (read : List ℕ) : Type 0 where
  pub bytes : (content_of tape.past).bytes ≡ read
  pub long : length tape.past.start ≡ length read
  pub made : AreMade tape.moment (length tape.past.start) (all_of tape.past)
  pub rising : AreRising tape.past.ahead

-- what may be left now counts as left since each moment
pub counts_now : (tape : Tape) (t : ℕ) (image : List ℕ) → MayLeave (content_of tape.past) image → LeftSince tape t image
counts_now tape t image left = inl left

-- since now, nothing else is left
pub only_now : (tape : Tape) (image : List ℕ) → LeftSince tape tape.moment image → MayLeave (content_of tape.past) image
only_now tape image left = ⊎_elim (λ now. now) (λ before. absurd (omega (arith, before.0))) left
