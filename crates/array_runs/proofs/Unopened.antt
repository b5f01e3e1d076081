-- A run whose array is not opened.
use Rattle.std.proofs.Common.{ℕ, ◌⊎◌, inl, inr, ⊎_elim, List, [], Bool, true, false, refl, arith}
use Rattle.std.proofs.lemmas.Bool.{false≢true}
use Rattle.std.specs.Prelude.{IsTrue}
use Rattle.pcm_media.specs.Images.{MayLeave, Touched}
use Rattle.pcm_media.specs.View.{View}
use Rattle.pcm_media.proofs.Left.{touched_by_nothing}
use Rattle.array_shape.specs.declared.shape.Shape.{Shape}
use Rattle.eaw_device.specs.Opens.{AllOpen, OpensLike, KeepsData, AttachCause, AttachLeaves}
use Rattle.eaw_device.specs.declared.fault.AttachFault.{AttachFault}
use Rattle.eaw_device.specs.declared.fault.AttachFault.TheVariants as opening
use Rattle.script_run.specs.declared.ended.Ended.{Ended}
use Rattle.array_runs.specs.Opening.{IsUnread, IsUnopened, Unopened}
use Rattle.array_runs.specs.Outcome.{Idle, OutcomeOf}
use Rattle.array_runs.specs.Statuses.{status_of}
use Rattle.array_runs.specs.declared.status.Status.{Status}
use Rattle.array_runs.specs.declared.status.Status.TheVariants.{Good, Usage, TooLong, ReadFault, WriteFault, MediaFault, NoMemory, Damaged, BadRow, NotMars, BadShape, Refused, BadFrame, Gap}

module _ (tells : Bool) (told : IsTrue tells) (old : View) (only_now : (image : List ℕ) → IsTrue tells → old.left_since old.moment image → MayLeave old.content image) where
  -- what may be left at first opens as it does
  pub first_like : (shape : Shape) → AllOpen shape old.content → (image : List ℕ) → old.left_since old.moment image → OpensLike shape old.content image
  first_like shape all image left =
      let may = only_now image told left in
      let can = all image may in
      (image, may, can.0, can.1, can.1)

  -- a medium to which nothing was done
  pub idle_same : (MayWrite Cause : Type 0) → Cause → Idle true MayWrite Cause old old false []
  idle_same MayWrite Cause cause = record { silent = refl; later = λ shape all. omega arith; keeps = λ shape all image left. inl (first_like shape all image left); spared = inl (touched_by_nothing [] old.content); cause = cause }

  -- nor was it looked at, as the input was not taken
  pub unread_of : (status : Status) → IsUnread status → Unopened old status old
  unread_of TooLong kind = (inl refl, idle_same _ _ tt)
  unread_of ReadFault kind = (inr refl, idle_same _ _ tt)
  unread_of NoMemory kind = inl (idle_same _ _ tt)
  unread_of _ kind = absurd kind

  -- a medium whose array was not opened
  idle_kept : (MayWrite Cause : Type 0) (new : View) → KeepsData tells old new.moment new.left_since → Touched [] old.content new.content ⊎ MayWrite → Cause → Idle true MayWrite Cause old new false []
  idle_kept MayWrite Cause new keeps spared cause = record {
    silent = refl;
    later = λ shape all. (keeps told shape all).later;
    keeps = λ shape all image left. inl (⊎_elim (first_like shape all image) (λ like. like) ((keeps told shape all).only old.moment image (omega arith) left));
    spared = spared;
    cause = cause;
  }

  pub unopened_of : (new : View) (fault : AttachFault) → AttachCause tells old new.faults fault → AttachLeaves tells old new fault → KeepsData tells old new.moment new.left_since → Unopened old (status_of fault) new
  unopened_of new opening.NotMars cause leaves keeps = idle_kept _ _ new keeps (inl (leaves told)) (λ long mark. cause long told mark)
  unopened_of new (opening.BadShape bad) cause leaves keeps = idle_kept _ _ new keeps (inl (leaves told)) (cause.0, (cause.1 told).0, (cause.1 told).1)
  unopened_of new (opening.BadRow logger tid) cause leaves keeps = idle_kept _ _ new keeps (inl (leaves told)) (cause told)
  unopened_of new opening.Media cause leaves keeps = inl (idle_kept _ _ new keeps (leaves told) tt)
  unopened_of new opening.NoMemory cause leaves keeps = inl (idle_kept _ _ new keeps (inl (leaves told)) tt)

-- nothing was done, whatever the work is
pub unopened_as : (Works : Ended → Type 0) (looks : Bool) (callers : ℕ) (old : View) (status : Status) (new : View) → IsUnopened status → Unopened old status new → OutcomeOf true looks callers Works old status new false []
unopened_as Works looks callers old Good new kind outcome = absurd kind
unopened_as Works looks callers old Usage new kind outcome = absurd kind
unopened_as Works looks callers old TooLong new kind outcome = outcome
unopened_as Works looks callers old ReadFault new kind outcome = outcome
unopened_as Works looks callers old WriteFault new kind outcome = absurd kind
unopened_as Works looks callers old MediaFault new kind (inl fails) = inl fails
unopened_as Works looks callers old MediaFault new kind (inr none) = absurd none
unopened_as Works looks callers old NoMemory new kind (inl short) = inl short
unopened_as Works looks callers old NoMemory new kind (inr (inl none)) = absurd (false≢true none.cause.0)
unopened_as Works looks callers old NoMemory new kind (inr (inr none)) = absurd none
unopened_as Works looks callers old (Damaged page) new kind outcome = absurd kind
unopened_as Works looks callers old (BadRow logger tid) new kind outcome = outcome
unopened_as Works looks callers old NotMars new kind outcome = outcome
unopened_as Works looks callers old (BadShape which given) new kind outcome = outcome
unopened_as Works looks callers old (Refused refusal) new kind outcome = absurd kind
unopened_as Works looks callers old (BadFrame n) new kind outcome = absurd kind
unopened_as Works looks callers old (Gap expected got) new kind outcome = absurd kind
