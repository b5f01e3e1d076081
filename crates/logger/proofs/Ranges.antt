-- Ranges that are known only if a medium tells its bytes.
use Rattle.std.proofs.Common.{◌≡◌, ℕ, Bool, List, Result, Ok, Err, subst}
use Rattle.std.specs.Prelude.{IsTrue, IsErr, OnOk, OnErr}
use Rattle.std.proofs.lemmas.Bool.{false≢true}
use Rattle.mars_base.specs.Causes.{Rose}
use Rattle.pcm_media.specs.Images.{MayLeave, Touched, partly}
use Rattle.pcm_media.specs.View.{View, LeavesOnly, Writes}

pub writes_told : {T E : Type 0} (tells : Bool) (ranges told_ranges : List (ℕ × ℕ)) (old new : View) (r : Result T E) → (IsTrue tells → ranges ≡ told_ranges) → Writes tells ranges old new r → Writes tells told_ranges old new r
writes_told tells ranges told_ranges old new r same does = record {
  size = does.size;
  device = does.device;
  cause = does.cause;
  touched = λ told. subst (λ (rs : List (ℕ × ℕ)). Touched rs old.content new.content) (same told) (does.touched told);
  time = λ told. subst (λ (rs : List (ℕ × ℕ)). LeavesOnly (MayLeave (partly rs old.content)) old new) (same told) (does.time told);
}

on_any : {U F : Type 0} (s : Result U F) (P : Type 0) → P → OnErr s P
on_any (Ok x) P p = tt
on_any (Err e) P p = p

none_of : {U F : Type 0} (s : Result U F) → IsErr s → (P : Type 0) → OnOk s P
none_of (Ok x) err P = absurd (false≢true err)
none_of (Err e) err P = tt

-- what a failed call has done, whatever answer it is passed on as
pub writes_failed : {T E U F : Type 0} (tells : Bool) (ranges : List (ℕ × ℕ)) (old new : View) (r : Result T E) (e : E) (s : Result U F) → IsErr s → r ≡ Err e → Writes tells ranges old new r → Writes tells ranges old new s
writes_failed tells ranges old new r e s err is does = record {
  size = does.size;
  device = does.device;
  cause = record {
    later = does.cause.later;
    failed = on_any s (Rose old.faults new.faults) (subst (λ r'. OnErr r' (Rose old.faults new.faults)) is does.cause.failed);
    kept = none_of s err (new.faults ≡ old.faults);
  };
  touched = does.touched;
  time = does.time;
}
