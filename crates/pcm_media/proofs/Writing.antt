-- Calls one after another that write within given ranges.
use Rattle.std.proofs.Common.{◌≡◌, ℕ, ◌≤◌, Bool, List, Result, Ok, Err, refl, ◌∙◌, arith}
use Rattle.std.specs.Prelude.{IsOk, OnOk, OnErr}
use Rattle.std.proofs.lemmas.Bool.{false≢true}
use Rattle.mars_base.specs.Causes.{Rose, HasCause}
use Rattle.mars_base.proofs.Going.{stays, weaker, then}
use Rattle.pcm_media.specs.Images.{MayLeave, IsOutside, partly}
use Rattle.pcm_media.specs.View.{View, Writes}
use Rattle.pcm_media.proofs.Left.{touched_by_nothing, touched_within, left_partly_on}

rose_later : {T E : Type 0} (before mid now : ℕ) (r : Result T E) → before ≤ mid → OnErr r (Rose mid now) → OnErr r (Rose before now)
rose_later before mid now (Ok x) le rose = tt
rose_later before mid now (Err e) le rose = omega (arith, rose)

kept_at : {T E : Type 0} (before now : ℕ) (r : Result T E) → IsOk r → OnOk r (now ≡ before) → now ≡ before
kept_at before now (Ok x) ok kept = kept
kept_at before now (Err e) ok kept = absurd (false≢true ok)

kept_on : {T E : Type 0} (before mid now : ℕ) (r : Result T E) → mid ≡ before → OnOk r (now ≡ mid) → OnOk r (now ≡ before)
kept_on before mid now (Ok x) same kept = kept ∙ same
kept_on before mid now (Err e) same kept = tt

-- one call that succeeded, and another
pub cause_on : {T E U F : Type 0} (before mid now : ℕ) (r : Result T E) (s : Result U F) → IsOk r → HasCause before mid r → HasCause mid now s → HasCause before now s
cause_on before mid now r s ok a b = record {
  later = omega (arith, a.later, b.later);
  failed = rose_later before mid now s a.later b.failed;
  kept = kept_on before mid now s (kept_at before mid r ok a.kept) b.kept;
}

-- no call was made
pub writes_none : {T E : Type 0} (tells : Bool) (ranges : List (ℕ × ℕ)) (old : View) (x : T) → (let r : Result T E = Ok x in Writes tells ranges old old r)
writes_none tells ranges old x = record {
  size = refl;
  device = refl;
  cause = record { later = omega arith; failed = tt; kept = refl };
  touched = λ told. touched_by_nothing ranges old.content;
  time = λ told. stays old.moment old.left_since (MayLeave (partly ranges old.content));
}

-- one call after others that succeeded, within the ranges of all
pub writes_on : {T E U F : Type 0} (tells : Bool) (all more : List (ℕ × ℕ)) (old mid new : View) (r : Result T E) (s : Result U F)
    → IsOk r → ((i : ℕ) → IsOutside all i → IsOutside more i) → Writes tells all old mid r → Writes tells more mid new s → Writes tells all old new s
writes_on tells all more old mid new r s ok within a b = record {
  size = b.size ∙ a.size;
  device = b.device ∙ a.device;
  cause = cause_on old.faults mid.faults new.faults r s ok a.cause b.cause;
  touched = λ told. touched_within all more old.content mid.content new.content (a.touched told) within (b.touched told);
  time = λ told. then (a.time told) (weaker (left_partly_on all more old.content mid.content (a.touched told) within) (b.time told));
}

-- the first of several calls
pub writes_within : {T E : Type 0} (tells : Bool) (all more : List (ℕ × ℕ)) (old new : View) (r : Result T E)
    → ((i : ℕ) → IsOutside all i → IsOutside more i) → Writes tells more old new r → Writes tells all old new r
writes_within tells all more old new r within a =
    let called : Result (Unit {0}) (Unit {0}) = Ok tt in
    writes_on tells all more old old new called r refl within (writes_none tells all old tt) a
