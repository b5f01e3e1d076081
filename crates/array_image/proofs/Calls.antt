-- Calls of a medium one after another, and a barrier after them.
use Rattle.std.proofs.Common.{◌≡◌, ℕ, inl, inr, ⊎_elim, Bool, List, [], Result, Ok, Err, refl, sym, ◌∙◌, ap, subst}
use Rattle.std.proofs.lemmas.Bool.{false≢true}
use Rattle.std.specs.Prelude.{IsTrue, IsOk, IsErr, OnOk, OnErr}
use Rattle.mars_base.specs.Causes.{Rose, HasCause}
use Rattle.mars_base.specs.Moments.{Elapses}
use Rattle.mars_base.proofs.Going.{weaker, then}
use Rattle.pcm_media.specs.Images.{Content, IsOutside, settled}
use Rattle.pcm_media.specs.View.{View, Writes}
use Rattle.pcm_media.proofs.Left.{touched_within, left_partly_on}
use Rattle.pcm_media.proofs.Writing.{cause_on, writes_none}

-- What was written from the first call on, if all calls succeeded.
abbrev pub SoFar : Bool → List (ℕ × ℕ) → View → View → Type 0
SoFar tells ranges old now = let done : Result (Unit {0}) (Unit {0}) = Ok tt in Writes tells ranges old now done

module _ (tells : Bool) (all more : List (ℕ × ℕ)) (old mid new : View) (within : IsTrue tells → (i : ℕ) → IsOutside all i → IsOutside more i) (so_far : SoFar tells all old mid) where
  -- one more call, and what its answer says of faults
  calls_on : {T E U F : Type 0} {r : Result T E} (s : Result U F) → Writes tells more mid new r → HasCause mid.faults new.faults s → Writes tells all old new s
  calls_on s call cause = record {
    size = call.size ∙ so_far.size;
    device = call.device ∙ so_far.device;
    cause = let done : Result (Unit {0}) (Unit {0}) = Ok tt in cause_on old.faults mid.faults new.faults done s refl so_far.cause cause;
    touched = λ told. touched_within all more old.content mid.content new.content (so_far.touched told) (within told) (call.touched told);
    time = λ told. then (so_far.time told) (weaker (left_partly_on all more old.content mid.content (so_far.touched told) (within told)) (call.time told));
  }

  -- one that succeeded
  pub goes_on : {T E : Type 0} {r : Result T E} → Writes tells more mid new r → IsOk r → SoFar tells all old new
  goes_on {T} {E} {r} call ok = let done : Result (Unit {0}) (Unit {0}) = Ok tt in calls_on done call (done_cause r ok call.cause)
    where
      done_cause : (r : Result T E) → IsOk r → HasCause mid.faults new.faults r → (let done : Result (Unit {0}) (Unit {0}) = Ok tt in HasCause mid.faults new.faults done)
      done_cause (Ok x) ok cause = record { later = cause.later; failed = tt; kept = cause.kept }
      done_cause (Err e) ok cause = absurd (false≢true ok)

  -- the last one, whose answer is passed on
  pub ends_with : {T E : Type 0} (r : Result T E) → Writes tells more mid new r → Writes tells all old new r
  ends_with r call = calls_on r call call.cause

  -- one that failed, whose fault is passed on
  pub hands_on : {T E U F : Type 0} {e : E} (s : Result U F) → IsErr s → (let r : Result T E = Err e in Writes tells more mid new r) → Writes tells all old new s
  hands_on {T} {E} {U} {F} s err call = calls_on s call (handed s err)
    where
      handed : (s : Result U F) → IsErr s → HasCause mid.faults new.faults s
      handed (Ok x) err = absurd (false≢true err)
      handed (Err e) err = record { later = call.cause.later; failed = call.cause.failed; kept = tt }

-- the barrier after them
pub then_barrier : (tells : Bool) (all : List (ℕ × ℕ)) (old mid new : View) {T E : Type 0} (r : Result T E) → SoFar tells all old mid → Writes tells [] mid new r → Writes tells all old new r
then_barrier tells all old mid new r so_far barrier = ends_with tells all [] old mid new (λ told i out. tt) so_far r barrier

pub barrier_keeps : (P : List ℕ → Type 0) (mid new : Content) → P mid.bytes → new ≡ settled mid → (new.unsettled ≡ []) × P new.bytes
barrier_keeps P mid new holds is = (ap (λ (c : Content). c.unsettled) is, subst (λ (c : Content). P c.bytes) (sym is) holds)

-- no call was made yet
pub none_yet : (tells : Bool) (ranges : List (ℕ × ℕ)) (now : View) → SoFar tells ranges now now
none_yet tells ranges now = writes_none tells ranges now tt

-- two facts about what is new among what might have been left
pub both_left : {C : Type 0} {before now : ℕ} {past since : ℕ → C → Type 0} {P Q : C → Type 0} → Elapses before now past since P → Elapses before now past since Q → Elapses before now past since (λ c. P c × Q c)
both_left a b = record { later = a.later; keeps = a.keeps; only = λ t c le left. ⊎_elim (λ was. inl was) (λ p. ⊎_elim (λ was. inl was) (λ q. inr (p, q)) (b.only t c le left)) (a.only t c le left) }
