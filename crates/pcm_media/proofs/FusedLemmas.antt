-- What a call does to a medium behind a fuse.
use Rattle.std.proofs.Common.{◌≡◌, ℕ, ◌-◌, ◌^◌, ◌<◌, ◌≤◌, ◌⊎◌, min, Bool, inl, inr, ⊎_elim, List, Result, Err, refl, subst, arith}
use Rattle.std.proofs.lemmas.Bool.{cases_lt}
use Rattle.std.proofs.lemmas.Result.{on_err_weaker, on_ok_weaker}
use Rattle.std.specs.Prelude.{IsTrue}
use Rattle.mars_base.specs.Causes.{Rose}
use Rattle.mars_base.specs.Moments.{Ticks}
use Rattle.pcm_media.specs.Images.{MayLeave, partly}
use Rattle.pcm_media.specs.View.{View, Writes, LeavesOnly}
use Rattle.mars_base.specs.Causes.{next_count}
use Rattle.pcm_media.specs.Fused.{fused_view}
use Rattle.pcm_media.proofs.Left.{touched_by_nothing, left_partly}

-- a call that the fuse failed
pub stopped : {T E : Type 0} (tells : Bool) (ranges : List (ℕ × ℕ)) (inner : View) (blown then : ℕ) (e : E) → blown ≤ then → then ≡ next_count blown
    → (let r : Result T E = Err e in Writes tells ranges (fused_view inner blown) (fused_view inner then) r)
stopped tells ranges inner blown then e le is = record {
  size = refl;
  device = refl;
  cause = record { later = omega arith; failed = omega arith; kept = tt };
  touched = λ told. touched_by_nothing ranges inner.content;
  time = λ told. record { later = omega arith; keeps = λ t image le left. left; only = λ t image le left. inl left };
}

module _ (tells : Bool) (ranges : List (ℕ × ℕ)) (old new : View)
    (counts_old : (t : ℕ) (image : List ℕ) → IsTrue tells → t ≤ old.moment → MayLeave old.content image → old.left_since t image)
    (only_old : (image : List ℕ) → IsTrue tells → old.left_since old.moment image → MayLeave old.content image)
    (only_new : (image : List ℕ) → IsTrue tells → new.left_since new.moment image → MayLeave new.content image) where
  abbrev Behind : View → ℕ → List ℕ → Type 0
  Behind inner t image = ((t < min inner.moment (2 ^ 64 - 1)) × inner.left_since t image) ⊎ MayLeave inner.content image

  -- what the medium behind the fuse might have left, as the fuse tells it
  from_view : (inner : View) → ((image : List ℕ) → IsTrue tells → inner.left_since inner.moment image → MayLeave inner.content image)
      → (t : ℕ) (image : List ℕ) → IsTrue tells → t ≤ inner.moment → inner.moment ≤ 2 ^ 64 - 1 → inner.left_since t image → Behind inner t image
  from_view inner only t image told le fits left = go (cases_lt t (min inner.moment (2 ^ 64 - 1)))
    where
      go : (t < min inner.moment (2 ^ 64 - 1)) ⊎ (min inner.moment (2 ^ 64 - 1) ≤ t) → Behind inner t image
      go (inl past) = inl (past, left)
      go (inr last) = let here : t ≡ inner.moment = omega arith in inr (only image told (subst (λ (m : ℕ). inner.left_since m image) here left))

  module _ {T E : Type 0} (result : Result T E) (writes : Writes tells ranges old new result) (ticks : Ticks old.moment new.moment result) where
    time : IsTrue tells → LeavesOnly (MayLeave (partly ranges old.content)) (fused_view old 0) (fused_view new 0)
    time told =
        let inner : LeavesOnly (MayLeave (partly ranges old.content)) old new = writes.time told in record {
          later = omega (arith, inner.later);
          keeps = λ t image le left. ⊎_elim
              (λ past. inl (omega (arith, past.0, inner.later), inner.keeps t image (omega arith) past.1))
              (λ now. from_view new only_new t image told (omega (arith, inner.later)) (omega (arith, ticks.next)) (inner.keeps t image (omega arith) (counts_old t image told (omega arith) now)))
              left;
          only = λ t image le left. ⊎_elim
              (λ past. ⊎_elim
              (λ was. inl (from_view old only_old t image told (omega arith) (omega (arith, inner.later, ticks.next)) was))
              (λ anew. inr anew)
              (inner.only t image (omega arith) past.1))
              (λ now. inr (left_partly ranges old.content new.content (writes.touched told) image now))
              left;
        }

    -- a call that was passed on by a fuse that has not failed any
    pub passed_on : Writes tells ranges (fused_view old 0) (fused_view new 0) result
    passed_on = record {
      size = writes.size;
      device = writes.device;
      cause = record { later = omega (arith, writes.cause.later); failed = on_err_weaker result (λ (rose : Rose old.faults new.faults). omega (arith, rose)) writes.cause.failed; kept = on_ok_weaker result (λ (same : new.faults ≡ old.faults). omega (arith, same)) writes.cause.kept };
      touched = writes.touched;
      time = time;
    }
