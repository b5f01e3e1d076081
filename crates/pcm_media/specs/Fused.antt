-- What a medium behind a fuse shows.
use Rattle.std.specs.Prelude.{ℕ, ◌+◌, ◌-◌, ◌^◌, ◌<◌, ◌≡◌, ◌==◌, ◌⊎◌, if◌then◌else◌, min, List, Result, IsErr}
use Rattle.std.proofs.Common.{⊎_elim, arith}
use Rattle.pcm_media.specs.Images.{MayLeave}
use Rattle.pcm_media.specs.View.{View}
use Rattle.mars_base.specs.Causes.{next_count}

-- the medium behind the fuse, how many calls it will still pass on, and how many it has failed by itself
pub record Fused (M : Type 0) : Type 0 where
  pub inner : M
  pub passes : ℕ
  pub blown : ℕ

-- The view of a medium with view `inner` behind a fuse that has failed `blown` calls. Each of these raised the moment and the
-- count of faults, and what may be left at each of these moments is what may be left now.
abbrev pub fused_view : View → ℕ → View
fused_view inner blown = record {
  size = inner.size;
  content = inner.content;
  moment = min (inner.moment + blown) (2 ^ 64 - 1);
  left_since = λ t image. ((t < min inner.moment (2 ^ 64 - 1)) × inner.left_since t image) ⊎ MayLeave inner.content image;
  faults = inner.faults + blown;
  device = inner.device;
}

-- the view of a medium behind a fuse, by what the medium shows
abbrev pub behind : {M : Type 0} → (M → View) → Fused M → View
behind view fused = fused_view (view fused.inner) fused.blown

-- What a call does to the fuse: it takes a pass. With none left it fails, and the medium behind the fuse stays as it was.
pub record Burns {M T E : Type 0} (old new : Fused M) (result : Result T E) : Type 0 where
  pub passes : new.passes ≡ old.passes - 1
  pub blown : new.blown ≡ (if old.passes == 0 then next_count old.blown else old.blown)
  pub stopped : old.passes ≡ 0 → IsErr result × (new.inner ≡ old.inner)

-- since now, nothing is left but what may be left now
pub only_fused : (inner : View) (blown : ℕ) (image : List ℕ) → (fused_view inner blown).left_since (fused_view inner blown).moment image → MayLeave inner.content image
only_fused inner blown image left = ⊎_elim (λ past. absurd (omega (arith, past.0))) (λ now. now) left
