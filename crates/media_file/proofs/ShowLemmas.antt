-- What a call of the medium does to what it shows.
use Rattle.std.proofs.Common.{◌≡◌, ℕ, ◌≤◌, Bool, inl, List, Result, Err, refl, subst, sym}
use Rattle.mars_base.specs.Causes.{Rose}
use Rattle.pcm_media.specs.View.{Writes}
use Rattle.pcm_media.proofs.Left.{touched_by_nothing}
use Rattle.media_file.specs.Past.{Past, held}
use Rattle.media_file.specs.Shown.{view_over}

module _ {T E : Type 0} (tells : Bool) (ranges : List (ℕ × ℕ)) (old new : Past) (size moment later faults more : ℕ) where
  same_past : (e : E) → moment ≤ later → faults ≤ more → Rose faults more → (let r : Result T E = Err e in Writes tells ranges (view_over old size moment faults) (view_over old size later more) r)
  same_past e le few rose = record {
    size = refl;
    device = refl;
    cause = record { later = few; failed = rose; kept = tt };
    touched = λ told. touched_by_nothing ranges (held old);
    time = λ told. record { later = le; keeps = λ t image before left. left; only = λ t image before left. inl left };
  }

  -- the file was not asked
  pub writes_stopped : (size' : ℕ) (e : E) → size' ≡ size → new ≡ old → moment ≤ later → faults ≤ more → Rose faults more
      → (let r : Result T E = Err e in Writes tells ranges (view_over old size moment faults) (view_over new size' later more) r)
  writes_stopped size' e long same le few rose =
      let r : Result T E = Err e in
      subst (λ (n : ℕ). Writes tells ranges (view_over old size moment faults) (view_over new n later more) r) (sym long)
      (subst (λ (p : Past). Writes tells ranges (view_over old size moment faults) (view_over p size later more) r) (sym same) (same_past e le few rose))
