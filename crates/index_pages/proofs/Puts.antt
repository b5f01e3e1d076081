-- Writes to disjoint ranges.
use Rattle.std.proofs.Common.{◌≡◌, ℕ, ◌+◌, ◌≤◌, List, [], ◌∷◌, length, refl, sym, ◌∙◌, subst}
use Rattle.mars_base.specs.Bytes.{put, range}
use Rattle.mars_base.proofs.Puts.{length-put}
use Rattle.array_shape.specs.Logged.{Part, applied, AllFit}
use Rattle.index_pages.proofs.Ranges.{Apart, range_away, range_here}

-- a range shares no byte with these parts
abbrev pub AwayAll : ℕ → ℕ → List Part → Type 0
AwayAll at n [] = Unit {0}
AwayAll at n (p ∷ ps) = Apart at n p.0 (length p.1) × AwayAll at n ps

-- no two parts share a byte
abbrev pub AllApart : List Part → Type 0
AllApart [] = Unit {0}
AllApart (p ∷ ps) = AwayAll p.0 (length p.1) ps × AllApart ps

-- the parts lie within the data
abbrev pub Stand : List Part → List ℕ → Type 0
Stand [] d = Unit {0}
Stand (p ∷ ps) d = (range d p.0 (length p.1) ≡ p.1) × Stand ps d

fit_put : (d : List ℕ) (p : Part) (ps : List Part) → p.0 + length p.1 ≤ length d → AllFit (length d) ps → AllFit (length (put d p.0 p.1)) ps
fit_put d p ps fits all = subst (λ (n : ℕ). AllFit n ps) (sym (length-put d p.0 p.1 fits)) all

pub applied_long : (ps : List Part) (d : List ℕ) → AllFit (length d) ps → length (applied ps d) ≡ length d
applied_long [] d fit = refl
applied_long (p ∷ ps) d fit = applied_long ps (put d p.0 p.1) (fit_put d p ps fit.0 fit.1) ∙ length-put d p.0 p.1 fit.0

pub applied_away : (ps : List Part) (d : List ℕ) (at n : ℕ) → AllFit (length d) ps → AwayAll at n ps → range (applied ps d) at n ≡ range d at n
applied_away [] d at n fit away = refl
applied_away (p ∷ ps) d at n fit away = applied_away ps (put d p.0 p.1) at n (fit_put d p ps fit.0 fit.1) away.1 ∙ range_away d p.0 p.1 at n fit.0 away.0

pub applied_stand : (ps : List Part) (d : List ℕ) → AllFit (length d) ps → AllApart ps → Stand ps (applied ps d)
applied_stand [] d fit apart = tt
applied_stand (p ∷ ps) d fit apart = (
  applied_away ps (put d p.0 p.1) p.0 (length p.1) (fit_put d p ps fit.0 fit.1) apart.0 ∙ range_here d p.0 p.1 (length p.1) refl fit.0,
  applied_stand ps (put d p.0 p.1) (fit_put d p ps fit.0 fit.1) apart.1,
)
