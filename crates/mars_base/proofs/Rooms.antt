-- The first logger without room, as a check tells it.
use Rattle.std.proofs.Common.{◌≡◌, ℕ, ◌+◌, ◌<◌, ◌⊎◌, Some, None, refl, sym, ap, ◌∙◌, inl, inr, arith}
use Rattle.std.proofs.lemmas.Bool.{cases_order}
use Rattle.mars_base.specs.Check.{IsSingle}
use Rattle.mars_base.specs.Room.{room, HaveRoom, IsFirstFull}

module _ (loggers entries : ℕ) (held needed : ℕ → ℕ) where
  -- where each logger has room, none is without
  pub room_excludes : (g h n : ℕ) → HaveRoom loggers entries held needed → IsFirstFull loggers entries held needed g h n → ⊥
  room_excludes g h n fits full = let fits_here = fits g full.logger in omega (arith, fits_here, full.full, full.held_is, full.needed_is)

  module _ {Bad : Type 0} (told : ℕ → ℕ → ℕ → Bad) where
    -- the first without room is told
    pub full_told : (g h n : ℕ) → IsFirstFull loggers entries held needed g h n → room told loggers entries held needed (Some (told g h n))
    full_told g h n full = (g, full.logger, omega (arith, full.full, full.held_is, full.needed_is), full.before, λ i. told g (full.held_is i) (full.needed_is i))

    -- and nothing else is
    pub told_full : (bad : Bad) → room told loggers entries held needed (Some bad) → (g h n : ℕ) × IsFirstFull loggers entries held needed g h n × (bad ≡ told g h n)
    told_full bad (g, logger, full, before, is) = (g, held g, needed g, record { logger = logger; held_is = refl; needed_is = refl; full = full; before = before }, is)

    -- there is one verdict
    pub rooms_single : IsSingle (room told loggers entries held needed)
    rooms_single None None fits fits' = refl
    rooms_single None (Some bad) fits (g, logger, full, before, is) = absurd (let fits_here = fits g logger in omega (arith, fits_here, full))
    rooms_single (Some bad) None (g, logger, full, before, is) fits = absurd (let fits_here = fits g logger in omega (arith, fits_here, full))
    rooms_single (Some bad) (Some other) (g, logger, full, before, is) (k, logger', full', before', is') =
        ap (λ (b : Bad). Some b) (is ∙ same (cases_order g k) ∙ sym is')
      where
        same : (g ≡ k) ⊎ ((g < k) ⊎ (k < g)) → told g (held g) (needed g) ≡ told k (held k) (needed k)
        same (inl e) = ap (λ (j : ℕ). told j (held j) (needed j)) e
        same (inr (inl less)) = absurd (let fits = before' g less in omega (arith, fits, full))
        same (inr (inr more)) = absurd (let fits = before k more in omega (arith, fits, full'))

  -- as three numbers
  pub first_full : (g h n : ℕ) → room {Bad = ℕ × ℕ × ℕ} (λ k h n. (k, h, n)) loggers entries held needed (Some (g, h, n)) → IsFirstFull loggers entries held needed g h n
  first_full g h n (k, logger, full, before, is) =
      let g_is : g ≡ k = ap (λ (x : ℕ × ℕ × ℕ). x.0) is in
      let h_is : h ≡ held k = ap (λ (x : ℕ × ℕ × ℕ). x.1) is in
      let n_is : n ≡ needed k = ap (λ (x : ℕ × ℕ × ℕ). x.2) is in
      record {
        logger = omega (arith, g_is, logger);
        held_is = h_is ∙ ap held (sym g_is);
        needed_is = n_is ∙ ap needed (sym g_is);
        full = omega (arith, full, h_is, n_is);
        before = λ j lt. before j (omega (arith, lt, g_is));
      }
