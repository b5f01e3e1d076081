-- The test of a list of what is free, one member after another.
use Rattle.std.proofs.Common.{◌≡◌, ◌≢◌, ℕ, zero, suc, ◌-◌, inl, inr, Option, Some, None, refl, sym, subst, arith}
use Rattle.mars_base.specs.Check.{test, both}
use Rattle.mars_base.proofs.Checks.{both_on}
use Rattle.record_slots.specs.Free.{next_of}
use Rattle.record_slots.specs.declared.free.Free.{Free}
use Rattle.index_pages.specs.Slots.{Names, HasRank, list_check}

module _ (said : ℕ → Option Free) (page_of : ℕ → ℕ) (low end : ℕ) where
  -- a member that is named wrongly
  pub names_fail : (n named page : ℕ) → n ≢ 0 → ¬ Names low end named → list_check said page_of low end n named page (Some page)
  names_fail zero named page some bad = absurd (some refl)
  names_fail (suc n) named page some bad = inl (bad, refl)

  -- one that is not free, or of a wrong rank
  pub rank_fails : (n named page : ℕ) → n ≢ 0 → Names low end named → ¬ HasRank n (said (named - 1)) → list_check said page_of low end n named page (Some (page_of (named - 1)))
  rank_fails zero named page some names bad = absurd (some refl)
  rank_fails (suc n) named page some names bad = inr (names, inl (bad, refl))

  -- a good one: the rest decides
  pub rank_on : (n m named page : ℕ) → n ≡ suc m → Names low end named → HasRank n (said (named - 1)) → (verdict : Option ℕ)
      → list_check said page_of low end m (next_of (said (named - 1))) (page_of (named - 1)) verdict → list_check said page_of low end n named page verdict
  rank_on n m named page e names rank verdict rest =
      subst (λ (k : ℕ). list_check said page_of low end k named page verdict) (sym e)
      (let rest_of = list_check said page_of low end m (next_of (said (named - 1))) (page_of (named - 1)) in
      let here = test (HasRank (suc m) (said (named - 1))) (page_of (named - 1)) in
      both_on (test (Names low end named) page) (both here rest_of) names verdict
      (both_on here rest_of (subst (λ (k : ℕ). HasRank k (said (named - 1))) e rank) verdict rest))

  -- no member is left
  pub end_fails : (n named page : ℕ) → n ≡ 0 → named ≢ 0 → list_check said page_of low end n named page (Some page)
  end_fails zero named page none some = (some, refl)
  end_fails (suc n) named page none some = absurd (omega arith)

  pub end_passes : (n named page : ℕ) → n ≡ 0 → named ≡ 0 → list_check said page_of low end n named page None
  end_passes zero named page none last = last
  end_passes (suc n) named page none last = absurd (omega arith)

  -- the first member of a list that passes
  pub first_member : (n named page : ℕ) → n ≢ 0 → list_check said page_of low end n named page None → Names low end named × HasRank n (said (named - 1))
  first_member zero named page some passes = absurd (some refl)
  first_member (suc n) named page some passes = (passes.0, passes.1.0)

pub rank_is : (rank : ℕ) (said : Option Free) (free : Free) → said ≡ Some free → free.rank ≡ rank → HasRank rank said
rank_is rank said free is e = subst (λ (o : Option Free). HasRank rank o) (sym is) e
