-- A mask that gains a logger.
use Rattle.std.proofs.Common.{◌≡◌, ℕ, zero, suc, ◌+◌, ◌*◌, ◌%◌, ◌^◌, ◌<◌, ⊎_elim, inl, inr, Bool, true, false, not, ◌&&◌, ◌||◌, max, refl, sym, ◌∙◌, ap, arith, w8}
use Rattle.std.specs.Prelude.{nat_eq}
use Rattle.std.specs.List.{list_any, range_with_len}
use Rattle.std.specs.Int.{bit_at}
use Rattle.std.specs.Int.RustNames.{bit_or}
use Rattle.std.proofs.lemmas.Nat.{or_lt, pow_below, one_shl}
use Rattle.std.proofs.lemmas.Nat.Bits.{bit_at_set_same, bit_at_set_other, bit_at_above, bit_at_or, bit_at-lt, bit_at-zero}
use Rattle.std.proofs.lemmas.Bool.{cases_eq, eq-eqb, ne_eqb, or_left}
use Rattle.array_shape.specs.NumberSet.{has}
use Rattle.commit_queue.specs.Deferred.{any_below}
use Rattle.coordinator.specs.Commits.{IsMaskOf}

module _ (test : ℕ → Bool) where
  pub no_mask : IsMaskOf 0 test 0
  no_mask = record { small = omega arith; is = λ g lt. absurd (omega arith) }

  -- a logger that the test does not take
  pub mask_skips : (n mask : ℕ) → IsMaskOf n test mask → test n ≡ false → IsMaskOf (n + 1) test mask
  mask_skips n mask mask_is none = record {
    small = omega (arith, mask_is.small, pow_below n (n + 1) (omega arith));
    is = λ g lt. ⊎_elim
        (λ same. ap (has mask) same ∙ ne_eqb (bit_at mask n) 1 (λ one. omega (arith, bit_at_above mask n n mask_is.small (omega arith), one)) ∙ sym none ∙ ap test (sym same))
        (λ ne. mask_is.is g (omega arith)) (cases_eq g n);
  }

  -- one that it takes
  pub mask_gains : (n mask : ℕ) → n < 8 → IsMaskOf n test mask → test n ≡ true → IsMaskOf (n + 1) test (bit_or mask (1 * 2 ^ n % 2 ^ 8))
  mask_gains n mask lt mask_is some = record {
    small = or_lt (n + 1) mask (1 * 2 ^ n % 2 ^ 8) (omega (arith, mask_is.small, pow_below n (n + 1) (omega arith))) (omega (arith, one_shl n 8 lt, pow_below n (n + 1) (omega arith)));
    is = λ g below. ⊎_elim
        (λ same. ap (has (bit_or mask (1 * 2 ^ n % 2 ^ 8))) same ∙ eq-eqb (bit_at (bit_or mask (1 * 2 ^ n % 2 ^ 8)) n) 1 (bit_at_set_same w8 mask n lt) ∙ sym some ∙ ap test (sym same))
        (λ ne. ap (λ (b : ℕ). nat_eq b 1) (bit_at_set_other w8 mask n lt g ne) ∙ mask_is.is g (omega arith)) (cases_eq g n);
  }

  -- an empty mask is that of a test that takes none
  pub mask_none : (n : ℕ) → IsMaskOf n test 0 → (g : ℕ) → g < n → test g ≡ false
  mask_none n mask_is g lt = sym (mask_is.is g lt) ∙ ne_eqb (bit_at 0 g) 1 (λ one. omega (arith, one, bit_at-zero g))

-- what two masks have
pub mask_joined : (n : ℕ) (a b c : ℕ → Bool) (mask more : ℕ) → IsMaskOf n a mask → IsMaskOf n b more → ((g : ℕ) → g < n → c g ≡ (a g || b g)) → IsMaskOf n c (bit_or mask more)
mask_joined n a b c mask more first second both = record {
  small = or_lt n mask more first.small second.small;
  is = λ g lt. ap (λ (k : ℕ). nat_eq k 1) (bit_at_or mask more g) ∙ by (bit_at mask g) (bit_at more g) (bit_at-lt mask g) (bit_at-lt more g) ∙ (λ i. first.is g lt i || second.is g lt i) ∙ sym (both g lt);
}
  where
    by : (x y : ℕ) → x < 2 → y < 2 → nat_eq (max x y) 1 ≡ (nat_eq x 1 || nat_eq y 1)
    by x y lt lt' = elim (cases_eq x 1) [
      | inl is ↦ eq-eqb (max x y) 1 (omega arith) ∙ sym (or_left (nat_eq x 1) (nat_eq y 1) (eq-eqb x 1 is))
      | inr ne ↦ (let none : x ≡ 0 = omega arith in let same : max x y ≡ y = omega arith in ap (λ (k : ℕ). nat_eq k 1) same ∙ ap (λ (p : Bool). p || nat_eq y 1) (sym (ne_eqb x 1 ne)))
    ]

-- one more number
pub any_more : (n : ℕ) (p : ℕ → Bool) → any_below (n + 1) p ≡ (any_below n p || p n)
any_more n p = let next : n + 1 ≡ suc n = omega arith in let at : 0 + n ≡ n = omega arith in ap (λ (k : ℕ). any_below k p) next ∙ more 0 n ∙ ap (λ (k : ℕ). any_below n p || p k) at
  where
    last : (b : Bool) → (b || false) ≡ b
    last true = refl
    last false = refl

    apart : (a b c : Bool) → (a || (b || c)) ≡ ((a || b) || c)
    apart true b c = refl
    apart false b c = refl

    more : (k m : ℕ) → list_any p (range_with_len k (suc m)) ≡ (list_any p (range_with_len k m) || p (k + m))
    more k zero = last (p k) ∙ ap p (let e : k ≡ k + 0 = omega arith in e)
    more k (suc m) =
        ap (λ b. p k || b) (more (k + 1) m) ∙ apart (p k) (list_any p (range_with_len (k + 1) m)) (p (k + 1 + m))
        ∙ ap (λ (i : ℕ). (p k || list_any p (range_with_len (k + 1) m)) || p i) (let e : k + 1 + m ≡ k + suc m = omega arith in e)
