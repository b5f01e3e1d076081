-- Masks of touched stripes.
use Rattle.std.proofs.Common.{◌≡◌, ◌≢◌, ◌<◌, ◌⊎◌, ◌&&◌, ℕ, zero, suc, ◌-◌, ◌^◌, max, min, inl, inr, Bool, true, false, cond, not, ◌||◌, nat_eq, nat_lt, List, [], ◌∷◌, ◌++◌, bit_and, bit_or, refl, sym, ap, subst, ◌∙◌, arith, lt-ltb, le-ltb, eq-eqb, ne_eqb}
use Rattle.std.specs.Prelude.{MatchBool, IsTrue, IsFalse, length, unwrap_or}
use Rattle.record_slots.specs.Names.{number_of}
use Rattle.std.specs.Int.{bit_at}
use Rattle.std.proofs.Math.Pow.{pow-lt}
use Rattle.std.proofs.lemmas.Bool.{cases_eq, cases_lt}
use Rattle.std.proofs.lemmas.Nat.Bits.{bit_at-zero, bit_at_and, bit_at_or, bit_at-pow_same, bit_at-pow_other, bit_at_ones, bit_at_ones_above, same_from_bits, bit_at_above}
use Rattle.history.specs.Table.{Granted}
use Rattle.history.specs.declared.locks.Mode.{Mode}
use Rattle.history.specs.declared.locks.Mode.TheVariants.{Shared, Exclusive}
use Rattle.history.specs.Key.{of_table}
use Rattle.history.specs.declared.key.Key.{Key}
use Rattle.history.specs.Locks.{Touch, key_stripe, stripe_of, touches, touched, is_touch, clash}
use Rattle.history.specs.declared.call.TableCall.{TableCall}
use Rattle.history.specs.declared.call.TableCall.TheVariants.{Get, Put, Del, Scan}
use Rattle.history.specs.declared.call.Reply.{Reply}
use Rattle.history.proofs.OneMore.{touched-push}
use Rattle.mars_core.specs.declared.masks.Masks.{Masks}
use Rattle.mars_core.specs.Masks.{IsMaskOf, AreMasksOf}

key_mask : (names : List (List ℕ)) (key : Key) (stripe : ℕ) → bit_at (2 ^ key_stripe names key) stripe ≡ cond (nat_eq (key_stripe names key) stripe) 1 0
key_mask names key stripe = elim (cases_eq stripe (key_stripe names key)) [
  | inl is ↦ ap (bit_at (2 ^ key_stripe names key)) is ∙ bit_at-pow_same (key_stripe names key) ∙ ap (λ (b : Bool). cond b 1 0) (sym (eq-eqb (key_stripe names key) stripe (sym is)))
  | inr ne ↦ bit_at-pow_other (key_stripe names key) stripe ne ∙ ap (λ (b : Bool). cond b 1 0) (sym (ne_eqb (key_stripe names key) stripe (λ e. ne (sym e))))
]

scan_mask : (stripe : ℕ) → bit_at (2 ^ 64 - 1) stripe ≡ cond (nat_lt stripe 64) 1 0
scan_mask stripe = elim (cases_lt stripe 64) [
  | inl lt ↦ bit_at_ones 64 stripe lt ∙ ap (λ (b : Bool). cond b 1 0) (sym (lt-ltb stripe 64 lt))
  | inr le ↦ bit_at_ones_above 64 stripe le ∙ ap (λ (b : Bool). cond b 1 0) (sym (le-ltb stripe 64 le))
]

-- the masks of calls
pub none_masks : AreMasksOf (λ stripe mode. false) (record { reads = 0; writes = 0 })
none_masks = record { reads = bit_at-zero; writes = bit_at-zero }

module _ (names : List (List ℕ)) (name : List ℕ) where
  pub get_masks : (key : ℕ) → AreMasksOf (touches names (Get name key)) (record { reads = 2 ^ key_stripe names (of_table name key); writes = 0 })
  get_masks key = record { reads = key_mask names (of_table name key); writes = bit_at-zero }

  pub scan_masks : (low high : ℕ) → AreMasksOf (touches names (Scan name low high)) (record { reads = 2 ^ 64 - 1; writes = 0 })
  scan_masks low high = record { reads = scan_mask; writes = bit_at-zero }

  pub put_masks : (key : ℕ) (value : List ℕ) → AreMasksOf (touches names (Put name key value)) (record { reads = 0; writes = 2 ^ key_stripe names (of_table name key) })
  put_masks key value = record { reads = bit_at-zero; writes = key_mask names (of_table name key) }

  pub del_masks : (key : ℕ) → AreMasksOf (touches names (Del name key)) (record { reads = 0; writes = 2 ^ key_stripe names (of_table name key) })
  del_masks key = record { reads = bit_at-zero; writes = key_mask names (of_table name key) }

  -- the same by the number of the table, or of one table more
  pub get_at : (table key : ℕ) → unwrap_or (number_of names name) (length names) ≡ table → AreMasksOf (touches names (Get name key)) (record { reads = 2 ^ stripe_of table key; writes = 0 })
  get_at table key is = subst (λ (n : ℕ). AreMasksOf (touches names (Get name key)) (record { reads = 2 ^ stripe_of n key; writes = 0 })) is (get_masks key)

  pub put_at : (table key : ℕ) (value : List ℕ) → unwrap_or (number_of names name) (length names) ≡ table → AreMasksOf (touches names (Put name key value)) (record { reads = 0; writes = 2 ^ stripe_of table key })
  put_at table key value is = subst (λ (n : ℕ). AreMasksOf (touches names (Put name key value)) (record { reads = 0; writes = 2 ^ stripe_of n key })) is (put_masks key value)

  pub del_at : (table key : ℕ) → unwrap_or (number_of names name) (length names) ≡ table → AreMasksOf (touches names (Del name key)) (record { reads = 0; writes = 2 ^ stripe_of table key })
  del_at table key is = subst (λ (n : ℕ). AreMasksOf (touches names (Del name key)) (record { reads = 0; writes = 2 ^ stripe_of n key })) is (del_masks key)

either : (a b : Bool) → max (cond a 1 0) (cond b 1 0) ≡ cond (a || b) 1 0
either true true = refl
either true false = refl
either false true = refl
either false false = refl

module _ (mode : Mode) (one other : ℕ → Touch) (mask more : ℕ) (is : IsMaskOf mode one mask) (are : IsMaskOf mode other more) where
  or_mask : IsMaskOf mode (λ stripe mode. one stripe mode || other stripe mode) (bit_or mask more)
  or_mask stripe = bit_at_or mask more stripe ∙ (λ i. max (is stripe i) (are stripe i)) ∙ either (one stripe mode) (other stripe mode)

-- what is touched together
pub more_masks : (one other : ℕ → Touch) (a b : Masks) → AreMasksOf one a → AreMasksOf other b
    → AreMasksOf (λ stripe mode. one stripe mode || other stripe mode) (record { reads = bit_or a.reads b.reads; writes = bit_or a.writes b.writes })
more_masks one other a b first second = record {
  reads = or_mask Shared one other a.reads b.reads first.reads second.reads;
  writes = or_mask Exclusive one other a.writes b.writes first.writes second.writes;
}

-- some number below n passes a test, or none does
search_below : (n : ℕ) (P : ℕ → Bool) → ((i : ℕ) × (P i ≡ true)) ⊎ ((i : ℕ) → i < n → P i ≡ false)
search_below zero P = inr (λ i lt. absurd (omega (arith, lt)))
search_below (suc n) P = elim (search_below n P) [
  | inl hit ↦ inl hit
  | inr none ↦ at (P n) refl none
]
  where
    at : (b : Bool) → P n ≡ b → ((i : ℕ) → i < n → P i ≡ false) → ((i : ℕ) × (P i ≡ true)) ⊎ ((i : ℕ) → i < suc n → P i ≡ false)
    at true is none = inl (n, is)
    at false is none = inr (λ i lt. elim (cases_eq i n) [
      | inl e ↦ ap P e ∙ is
      | inr ne ↦ none i (omega (arith, lt, ne))
    ])

pub both : (a b : Bool) → (a && b) ≡ true → (a ≡ true) × (b ≡ true)
both true true e = (refl, refl)
both true false e = absurd (cc)
both false b e = absurd (cc)

all_bits : (a b : Bool) → min (cond a 1 0) (cond b 1 0) ≡ cond (a && b) 1 0
all_bits true true = refl
all_bits true false = refl
all_bits false true = refl
all_bits false false = refl

-- the bits of a word are those of a test
abbrev Tests : (ℕ → Bool) → ℕ → Type 0
Tests test word = (stripe : ℕ) → bit_at word stripe ≡ cond (test stripe) 1 0

or_tests : (p q : ℕ → Bool) (m n : ℕ) → Tests p m → Tests q n → Tests (λ stripe. p stripe || q stripe) (bit_or m n)
or_tests p q m n is are stripe = bit_at_or m n stripe ∙ (λ i. max (is stripe i) (are stripe i)) ∙ either (p stripe) (q stripe)

and_tests : (p q : ℕ → Bool) (m n : ℕ) → Tests p m → Tests q n → Tests (λ stripe. p stripe && q stripe) (bit_and m n)
and_tests p q m n is are stripe = bit_at_and m n stripe ∙ (λ i. min (is stripe i) (are stripe i)) ∙ all_bits (p stripe) (q stripe)

on_bit : (b : Bool) → ◌≡◌ {A = ℕ} (cond b 1 0) 0 → b ≡ false
on_bit true e = absurd (omega (arith, e))
on_bit false e = refl

off_bit : (b : Bool) → b ≡ false → ◌≡◌ {A = ℕ} (cond b 1 0) 0
off_bit true e = absurd (cc)
off_bit false e = refl

-- a word is 0 exactly if its test holds nowhere
pub zero_word : (test : ℕ → Bool) (word : ℕ) → Tests test word → word ≡ 0 → (stripe : ℕ) → test stripe ≡ false
zero_word test word is none stripe = on_bit (test stripe) (sym (is stripe) ∙ ap (λ (n : ℕ). bit_at n stripe) none ∙ bit_at-zero stripe)

below_power : (n : ℕ) → n < 2 ^ n
below_power zero = omega arith
below_power (suc n) = let here = below_power n in let next : 2 ^ n < 2 ^ suc n = pow-lt {i = n} {j = suc n} (omega arith) in omega (arith, here, next)

pub some_bit : (test : ℕ → Bool) (word : ℕ) → Tests test word → word ≢ 0 → (stripe : ℕ) × (test stripe ≡ true)
some_bit test word is some = elim (search_below word test) [
  | inl hit ↦ hit
  | inr none ↦ absurd (some (same_from_bits word 0 (λ stripe. elim (cases_lt stripe word) [
    | inl lt ↦ is stripe ∙ off_bit (test stripe) (none stripe lt) ∙ sym (bit_at-zero stripe)
    | inr le ↦ bit_at_above word word stripe (below_power word) le ∙ sym (bit_at-zero stripe)
  ])))
]

-- the bits of what two touches clash at
pub clash_bits : (one other : ℕ → Touch) (a b : Masks) → AreMasksOf one a → AreMasksOf other b
    → Tests (λ stripe. clash (one stripe) (other stripe)) (bit_or (bit_and a.writes (bit_or b.reads b.writes)) (bit_and (bit_or a.reads a.writes) b.writes))
clash_bits one other a b first second =
    or_tests (λ stripe. one stripe Exclusive && is_touch (other stripe)) (λ stripe. is_touch (one stripe) && other stripe Exclusive)
    (bit_and a.writes (bit_or b.reads b.writes)) (bit_and (bit_or a.reads a.writes) b.writes)
    (and_tests (λ stripe. one stripe Exclusive) (λ stripe. is_touch (other stripe)) a.writes (bit_or b.reads b.writes) first.writes
    (or_tests (λ stripe. other stripe Shared) (λ stripe. other stripe Exclusive) b.reads b.writes second.reads second.writes))
    (and_tests (λ stripe. is_touch (one stripe)) (λ stripe. other stripe Exclusive) (bit_or a.reads a.writes) b.writes
    (or_tests (λ stripe. one stripe Shared) (λ stripe. one stripe Exclusive) a.reads a.writes first.reads first.writes) second.writes)

-- whether a word of what clashes is 0
pub clash_word : (one other : ℕ → Touch) (word : ℕ) (zero : Bool) → Tests (λ stripe. clash (one stripe) (other stripe)) word → (zero ≡ true → word ≡ 0) → (zero ≡ false → word ≢ 0)
    → MatchBool (not zero) ((stripe : ℕ) × IsTrue (clash (one stripe) (other stripe))) ((stripe : ℕ) → IsFalse (clash (one stripe) (other stripe)))
clash_word one other word true are none some = zero_word (λ stripe. clash (one stripe) (other stripe)) word are (none refl)
clash_word one other word false are none some = some_bit (λ stripe. clash (one stripe) (other stripe)) word are (some refl)

-- one more call adds its masks
pub masks-push : (names : List (List ℕ)) (calls : Granted) (masks : Masks) (call : TableCall) (reply : Reply) → AreMasksOf (λ stripe mode. touched names calls stripe mode || touches names call stripe mode) masks
    → AreMasksOf (touched names (calls ++ (call, reply) ∷ [])) masks
masks-push names calls masks call reply are = subst (λ (t : ℕ → Touch). AreMasksOf t masks) (λ i stripe. sym (touched-push names calls call reply stripe) i) are
