-- Groups of numbers as bits and as lists.
use Rattle.std.proofs.Common.{◌≡◌, ℕ, zero, suc, ◌+◌, ◌^◌, ◌<◌, ◌≤◌, Bool, true, false, ◌&&◌, ◌||◌, nat_eq, inl, inr, List, [], ◌∷◌, length, refl, sym, ◌∙◌, ap, arith}
use Rattle.std.specs.Prelude.{filter, nat_lt}
use Rattle.std.specs.List.{range_with_len}
use Rattle.std.specs.Int.{bit_at}
use Rattle.std.specs.Int.RustNames.{bit_or}
use Rattle.std.proofs.lemmas.Bool.{cases_Bool, cases_eq, cases_lt, eq-eqb, eqb-true, eqb-false, ne_eqb, false≢true}
use Rattle.std.proofs.lemmas.Nat.Bits.{bit_at-lt, bit_at_or, same_from_bits}
use Rattle.array_shape.specs.declared.shape.Shape.{Shape}
use Rattle.array_shape.specs.NumberSet.{has, numbers_from, numbers_in}
use Rattle.array_shape.proofs.Sets.{none_has}
use Rattle.eaw_face.specs.State.{Logs, is_one_of, listed}
use Rattle.eaw_face.proofs.Groups.{passes_in, passing_in}
use Rattle.eaw_device.specs.Costs.{group_of, with_entries}
use Rattle.eaw_device.proofs.Alone.{has_own, has_other}

has_or : (a b u : ℕ) → has (bit_or a b) u ≡ (has a u || has b u)
has_or a b u = elim (cases_eq (bit_at a u) 1) [
  | inl one ↦
      let both : bit_at (bit_or a b) u ≡ 1 = omega (arith, one, bit_at_or a b u, bit_at-lt b u) in
      eq-eqb (bit_at (bit_or a b) u) 1 both ∙ sym (ap (λ (x : Bool). x || has b u) (eq-eqb (bit_at a u) 1 one))
  | inr ne ↦
      let other : bit_at (bit_or a b) u ≡ bit_at b u = omega (arith, ne, bit_at_or a b u, bit_at-lt a u) in
      ap (λ (k : ℕ). nat_eq k 1) other ∙ sym (ap (λ (x : Bool). x || has b u) (ne_eqb (bit_at a u) 1 ne))
]

pub has_bit : (t u : ℕ) → has (2 ^ t) u ≡ nat_eq u t
has_bit t u = elim (cases_eq u t) [
  | inl is ↦ ap (has (2 ^ t)) is ∙ has_own t ∙ sym (eq-eqb u t is)
  | inr ne ↦ has_other t u ne ∙ sym (ne_eqb u t ne)
]

pub has_group_of : (ts : List ℕ) (u : ℕ) → has (group_of ts) u ≡ is_one_of ts u
has_group_of [] u = none_has u
has_group_of (t ∷ ts) u = has_or (2 ^ t) (group_of ts) u ∙ (λ i. has_bit t u i || has_group_of ts u i)

-- the same numbers, so the same bits
pub same_bits : (a b : ℕ) → ((u : ℕ) → has a u ≡ has b u) → a ≡ b
same_bits a b same = same_from_bits a b (λ u. elim (cases_eq (bit_at a u) 1) [
  | inl one ↦ one ∙ sym (eqb-true (bit_at b u) 1 (sym (same u) ∙ eq-eqb (bit_at a u) 1 one))
  | inr ne ↦ let other = eqb-false (bit_at b u) 1 (sym (same u) ∙ ne_eqb (bit_at a u) 1 ne) in omega (arith, ne, other, bit_at-lt a u, bit_at-lt b u)
])

pub group_of_one : (t : ℕ) → group_of (t ∷ []) ≡ 2 ^ t
group_of_one t = same_bits (group_of (t ∷ [])) (2 ^ t) (λ u. has_group_of (t ∷ []) u ∙ alone (nat_eq u t) ∙ sym (has_bit t u))
  where
    alone : (b : Bool) → (b || false) ≡ b
    alone true = refl
    alone false = refl

-- the members of a set
one_of_range : (u a n : ℕ) → a ≤ u → u < a + n → is_one_of (range_with_len a n) u ≡ true
one_of_range u a zero le lt = absurd (omega arith)
one_of_range u a (suc n) le lt = elim (cases_eq u a) [
  | inl is ↦ ap (λ (b : Bool). b || is_one_of (range_with_len (a + 1) n) u) (eq-eqb u a is)
  | inr ne ↦ (λ i. ne_eqb u a ne i || one_of_range u (a + 1) n (omega arith) (omega arith) i)
]

one_of_passing : (p : ℕ → Bool) (ts : List ℕ) (u : ℕ) → is_one_of (filter p ts) u ≡ (is_one_of ts u && p u)
one_of_passing p ts u = elim (cases_Bool (p u)) [
  | inl so ↦ passing_in p ts u so ∙ sym (both (is_one_of ts u)) ∙ ap (λ (b : Bool). is_one_of ts u && b) (sym so)
  | inr off ↦
      (elim (cases_Bool (is_one_of (filter p ts) u)) [
        | inl on ↦ absurd (false≢true (sym off ∙ passes_in p ts u on))
        | inr out ↦ out
      ]) ∙ sym (neither (is_one_of ts u)) ∙ ap (λ (b : Bool). is_one_of ts u && b) (sym off)
]
  where
    both : (b : Bool) → (b && true) ≡ b
    both true = refl
    both false = refl

    neither : (b : Bool) → (b && false) ≡ false
    neither true = refl
    neither false = refl

pub member_has : (bits u : ℕ) → u < 64 → is_one_of (numbers_in bits) u ≡ has bits u
unfolding numbers_from
member_has bits u lt = one_of_passing (has bits) (range_with_len 0 64) u ∙ ap (λ (b : Bool). b && has bits u) (one_of_range u 0 64 (omega arith) (omega (arith, lt)))

-- the numbers of a set that have logged anything, as a group and as a list
module _ (shape : Shape) (bits group : ℕ) (ranges : Logs (ℕ × ℕ)) (numbers : (t : ℕ) → t < shape.numbers → has group t ≡ (has bits t && nat_lt 0 (length (listed (ranges t)))))
    (beyond : (t : ℕ) → shape.numbers ≤ t → has group t ≡ false) (past : (t : ℕ) → shape.numbers ≤ t → listed (ranges t) ≡ []) where
  pub group_of_logged : group ≡ group_of (with_entries ranges (numbers_in bits))
  group_of_logged = same_bits group (group_of (with_entries ranges (numbers_in bits))) (λ u.
      (elim (cases_lt u shape.numbers) [
        | inl lt ↦ numbers u lt ∙ ap (λ (b : Bool). b && nat_lt 0 (length (listed (ranges u)))) (sym (member_has bits u (omega (arith, lt, shape.in_range.most_numbers))))
        | inr ge ↦
            (let le : shape.numbers ≤ u = omega (arith, ge) in
            beyond u le ∙ sym (off (is_one_of (numbers_in bits) u)) ∙ ap (λ (l : List (ℕ × ℕ)). is_one_of (numbers_in bits) u && nat_lt 0 (length l)) (sym (past u le)))
      ])
      ∙ sym (one_of_passing (λ t. nat_lt 0 (length (listed (ranges t)))) (numbers_in bits) u) ∙ sym (has_group_of (with_entries ranges (numbers_in bits)) u))
    where
      off : (b : Bool) → (b && false) ≡ false
      off true = refl
      off false = refl

  -- a number that is none of the set is not in the group
  pub not_in_group : (t : ℕ) → is_one_of (numbers_in bits) t ≡ false → has group t ≡ false
  not_in_group t out = elim (cases_lt t shape.numbers) [
    | inl lt ↦ numbers t lt ∙ ap (λ (b : Bool). b && nat_lt 0 (length (listed (ranges t)))) (sym (member_has bits t (omega (arith, lt, shape.in_range.most_numbers))) ∙ out)
    | inr ge ↦ beyond t (omega (arith, ge))
  ]
