-- Masks that gain or lose a number.
use Rattle.std.proofs.Common.{◌≡◌, ℕ, ◌+◌, ◌*◌, ◌/◌, ◌%◌, ◌^◌, ◌<◌, min, inl, inr, ⊎_elim, Bool, true, false, not, ◌&&◌, ◌||◌, nat_eq, List, length, get_or, take, refl, sym, ◌∙◌, ap, subst, arith, w64}
use Rattle.std.specs.Prelude.{slice_index}
use Rattle.std.specs.Int.{bit_at, bit_not}
use Rattle.std.specs.Int.RustNames.{bit_and, bit_or}
use Rattle.std.proofs.Math.ListN.{set}
use Rattle.std.proofs.lemmas.Bool.{cases_eq, eq-eqb, ne_eqb}
use Rattle.std.proofs.lemmas.List.{get_or-set_same, get_or-set_other}
use Rattle.std.proofs.lemmas.List.Folds.{list_any_more}
use Rattle.std.proofs.lemmas.Nat.Bits.{bit_at_set_same, bit_at_set_other, bit_at_clear_same, bit_at_clear_other, bit_at_and, bit_at-lt, bit_at-zero}
use Rattle.array_shape.specs.NumberSet.{has}
use Rattle.write_back.specs.declared.entry.Entry.{Entry}
use Rattle.write_back.specs.Kept.{lies_on}

-- the mask of one page is changed at one number
changed : (change : Bool → Bool → Bool) → ((h : Bool) → change false h ≡ h) → (masks : List ℕ) (page tid mask : ℕ) → page < length masks
    → ((t : ℕ) → t < 64 → has mask t ≡ change (nat_eq t tid) (has (get_or masks page 0) t))
    → (p t : ℕ) → t < 64 → has (slice_index (set masks page mask) p) t ≡ change (nat_eq page p && nat_eq t tid) (has (slice_index masks p) t)
changed change stays masks page tid mask inside here p t lt = ⊎_elim
    (λ is.
    subst (λ (q : ℕ). has (slice_index (set masks page mask) q) t ≡ change (nat_eq page q && nat_eq t tid) (has (slice_index masks q) t)) is (
    ap (λ (m : ℕ). has m t) (get_or-set_same masks page mask 0 inside) ∙ here t lt
    ∙ sym (ap (λ (b : Bool). change (b && nat_eq t tid) (has (slice_index masks page) t)) (eq-eqb page page refl))
    ))
    (λ ne.
    ap (λ (m : ℕ). has m t) (get_or-set_other masks page p mask 0 (λ is. ne (sym is)))
    ∙ sym (ap (λ (b : Bool). change (b && nat_eq t tid) (has (slice_index masks p) t)) (ne_eqb page p ne) ∙ stays (has (slice_index masks p) t)))
    (cases_eq page p)

pub gains : (masks : List ℕ) (page tid : ℕ) → page < length masks → tid < 64 → (p t : ℕ) → t < 64
    → has (slice_index (set masks page (bit_or (get_or masks page 0) (1 * 2 ^ tid % 2 ^ 64))) p) t ≡ ((nat_eq page p && nat_eq t tid) || has (slice_index masks p) t)
gains masks page tid inside small = changed (λ c h. c || h) (λ h. refl) masks page tid (bit_or (get_or masks page 0) (1 * 2 ^ tid % 2 ^ 64)) inside (λ t lt. ⊎_elim
    (λ is.
    ap (has (bit_or (get_or masks page 0) (1 * 2 ^ tid % 2 ^ 64))) is ∙ eq-eqb _ 1 (bit_at_set_same w64 (get_or masks page 0) tid small)
    ∙ sym (ap (λ (b : Bool). b || has (get_or masks page 0) t) (eq-eqb t tid is)))
    (λ ne.
    ap (λ (b : ℕ). nat_eq b 1) (bit_at_set_other w64 (get_or masks page 0) tid small t ne)
    ∙ sym (ap (λ (b : Bool). b || has (get_or masks page 0) t) (ne_eqb t tid ne)))
    (cases_eq t tid))

loses : (masks : List ℕ) (page tid : ℕ) → page < length masks → tid < 64 → (p t : ℕ) → t < 64
    → has (slice_index (set masks page (bit_and (get_or masks page 0) (bit_not w64 (1 * 2 ^ tid % 2 ^ 64)))) p) t ≡ (not (nat_eq page p && nat_eq t tid) && has (slice_index masks p) t)
loses masks page tid inside small = changed (λ c h. not c && h) (λ h. refl) masks page tid (bit_and (get_or masks page 0) (bit_not w64 (1 * 2 ^ tid % 2 ^ 64))) inside (λ t lt. ⊎_elim
    (λ is.
    ap (has (bit_and (get_or masks page 0) (bit_not w64 (1 * 2 ^ tid % 2 ^ 64)))) is
    ∙ ap (λ (b : ℕ). nat_eq b 1) (bit_at_clear_same w64 (get_or masks page 0) tid small)
    ∙ sym (ap (λ (b : Bool). not b && has (get_or masks page 0) t) (eq-eqb t tid is)))
    (λ ne.
    ap (λ (b : ℕ). nat_eq b 1) (bit_at_clear_other w64 (get_or masks page 0) tid small t lt ne)
    ∙ sym (ap (λ (b : Bool). not b && has (get_or masks page 0) t) (ne_eqb t tid ne)))
    (cases_eq t tid))

-- one entry more that is taken from its page
one_more : (same any here h : Bool) → (not (here && same) && (not (same && any) && h)) ≡ (not (same && (any || here)) && h)
one_more false any true h = refl
one_more false any false h = refl
one_more true true true h = refl
one_more true true false h = refl
one_more true false true h = refl
one_more true false false h = refl

pub loses_more : (old masks : List ℕ) (entries : List Entry) (i tid page : ℕ) (d : Entry) → i < length entries → page ≡ (get_or entries i d).addr / 512 → page < length masks → tid < 64
    → ((p t : ℕ) → t < 64 → has (slice_index masks p) t ≡ (not (nat_eq t tid && lies_on p (take i entries)) && has (slice_index old p) t))
    → (p t : ℕ) → t < 64 → has (slice_index (set masks page (bit_and (get_or masks page 0) (bit_not w64 (1 * 2 ^ tid % 2 ^ 64)))) p) t
    ≡ (not (nat_eq t tid && lies_on p (take (i + 1) entries)) && has (slice_index old p) t)
loses_more old masks entries i tid page d below page_is inside small so_far p t lt =
    let on : Entry → Bool = λ e. nat_eq (e.addr / 512) p in
    loses masks page tid inside small p t lt
    ∙ ap (λ (b : Bool). not (nat_eq page p && nat_eq t tid) && b) (so_far p t lt)
    ∙ one_more (nat_eq t tid) (lies_on p (take i entries)) (nat_eq page p) (has (slice_index old p) t)
    ∙ ap (λ (k : ℕ). not (nat_eq t tid && (lies_on p (take i entries) || nat_eq k p)) && has (slice_index old p) t) page_is
    ∙ sym (ap (λ (b : Bool). not (nat_eq t tid && b) && has (slice_index old p) t) (list_any_more on entries i d below))

-- no number
pub none_set : (t : ℕ) → has 0 t ≡ false
none_set t = ne_eqb (bit_at 0 t) 1 (λ one. omega (arith, one, bit_at-zero t))

-- the numbers of two masks
pub has-bit_and : (a b t : ℕ) → has (bit_and a b) t ≡ (has a t && has b t)
has-bit_and a b t =
    ap (λ (k : ℕ). nat_eq k 1) (bit_at_and a b t)
    ∙ elim (cases_eq (bit_at a t) 1) [
      | inl one ↦ elim (cases_eq (bit_at b t) 1) [
        | inl two ↦ eq-eqb (min (bit_at a t) (bit_at b t)) 1 (omega arith) ∙ sym (λ i. eq-eqb (bit_at a t) 1 one i && eq-eqb (bit_at b t) 1 two i)
        | inr two ↦ ne_eqb (min (bit_at a t) (bit_at b t)) 1 (λ is. two (omega arith)) ∙ sym (λ i. eq-eqb (bit_at a t) 1 one i && ne_eqb (bit_at b t) 1 two i)
      ]
      | inr one ↦ ne_eqb (min (bit_at a t) (bit_at b t)) 1 (λ is. one (let few = bit_at-lt a t in omega arith)) ∙ sym (ap (λ (c : Bool). c && has b t) (ne_eqb (bit_at a t) 1 one))
    ]
