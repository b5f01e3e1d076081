-- Which commits are written back before another, as lists.
use Rattle.std.proofs.Common.{◌≡◌, ℕ, suc, ◌+◌, ◌-◌, ◌^◌, ◌<◌, ◌≤◌, Bool, true, false, not, ◌||◌, cond, inl, inr, ⊎_elim, List, [], ◌∷◌, ◌++◌, length, drop, Some, None, refl, sym, ◌∙◌, ap, subst, arith, nat_eq, nat_lt}
use Rattle.std.specs.Prelude.{All, slice_get}
use Rattle.std.specs.Int.{bit_at}
use Rattle.std.specs.Int.RustNames.{bit_and}
use Rattle.std.proofs.lemmas.Bool.{and_right, cases_Bool, cases_eq, eq-eqb, eqb-true, ltb-false, lt-ltb, ne_eqb, or_parts, false≢true}
use Rattle.std.proofs.lemmas.List.{drop_all}
use Rattle.std.proofs.lemmas.List.Elements.{All-nil, All-cons, All-head, All-tail, All-weaker}
use Rattle.std.proofs.lemmas.Nat.Bits.{bit_at_and, bit_at-zero}
use Rattle.array_shape.specs.declared.shape.Shape.{Shape}
use Rattle.row_bytes.specs.declared.ballot.Ballot.{Ballot}
use Rattle.array_shape.specs.NumberSet.{has}
use Rattle.row_bytes.specs.Ballots.{has_row}
use Rattle.commit_queue.specs.Queue.{Commit, Each, Rise, some_has}
use Rattle.coordinator.specs.declared.cells.Cells.{Cells}
use Rattle.write_back.specs.Orders.{IsFree, due_for, due_for_place, last_order, shares}
use Rattle.write_back.specs.Waiting.{commits_of}

-- the last one
pub last_is : (xs : List Ballot) (b : Ballot) → Some b ≡ slice_get xs (length xs - 1) → last_order xs ≡ b.order
last_is [] b is = cc
last_is (x ∷ []) b is = let same : Some b ≡ Some x = is in cc
last_is (x ∷ y ∷ xs) b is =
    let next : length (x ∷ y ∷ xs) - 1 ≡ suc (length (y ∷ xs) - 1) = omega arith in
    last_is (y ∷ xs) b (is ∙ ap (λ (k : ℕ). slice_get (x ∷ y ∷ xs) k) next)

pub last_none : (xs : List Ballot) → None ≡ slice_get xs (length xs - 1) → last_order xs ≡ 0
last_none [] is = refl
last_none (x ∷ []) is = let bad : None ≡ Some x = is in cc
last_none (x ∷ y ∷ xs) is =
    let next : length (x ∷ y ∷ xs) - 1 ≡ suc (length (y ∷ xs) - 1) = omega arith in
    last_none (y ∷ xs) (is ∙ ap (λ (k : ℕ). slice_get (x ∷ y ∷ xs) k) next)

last_small : (xs : List Ballot) → All (λ (b : Ballot). (0 < b.order) × (b.order < 2 ^ 16)) xs → last_order xs < 2 ^ 16
last_small [] all = omega arith
last_small (x ∷ []) all = (All-head (λ (b : Ballot). (0 < b.order) × (b.order < 2 ^ 16)) x [] all).1
last_small (x ∷ y ∷ xs) all = last_small (y ∷ xs) (All-tail (λ (b : Ballot). (0 < b.order) × (b.order < 2 ^ 16)) x (y ∷ xs) all)

-- how many make place
module _ (depth : ℕ) (some : 0 < depth) (bs : List Ballot) (few : length bs ≤ depth) (small : All (λ (b : Ballot). (0 < b.order) × (b.order < 2 ^ 16)) bs) where
  all_due : last_order bs ≡ 2 ^ 16 - 1 → due_for_place depth bs ≡ length bs
  all_due is = ap (λ (b : Bool). cond b (length bs) (cond (nat_eq (length bs) depth) 1 0)) (eq-eqb (last_order bs) (2 ^ 16 - 1) is)

  one_due : (last_order bs ≡ 2 ^ 16 - 1 → ⊥) → length bs ≡ depth → due_for_place depth bs ≡ 1
  one_due ne full =
      ap (λ (b : Bool). cond b (length bs) (cond (nat_eq (length bs) depth) 1 0)) (ne_eqb (last_order bs) (2 ^ 16 - 1) ne)
      ∙ ap (λ (b : Bool). cond b 1 0) (eq-eqb (length bs) depth full)

  none_due : (last_order bs ≡ 2 ^ 16 - 1 → ⊥) → (length bs ≡ depth → ⊥) → due_for_place depth bs ≡ 0
  none_due ne room =
      ap (λ (b : Bool). cond b (length bs) (cond (nat_eq (length bs) depth) 1 0)) (ne_eqb (last_order bs) (2 ^ 16 - 1) ne)
      ∙ ap (λ (b : Bool). cond b 1 0) (ne_eqb (length bs) depth room)

  abbrev Placed : List Ballot → Type 0
  Placed left = (length left < depth) × (last_order left < 2 ^ 16 - 1)

  last_rest : (xs : List Ballot) → last_order xs < 2 ^ 16 - 1 → last_order (drop 1 xs) < 2 ^ 16 - 1
  last_rest [] lt = lt
  last_rest (x ∷ []) lt = omega arith
  last_rest (x ∷ y ∷ xs) lt = lt

  shorter : (xs : List Ballot) → 0 < length xs → length (drop 1 xs) < length xs
  shorter [] lt = absurd (omega arith)
  shorter (x ∷ xs) lt = omega arith

  pub place_made : (length (drop (due_for_place depth bs) bs) < depth) × (last_order (drop (due_for_place depth bs) bs) < 2 ^ 16 - 1)
  place_made = elim (cases_eq (last_order bs) (2 ^ 16 - 1)) [
    | inl is ↦ subst Placed (sym (ap (λ (n : ℕ). drop n bs) (all_due is) ∙ drop_all (length bs) bs (omega arith))) (some, omega arith)
    | inr ne ↦ (let less : last_order bs < 2 ^ 16 - 1 = omega (arith, last_small bs small, ne) in elim (cases_eq (length bs) depth) [
      | inl full ↦ subst Placed (sym (ap (λ (n : ℕ). drop n bs) (one_due ne full))) (omega (arith, shorter bs (omega arith), full), last_rest bs less)
      | inr room ↦ subst Placed (sym (ap (λ (n : ℕ). drop n bs) (none_due ne room))) (omega (arith, few, room), less)
    ])
  ]

-- which ones are due for a group
pub due_snoc : (group : ℕ) (xs : List Ballot) (b : Ballot) (n : ℕ) → n ≡ length xs → due_for group (xs ++ b ∷ []) ≡ cond (shares group b) (n + 1) (due_for group xs)
due_snoc group [] b n is = by (shares group b)
  where
    by : (s : Bool) → cond (s || nat_lt 0 0) 1 0 ≡ cond s (n + 1) 0
    by true = omega arith
    by false = refl
due_snoc group (x ∷ xs) b n is = ap (λ (k : ℕ). cond (shares group x || nat_lt 0 k) (suc k) 0) (due_snoc group xs b (length xs) refl) ∙ by (shares group b) (shares group x)
  where
    by : (s t : Bool) → (let k = cond s (length xs + 1) (due_for group xs) in cond (t || nat_lt 0 k) (suc k) 0) ≡ cond s (n + 1) (cond (t || nat_lt 0 (due_for group xs)) (suc (due_for group xs)) 0)
    by true t = ap (λ (p : Bool). cond p (suc (length xs + 1)) 0) (some t) ∙ omega arith
      where
        some : (u : Bool) → (u || nat_lt 0 (length xs + 1)) ≡ true
        some true = refl
        some false = lt-ltb 0 (length xs + 1) (omega arith)
    by false t = refl

due_apart : (group : ℕ) (xs : List Ballot) → All (λ (b : Ballot). shares group b ≡ false) (drop (due_for group xs) xs)
due_apart group [] = All-nil (λ (b : Ballot). shares group b ≡ false)
due_apart group (x ∷ xs) = ⊎_elim
    (λ on. subst (All (λ (b : Ballot). shares group b ≡ false)) (sym (ap (λ (p : Bool). drop (cond p (suc (due_for group xs)) 0) (x ∷ xs)) on)) (due_apart group xs))
    (λ off.
    let both = or_parts (shares group x) (nat_lt 0 (due_for group xs)) off in
    let none : due_for group xs ≡ 0 = omega (arith, ltb-false 0 (due_for group xs) both.1) in
    subst (All (λ (b : Ballot). shares group b ≡ false)) (sym (ap (λ (p : Bool). drop (cond p (suc (due_for group xs)) 0) (x ∷ xs)) off))
    (All-cons (λ (b : Ballot). shares group b ≡ false) x xs both.0 (subst (λ (k : ℕ). All (λ (b : Ballot). shares group b ≡ false) (drop k xs)) none (due_apart group xs))))
    (cases_Bool (shares group x || nat_lt 0 (due_for group xs)))

-- a commit that shares no number with the group has none of its rows
unnegated : (b : Bool) → not b ≡ false → b ≡ true
unnegated true is = refl
unnegated false is = absurd (false≢true (sym is))

no_number : (group : ℕ) (b : Ballot) (t : ℕ) → shares group b ≡ false → has group t ≡ true → has b.group t ≡ false
no_number group b t apart in_group =
    let none : bit_and b.group group ≡ 0 = eqb-true (bit_and b.group group) 0 (unnegated _ apart) in
    let one : bit_at group t ≡ 1 = eqb-true (bit_at group t) 1 in_group in
    ne_eqb (bit_at b.group t) 1 (λ also. omega (arith, also, one, bit_at_and b.group group t, ap (λ (n : ℕ). bit_at n t) none, bit_at-zero t))

pub due_free : (group : ℕ) (xs : List Ballot) (t : ℕ) → has group t ≡ true → IsFree t (drop (due_for group xs) xs)
due_free group xs t so = All-weaker (λ (b : Ballot). shares group b ≡ false) (λ (b : Ballot). has b.group t ≡ false) (λ b apart. no_number group b t apart so) (drop (due_for group xs) xs) (due_apart group xs)

module _ (shape : Shape) (cells : List Cells) (image : List ℕ) where
  pub rows_apart : (bs : List Ballot) (g t : ℕ) → IsFree t bs → some_has (commits_of shape image cells bs) g t ≡ false
  rows_apart [] g t free = refl
  rows_apart (b ∷ bs) g t free =
      let here : has_row b g t ≡ false = and_right (has b.mask g) (has b.group t) (All-head (λ (k : Ballot). has k.group t ≡ false) b bs free) in
      ap (λ (p : Bool). p || some_has (commits_of shape image cells bs) g t) here ∙ rows_apart bs g t (All-tail (λ (k : Ballot). has k.group t ≡ false) b bs free)

  -- one more takes an order number above all
  pub all_before : (bs : List Ballot) (least : ℕ) → Rise least (commits_of shape image cells bs) → Each (λ (c : Commit). c.ballot.order < last_order bs + 1) (commits_of shape image cells bs)
  all_before [] least rise = tt
  all_before (b ∷ []) least rise = (omega arith, tt)
  all_before (b ∷ c ∷ bs) least rise =
      let later = all_before (c ∷ bs) (b.order + 1) rise.2 in
      (omega (arith, rise.2.0, later.0), later)

  pub rise_from : (bs : List Ballot) → All (λ (b : Ballot). (0 < b.order) × (b.order < 2 ^ 16)) bs → Rise 0 (commits_of shape image cells bs) → Rise 1 (commits_of shape image cells bs)
  rise_from [] all rise = tt
  rise_from (b ∷ bs) all rise = ((All-head (λ (k : Ballot). (0 < k.order) × (k.order < 2 ^ 16)) b bs all).0, rise.1, rise.2)
