-- The actions that are left after a page was split, and the way to a key then.
use Rattle.std.proofs.Common.{◌≡◌, ◌≢◌, ℕ, zero, suc, ◌+◌, ◌<◌, ◌≤◌, true, false, nat_lt, inl, inr, List, [], ◌∷◌, length, take, drop, refl, sym, ◌∙◌, ap, subst, arith}
use Rattle.std.specs.Prelude.{if◌then◌else◌}
use Rattle.std.proofs.lemmas.Bool.Decides.{nat_tests, leb_tells}
use Rattle.record_slots.specs.Places.{page_bytes, slot_due, page_due, slot_page}
use Rattle.page_store.specs.Index.{Action}
use Rattle.page_store.specs.Pairs.{Pair, Rise}
use Rattle.index_pages.specs.Keys.{key_at, key_end}
use Rattle.index_pages.specs.Page.{page_pairs, pairs_said, count_said, count_of, level_of}
use Rattle.index_pages.proofs.PageFacts.{length-page_pairs}
use Rattle.index_pages.proofs.Rising.{key_at-bounds}
use Rattle.btree_laws.proofs.Apart.{start_of, sub_of}
use Rattle.btree_laws.proofs.Ways.{child_some}
use Rattle.btree_laws.proofs.Splitting.{under_self}
use Rattle.btree_laws.specs.Changes.{IsCut}
use Rattle.btree_laws.specs.Descent.{child_for}
use Rattle.btree_laws.specs.Sound.{IsTree}
use Rattle.btree_laws.specs.Tree.{IsUnder}
use Rattle.btree_laws.specs.TreeFacts.{tree_level}
use Rattle.btree_pages.proofs.CutPlace.{cut_inside, cut_side, side_before, side_behind}
use Rattle.btree_pages.proofs.Descending.{child_step}
use Rattle.btree_pages.specs.Index.{actions_below, cutting}
use Rattle.index_pages.specs.Actions.{adding, half_for}
use Rattle.btree_pages.specs.Writes.{cut_for, half_pairs}
use Rattle.btree_laws.specs.declared.root.Root.{Root}

-- a half of the entries that has the key in its range has the key's child
pub child_take : (n key : ℕ) (es : List Pair) → 0 < n → n < length es → key < key_at es n → child_for (take n es) key ≡ child_for es key
child_take zero key es some less lt = absurd (omega arith)
child_take (suc n) key [] some less lt = absurd (omega arith)
child_take (suc n) key (e ∷ []) some less lt = absurd (omega arith)
child_take (suc zero) key (e ∷ f ∷ es) some less lt = let b : nat_lt key f.0 ≡ true = grind (arith, nat_tests) in sym (rw b refl)
child_take (suc (suc n)) key (e ∷ f ∷ es) some less lt = elim (leb_tells (suc key) f.0) [
  | inl h ↦ let b : nat_lt key f.0 ≡ true = h.0 in rw b refl
  | inr h ↦ let b : nat_lt key f.0 ≡ false = h.0 in rw b (child_take (suc n) key (f ∷ es) (omega arith) (omega arith) lt)
]

pub child_drop : (n key low high : ℕ) (es : List Pair) → n < length es → Rise low high es → key_at es n ≤ key → child_for (drop n es) key ≡ child_for es key
child_drop n key low high [] less r le = absurd (omega arith)
child_drop zero key low high (e ∷ es) less r le = refl
child_drop (suc n) key low high (e ∷ []) less r le = absurd (omega arith)
child_drop (suc n) key low high (e ∷ f ∷ es) less r le =
    let h = key_at-bounds n f.0 high (f ∷ es) (omega arith) (omega arith, r.1.1) in
    let b : nat_lt key f.0 ≡ false = grind (arith, nat_tests, h.0, le) in
    let is : child_for (e ∷ f ∷ es) key ≡ child_for (f ∷ es) key = (rw b refl) in
    child_drop n key (suc e.0) high (f ∷ es) (omega arith) r.1 le ∙ sym is

pub half_same : (level key low high : ℕ) (ps : List Pair) → length ps ≡ 30 → Rise low high ps → child_for (half_pairs level ps key) key ≡ child_for ps key
half_same level key low high ps full rises =
    let inside = cut_inside level ps key in
    let side = side_before key (key_at ps (cut_for level ps key)) (key_at ps 15) (cut_side level key low high ps full rises) in
    let side' = side_behind key (key_at ps (cut_for level ps key)) (key_at ps 15) (cut_side level key low high ps full rises) in
    elim (leb_tells (suc key) (key_at ps 15)) [
      | inl h ↦ let b : nat_lt key (key_at ps 15) ≡ true = h.0 in rw b (child_take (cut_for level ps key) key ps (omega (arith, inside)) (omega (arith, full, inside)) (side h.1))
      | inr h ↦ let b : nat_lt key (key_at ps 15) ≡ false = h.0 in rw b (child_drop (cut_for level ps key) key low high ps (omega (arith, full, inside)) rises (side' (omega (arith, h.1))))
    ]

-- one page further down, with what it has
abbrev actions_step : ℕ → List ℕ → ℕ → ℕ → ℕ → ℕ → ℕ → ℕ → List Pair → List Action
actions_step m bytes now taken next key c count pairs =
    if nat_lt count 30 then actions_below m bytes c c taken key else cutting c next now ∷ actions_below m bytes c (half_for pairs c next key) (suc taken) key

-- the same actions are left in data from which k more pages were taken
module _ (root : Root) (old new : List ℕ) (k : ℕ) (slot : slot_due new ≡ slot_due old) (size : length new ≡ length old) (due : (i : ℕ) → page_due new i ≡ page_due old (k + i)) where
  adding_same : (now : ℕ) → adding new now ∷ [] ≡ adding old now ∷ []
  adding_same now =
      let e : slot_page new (slot_due new) ≡ slot_page old (slot_due old) = omega (arith, slot, size) in
      ap (λ (p : ℕ). (let a : Action = record { pages = p ∷ now ∷ 0 ∷ []; takes = 0 } in a) ∷ []) e

  step_same : (m now n key c count : ℕ) (pairs : List Pair) → ((now' n' : ℕ) → actions_below m new c now' n' key ≡ actions_below m old c now' (k + n') key)
      → actions_step m new now n (page_due new n) key c count pairs ≡ actions_step m old now (k + n) (page_due old (k + n)) key c count pairs
  step_same m now n key c count pairs tails = elim (leb_tells (suc count) 30) [
    | inl h ↦ let b : nat_lt count 30 ≡ true = h.0 in rw b (tails c n)
    | inr h ↦
        let b : nat_lt count 30 ≡ false = h.0 in
        rw b (ap (λ (x : ℕ). cutting c x now ∷ actions_below m new c (half_for pairs c x key) (suc n) key) (due n)
        ∙ ap (λ (l : List Action). cutting c (page_due old (k + n)) now ∷ l) (tails (half_for pairs c (page_due old (k + n)) key) (suc n)
        ∙ ap (λ (i : ℕ). actions_below m old c (half_for pairs c (page_due old (k + n)) key) i key) (let e : k + suc n ≡ suc (k + n) = omega arith in e)))
  ]

  -- below a page with the same child
  below_same : (m key p p' : ℕ) → child_for (page_pairs new p') key ≡ child_for (page_pairs old p) key → page_bytes new (child_for (page_pairs old p) key) ≡ page_bytes old (child_for (page_pairs old p) key)
      → ((now n : ℕ) → actions_below m new (child_for (page_pairs old p) key) now n key ≡ actions_below m old (child_for (page_pairs old p) key) now (k + n) key)
      → (now n : ℕ) → actions_below (suc m) new p' now n key ≡ actions_below (suc m) old p now (k + n) key
  below_same m key p p' child there tails now n =
      ap (λ (c : ℕ). actions_step m new now n (page_due new n) key c (count_of new c) (page_pairs new c)) child
      ∙ ap (λ (b : List ℕ). actions_step m new now n (page_due new n) key (child_for (page_pairs old p) key) (count_said b) (pairs_said b)) there
      ∙ step_same m now n key (child_for (page_pairs old p) key) (count_of old (child_for (page_pairs old p) key)) (page_pairs old (child_for (page_pairs old p) key)) tails

  -- if no page below has changed
  pub actions_same : (m key p low high : ℕ) → IsTree root m old p low high → low ≤ key → key < high → ((x : ℕ) → IsUnder m old x p → page_bytes new x ≡ page_bytes old x)
      → (now n : ℕ) → actions_below m new p now n key ≡ actions_below m old p now (k + n) key
  actions_same zero key p low high t le lt kept now n = adding_same now
  actions_same (suc m) key p low high t le lt kept now n =
      let some : 1 ≤ length (page_pairs old p) = omega (arith, t.0.some, length-page_pairs old p) in
      let start = start_of low high (page_pairs old p) some t.0.first in
      let child = child_step root m old (page_pairs old p) high key some t.0.children t.1 (omega arith) lt in
      let under = λ (x : ℕ) (u : IsUnder m old x (child_for (page_pairs old p) key)). kept x (inr (child_some (IsUnder m old x) (page_pairs old p) key some u)) in
      below_same m key p p (ap (λ (b : List ℕ). child_for (pairs_said b) key) (kept p (inl refl))) (under (child_for (page_pairs old p) key) (under_self m old (child_for (page_pairs old p) key)))
      (actions_same m key (child_for (page_pairs old p) key) child.from child.to child.tree child.from_key child.key_to under) now n

  -- after a split, the half that has the key has what is left to do
  module _ (whole left right place key : ℕ) (cut : IsCut old new whole left right place) (side : nat_lt key (key_at (page_pairs old whole) place) ≡ nat_lt key (key_at (page_pairs old whole) 15)) where
    pub half_child : (low : ℕ) → Rise low key_end (page_pairs old whole) → child_for (page_pairs new (half_for (page_pairs old whole) left right key)) key ≡ child_for (page_pairs old whole) key
    half_child low rises = elim (leb_tells (suc key) (key_at (page_pairs old whole) 15)) [
      | inl h ↦
          let b : nat_lt key (key_at (page_pairs old whole) 15) ≡ true = h.0 in
          rw b (ap (λ (ps : List Pair). child_for ps key) cut.left_is.pairs_are ∙ child_take place key (page_pairs old whole) (omega (arith, cut.some)) (omega (arith, cut.full, cut.less)) (side_before key (key_at (page_pairs old whole) place) (key_at (page_pairs old whole) 15) side h.1))
      | inr h ↦
          let b : nat_lt key (key_at (page_pairs old whole) 15) ≡ false = h.0 in
          rw b (ap (λ (ps : List Pair). child_for ps key) cut.right_is.pairs_are ∙ child_drop place key low key_end (page_pairs old whole) (omega (arith, cut.full, cut.less)) rises (side_behind key (key_at (page_pairs old whole) place) (key_at (page_pairs old whole) 15) side (omega (arith, h.1))))
    ]

    pub half_actions : (m low high : ℕ) → IsTree root m old whole low high → low ≤ key → key < high → ((x : ℕ) → IsUnder m old x whole → x ≢ whole → page_bytes new x ≡ page_bytes old x)
        → (now n : ℕ) → actions_below m new (half_for (page_pairs old whole) left right key) now n key ≡ actions_below m old whole now (k + n) key
    half_actions zero low high t le lt kept now n = adding_same now
    half_actions (suc m) low high t le lt kept now n =
        let some : 1 ≤ length (page_pairs old whole) = omega (arith, t.0.some, length-page_pairs old whole) in
        let start = start_of low high (page_pairs old whole) some t.0.first in
        let child = child_step root m old (page_pairs old whole) high key some t.0.children t.1 (omega arith) lt in
        let c : ℕ = child_for (page_pairs old whole) key in
        let under = λ (x : ℕ) (u : IsUnder m old x (child_for (page_pairs old whole) key)). kept x (inr (child_some (IsUnder m old x) (page_pairs old whole) key some u))
        (λ same. deeper m child.from child.to child.tree (subst (λ (y : ℕ). IsUnder m old y (child_for (page_pairs old whole) key)) same u) t.0.level_is) in
        below_same m key whole (half_for (page_pairs old whole) left right key) (half_child low t.0.rises)
        (under (child_for (page_pairs old whole) key) (under_self m old (child_for (page_pairs old whole) key)))
        (actions_same m key (child_for (page_pairs old whole) key) child.from child.to child.tree child.from_key child.key_to under) now n
      where
        deeper : (m from to : ℕ) → IsTree root m old (child_for (page_pairs old whole) key) from to → IsUnder m old whole (child_for (page_pairs old whole) key) → level_of old whole ≡ suc m → ⊥
        deeper m from to tree u level = let sub = sub_of root m old whole (child_for (page_pairs old whole) key) from to tree u in omega (arith, sub.most, tree_level root sub.m old whole sub.from sub.to sub.tree, level)
