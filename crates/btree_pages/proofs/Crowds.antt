-- What full pages on a key's way make of an insertion.
use Rattle.std.proofs.Common.{◌≡◌, ◌≢◌, ℕ, zero, suc, ◌+◌, ◌<◌, ◌≤◌, Bool, true, false, nat_lt, inl, inr, List, [], ◌∷◌, length, Option, refl, sym, ◌∙◌, ap, arith}
use Rattle.std.specs.Prelude.{nat_le, ◌||◌}
use Rattle.std.proofs.lemmas.Bool.Decides.{leb_tells}
use Rattle.record_slots.specs.Places.{page_due}
use Rattle.index_pages.specs.Page.{page_pairs, pairs_from, pairs_said, level_of, count_of, count_said}
use Rattle.index_pages.proofs.PageFacts.{length-page_pairs}
use Rattle.btree_laws.proofs.Apart.{start_of}
use Rattle.btree_laws.specs.Descent.{child_for, page_for, leaf_for}
use Rattle.btree_laws.specs.Sound.{IsTree}
use Rattle.btree_laws.specs.TreeFacts.{tree_level}
use Rattle.btree_laws.specs.declared.root.Root.{Root}
use Rattle.btree_pages.specs.Crowded.{is_full, is_full_below, is_crowded}
use Rattle.btree_pages.specs.Index.{actions_below, tree_actions}
use Rattle.index_pages.specs.Actions.{adding, half_for}
use Rattle.btree_pages.proofs.Descending.{Down, child_step}

-- a test that fails has no part that holds
pub neither : (a b : Bool) → (a || b) ≡ false → (a ≡ false) × (b ≡ false)
neither true b is = absurd (cc)
neither false b is = (refl, is)

pub or_assoc : (a b c : Bool) → (a || (b || c)) ≡ ((a || b) || c)
or_assoc true b c = refl
or_assoc false b c = refl

pub or_none : (a : Bool) → (a || false) ≡ a
or_none true = refl
or_none false = refl

-- a page has room, or has none
has_room : (count : ℕ) → nat_le 30 count ≡ false → nat_lt count 30 ≡ true
has_room count is = elim (leb_tells (suc count) 30) [
  | inl h ↦ h.0
  | inr h ↦ elim (leb_tells 30 count) [ inl le ↦ absurd (let e : true ≡ false = sym le.0 ∙ is in cc) | inr lt ↦ absurd (omega (arith, h.1, lt.1)) ]
]

pub few_pairs : (count : ℕ) → nat_le 30 count ≡ false → count < 30
few_pairs count is = elim (leb_tells 30 count) [ inl le ↦ absurd (let e : true ≡ false = sym le.0 ∙ is in cc) | inr lt ↦ omega (arith, lt.1) ]

has_none : (count : ℕ) → nat_le 30 count ≡ true → nat_lt count 30 ≡ false
has_none count is = elim (leb_tells (suc count) 30) [
  | inl h ↦ elim (leb_tells 30 count) [ inl le ↦ absurd (omega (arith, h.1, le.1)) | inr lt ↦ absurd (let e : true ≡ false = sym is ∙ lt.0 in cc) ]
  | inr h ↦ h.0
]

length-from : (bytes : List ℕ) (i n : ℕ) → length (pairs_from bytes i n) ≡ n
length-from bytes i zero = refl
length-from bytes i (suc n) = ap suc (length-from bytes (i + 1) n)

-- a page has as many pairs as it says
pub length-pairs_said : (said : List ℕ) → length (pairs_said said) ≡ count_said said
unfolding pairs_said
length-pairs_said said = length-from said 0 (count_said said)

-- if no page below is full, the pair is added to the leaf
actions_open : (d : ℕ) (bytes : List ℕ) (page taken key : ℕ) → is_full_below d bytes page key ≡ false → actions_below d bytes page page taken key ≡ adding bytes (page_for d bytes page key) ∷ []
actions_open zero bytes page taken key is = refl
actions_open (suc d) bytes page taken key is =
    let both = neither (is_full bytes (child_for (page_pairs bytes page) key)) (is_full_below d bytes (child_for (page_pairs bytes page) key) key) is in
    let b : nat_lt (count_of bytes (child_for (page_pairs bytes page) key)) 30 ≡ true = has_room (count_of bytes (child_for (page_pairs bytes page) key)) both.0 in
    rw b (actions_open d bytes (child_for (page_pairs bytes page) key) taken key both.1)

pub open_leaf : (bytes : List ℕ) (root key : ℕ) → is_crowded bytes root key ≡ false → tree_actions bytes root key ≡ adding bytes (leaf_for bytes root key) ∷ []
open_leaf bytes root key is =
    let both = neither (is_full bytes root) (is_full_below (level_of bytes root) bytes root key) is in
    let b : nat_lt (count_of bytes root) 30 ≡ true = has_room (count_of bytes root) both.0 in
    rw b (actions_open (level_of bytes root) bytes root 0 key both.1)

-- there is always an action, and another one if a page is full
some_action : (d : ℕ) (bytes : List ℕ) (page now taken key : ℕ) → 1 ≤ length (actions_below d bytes page now taken key)
some_action zero bytes page now taken key = omega arith
some_action (suc d) bytes page now taken key = elim (leb_tells (suc (count_of bytes (child_for (page_pairs bytes page) key))) 30) [
  | inl h ↦ let b : nat_lt (count_of bytes (child_for (page_pairs bytes page) key)) 30 ≡ true = h.0 in rw b (some_action d bytes (child_for (page_pairs bytes page) key) (child_for (page_pairs bytes page) key) taken key)
  | inr h ↦ let b : nat_lt (count_of bytes (child_for (page_pairs bytes page) key)) 30 ≡ false = h.0 in rw b (omega arith)
]

two_actions : (d : ℕ) (bytes : List ℕ) (page now taken key : ℕ) → is_full_below d bytes page key ≡ true → 2 ≤ length (actions_below d bytes page now taken key)
two_actions zero bytes page now taken key is = absurd (cc)
two_actions (suc d) bytes page now taken key is = elim (leb_tells (suc (count_of bytes (child_for (page_pairs bytes page) key))) 30) [
  | inl h ↦
      let b : nat_lt (count_of bytes (child_for (page_pairs bytes page) key)) 30 ≡ true = h.0 in
      let f : nat_le 30 (count_of bytes (child_for (page_pairs bytes page) key)) ≡ false = elim (leb_tells 30 (count_of bytes (child_for (page_pairs bytes page) key))) [ inl le ↦ absurd (omega (arith, h.1, le.1)) | inr lt ↦ lt.0 ] in
      let more : is_full_below d bytes (child_for (page_pairs bytes page) key) key ≡ true = ap (λ (x : Bool). x || is_full_below d bytes (child_for (page_pairs bytes page) key) key) (sym f) ∙ is in
      rw b (two_actions d bytes (child_for (page_pairs bytes page) key) (child_for (page_pairs bytes page) key) taken key more)
  | inr h ↦
      let b : nat_lt (count_of bytes (child_for (page_pairs bytes page) key)) 30 ≡ false = h.0 in
      let c : ℕ = child_for (page_pairs bytes page) key in
      rw b (omega (arith, some_action d bytes (child_for (page_pairs bytes page) key) (half_for (page_pairs bytes (child_for (page_pairs bytes page) key)) (child_for (page_pairs bytes page) key) (page_due bytes taken) key) (suc taken) key))
]

pub crowded_two : (bytes : List ℕ) (root key : ℕ) → is_crowded bytes root key ≡ true → 2 ≤ length (tree_actions bytes root key)
crowded_two bytes root key is = elim (leb_tells (suc (count_of bytes root)) 30) [
  | inl h ↦
      let b : nat_lt (count_of bytes root) 30 ≡ true = h.0 in
      let f : nat_le 30 (count_of bytes root) ≡ false = elim (leb_tells 30 (count_of bytes root)) [ inl le ↦ absurd (omega (arith, h.1, le.1)) | inr lt ↦ lt.0 ] in
      let more : is_full_below (level_of bytes root) bytes root key ≡ true = ap (λ (x : Bool). x || is_full_below (level_of bytes root) bytes root key) (sym f) ∙ is in
      rw b (two_actions (level_of bytes root) bytes root root 0 key more)
  | inr h ↦
      let b : nat_lt (count_of bytes root) 30 ≡ false = h.0 in
      rw b (omega (arith, some_action (level_of bytes root) bytes root (half_for (page_pairs bytes root) (page_due bytes 0) (page_due bytes 1) key) 2 key))
]

-- one page further down
crowd_below : (root : Root) (bytes : List ℕ) (key page low high m : ℕ) → IsTree root m bytes page low high → low ≤ key → key < high → level_of bytes page ≢ 0
    → is_full_below (level_of bytes page) bytes page key ≡ (is_full bytes (child_for (page_pairs bytes page) key) || is_full_below (level_of bytes (child_for (page_pairs bytes page) key)) bytes (child_for (page_pairs bytes page) key) key)
crowd_below root bytes key page low high zero tree from to inner = absurd (inner (tree_level root 0 bytes page low high tree))
crowd_below root bytes key page low high (suc l) tree from to inner =
    let some : 1 ≤ length (page_pairs bytes page) = omega (arith, tree.0.some, length-page_pairs bytes page) in
    let start = start_of low high (page_pairs bytes page) some tree.0.first in
    let child = child_step root l bytes (page_pairs bytes page) high key some tree.0.children tree.1 (omega (arith, start, from)) to in
    ap (λ (n : ℕ). is_full_below n bytes page key) (tree_level root (suc l) bytes page low high tree)
    ∙ ap (λ (n : ℕ). is_full bytes (child_for (page_pairs bytes page) key) || is_full_below n bytes (child_for (page_pairs bytes page) key) key) (sym (tree_level root l bytes (child_for (page_pairs bytes page) key) child.from child.to child.tree))

-- the leaf to which the way goes
pub leaf_here : (root : Root) (bytes : List ℕ) (key steps page : ℕ) (bound : Option ℕ) (d : Down root bytes key steps page bound) → level_of bytes page ≡ 0 → page ≡ leaf_for bytes root.page key
leaf_here root bytes key steps page bound d bottom =
    let m : d.m ≡ 0 = sym (tree_level root d.m bytes page d.low d.high d.tree) ∙ bottom in
    sym (d.way key d.from d.to ∙ ap (λ (n : ℕ). page_for n bytes page key) m)

module _ (root : Root) (bytes : List ℕ) (key steps page : ℕ) (bound : Option ℕ) (d : Down root bytes key steps page bound) (full : Bool)
    (so_far : is_crowded bytes root.page key ≡ (full || (is_full bytes page || is_full_below (level_of bytes page) bytes page key))) where
  pub crowd_step : level_of bytes page ≢ 0 → (now : Bool) → now ≡ (full || is_full bytes page) → (child : ℕ) → child ≡ child_for (page_pairs bytes page) key
      → is_crowded bytes root.page key ≡ (now || (is_full bytes child || is_full_below (level_of bytes child) bytes child key))
  crowd_step inner now is child child_is =
      so_far ∙ or_assoc full (is_full bytes page) (is_full_below (level_of bytes page) bytes page key)
      ∙ ap (λ (b : Bool). b || is_full_below (level_of bytes page) bytes page key) (sym is)
      ∙ ap (λ (b : Bool). now || b) (crowd_below root bytes key page d.low d.high d.m d.tree d.from d.to inner)
      ∙ ap (λ (c : ℕ). now || (is_full bytes c || is_full_below (level_of bytes c) bytes c key)) (sym child_is)

  -- at the leaf
  pub crowd_end : level_of bytes page ≡ 0 → (now : Bool) → now ≡ (full || is_full bytes page) → now ≡ is_crowded bytes root.page key
  crowd_end bottom now is =
      is ∙ ap (λ (b : Bool). full || b) (sym (or_none (is_full bytes page)) ∙ ap (λ (n : ℕ). is_full bytes page || is_full_below n bytes page key) (sym bottom)) ∙ sym so_far
