-- The pages of a tree after a change: none is lost, and new ones belong to it.
use Rattle.std.proofs.Common.{◌≡◌, ◌≢◌, ℕ, zero, suc, ◌<◌, ◌≤◌, ◌⊎◌, true, false, nat_lt, inl, inr, List, [], ◌∷◌, length, take, drop, refl, sym, ◌∙◌, ap, subst, arith}
use Rattle.std.proofs.lemmas.Bool.Decides.{leb_tells, eqb_tells}
use Rattle.record_slots.specs.Places.{page_bytes}
use Rattle.page_store.specs.Pairs.{Pair}
use Rattle.index_pages.specs.Keys.{key_end}
use Rattle.index_pages.specs.Page.{page_pairs, pairs_said, level_of}
use Rattle.index_pages.specs.Ways.{above, Keeps}
use Rattle.index_pages.proofs.PageFacts.{length-page_pairs}
use Rattle.btree_laws.specs.Changes.{middle, with_entry, SplitsChild, SplitsRoot}
use Rattle.btree_laws.specs.Descent.{child_for, page_for}
use Rattle.btree_laws.specs.declared.root.Root.{Root}
use Rattle.btree_laws.specs.Tree.{next_low, IsUnder, IsUnderSome, IsPageOfTree}
use Rattle.btree_laws.specs.Sound.{AreSound, IsTree, IsSoundTree}
use Rattle.btree_laws.proofs.Apart.{sub_of, sub_below, start_of}
use Rattle.btree_laws.proofs.Splitting.{sound_tree_splits, under_self}
use Rattle.btree_laws.proofs.Ways.{way_of, way_below, way_under, child_some, above-le}
use Rattle.btree_laws.specs.TreeFacts.{tree_level}

some_with : (P : ℕ → Type 0) (es : List Pair) (key : ℕ) (p : Pair) → IsUnderSome P es → IsUnderSome P (with_entry es key p)
some_with P [] key p u = absurd u
some_with P (e ∷ []) key p (inl u) = inl u
some_with P (e ∷ []) key p (inr u) = absurd u
some_with P (e ∷ f ∷ es) key p u =
    elim (leb_tells (suc key) f.0) [
      | inl h ↦ let b : nat_lt key f.0 ≡ true = h.0 in rw b (elim u [ inl a ↦ inl a | inr a ↦ inr (inr a) ])
      | inr h ↦ let b : nat_lt key f.0 ≡ false = h.0 in rw b (elim u [ inl a ↦ inl a | inr a ↦ inr (some_with P (f ∷ es) key p a) ])
    ]

new_with : (P : ℕ → Type 0) (es : List Pair) (key : ℕ) (p : Pair) → 1 ≤ length es → P p.1 → IsUnderSome P (with_entry es key p)
new_with P [] key p some u = absurd (omega arith)
new_with P (e ∷ []) key p some u = inr (inl u)
new_with P (e ∷ f ∷ es) key p some u =
    elim (leb_tells (suc key) f.0) [
      | inl h ↦ let b : nat_lt key f.0 ≡ true = h.0 in rw b (inr (inl u))
      | inr h ↦ let b : nat_lt key f.0 ≡ false = h.0 in rw b (inr (new_with P (f ∷ es) key p (omega arith) u))
    ]

some_halves : (P : ℕ → Type 0) (n : ℕ) (es : List Pair) → IsUnderSome P es → IsUnderSome P (take n es) ⊎ IsUnderSome P (drop n es)
some_halves P zero es u = inr u
some_halves P (suc n) [] u = absurd u
some_halves P (suc n) (e ∷ es) (inl u) = inl (inl u)
some_halves P (suc n) (e ∷ es) (inr u) = elim (some_halves P n es u) [ inl a ↦ inl (inr a) | inr a ↦ inr a ]

-- a child of a page was split
module _ (root : Root) (old new : List ℕ) (l parent key right : ℕ) (splits : SplitsChild root old new parent key right) (parent_level : level_of old parent ≡ suc l) (child_level : level_of old (child_for (page_pairs old parent) key) ≡ l)
    (Mine : ℕ → Type 0) (kept : (x : ℕ) → Mine x → x ≢ parent → x ≢ child_for (page_pairs old parent) key → page_bytes new x ≡ page_bytes old x) where
  below_stays : (n x : ℕ) → ((p low high : ℕ) → ((q : ℕ) → IsUnder n old q p → Mine q) → IsTree root n old p low high → IsUnder n old x p → IsUnder n new x p ⊎ IsUnder l new x right)
      → (es : List Pair) (high : ℕ) → ((q : ℕ) → IsUnderSome (IsUnder n old q) es → Mine q) → AreSound (IsTree root n old) es high → IsUnderSome (IsUnder n old x) es
      → IsUnderSome (IsUnder n new x) es ⊎ IsUnder l new x right
  below_stays n x ih [] high mine sound u = absurd u
  below_stays n x ih (e ∷ es) high mine sound (inl u) = elim (ih e.1 e.0 (next_low es high) (λ q v. mine q (inl v)) sound.0 u) [ inl a ↦ inl (inl a) | inr a ↦ inr a ]
  below_stays n x ih (e ∷ es) high mine sound (inr u) = elim (below_stays n x ih es high (λ q v. mine q (inr v)) sound.1 u) [ inl a ↦ inl (inr a) | inr a ↦ inr a ]

  -- the entries of a page are still in it, or in its upper half
  entries_stay : (n p x : ℕ) → Mine p → level_of old p ≡ suc n → IsUnderSome (IsUnder n new x) (page_pairs old p) → IsUnder (suc n) new x p ⊎ IsUnder l new x right
  entries_stay n p x mine level u = elim (eqb_tells p parent) [
    | inl same ↦
        let u' : IsUnderSome (IsUnder n new x) (page_pairs old parent) = subst (λ (q : ℕ). IsUnderSome (IsUnder n new x) (page_pairs old q)) same.1 u in
        let w = subst (λ (ps : List Pair). IsUnderSome (IsUnder n new x) ps) (sym splits.pairs)
        (some_with (IsUnder n new x) (page_pairs old parent) key (middle old (child_for (page_pairs old parent) key) splits.place, right) u') in
        inl (inr (subst (λ (q : ℕ). IsUnderSome (IsUnder n new x) (page_pairs new q)) (sym same.1) w))
    | inr other ↦ elim (eqb_tells p (child_for (page_pairs old parent) key)) [
      | inl same ↦
          let c : ℕ = child_for (page_pairs old parent) key in
          let deep : suc n ≡ l = sym level ∙ ap (λ (q : ℕ). level_of old q) same.1 ∙ child_level in
          let u' : IsUnderSome (IsUnder n new x) (page_pairs old (child_for (page_pairs old parent) key)) = subst (λ (q : ℕ). IsUnderSome (IsUnder n new x) (page_pairs old q)) same.1 u in
          elim (some_halves (IsUnder n new x) splits.place (page_pairs old (child_for (page_pairs old parent) key)) u') [
            | inl a ↦ inl (inr (subst (λ (q : ℕ). IsUnderSome (IsUnder n new x) (page_pairs new q)) (sym same.1) (subst (λ (ps : List Pair). IsUnderSome (IsUnder n new x) ps) (sym splits.cut.left_is.pairs_are) a)))
            | inr a ↦ inr (subst (λ (k : ℕ). IsUnder k new x right) deep (inr (subst (λ (ps : List Pair). IsUnderSome (IsUnder n new x) ps) (sym splits.cut.right_is.pairs_are) a)))
          ]
      | inr far ↦ inl (inr (subst (λ (b : List ℕ). IsUnderSome (IsUnder n new x) (pairs_said b)) (sym (kept p mine other.1 far.1)) u))
    ]
  ]

  split_stays : (n p low high x : ℕ) → ((q : ℕ) → IsUnder n old q p → Mine q) → IsTree root n old p low high → IsUnder n old x p → IsUnder n new x p ⊎ IsUnder l new x right
  split_stays zero p low high x mine t u = inl u
  split_stays (suc n) p low high x mine t (inl e) = inl (inl e)
  split_stays (suc n) p low high x mine t (inr u) =
      elim (below_stays n x (λ p' low' high' mine' t' u'. split_stays n p' low' high' x mine' t' u') (page_pairs old p) high (λ q v. mine q (inr v)) t.1 u) [
        | inl a ↦ entries_stay n p x (mine p (inl refl)) t.0.level_is a
        | inr a ↦ inr a
      ]

  -- what is under the upper half is under the parent
  half_named : (x : ℕ) → 1 ≤ length (page_pairs old parent) → IsUnder l new x right → IsUnder (suc l) new x parent
  half_named x some u = inr (subst (λ (ps : List Pair). IsUnderSome (IsUnder l new x) ps) (sym splits.pairs)
      (new_with (IsUnder l new x) (page_pairs old parent) key (middle old (child_for (page_pairs old parent) key) splits.place, right) some u))

-- if pages above a level keep their pairs, the way down to that level stays
pub way_same : (root : Root) (l : ℕ) (old new : List ℕ) (Mine : ℕ → Type 0) → ((x : ℕ) → Mine x → l < level_of old x → page_pairs new x ≡ page_pairs old x)
    → (d key p low high : ℕ) → IsTree root (above d l) old p low high → ((q : ℕ) → IsUnder (above d l) old q p → Mine q) → low ≤ key → key < high → page_for d new p key ≡ page_for d old p key
way_same root l old new Mine same zero key p low high t mine le lt = refl
way_same root l old new Mine same (suc d) key p low high t mine le lt =
    let some : 1 ≤ length (page_pairs old p) = omega (arith, t.0.some, length-page_pairs old p) in
    let start = start_of low high (page_pairs old p) some t.0.first in
    let child = way_below root zero (above d l) old key (way_of root zero (above d l) old key) (page_pairs old p) high some t.0.children t.1 (omega arith) lt in
    let here : page_pairs new p ≡ page_pairs old p = same p (mine p (inl refl)) (omega (arith, t.0.level_is, above-le d l)) in
    ap (λ (ps : List Pair). page_for d new (child_for ps key) key) here
    ∙ way_same root l old new Mine same d key (child_for (page_pairs old p) key) child.from child.to child.tree
    (λ q u. mine q (inr (child_some (IsUnder (above d l) old q) (page_pairs old p) key some u))) child.from_key child.key_to

-- what a split on a key's way makes of the pages of a tree
pub record StaysSplit (root : Root) (old new : List ℕ) (d key right : ℕ) : Type 0 where
  pub level : level_of new root.page ≡ level_of old root.page
  pub way : page_for d new root.page key ≡ page_for d old root.page key
  pub stay : (x : ℕ) → IsPageOfTree old root.page x → IsPageOfTree new root.page x
  pub named : IsPageOfTree new root.page right

pub tree_stays_split : (root : Root) (old new : List ℕ) (d l key right : ℕ) → IsSoundTree root old → Keeps old new → key < key_end → level_of old root.page ≡ above d (suc l)
    → SplitsChild root old new (page_for d old root.page key) key right
    → ((x : ℕ) → IsPageOfTree old root.page x → x ≢ page_for d old root.page key → x ≢ child_for (page_pairs old (page_for d old root.page key)) key → page_bytes new x ≡ page_bytes old x)
    → StaysSplit root old new d key right
tree_stays_split root old new d l key right sound keeps lt e splits kept =
    let q : ℕ = page_for d old root.page key in
    let c : ℕ = child_for (page_pairs old (page_for d old root.page key)) key in
    let t : IsTree root (above d (suc l)) old root.page 0 key_end = subst (λ (n : ℕ). IsTree root n old root.page 0 key_end) e sound.2 in
    let w = way_of root d (suc l) old key root.page 0 key_end t (omega arith) lt in
    let some : 1 ≤ length (page_pairs old (page_for d old root.page key)) = omega (arith, w.tree.0.some, length-page_pairs old (page_for d old root.page key)) in
    let start = start_of w.from w.to (page_pairs old (page_for d old root.page key)) some w.tree.0.first in
    let child = way_below root zero l old key (way_of root zero l old key) (page_pairs old (page_for d old root.page key)) w.to some w.tree.0.children w.tree.1 (omega (arith, start, w.from_key)) w.key_to in
    let child_level : level_of old (child_for (page_pairs old (page_for d old root.page key)) key) ≡ l = tree_level root l old (child_for (page_pairs old (page_for d old root.page key)) key) child.from child.to child.tree in
    let after = sound_tree_splits root old new d l key right sound keeps lt e splits kept in
    let mine = λ (x : ℕ) (u : IsUnder (above d (suc l)) old x root.page). subst (λ (n : ℕ). IsUnder n old x root.page) (sym e) u in
    let way : page_for d new root.page key ≡ page_for d old root.page key =
    way_same root (suc l) old new (IsPageOfTree old root.page)
    (λ x own high. ap pairs_said (kept x own
    (λ same. omega (arith, high, w.tree.0.level_is, ap (λ (y : ℕ). level_of old y) same))
    (λ same. omega (arith, high, child_level, ap (λ (y : ℕ). level_of old y) same))))
    d key root.page 0 key_end t mine (omega arith) lt in
    let t' : IsTree root (above d (suc l)) new root.page 0 key_end = subst (λ (n : ℕ). IsTree root n new root.page 0 key_end) (after.2 ∙ e) after.0.2 in
    let under = λ (x : ℕ) (u : IsUnder l new x right).
    subst (λ (n : ℕ). IsUnder n new x root.page) (sym (after.2 ∙ e))
    (way_under root d (suc l) new key root.page 0 key_end x t' (omega arith) lt
    (subst (λ (p : ℕ). IsUnder (suc l) new x p) (sym way)
    (half_named root old new l (page_for d old root.page key) key right splits w.tree.0.level_is child_level (IsPageOfTree old root.page) kept x some u))) in
    record {
      level = after.2;
      way = way;
      stay = λ x u.
          elim (split_stays root old new l (page_for d old root.page key) key right splits w.tree.0.level_is child_level (IsPageOfTree old root.page) kept (level_of old root.page) root.page 0 key_end x (λ y v. v) sound.2 u) [
            | inl a ↦ subst (λ (n : ℕ). IsUnder n new x root.page) (sym after.2) a
            | inr a ↦ under x a
          ];
      named = under right (under_self l new right);
    }

-- under an unchanged page
module _ (root : Root) (old new : List ℕ) (x : ℕ) where
  some_same : (l : ℕ) → ((p low high : ℕ) → IsTree root l old p low high → ((q : ℕ) → IsUnder l old q p → page_bytes new q ≡ page_bytes old q) → IsUnder l old x p → IsUnder l new x p)
      → (es : List Pair) (high : ℕ) → AreSound (IsTree root l old) es high → ((q : ℕ) → IsUnderSome (IsUnder l old q) es → page_bytes new q ≡ page_bytes old q) → IsUnderSome (IsUnder l old x) es → IsUnderSome (IsUnder l new x) es
  some_same l ih [] high sound kept u = absurd u
  some_same l ih (e ∷ es) high sound kept (inl u) = inl (ih e.1 e.0 (next_low es high) sound.0 (λ q v. kept q (inl v)) u)
  some_same l ih (e ∷ es) high sound kept (inr u) = inr (some_same l ih es high sound.1 (λ q v. kept q (inr v)) u)

  under_same : (l p low high : ℕ) → IsTree root l old p low high → ((q : ℕ) → IsUnder l old q p → page_bytes new q ≡ page_bytes old q) → IsUnder l old x p → IsUnder l new x p
  under_same zero p low high t kept u = u
  under_same (suc l) p low high t kept (inl e) = inl e
  under_same (suc l) p low high t kept (inr u) =
      inr (subst (λ (b : List ℕ). IsUnderSome (IsUnder l new x) (pairs_said b)) (sym (kept p (inl refl)))
      (some_same l (under_same l) (page_pairs old p) high t.1 (λ q v. kept q (inr v)) u))

-- a tree none of whose pages has changed has them all
pub tree_stays_same : (root : Root) (old new : List ℕ) (x : ℕ) → IsSoundTree root old → ((q : ℕ) → IsPageOfTree old root.page q → page_bytes new q ≡ page_bytes old q) → level_of new root.page ≡ level_of old root.page
    → IsPageOfTree old root.page x → IsPageOfTree new root.page x
tree_stays_same root old new x sound kept level u =
    subst (λ (n : ℕ). IsUnder n new x root.page) (sym level) (under_same root old new x (level_of old root.page) root.page 0 key_end sound.2 kept u)

-- the root was split
module _ (root : Root) (old new : List ℕ) (left right : ℕ) (splits : SplitsRoot root old new left right) where
  grown_stays : (l low high x : ℕ) → IsTree root l old root.page low high → ((q : ℕ) → IsUnder l old q root.page → q ≢ root.page → page_bytes new q ≡ page_bytes old q) → IsUnder l old x root.page → IsUnder (suc l) new x root.page
  grown_stays zero low high x t kept u = inl u
  grown_stays (suc l) low high x t kept (inl e) = inl e
  grown_stays (suc l) low high x t kept (inr u) =
      let other = λ (q : ℕ) (v : IsUnderSome (IsUnder l old q) (page_pairs old root.page)). kept q (inr v) (λ e.
      let sub = sub_below root l old q (sub_of root l old q) (page_pairs old root.page) high t.0.children t.1 v in
      omega (arith, ap (λ (y : ℕ). level_of old y) e, tree_level root sub.m old q sub.from sub.to sub.tree, sub.most, t.0.level_is)) in
      let u' = some_same root old new x l (under_same root old new x l) (page_pairs old root.page) high t.1 other u in
      elim (some_halves (IsUnder l new x) splits.place (page_pairs old root.page) u') [
        | inl a ↦ inr (subst (λ (ps : List Pair). IsUnderSome (IsUnder (suc l) new x) ps) (sym splits.pairs) (inl (inr (subst (λ (ps : List Pair). IsUnderSome (IsUnder l new x) ps) (sym splits.cut.left_is.pairs_are) a))))
        | inr a ↦ inr (subst (λ (ps : List Pair). IsUnderSome (IsUnder (suc l) new x) ps) (sym splits.pairs) (inr (inl (inr (subst (λ (ps : List Pair). IsUnderSome (IsUnder l new x) ps) (sym splits.cut.right_is.pairs_are) a)))))
      ]

  left_named : (l : ℕ) → IsUnder (suc l) new left root.page
  left_named l = inr (subst (λ (ps : List Pair). IsUnderSome (IsUnder l new left) ps) (sym splits.pairs) (inl (under_self l new left)))

  right_named : (l : ℕ) → IsUnder (suc l) new right root.page
  right_named l = inr (subst (λ (ps : List Pair). IsUnderSome (IsUnder l new right) ps) (sym splits.pairs) (inr (inl (under_self l new right))))

-- what splitting the root makes of the pages of a tree
pub record StaysGrown (root : Root) (old new : List ℕ) (left right : ℕ) : Type 0 where
  pub stay : (x : ℕ) → IsPageOfTree old root.page x → IsPageOfTree new root.page x
  pub left_is : IsPageOfTree new root.page left
  pub right_is : IsPageOfTree new root.page right

pub tree_stays_grown : (root : Root) (old new : List ℕ) (left right : ℕ) → IsSoundTree root old → SplitsRoot root old new left right
    → ((x : ℕ) → IsPageOfTree old root.page x → x ≢ root.page → page_bytes new x ≡ page_bytes old x)
    → StaysGrown root old new left right
tree_stays_grown root old new left right sound splits kept =
    let up = λ (x : ℕ) (u : IsUnder (suc (level_of old root.page)) new x root.page). subst (λ (n : ℕ). IsUnder n new x root.page) (sym splits.level) u in
    record {
      stay = λ x u. up x (grown_stays root old new left right splits (level_of old root.page) 0 key_end x sound.2 kept u);
      left_is = up left (left_named root old new left right splits (level_of old root.page));
      right_is = up right (right_named root old new left right splits (level_of old root.page));
    }

-- only a leaf has changed
module _ (root : Root) (old new : List ℕ) (leaf x : ℕ) (bottom : level_of old leaf ≡ 0) (Mine : ℕ → Type 0) (kept : (q : ℕ) → Mine q → q ≢ leaf → page_bytes new q ≡ page_bytes old q) where
  inner_some : (l : ℕ) → ((p low high : ℕ) → ((q : ℕ) → IsUnder l old q p → Mine q) → IsTree root l old p low high → IsUnder l old x p → IsUnder l new x p)
      → (es : List Pair) (high : ℕ) → ((q : ℕ) → IsUnderSome (IsUnder l old q) es → Mine q) → AreSound (IsTree root l old) es high → IsUnderSome (IsUnder l old x) es → IsUnderSome (IsUnder l new x) es
  inner_some l ih [] high mine sound u = absurd u
  inner_some l ih (e ∷ es) high mine sound (inl u) = inl (ih e.1 e.0 (next_low es high) (λ q v. mine q (inl v)) sound.0 u)
  inner_some l ih (e ∷ es) high mine sound (inr u) = inr (inner_some l ih es high (λ q v. mine q (inr v)) sound.1 u)

  inner_stays : (l p low high : ℕ) → ((q : ℕ) → IsUnder l old q p → Mine q) → IsTree root l old p low high → IsUnder l old x p → IsUnder l new x p
  inner_stays zero p low high mine t u = u
  inner_stays (suc l) p low high mine t (inl e) = inl e
  inner_stays (suc l) p low high mine t (inr u) =
      let other : p ≢ leaf = λ e. omega (arith, bottom, t.0.level_is, ap (λ (y : ℕ). level_of old y) e) in
      inr (subst (λ (b : List ℕ). IsUnderSome (IsUnder l new x) (pairs_said b)) (sym (kept p (mine p (inl refl)) other))
      (inner_some l (inner_stays l) (page_pairs old p) high (λ q v. mine q (inr v)) t.1 u))

-- a tree of which only a leaf has changed has all its pages
pub tree_stays_taken : (root : Root) (old new : List ℕ) (leaf x : ℕ) → IsSoundTree root old → level_of old leaf ≡ 0
    → ((q : ℕ) → IsPageOfTree old root.page q → q ≢ leaf → page_bytes new q ≡ page_bytes old q) → level_of new root.page ≡ level_of old root.page
    → IsPageOfTree old root.page x → IsPageOfTree new root.page x
tree_stays_taken root old new leaf x sound bottom kept level u =
    subst (λ (n : ℕ). IsUnder n new x root.page) (sym level)
    (inner_stays root old new leaf x bottom (IsPageOfTree old root.page) kept (level_of old root.page) root.page 0 key_end (λ q v. v) sound.2 u)
