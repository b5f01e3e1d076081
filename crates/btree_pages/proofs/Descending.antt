-- The way down to the leaf of a key, and what comes after that leaf.
use Rattle.std.proofs.Common.{◌≡◌, ◌≢◌, ℕ, zero, suc, ◌+◌, ◌<◌, ◌≤◌, true, false, nat_lt, inl, inr, List, [], ◌∷◌, ◌++◌, length, Option, Some, None, refl, sym, ◌∙◌, ap, subst, arith}
use Rattle.std.proofs.lemmas.Bool.Decides.{nat_tests, leb_tells}
use Rattle.std.proofs.lemmas.List.{append-nil}
use Rattle.std.specs.Option.{option_or}
use Rattle.std.specs.Prelude.{IfSome}
use Rattle.record_slots.specs.Places.{page_bytes, next_page}
use Rattle.page_store.specs.Pairs.{Pair, found, next}
use Rattle.index_pages.specs.Keys.{or_else, head, key_end}
use Rattle.index_pages.specs.Page.{page_pairs, level_of}
use Rattle.index_pages.specs.Pieces.{joined}
use Rattle.index_pages.proofs.PageFacts.{length-page_pairs}
use Rattle.index_pages.proofs.Rising.{next-append, next-head, next-right}
use Rattle.index_pages.proofs.Tiling.{tile_bounds, joined_rises}
use Rattle.index_pages.proofs.Turns.{next_least, next_below}
use Rattle.btree_laws.proofs.Apart.{child_facts, entries_tile, start_of, tree_some}
use Rattle.btree_laws.proofs.Ways.{child_given, found_on_way, page_for_last}
use Rattle.btree_laws.specs.Descent.{child_for, leaf_for, page_for}
use Rattle.btree_laws.specs.Sound.{AreBelow, AreSound, IsSoundTree, IsTree}
use Rattle.btree_laws.specs.Tree.{next_low, pairs_of_tree, pairs_under, pieces_with}
use Rattle.btree_laws.specs.TreeFacts.{tree_level}
use Rattle.btree_pages.specs.Leaf.{AtLeaf, IsBegin, behind_in, bound_in, from_bound}
use Rattle.btree_pages.specs.Node.{IsNode}
use Rattle.btree_laws.specs.declared.root.Root.{Root}

-- the entries after that of a key's child, whose range ends at their bound, and the pairs under them
abbrev pub Behind : Root → ℕ → List ℕ → List Pair → ℕ → ℕ → ℕ → ℕ → Option ℕ → Type 0
Behind root l bytes es high c from to None =
    (to ≡ high) × ((k : ℕ) → from ≤ k → k < to → next (joined (pieces_with (pairs_under l bytes) es)) k ≡ next (pairs_under l bytes c) k)
Behind root l bytes es high c from to (Some b) =
    (to ≡ b) × (b < high) × (child_for es b ≢ root.page) × ((end : ℕ) × IsTree root l bytes (child_for es b) b end)
    × ((p : Pair) × (next (joined (pieces_with (pairs_under l bytes) es)) b ≡ Some p)
    × ((k : ℕ) → from ≤ k → k < to → next (joined (pieces_with (pairs_under l bytes) es)) k ≡ or_else (next (pairs_under l bytes c) k) (Some p)))

-- the key's child among these entries
pub record Child (root : Root) (l : ℕ) (bytes : List ℕ) (es : List Pair) (high key : ℕ) : Type 0 where
  pub from : ℕ
  pub to : ℕ
  pub tree : IsTree root l bytes (child_for es key) from to
  pub above : next_low es high ≤ from
  pub below : to ≤ high
  pub from_key : from ≤ key
  pub key_to : key < to
  pub same : (k : ℕ) → from ≤ k → k < to → child_for es k ≡ child_for es key
  pub behind : Behind root l bytes es high (child_for es key) from to (bound_in es key)

-- a list that is not empty has a first element
head_some : (ps : List Pair) → 1 ≤ length ps → (p : Pair) × (head ps ≡ Some p)
head_some [] some = absurd (omega arith)
head_some (p ∷ ps) some = (p, refl)

head_append : (p : Pair) (xs ys : List Pair) → head xs ≡ Some p → head (xs ++ ys) ≡ Some p
head_append p [] ys is = absurd (cc)
head_append p (x ∷ xs) ys is = is

-- the first entry has the child for its own low key
first_child : (e : Pair) (es : List Pair) (high : ℕ) → e.0 < next_low es high → child_for (e ∷ es) e.0 ≡ e.1
first_child e [] high lt = refl
first_child e (f ∷ es) high lt = let b : nat_lt e.0 f.0 ≡ true = grind (arith, nat_tests) in rw b refl

pub child_step : (root : Root) (l : ℕ) (bytes : List ℕ) (es : List Pair) (high key : ℕ) → 1 ≤ length es → AreBelow root.page (next_page bytes) es → AreSound (IsTree root l bytes) es high → next_low es high ≤ key → key < high → Child root l bytes es high key
child_step root l bytes [] high key some are sound le lt = absurd (omega arith)
child_step root l bytes (e ∷ []) high key some are sound le lt = record {
  from = e.0;
  to = high;
  tree = sound.0;
  above = omega arith;
  below = omega arith;
  from_key = le;
  key_to = lt;
  same = λ k a b. refl;
  behind = (refl, λ k a b. ap (λ (ps : List Pair). next ps k) (append-nil (pairs_under l bytes e.1)));
}
child_step root l bytes (e ∷ f ∷ es) high key some are sound le lt =
    let here = child_facts root l bytes e.1 e.0 f.0 are.0.1 sound.0 in
    let there = child_facts root l bytes f.1 f.0 (next_low es high) are.2.0.1 sound.1.0 in
    let tile = entries_tile root l bytes (f ∷ es) high are.2 sound.1 in
    let rest = joined_rises f.0 high (pieces_with (pairs_under l bytes) (f ∷ es)) tile in
    let tail = tile_bounds (next_low es high) high (pieces_with (pairs_under l bytes) es) (entries_tile root l bytes es high are.2.2 sound.1.1) in
    let a : List Pair = pairs_under l bytes e.1 in
    let j : List Pair = joined (pieces_with (pairs_under l bytes) (f ∷ es)) in
    elim (leb_tells (suc key) f.0) [
      | inl h ↦
          let b : nat_lt key f.0 ≡ true = h.0 in
          let first = head_some (pairs_under l bytes f.1) (tree_some root l bytes f.1 f.0 (next_low es high) sound.1.0 are.2.0.1) in
          let p : Pair = first.0 in
          let is : head (joined (pieces_with (pairs_under l bytes) (f ∷ es))) ≡ Some first.0 = head_append first.0 (pairs_under l bytes f.1) (joined (pieces_with (pairs_under l bytes) es)) first.1 in
          let b' : nat_lt f.0 f.0 ≡ false = grind (arith, nat_tests) in
          let c : child_for (e ∷ f ∷ es) f.0 ≡ f.1 = (rw b' (first_child f es high there.1)) in
          let key_child : child_for (e ∷ f ∷ es) key ≡ e.1 = (rw b refl) in
          let behind : Behind root l bytes (e ∷ f ∷ es) high e.1 e.0 f.0 (Some f.0) = (
            refl,
            omega (arith, there.1, tail),
            subst (λ (x : ℕ). x ≢ root.page) (sym c) are.2.0.1,
            (next_low es high, subst (λ (x : ℕ). IsTree root l bytes x f.0 (next_low es high)) (sym c) sound.1.0),
            (
              first.0,
              next-right e.0 f.0 f.0 (pairs_under l bytes e.1) (joined (pieces_with (pairs_under l bytes) (f ∷ es))) here.0 (omega arith)
                  ∙ next-head f.0 high f.0 (joined (pieces_with (pairs_under l bytes) (f ∷ es))) rest (omega arith) ∙ is,
              λ k from to.
                  next-append k (pairs_under l bytes e.1) (joined (pieces_with (pairs_under l bytes) (f ∷ es)))
                  ∙ ap (λ (o : Option Pair). or_else (next (pairs_under l bytes e.1) k) o)
                  (next-head f.0 high k (joined (pieces_with (pairs_under l bytes) (f ∷ es))) rest (omega (arith, to)) ∙ is),
            ),
          ) in
          let bound : bound_in (e ∷ f ∷ es) key ≡ Some f.0 = (rw b refl) in
          record {
            from = e.0;
            to = f.0;
            tree = subst (λ (x : ℕ). IsTree root l bytes x e.0 f.0) (sym key_child) sound.0;
            above = omega arith;
            below = omega (arith, there.1, tail);
            from_key = le;
            key_to = h.1;
            same = λ k from to. let bk : nat_lt k f.0 ≡ true = grind (arith, nat_tests) in let is' : child_for (e ∷ f ∷ es) k ≡ e.1 = (rw bk refl) in is' ∙ sym key_child;
            behind = subst (λ (o : Option ℕ). Behind root l bytes (e ∷ f ∷ es) high (child_for (e ∷ f ∷ es) key) e.0 f.0 o) (sym bound)
                (subst (λ (x : ℕ). Behind root l bytes (e ∷ f ∷ es) high x e.0 f.0 (Some f.0)) (sym key_child) behind);
          }
      | inr h ↦
          let b : nat_lt key f.0 ≡ false = h.0 in
          let r = child_step root l bytes (f ∷ es) high key (omega arith) are.2 sound.1 (omega (arith, h.1)) lt in
          let key_child : child_for (e ∷ f ∷ es) key ≡ child_for (f ∷ es) key = (rw b refl) in
          let bound : bound_in (e ∷ f ∷ es) key ≡ bound_in (f ∷ es) key = (rw b refl) in
          let low : f.0 ≤ r.from = omega (arith, r.above) in
          let next_is : (k : ℕ) → r.from ≤ k → next (a ++ j) k ≡ next j k = λ k from. next-right e.0 f.0 k (pairs_under l bytes e.1) (joined (pieces_with (pairs_under l bytes) (f ∷ es))) here.0 (omega (arith, from, low)) in
          record {
            from = r.from;
            to = r.to;
            tree = subst (λ (x : ℕ). IsTree root l bytes x r.from r.to) (sym key_child) r.tree;
            above = omega (arith, here.1, low);
            below = r.below;
            from_key = r.from_key;
            key_to = r.key_to;
            same = λ k from to.
                let bk : nat_lt k f.0 ≡ false = grind (arith, nat_tests) in
                let is' : child_for (e ∷ f ∷ es) k ≡ child_for (f ∷ es) k = (rw bk refl) in is' ∙ r.same k from to ∙ sym key_child;
            behind = subst (λ (o : Option ℕ). Behind root l bytes (e ∷ f ∷ es) high (child_for (e ∷ f ∷ es) key) r.from r.to o) (sym bound)
                (subst (λ (x : ℕ). Behind root l bytes (e ∷ f ∷ es) high x r.from r.to (bound_in (f ∷ es) key)) (sym key_child)
                (wider (child_for (f ∷ es) key) (bound_in (f ∷ es) key) r.from r.to f.0 (omega (arith, r.from_key, r.key_to)) low next_is r.behind));
          }
    ]
  where
    wider : (c : ℕ) (o : Option ℕ) (from to f0 : ℕ) → from < to → f.0 ≤ from → ((k : ℕ) → from ≤ k → next (joined (pieces_with (pairs_under l bytes) (e ∷ f ∷ es))) k ≡ next (joined (pieces_with (pairs_under l bytes) (f ∷ es))) k)
        → Behind root l bytes (f ∷ es) high c from to o → Behind root l bytes (e ∷ f ∷ es) high c from to o
    wider c None from to f0 wide low next_is b = (b.0, λ k from' to'. next_is k from' ∙ b.1 k from' to')
    wider c (Some x) from to f0 wide low next_is b =
        let bx : nat_lt x f.0 ≡ false = grind (arith, nat_tests, b.0, wide, low) in
        let c : child_for (e ∷ f ∷ es) x ≡ child_for (f ∷ es) x = (rw bx refl) in (
          b.0,
          b.1,
          subst (λ (y : ℕ). y ≢ root.page) (sym c) b.2,
          (b.3.0, subst (λ (y : ℕ). IsTree root l bytes y x b.3.0) (sym c) b.3.1),
          (b.4.0, next_is x (omega (arith, b.0, wide)) ∙ b.4.1, λ k from' to'. next_is k from' ∙ b.4.2 k from' to'),
        )

-- the entry behind that of a key's child has its own low key's child
behind_child : (root : Root) (l : ℕ) (bytes : List ℕ) (es : List Pair) (high key : ℕ) → AreBelow root.page (next_page bytes) es → AreSound (IsTree root l bytes) es high → (f : Pair) → behind_in es key ≡ Some f
    → (child_for es f.0 ≡ f.1) × (next_low es high ≤ f.0) × (f.0 < high) × (f.1 < next_page bytes)
behind_child root l bytes [] high key are sound f is = absurd (cc)
behind_child root l bytes (e ∷ []) high key are sound f is = absurd (cc)
behind_child root l bytes (e ∷ g ∷ es) high key are sound f is =
    let here = child_facts root l bytes e.1 e.0 g.0 are.0.1 sound.0 in
    let there = child_facts root l bytes g.1 g.0 (next_low es high) are.2.0.1 sound.1.0 in
    let tail = tile_bounds (next_low es high) high (pieces_with (pairs_under l bytes) es) (entries_tile root l bytes es high are.2.2 sound.1.1) in
    elim (leb_tells (suc key) g.0) [
      | inl h ↦
          let b : nat_lt key g.0 ≡ true = h.0 in
          let same : g ≡ f = (let found : Some g ≡ Some f = (rw b at is) in cc) in
          let own : nat_lt g.0 g.0 ≡ false = grind (arith, nat_tests) in
          let child : child_for (e ∷ g ∷ es) g.0 ≡ g.1 = (rw own (first_child g es high there.1)) in
          subst (λ (p : Pair). (child_for (e ∷ g ∷ es) p.0 ≡ p.1) × (e.0 ≤ p.0) × (p.0 < high) × (p.1 < next_page bytes)) same (child, omega (arith, here.1), omega (arith, there.1, tail), are.2.1)
      | inr h ↦
          let b : nat_lt key g.0 ≡ false = h.0 in
          let rest : behind_in (g ∷ es) key ≡ Some f = (rw b at is) in
          let r = behind_child root l bytes (g ∷ es) high key are.2 sound.1 f rest in
          let low : g.0 ≤ f.0 = r.1 in
          let later : nat_lt f.0 g.0 ≡ false = grind (arith, nat_tests, low) in
          let child : child_for (e ∷ g ∷ es) f.0 ≡ f.1 = (rw later r.0) in
          (child, omega (arith, here.1, low), r.2, r.3)
    ]

-- the way to the lower bound of a page ends at a leaf that begins there
first_begins : (root : Root) (m : ℕ) (bytes : List ℕ) → ((q low high : ℕ) → q ≢ root.page → IsTree root m bytes q low high → next (page_pairs bytes (page_for m bytes q low)) low ≢ None)
    → (es : List Pair) (low high : ℕ) → 1 ≤ length es → next_low es high ≡ low → AreBelow root.page (next_page bytes) es → AreSound (IsTree root m bytes) es high → next (page_pairs bytes (page_for m bytes (child_for es low) low)) low ≢ None
first_begins root m bytes ih [] low high some start are sound none = absurd (omega arith)
first_begins root m bytes ih (e ∷ es) low high some start are sound none =
    let wide = child_facts root m bytes e.1 e.0 (next_low es high) are.0.1 sound.0 in
    let c : child_for (e ∷ es) low ≡ e.1 = ap (λ (k : ℕ). child_for (e ∷ es) k) (sym start) ∙ first_child e es high wide.1 in
    ih e.1 low (next_low es high) are.0.1 (subst (λ (k : ℕ). IsTree root m bytes e.1 k (next_low es high)) start sound.0)
    (ap (λ (x : ℕ). next (page_pairs bytes (page_for m bytes x low)) low) (sym c) ∙ none)

leaf_begins : (root : Root) (m : ℕ) (bytes : List ℕ) (q low high : ℕ) → q ≢ root.page → IsTree root m bytes q low high → next (page_pairs bytes (page_for m bytes q low)) low ≢ None
leaf_begins root zero bytes q low high other t = λ none.
    let first = head_some (page_pairs bytes q) (omega (arith, t.0.some other, length-page_pairs bytes q)) in
    let e : next (page_pairs bytes q) low ≡ Some first.0 = next-head low high low (page_pairs bytes q) t.0.rises (omega arith) ∙ first.1 in
    absurd (cc)
leaf_begins root (suc m) bytes q low high other t =
    let some : 1 ≤ length (page_pairs bytes q) = omega (arith, t.0.some, length-page_pairs bytes q) in
    first_begins root m bytes (leaf_begins root m bytes) (page_pairs bytes q) low high some (start_of low high (page_pairs bytes q) some t.0.first) t.0.children t.1

-- one level further down on a key's way
page_on : (d : ℕ) (bytes : List ℕ) (root key page : ℕ) → page_for d bytes root key ≡ page → page_for (d + 1) bytes root key ≡ child_for (page_pairs bytes page) key
page_on d bytes root key page is =
    ap (λ (n : ℕ). page_for n bytes root key) (let e : d + 1 ≡ suc d = omega arith in e) ∙ page_for_last d bytes root key ∙ ap (λ (p : ℕ). child_for (page_pairs bytes p) key) is

-- after so many steps down, this page decides for all keys in its range, of which the key is one
pub record Down (root : Root) (bytes : List ℕ) (key steps page : ℕ) (bound : Option ℕ) : Type 0 where
  pub m : ℕ
  pub low : ℕ
  pub high : ℕ
  pub tree : IsTree root m bytes page low high
  pub from : low ≤ key
  pub to : key < high
  pub left : m + steps ≤ 7
  pub inside : page < next_page bytes
  pub depth : m + steps ≡ level_of bytes root.page
  pub path : (k : ℕ) → low ≤ k → k < high → page_for steps bytes root.page k ≡ page
  pub way : (k : ℕ) → low ≤ k → k < high → leaf_for bytes root.page k ≡ page_for m bytes page k
  pub finds : (k : ℕ) → low ≤ k → k < high → found (pairs_of_tree bytes root.page) k ≡ found (pairs_under m bytes page) k
  pub nexts : (k : ℕ) → low ≤ k → k < high → next (pairs_of_tree bytes root.page) k ≡ or_else (next (pairs_under m bytes page) k) (from_bound root bytes bound)
  pub begins : IsBegin root bytes bound

or_none : (o : Option Pair) → or_else o None ≡ o
or_none None = refl
or_none (Some p) = refl

or_or : (o : Option Pair) (p : Pair) (rest : Option Pair) → or_else (or_else o (Some p)) rest ≡ or_else o (Some p)
or_or None p rest = refl
or_or (Some q) p rest = refl

pub down_first : (root : Root) (bytes : List ℕ) (key : ℕ) → IsSoundTree root bytes → key < key_end → Down root bytes key 0 root.page None
unfolding pairs_of_tree
down_first root bytes key sound lt = record {
  m = level_of bytes root.page;
  low = 0;
  high = key_end;
  tree = sound.2;
  from = omega arith;
  to = lt;
  left = omega (arith, sound.1);
  inside = sound.0.1;
  depth = omega arith;
  path = λ k a b. refl;
  way = λ k a b. refl;
  finds = λ k a b. refl;
  nexts = λ k a b. sym (or_none (next (pairs_under (level_of bytes root.page) bytes root.page) k));
  begins = tt;
}

-- one step down, to the key's child
module _ (root : Root) (m : ℕ) (bytes : List ℕ) (key steps page low high : ℕ) (bound : Option ℕ) (t : IsTree root (suc m) bytes page low high) (from : low ≤ key) (to : key < high) (left : suc m + steps ≤ 7)
    (depth : suc m + steps ≡ level_of bytes root.page) (path : (k : ℕ) → low ≤ k → k < high → page_for steps bytes root.page k ≡ page)
    (way : (k : ℕ) → low ≤ k → k < high → leaf_for bytes root.page k ≡ page_for (suc m) bytes page k)
    (finds : (k : ℕ) → low ≤ k → k < high → found (pairs_of_tree bytes root.page) k ≡ found (pairs_under (suc m) bytes page) k)
    (nexts : (k : ℕ) → low ≤ k → k < high → next (pairs_of_tree bytes root.page) k ≡ or_else (next (pairs_under (suc m) bytes page) k) (from_bound root bytes bound))
    (begins : IsBegin root bytes bound) where
  pub behind_step : (child : Child root m bytes (page_pairs bytes page) high key) → low ≤ child.from → (o : Option ℕ) → Behind root m bytes (page_pairs bytes page) high (child_for (page_pairs bytes page) key) child.from child.to o
      → ((k : ℕ) → child.from ≤ k → k < child.to → next (pairs_of_tree bytes root.page) k ≡ or_else (next (pairs_under m bytes (child_for (page_pairs bytes page) key)) k) (from_bound root bytes (option_or o bound)))
      × IsBegin root bytes (option_or o bound)
  behind_step child above None b = (
    λ k a z. nexts k (omega (arith, a, above)) (omega (arith, z, child.below)) ∙ ap (λ (x : Option Pair). or_else x (from_bound root bytes bound)) (b.1 k a z),
    begins,
  )
  behind_step child above (Some x) b =
      let x_low : low ≤ x = omega (arith, above, child.from_key, child.key_to, b.0) in
      let first : next (pairs_of_tree bytes root.page) x ≡ Some b.4.0 = nexts x x_low b.1 ∙ ap (λ (o : Option Pair). or_else o (from_bound root bytes bound)) b.4.1 in (
        λ k a z.
            nexts k (omega (arith, a, above)) (omega (arith, z, child.below)) ∙ ap (λ (o : Option Pair). or_else o (from_bound root bytes bound)) (b.4.2 k a z)
            ∙ or_or (next (pairs_under m bytes (child_for (page_pairs bytes page) key)) k) b.4.0 (from_bound root bytes bound)
            ∙ ap (λ (o : Option Pair). or_else (next (pairs_under m bytes (child_for (page_pairs bytes page) key)) k) o) (sym first),
        λ none. leaf_begins root m bytes (child_for (page_pairs bytes page) x) x b.3.0 b.2 b.3.1 (ap (λ (q : ℕ). next (page_pairs bytes q) x) (sym (way x x_low b.1)) ∙ none),
      )

  pub step_down : Down root bytes key (steps + 1) (child_for (page_pairs bytes page) key) (option_or (bound_in (page_pairs bytes page) key) bound)
  step_down =
      let some : 1 ≤ length (page_pairs bytes page) = omega (arith, t.0.some, length-page_pairs bytes page) in
      let start = start_of low high (page_pairs bytes page) some t.0.first in
      let child = child_step root m bytes (page_pairs bytes page) high key some t.0.children t.1 (omega arith) to in
      let above : low ≤ child.from = omega (arith, child.above, start) in
      let b = behind_step child above (bound_in (page_pairs bytes page) key) child.behind in
      record {
        m = m;
        low = child.from;
        high = child.to;
        tree = child.tree;
        from = child.from_key;
        to = child.key_to;
        left = omega arith;
        inside = (child_given root bytes (page_pairs bytes page) key some t.0.children).1;
        depth = omega (arith, depth);
        path = λ k a z. page_on steps bytes root.page k page (path k (omega (arith, a, above)) (omega (arith, z, child.below))) ∙ child.same k a z;
        way = λ k a z. way k (omega (arith, a, above)) (omega (arith, z, child.below)) ∙ ap (λ (q : ℕ). page_for m bytes q k) (child.same k a z);
        finds = λ k a z.
            finds k (omega (arith, a, above)) (omega (arith, z, child.below)) ∙ found_on_way root 1 m bytes k page low high t (omega (arith, a, above)) (omega (arith, z, child.below))
            ∙ ap (λ (q : ℕ). found (pairs_under m bytes q) k) (child.same k a z);
        nexts = b.0;
        begins = b.1;
      }

-- of two bounds above a key the one that counts is above it
pub or_above : (a b : Option ℕ) (key : ℕ) → IfSome a (λ x. key < x) → IfSome b (λ x. key < x) → IfSome (option_or a b) (λ x. key < x)
or_above None b key first second = second
or_above (Some x) b key first second = first

-- the level of the page says whether it is a leaf
down_level : (root : Root) (bytes : List ℕ) (key steps page : ℕ) (bound : Option ℕ) → (d : Down root bytes key steps page bound) → level_of bytes page ≡ d.m
down_level root bytes key steps page bound d = tree_level root d.m bytes page d.low d.high d.tree

on : (root : Root) (m : ℕ) (bytes : List ℕ) (key steps page : ℕ) (bound : Option ℕ) (d : Down root bytes key steps page bound) → d.m ≡ m → 1 ≤ m → Down root bytes key (steps + 1) (child_for (page_pairs bytes page) key) (option_or (bound_in (page_pairs bytes page) key) bound)
on root zero bytes key steps page bound d is some = absurd (omega arith)
on root (suc m) bytes key steps page bound d is some =
    step_down root m bytes key steps page d.low d.high bound (subst (λ (n : ℕ). IsTree root n bytes page d.low d.high) is d.tree) d.from d.to (omega (arith, d.left, is)) (omega (arith, d.depth, is)) d.path
    (subst (λ (n : ℕ). (k : ℕ) → d.low ≤ k → k < d.high → leaf_for bytes root.page k ≡ page_for n bytes page k) is d.way)
    (subst (λ (n : ℕ). (k : ℕ) → d.low ≤ k → k < d.high → found (pairs_of_tree bytes root.page) k ≡ found (pairs_under n bytes page) k) is d.finds)
    (subst (λ (n : ℕ). (k : ℕ) → d.low ≤ k → k < d.high → next (pairs_of_tree bytes root.page) k ≡ or_else (next (pairs_under n bytes page) k) (from_bound root bytes bound)) is d.nexts)
    d.begins

pub down_step : (root : Root) (bytes : List ℕ) (key steps page : ℕ) (bound : Option ℕ) → Down root bytes key steps page bound → level_of bytes page ≢ 0
    → Down root bytes key (steps + 1) (child_for (page_pairs bytes page) key) (option_or (bound_in (page_pairs bytes page) key) bound)
down_step root bytes key steps page bound d inner = on root d.m bytes key steps page bound d refl (omega (arith, inner, down_level root bytes key steps page bound d))

pub node_of : (root : Root) (m : ℕ) (bytes : List ℕ) (page low high : ℕ) → m ≤ 7 → IsTree root m bytes page low high → IsNode (page_bytes bytes page)
node_of root zero bytes page low high most t = record { form = inl (t.0.kind, t.0.level); link = t.0.link; most = t.0.most }
node_of root (suc m) bytes page low high most t = record {
  form = inr (t.0.kind, omega (arith, t.0.level_is), omega (arith, t.0.level_is), t.0.some);
  link = t.0.link;
  most = t.0.most;
}

pub down_node : (root : Root) (bytes : List ℕ) (key steps page : ℕ) (bound : Option ℕ) → Down root bytes key steps page bound → IsNode (page_bytes bytes page)
down_node root bytes key steps page bound d = node_of root d.m bytes page d.low d.high (omega (arith, d.left)) d.tree

pub down_most : (root : Root) (bytes : List ℕ) (key steps page : ℕ) (bound : Option ℕ) → Down root bytes key steps page bound → steps ≤ 7
down_most root bytes key steps page bound d = omega (arith, d.left)

last : (root : Root) (m : ℕ) (bytes : List ℕ) (key steps page : ℕ) (bound : Option ℕ) (d : Down root bytes key steps page bound) → d.m ≡ m → m ≡ 0 → AtLeaf root bytes key bound (page_bytes bytes page)
last root (suc m) bytes key steps page bound d is none = absurd (omega arith)
last root zero bytes key steps page bound d is none =
    let leaf : IsTree root 0 bytes page d.low d.high = subst (λ (n : ℕ). IsTree root n bytes page d.low d.high) is d.tree in
    record {
      pairs = ap (λ (q : ℕ). page_pairs bytes q) (sym (d.way key d.from d.to ∙ ap (λ (n : ℕ). page_for n bytes page key) is));
      given = leaf.1;
      found_is = d.finds key d.from d.to ∙ ap (λ (n : ℕ). found (pairs_under n bytes page) key) is;
      next_is = d.nexts key d.from d.to ∙ ap (λ (n : ℕ). or_else (next (pairs_under n bytes page) key) (from_bound root bytes bound)) is;
      begins = d.begins;
      rises = (d.low, d.high, leaf.0.rises);
      later = λ k p above there.
          let lt : k < d.high = omega (arith, next_least (page_pairs bytes page) k p there, next_below d.low d.high (page_pairs bytes page) k p leaf.0.rises there) in
          d.nexts k (omega (arith, above, d.from)) lt ∙ ap (λ (n : ℕ). or_else (next (pairs_under n bytes page) k) (from_bound root bytes bound)) is
          ∙ ap (λ (o : Option Pair). or_else o (from_bound root bytes bound)) there;
    }

pub down_last : (root : Root) (bytes : List ℕ) (key steps page : ℕ) (bound : Option ℕ) → Down root bytes key steps page bound → level_of bytes page ≡ 0 → AtLeaf root bytes key bound (page_bytes bytes page)
down_last root bytes key steps page bound d leaf = last root d.m bytes key steps page bound d refl (sym (down_level root bytes key steps page bound d) ∙ leaf)

-- the page that so many levels of the way of a key lead to
pub down_at : (d : ℕ) (root : Root) (bytes : List ℕ) (key : ℕ) → IsSoundTree root bytes → key < key_end → d ≤ level_of bytes root.page → (bound : Option ℕ) × Down root bytes key d (page_for d bytes root.page key) bound
down_at zero root bytes key sound lt le = (None, down_first root bytes key sound lt)
down_at (suc d) root bytes key sound lt le =
    let r = down_at d root bytes key sound lt (omega arith) in
    let page : ℕ = page_for d bytes root.page key in
    let inner : level_of bytes (page_for d bytes root.page key) ≢ 0 = λ none. absurd (omega (arith, none, le, r.1.depth, down_level root bytes key d (page_for d bytes root.page key) r.0 r.1)) in
    let one = down_step root bytes key d (page_for d bytes root.page key) r.0 r.1 inner in (
      option_or (bound_in (page_pairs bytes (page_for d bytes root.page key)) key) r.0,
      subst (λ (p : ℕ). Down root bytes key (suc d) p (option_or (bound_in (page_pairs bytes (page_for d bytes root.page key)) key) r.0)) (sym (page_for_last d bytes root.page key))
          (subst (λ (n : ℕ). Down root bytes key n (child_for (page_pairs bytes (page_for d bytes root.page key)) key) (option_or (bound_in (page_pairs bytes (page_for d bytes root.page key)) key) r.0)) (let e : d + 1 ≡ suc d = omega arith in e) one),
    )

-- the child of the entry behind is on the way of the entry's low key
behind : (root : Root) (m : ℕ) (bytes : List ℕ) (key steps page : ℕ) (bound : Option ℕ) (d : Down root bytes key steps page bound) → d.m ≡ m → 1 ≤ m → (f : Pair) → behind_in (page_pairs bytes page) key ≡ Some f
    → (f.1 ≡ page_for (steps + 1) bytes root.page f.0) × (steps + 1 ≤ level_of bytes root.page) × (f.1 < next_page bytes)
behind root zero bytes key steps page bound d is some f there = absurd (omega arith)
behind root (suc m) bytes key steps page bound d is some f there =
    let t : IsTree root (suc m) bytes page d.low d.high = subst (λ (n : ℕ). IsTree root n bytes page d.low d.high) is d.tree in
    let many : 1 ≤ length (page_pairs bytes page) = omega (arith, t.0.some, length-page_pairs bytes page) in
    let start = start_of d.low d.high (page_pairs bytes page) many t.0.first in
    let child = behind_child root m bytes (page_pairs bytes page) d.high key t.0.children t.1 f there in (
      sym (page_on steps bytes root.page f.0 page (d.path f.0 (omega (arith, start, child.1)) child.2) ∙ child.0),
      omega (arith, d.depth, is),
      child.3,
    )

pub down_behind : (root : Root) (bytes : List ℕ) (key steps page : ℕ) (bound : Option ℕ) → Down root bytes key steps page bound → level_of bytes page ≢ 0 → (f : Pair) → behind_in (page_pairs bytes page) key ≡ Some f
    → (f.1 ≡ page_for (steps + 1) bytes root.page f.0) × (steps + 1 ≤ level_of bytes root.page) × (f.1 < next_page bytes)
down_behind root bytes key steps page bound d inner f there = behind root d.m bytes key steps page bound d refl (omega (arith, inner, down_level root bytes key steps page bound d)) f there
