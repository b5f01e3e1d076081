-- What splits do to a tree.
use Rattle.std.proofs.Common.{◌≡◌, ◌≢◌, ℕ, zero, suc, ◌<◌, ◌≤◌, true, false, nat_lt, inl, inr, List, [], ◌∷◌, ◌++◌, length, take, drop, refl, sym, ◌∙◌, ap, subst, arith, append_assoc}
use Rattle.std.proofs.lemmas.Bool.Decides.{leb_tells}
use Rattle.std.proofs.lemmas.List.{append-nil, take-append-drop, length-drop, length-take-le}
use Rattle.btree_laws.proofs.Apart.{entries_tile, start_of, sub_below, sub_of, subs_apart}
use Rattle.btree_laws.proofs.Ways.{graft, way_of, way_under}
use Rattle.btree_laws.specs.Changes.{IsCut, IsHalf, SplitsChild, SplitsRoot, middle, with_entry}
use Rattle.btree_laws.specs.Descent.{child_for, page_for}
use Rattle.btree_laws.specs.Frames.{below_kept, children_kept, tree_kept}
use Rattle.btree_laws.specs.Sound.{AreBelow, AreSound, IsSoundTree, IsTree, IsUpper}
use Rattle.btree_laws.specs.declared.root.Root.{Root}
use Rattle.btree_laws.specs.Tree.{IsPageOfTree, IsUnder, IsUnderSome, next_low, pairs_of_tree, pairs_under, pieces_with}
use Rattle.btree_laws.specs.TreeFacts.{length-pieces, tile_wide, tree_level}
use Rattle.index_pages.proofs.Given.{same_local}
use Rattle.index_pages.proofs.Kept.{given_kept}
use Rattle.index_pages.proofs.PageFacts.{length-page_pairs}
use Rattle.index_pages.proofs.Rising.{rise_to_more, take_rises, drop_rises, key_at-bounds}
use Rattle.index_pages.specs.Keys.{key_at, key_end}
use Rattle.index_pages.specs.Page.{page_pairs, level_of, count_of}
use Rattle.index_pages.specs.Pieces.{joined}
use Rattle.index_pages.specs.Ways.{above, Keeps, IsOwn}
use Rattle.page_store.specs.Pairs.{Pair, Rise}
use Rattle.record_slots.specs.Places.{page_bytes, AreGiven, next_page}
use Rattle.index_pages.proofs.Halves.{given_take, joined_two}

children_take : (root : Root) (bytes : List ℕ) (n : ℕ) (es : List Pair) → AreBelow root.page (next_page bytes) es → AreBelow root.page (next_page bytes) (take n es) × AreBelow root.page (next_page bytes) (drop n es)
children_take root bytes zero es g = (tt, g)
children_take root bytes (suc n) [] g = (tt, tt)
children_take root bytes (suc n) (p ∷ ps) g = let h = children_take root bytes n ps g.2 in ((g.0, g.1, h.0), h.1)

next_low-take : (n high : ℕ) (es : List Pair) → n < length es → next_low (take n es) (key_at es n) ≡ next_low es high
next_low-take n high [] lt = absurd (omega arith)
next_low-take zero high (e ∷ es) lt = refl
next_low-take (suc n) high (e ∷ es) lt = refl

sound_take : (Is : ℕ → ℕ → ℕ → Type 0) (n high : ℕ) (es : List Pair) → n < length es → AreSound Is es high → AreSound Is (take n es) (key_at es n) × AreSound Is (drop n es) high
sound_take Is n high [] lt s = absurd (omega arith)
sound_take Is zero high (e ∷ es) lt s = (tt, s)
sound_take Is (suc n) high (e ∷ es) lt s =
    let h = sound_take Is n high es (omega arith) s.1 in
    ((subst (λ (x : ℕ). Is e.1 e.0 x) (sym (next_low-take n high es (omega arith))) s.0, h.0), h.1)

joined_take : (f : ℕ → List Pair) (n : ℕ) (es : List Pair) → joined (pieces_with f (take n es)) ++ joined (pieces_with f (drop n es)) ≡ joined (pieces_with f es)
joined_take f zero es = refl
joined_take f (suc n) [] = refl
joined_take f (suc n) (e ∷ es) = append_assoc (f e.1) (joined (pieces_with f (take n es))) (joined (pieces_with f (drop n es))) ∙ ap (λ (l : List Pair). f e.1 ++ l) (joined_take f n es)

next_low-drop : (n high : ℕ) (es : List Pair) → n < length es → next_low (drop n es) high ≡ key_at es n
next_low-drop n high [] lt = absurd (omega arith)
next_low-drop zero high (e ∷ es) lt = refl
next_low-drop (suc n) high (e ∷ es) lt = next_low-drop n high es (omega arith)

next_low-first : (low high : ℕ) (es : List Pair) → next_low es high ≡ low → 1 ≤ length es → next_low es low ≡ low
next_low-first low high [] e some = refl
next_low-first low high (x ∷ es) e some = e

-- the two halves of a page
pub record AreHalves (root : Root) (new : List ℕ) (l left right low mid high : ℕ) (pairs : List Pair) : Type 0 where
  pub left_tree : IsTree root l new left low mid
  pub right_tree : IsTree root l new right mid high
  pub pairs_are : pairs_under l new left ++ pairs_under l new right ≡ pairs
  pub above : low < mid
  pub below : mid < high

pub leaf_half : (root : Root) (old new : List ℕ) (whole half : ℕ) (ps : List Pair) → IsHalf old new whole half ps → (low high low' high' : ℕ) → IsTree root 0 old whole low' high'
    → 1 ≤ length ps → length ps ≤ 30 → Rise low high ps → AreGiven new root.table ps → IsTree root 0 new half low high
leaf_half root old new whole half ps is low high low' high' t one short r g =
    let count : count_of new half ≡ length ps = sym (length-page_pairs new half) ∙ ap (λ (l : List Pair). length l) is.pairs_are in (
      record {
        kind = is.kind ∙ t.0.kind;
        level = is.level ∙ t.0.level;
        link = is.link;
        most = omega arith;
        some = λ other. omega arith;
        rises = subst (λ (l : List Pair). Rise low high l) (sym is.pairs_are) r;
      },
      (subst (λ (l : List Pair). AreGiven new root.table l) (sym is.pairs_are) g),
    )

pub inner_half : (root : Root) (old new : List ℕ) (whole half : ℕ) (ps : List Pair) → IsHalf old new whole half ps → (level low low' : ℕ) → IsUpper root.page old level whole low'
    → 1 ≤ length ps → length ps ≤ 30 → next_low ps low ≡ low → Rise low key_end ps → AreBelow root.page (next_page new) ps → IsUpper root.page new level half low
inner_half root old new whole half ps is level low low' t one short first r are =
    let count : count_of new half ≡ length ps = sym (length-page_pairs new half) ∙ ap (λ (l : List Pair). length l) is.pairs_are in
    record {
      kind = is.kind ∙ t.kind;
      level_is = is.level ∙ t.level_is;
      link = is.link;
      some = omega arith;
      most = omega arith;
      first = subst (λ (l : List Pair). next_low l low ≡ low) (sym is.pairs_are) first;
      rises = subst (λ (l : List Pair). Rise low key_end l) (sym is.pairs_are) r;
      children = subst (λ (l : List Pair). AreBelow root.page (next_page new) l) (sym is.pairs_are) are;
    }

-- a page that was split, with the pages below it as they were
pub halves : (root : Root) (old new : List ℕ) → Keeps old new → (l whole left right place low high : ℕ) → IsTree root l old whole low high → IsCut old new whole left right place
    → ((x : ℕ) → IsUnder l old x whole → x ≢ whole → page_bytes new x ≡ page_bytes old x)
    → AreHalves root new l left right low (middle old whole place) high (pairs_under l old whole)
halves root old new keeps zero whole left right place low high t cut kept =
    let full = cut.full in
    let first = cut.some in
    let less = cut.less in
    let long = length-take-le place (page_pairs old whole) (omega arith) in
    let long' = length-drop place (page_pairs old whole) in
    let ps : List Pair = page_pairs old whole in
    let b = key_at-bounds place low high (page_pairs old whole) (omega arith) t.0.rises in
    let g = given_take new root.table place (page_pairs old whole) (given_kept old new keeps root.table (page_pairs old whole) (t.1)) in
    record {
      left_tree = leaf_half root old new whole left (take place (page_pairs old whole)) cut.left_is low (middle old whole place) low high t (omega arith) (omega arith)
          (take_rises place low high (page_pairs old whole) (omega arith) t.0.rises) g.0;
      right_tree = leaf_half root old new whole right (drop place (page_pairs old whole)) cut.right_is (middle old whole place) high low high t (omega arith) (omega arith)
          (drop_rises place low high (page_pairs old whole) (omega arith) t.0.rises) g.1;
      pairs_are = ap (λ (l : List Pair). l ++ page_pairs new right) cut.left_is.pairs_are ∙ ap (λ (l : List Pair). take place (page_pairs old whole) ++ l) cut.right_is.pairs_are
          ∙ take-append-drop place (page_pairs old whole);
      above = omega arith;
      below = b.1;
    }
halves root old new keeps (suc l) whole left right place low high t cut kept =
    let full = cut.full in
    let first = cut.some in
    let less = cut.less in
    let es : List Pair = page_pairs old whole in
    let f : ℕ → List Pair = pairs_under l new in
    let same = λ (x : ℕ) (u : IsUnderSome (IsUnder l old x) (page_pairs old whole)). kept x (inr u) (λ e.
    let sub = sub_below root l old x (sub_of root l old x) (page_pairs old whole) high t.0.children t.1 u in
    omega (arith, ap (λ (y : ℕ). level_of old y) e, tree_level root sub.m old x sub.from sub.to sub.tree, sub.most, t.0.level_is)) in
    let below = below_kept root old new keeps l (tree_kept root old new keeps l) (page_pairs old whole) high t.1 same in
    let s = sound_take (IsTree root l new) place high (page_pairs old whole) (omega arith) below.0 in
    let s' = sound_take (IsTree root l old) place high (page_pairs old whole) (omega arith) t.1 in
    let are = children_take root new place (page_pairs old whole) (children_kept root old new keeps (page_pairs old whole) t.0.children) in
    let are' = children_take root old place (page_pairs old whole) t.0.children in
    let b = key_at-bounds place low key_end (page_pairs old whole) (omega arith) t.0.rises in
    let start = start_of low high (page_pairs old whole) (omega arith) t.0.first in
    let start' : next_low (take place (page_pairs old whole)) (middle old whole place) ≡ low = next_low-take place high (page_pairs old whole) (omega arith) ∙ start in
    let long = length-take-le place (page_pairs old whole) (omega arith) in
    let long' = length-drop place (page_pairs old whole) in
    let tile = entries_tile root l old (drop place (page_pairs old whole)) high are'.1 s'.1 in
    let wide = tile_wide (next_low (drop place (page_pairs old whole)) high) high (pieces_with (pairs_under l old) (drop place (page_pairs old whole)))
    (omega (arith, long', length-pieces (pairs_under l old) (drop place (page_pairs old whole)))) tile in
    record {
      left_tree = (
        inner_half root old new whole left (take place (page_pairs old whole)) cut.left_is (suc l) low low t.0 (omega arith) (omega arith)
            (next_low-first low (middle old whole place) (take place (page_pairs old whole)) start' (omega arith))
            (rise_to_more low (middle old whole place) key_end (take place (page_pairs old whole)) (omega (arith, b.1)) (take_rises place low key_end (page_pairs old whole) (omega arith) t.0.rises)) are.0,
        subst (λ (ps : List Pair). AreSound (IsTree root l new) ps (middle old whole place)) (sym cut.left_is.pairs_are) s.0,
      );
      right_tree = (
        inner_half root old new whole right (drop place (page_pairs old whole)) cut.right_is (suc l) (middle old whole place) low t.0 (omega arith) (omega arith)
            (next_low-drop place (middle old whole place) (page_pairs old whole) (omega arith))
            (drop_rises place low key_end (page_pairs old whole) (omega arith) t.0.rises) are.1,
        subst (λ (ps : List Pair). AreSound (IsTree root l new) ps high) (sym cut.right_is.pairs_are) s.1,
      );
      pairs_are =
          ap (λ (ps : List Pair). joined (pieces_with f ps) ++ joined (pieces_with f (page_pairs new right))) cut.left_is.pairs_are
          ∙ ap (λ (ps : List Pair). joined (pieces_with f (take place (page_pairs old whole))) ++ joined (pieces_with f ps)) cut.right_is.pairs_are
          ∙ joined_take f place (page_pairs old whole) ∙ below.1;
      above = omega (arith, b.0);
      below = omega (arith, next_low-drop place high (page_pairs old whole) (omega arith), wide);
    }

-- one more entry
pub under_self : (l : ℕ) (bytes : List ℕ) (q : ℕ) → IsUnder l bytes q q
under_self zero bytes q = refl
under_self (suc l) bytes q = inl refl

pub next_low-with : (es : List Pair) (key low : ℕ) (p : Pair) → next_low (with_entry es key p) low ≡ next_low es low
next_low-with [] key low p = refl
next_low-with (e ∷ []) key low p = refl
next_low-with (e ∷ f ∷ es) key low p =
    elim (leb_tells (suc key) f.0) [
      | inl h ↦ let b : nat_lt key f.0 ≡ true = h.0 in rw b refl
      | inr h ↦ let b : nat_lt key f.0 ≡ false = h.0 in rw b refl
    ]

pub length-with : (es : List Pair) (key : ℕ) (p : Pair) → 1 ≤ length es → length (with_entry es key p) ≡ suc (length es)
length-with [] key p some = absurd (omega arith)
length-with (e ∷ []) key p some = refl
length-with (e ∷ f ∷ es) key p some =
    elim (leb_tells (suc key) f.0) [
      | inl h ↦ let b : nat_lt key f.0 ≡ true = h.0 in rw b refl
      | inr h ↦ let b : nat_lt key f.0 ≡ false = h.0 in rw b (ap suc (length-with (f ∷ es) key p (omega arith)))
    ]

children_with : (root : Root) (bytes : List ℕ) (es : List Pair) (key : ℕ) (p : Pair) → (2 ≤ p.1) × (p.1 ≢ root.page) → p.1 < next_page bytes → AreBelow root.page (next_page bytes) es → AreBelow root.page (next_page bytes) (with_entry es key p)
children_with root bytes [] key p two given are = tt
children_with root bytes (e ∷ []) key p two given are = (are.0, are.1, (two, given, tt))
children_with root bytes (e ∷ f ∷ es) key p two given are =
    elim (leb_tells (suc key) f.0) [
      | inl h ↦ let b : nat_lt key f.0 ≡ true = h.0 in rw b (are.0, are.1, (two, given, are.2))
      | inr h ↦ let b : nat_lt key f.0 ≡ false = h.0 in rw b (are.0, are.1, children_with root bytes (f ∷ es) key p two given are.2)
    ]

-- what a split does to the entries of the parent
pub record Splits (root : Root) (old new : List ℕ) (l key : ℕ) (entry : Pair) (es : List Pair) (high : ℕ) : Type 0 where
  pub sound : AreSound (IsTree root l new) (with_entry es key entry) high
  pub pairs : joined (pieces_with (pairs_under l new) (with_entry es key entry)) ≡ joined (pieces_with (pairs_under l old) es)
  pub rises : (low : ℕ) → Rise low key_end es → Rise low key_end (with_entry es key entry)

pub child_under : (l : ℕ) (bytes : List ℕ) (es : List Pair) (key : ℕ) → 1 ≤ length es → IsUnderSome (IsUnder l bytes (child_for es key)) es
child_under l bytes [] key some = absurd (omega arith)
child_under l bytes (e ∷ []) key some = inl (under_self l bytes e.1)
child_under l bytes (e ∷ f ∷ es) key some =
    elim (leb_tells (suc key) f.0) [
      | inl h ↦ let b : nat_lt key f.0 ≡ true = h.0 in rw b (inl (under_self l bytes e.1))
      | inr h ↦ let b : nat_lt key f.0 ≡ false = h.0 in
          let is : child_for (e ∷ f ∷ es) key ≡ child_for (f ∷ es) key = rw b refl in
          subst (λ (y : ℕ). IsUnderSome (IsUnder l bytes y) (e ∷ f ∷ es)) (sym is) (inr (child_under l bytes (f ∷ es) key (omega arith)))
    ]

child_other : (root : Root) (bytes : List ℕ) (es : List Pair) (key : ℕ) → 1 ≤ length es → AreBelow root.page (next_page bytes) es → child_for es key ≢ root.page
child_other root bytes [] key some are = absurd (omega arith)
child_other root bytes (e ∷ []) key some are = are.0.1
child_other root bytes (e ∷ f ∷ es) key some are =
    elim (leb_tells (suc key) f.0) [
      | inl h ↦ let b : nat_lt key f.0 ≡ true = h.0 in rw b are.0.1
      | inr h ↦ let b : nat_lt key f.0 ≡ false = h.0 in rw b (child_other root bytes (f ∷ es) key (omega arith) are.2)
    ]

module _ (root : Root) (old new : List ℕ) (keeps : Keeps old new) (l c right place key : ℕ) (cut : IsCut old new c c right place) where
  pub split_below : (es : List Pair) (high : ℕ) → 1 ≤ length es → high ≤ key_end → c ≡ child_for es key → AreBelow root.page (next_page old) es → AreSound (IsTree root l old) es high
      → ((x : ℕ) → IsUnderSome (IsUnder l old x) es → x ≢ c → page_bytes new x ≡ page_bytes old x)
      → Splits root old new l key (middle old c place, right) es high
  split_below [] high some small is are sound kept = absurd (omega arith)
  split_below (e ∷ []) high some small is are sound kept =
      let t = subst (λ (x : ℕ). IsTree root l old x e.0 high) (sym is) sound.0 in
      let h = halves root old new keeps l c c right place e.0 high t cut (λ x u other. kept x (inl (subst (λ (y : ℕ). IsUnder l old x y) is u)) other) in
      let e1 : pairs_under l new e.1 ++ pairs_under l new right ≡ pairs_under l old e.1 =
      subst (λ (y : ℕ). pairs_under l new y ++ pairs_under l new right ≡ pairs_under l old y) is h.pairs_are in
      record {
        sound = (subst (λ (x : ℕ). IsTree root l new x e.0 (middle old c place)) is h.left_tree, (h.right_tree, tt));
        pairs = joined_two (pairs_under l new e.1) (pairs_under l new right) [] (pairs_under l old e.1) e1;
        rises = λ low r. (r.0, (omega (arith, h.above), omega (arith, h.below)));
      }
  split_below (e ∷ f ∷ es) high some small is are sound kept =
      elim (leb_tells (suc key) f.0) [
        | inl h ↦
            let b : nat_lt key f.0 ≡ true = h.0 in
            let is' : c ≡ e.1 = is ∙ (rw b refl) in
            let t = subst (λ (x : ℕ). IsTree root l old x e.0 f.0) (sym is') sound.0 in
            let two = halves root old new keeps l c c right place e.0 f.0 t cut (λ x u other. kept x (inl (subst (λ (y : ℕ). IsUnder l old x y) is' u)) other) in
            let rest = below_kept root old new keeps l (tree_kept root old new keeps l) (f ∷ es) high sound.1
            (λ x u. kept x (inr u) (λ same.
            let v : IsUnder l old x e.1 = subst (λ (y : ℕ). IsUnder l old y e.1) (sym (same ∙ is')) (under_self l old e.1) in
            subs_apart root old x l l e.0 f.0 f.0 high (λ at. are.0.1 (sym (same ∙ is') ∙ at)) (omega arith) (sub_of root l old x e.1 e.0 f.0 sound.0 v)
            (sub_below root l old x (sub_of root l old x) (f ∷ es) high are.2 sound.1 u))) in
            let e1 : pairs_under l new e.1 ++ pairs_under l new right ≡ pairs_under l old e.1 =
            subst (λ (y : ℕ). pairs_under l new y ++ pairs_under l new right ≡ pairs_under l old y) is' two.pairs_are in
            record {
              sound = rw b (subst (λ (x : ℕ). IsTree root l new x e.0 (middle old c place)) is' two.left_tree, (two.right_tree, rest.0));
              pairs = rw b (joined_two (pairs_under l new e.1) (pairs_under l new right) (joined (pieces_with (pairs_under l new) (f ∷ es))) (pairs_under l old e.1) e1
                  ∙ ap (λ (ps : List Pair). pairs_under l old e.1 ++ ps) rest.1);
              rises = λ low r. rw b (r.0, (omega (arith, two.above), (omega (arith, two.below), r.1.1)));
            }
        | inr h ↦
            let b : nat_lt key f.0 ≡ false = h.0 in
            let is' : c ≡ child_for (f ∷ es) key = is ∙ (rw b refl) in
            let in_rest = child_under l old (f ∷ es) key (omega arith) in
            let first = tree_kept root old new keeps l e.1 e.0 f.0 sound.0
            (λ x u. kept x (inl u) (λ same.
            let v : IsUnderSome (IsUnder l old x) (f ∷ es) = subst (λ (y : ℕ). IsUnderSome (IsUnder l old y) (f ∷ es)) (sym (same ∙ is')) in_rest in
            let other : child_for (f ∷ es) key ≢ root.page = child_other root old (f ∷ es) key (omega arith) are.2 in
            subs_apart root old x l l e.0 f.0 f.0 high (λ at. other (sym (same ∙ is') ∙ at)) (omega arith) (sub_of root l old x e.1 e.0 f.0 sound.0 u)
            (sub_below root l old x (sub_of root l old x) (f ∷ es) high are.2 sound.1 v))) in
            let rest = split_below (f ∷ es) high (omega arith) small is' are.2 sound.1 (λ x u other. kept x (inr u) other) in
            record {
              sound = rw b (subst (λ (x : ℕ). IsTree root l new e.1 e.0 x) (sym (next_low-with (f ∷ es) key high (middle old c place, right))) first.0, rest.sound);
              pairs = rw b (ap (λ (ps : List Pair). ps ++ joined (pieces_with (pairs_under l new) (with_entry (f ∷ es) key (middle old c place, right)))) first.1
                  ∙ ap (λ (ps : List Pair). pairs_under l old e.1 ++ ps) rest.pairs);
              rises = λ low r. rw b (r.0, rest.rises (suc e.0) r.1);
            }
      ]

-- a parent whose child was split
pub parent_splits : (root : Root) (old new : List ℕ) → Keeps old new → (l parent key right low high : ℕ) → IsTree root (suc l) old parent low high → high ≤ key_end → SplitsChild root old new parent key right
    → ((x : ℕ) → IsUnder (suc l) old x parent → x ≢ parent → x ≢ child_for (page_pairs old parent) key → page_bytes new x ≡ page_bytes old x)
    → IsTree root (suc l) new parent low high × (pairs_under (suc l) new parent ≡ pairs_under (suc l) old parent)
parent_splits root old new keeps l parent key right low high t small splits kept =
    let some : 1 ≤ length (page_pairs old parent) = omega (arith, t.0.some, length-page_pairs old parent) in
    let c : ℕ = child_for (page_pairs old parent) key in
    let p : Pair = (middle old (child_for (page_pairs old parent) key) splits.place, right) in
    let s = split_below root old new keeps l (child_for (page_pairs old parent) key) right splits.place key splits.cut (page_pairs old parent) high some small refl t.0.children t.1
    (λ x u other. kept x (inr u) (λ e.
    let sub = sub_below root l old x (sub_of root l old x) (page_pairs old parent) high t.0.children t.1 u in
    omega (arith, ap (λ (y : ℕ). level_of old y) e, tree_level root sub.m old x sub.from sub.to sub.tree, sub.most, t.0.level_is)) other) in
    let count : count_of new parent ≡ suc (count_of old parent) =
    sym (length-page_pairs new parent) ∙ ap (λ (ps : List Pair). length ps) splits.pairs ∙ length-with (page_pairs old parent) key p some ∙ ap suc (length-page_pairs old parent) in (
      (
        record {
          kind = splits.kind;
          level_is = splits.level ∙ t.0.level_is;
          link = splits.link;
          some = omega arith;
          most = omega (arith, splits.room);
          first = subst (λ (ps : List Pair). next_low ps low ≡ low) (sym splits.pairs) (next_low-with (page_pairs old parent) key low p ∙ t.0.first);
          rises = subst (λ (ps : List Pair). Rise low key_end ps) (sym splits.pairs) (s.rises low t.0.rises);
          children = subst (λ (ps : List Pair). AreBelow root.page (next_page new) ps) (sym splits.pairs)
              (children_with root new (page_pairs old parent) key p (splits.two, splits.other) splits.given (children_kept root old new keeps (page_pairs old parent) t.0.children));
        },
        subst (λ (ps : List Pair). AreSound (IsTree root l new) ps high) (sym splits.pairs) s.sound,
      ),
      ap (λ (ps : List Pair). joined (pieces_with (pairs_under l new) ps)) splits.pairs ∙ s.pairs,
    )

-- a split on a key's way keeps the tree and all its pairs
pub sound_tree_splits : (root : Root) (old new : List ℕ) (d l key right : ℕ) → IsSoundTree root old → Keeps old new → key < key_end → level_of old root.page ≡ above d (suc l)
    → SplitsChild root old new (page_for d old root.page key) key right
    → ((x : ℕ) → IsPageOfTree old root.page x → x ≢ page_for d old root.page key → x ≢ child_for (page_pairs old (page_for d old root.page key)) key → page_bytes new x ≡ page_bytes old x)
    → IsSoundTree root new × (pairs_of_tree new root.page ≡ pairs_of_tree old root.page) × (level_of new root.page ≡ level_of old root.page)
unfolding pairs_of_tree
sound_tree_splits root old new d l key right sound keeps lt e splits kept =
    let own : IsOwn old root.page = sound.0 in
    let t : IsTree root (above d (suc l)) old root.page 0 key_end = subst (λ (n : ℕ). IsTree root n old root.page 0 key_end) e sound.2 in
    let q : ℕ = page_for d old root.page key in
    let r = graft root old new keeps (λ ps. ps) key (same_local key) (suc l) (page_for d old root.page key) key_end
    (λ from to sub le' lt' small. parent_splits root old new keeps l (page_for d old root.page key) key right from to sub small splits
    (λ x u a b. kept x (subst (λ (n : ℕ). IsUnder n old x root.page) (sym e) (way_under root d (suc l) old key root.page 0 key_end x t (omega arith) lt u)) a b))
    d root.page 0 key_end t (omega arith) lt (omega arith) refl
    (λ x u out.
    let w = way_of root d (suc l) old key root.page 0 key_end t (omega arith) lt in
    kept x (subst (λ (n : ℕ). IsUnder n old x root.page) (sym e) u)
    (λ same. out (subst (λ (y : ℕ). IsUnder (suc l) old y (page_for d old root.page key)) (sym same) (under_self (suc l) old (page_for d old root.page key))))
    (λ same. out (inr (subst (λ (y : ℕ). IsUnderSome (IsUnder l old y) (page_pairs old (page_for d old root.page key))) (sym same)
    (child_under l old (page_pairs old (page_for d old root.page key)) key (omega (arith, w.tree.0.some, length-page_pairs old (page_for d old root.page key)))))))) in
    let same : level_of new root.page ≡ level_of old root.page = tree_level root (above d (suc l)) new root.page 0 key_end r.0 ∙ sym e in (
      ((own.0, omega (arith, own.1, keeps.pages)), omega (arith, sound.1, same), subst (λ (n : ℕ). IsTree root n new root.page 0 key_end) (sym (same ∙ e)) r.0),
      ap (λ (n : ℕ). pairs_under n new root.page) (same ∙ e) ∙ r.1 ∙ ap (λ (n : ℕ). pairs_under n old root.page) (sym e),
      same,
    )

-- splitting the root keeps all pairs
pub sound_tree_grows : (root : Root) (old new : List ℕ) (left right : ℕ) → IsSoundTree root old → Keeps old new → level_of old root.page < 7
    → SplitsRoot root old new left right
    → ((x : ℕ) → IsPageOfTree old root.page x → x ≢ root.page → page_bytes new x ≡ page_bytes old x)
    → IsSoundTree root new × (pairs_of_tree new root.page ≡ pairs_of_tree old root.page)
unfolding pairs_of_tree
sound_tree_grows root old new left right sound keeps less splits kept =
    let own : IsOwn old root.page = sound.0 in
    let l : ℕ = level_of old root.page in
    let h = halves root old new keeps (level_of old root.page) root.page left right splits.place 0 key_end sound.2 splits.cut
    (λ x u other. kept x u other) in
    let count : count_of new root.page ≡ 2 = sym (length-page_pairs new root.page) ∙ ap (λ (ps : List Pair). length ps) splits.pairs in
    let small = h.below in
    let wide = h.above in
    let tree : IsTree root (suc (level_of old root.page)) new root.page 0 key_end = (
      record {
        kind = splits.kind;
        level_is = splits.level;
        link = splits.link;
        some = omega arith;
        most = omega arith;
        first = subst (λ (ps : List Pair). next_low ps 0 ≡ 0) (sym splits.pairs) refl;
        rises = subst (λ (ps : List Pair). Rise 0 key_end ps) (sym splits.pairs) (omega arith, (omega arith, omega arith));
        children = subst (λ (ps : List Pair). AreBelow root.page (next_page new) ps) (sym splits.pairs) ((splits.two, splits.other), splits.left_given, ((splits.two', splits.other'), splits.right_given, tt));
      },
      subst (λ (ps : List Pair). AreSound (IsTree root (level_of old root.page) new) ps key_end) (sym splits.pairs) (h.left_tree, (h.right_tree, tt)),
    ) in (
      ((own.0, omega (arith, own.1, keeps.pages)), omega (arith, splits.level, less), subst (λ (n : ℕ). IsTree root n new root.page 0 key_end) (sym splits.level) tree),
      ap (λ (n : ℕ). pairs_under n new root.page) splits.level
          ∙ ap (λ (ps : List Pair). joined (pieces_with (pairs_under (level_of old root.page) new) ps)) splits.pairs
          ∙ joined_two (pairs_under (level_of old root.page) new left) (pairs_under (level_of old root.page) new right) [] (pairs_under (level_of old root.page) old root.page) h.pairs_are
          ∙ append-nil (pairs_under (level_of old root.page) old root.page),
    )
