-- Leaves under one parent that are joined.
use Rattle.std.proofs.Common.{◌≡◌, ◌≢◌, ℕ, suc, ◌≤◌, true, false, nat_lt, inl, inr, List, [], ◌∷◌, ◌++◌, length, refl, sym, ◌∙◌, ap, subst, arith}
use Rattle.std.proofs.lemmas.Bool.Decides.{leb_tells}
use Rattle.std.proofs.lemmas.List.{append-nil}
use Rattle.btree_laws.proofs.Apart.{child_facts, entries_tile, sub_below, sub_of, subs_apart}
use Rattle.btree_laws.proofs.Entries.{next_low-right, right_given, right_under}
use Rattle.btree_laws.proofs.Removing.{removed-left, removed-right}
use Rattle.btree_laws.proofs.Splitting.{child_under}
use Rattle.btree_laws.proofs.Ways.{child_given}
use Rattle.btree_laws.specs.Descent.{child_for}
use Rattle.btree_laws.specs.Frames.{below_kept, tree_kept}
use Rattle.btree_laws.specs.Removals.{IsLeafWith, right_of, without_last, without_right}
use Rattle.btree_laws.specs.Sound.{AreBelow, AreSound, IsTree}
use Rattle.btree_laws.specs.declared.root.Root.{Root}
use Rattle.btree_laws.specs.Tree.{IsUnder, IsUnderSome, next_low, pairs_under, pieces_with}
use Rattle.index_pages.proofs.Kept.{given_kept}
use Rattle.index_pages.proofs.PageFacts.{length-page_pairs}
use Rattle.index_pages.proofs.Rising.{rise_from_less, rise_to_more}
use Rattle.index_pages.proofs.Tiling.{joined_rises}
use Rattle.index_pages.specs.Keys.{key_end}
use Rattle.index_pages.specs.Page.{page_pairs, count_of}
use Rattle.index_pages.specs.Pieces.{joined}
use Rattle.index_pages.specs.Ways.{Keeps}
use Rattle.page_store.specs.Pairs.{Pair, Rise, removed}
use Rattle.record_slots.specs.Places.{page_bytes, AreGiven, next_page}

-- what leaves that are joined do to the entries of their parent
pub record Joins (root : Root) (old new : List ℕ) (key : ℕ) (es es' : List Pair) (high : ℕ) : Type 0 where
  pub sound : AreSound (IsTree root 0 new) es' high
  pub pairs : joined (pieces_with (pairs_under 0 new) es') ≡ removed (joined (pieces_with (pairs_under 0 old) es)) key
  pub rises : (low : ℕ) → Rise low key_end es → Rise low key_end es'

-- a leaf that has taken the pairs of another, to its right
taken_leaf : (root : Root) (old new : List ℕ) → Keeps old new → (c r low mid high : ℕ) → IsLeafWith new c (page_pairs old r) → r ≢ root.page → low ≤ mid → IsTree root 0 old r mid high → IsTree root 0 new c low high
taken_leaf root old new keeps c r low mid high is other le t =
    let count : count_of new c ≡ count_of old r = sym (length-page_pairs new c) ∙ ap (λ (ps : List Pair). length ps) is.pairs_are ∙ length-page_pairs old r in
    let some : 1 ≤ count_of old r = t.0.some other in (
      record {
        kind = is.kind;
        level = is.level;
        link = is.link;
        most = omega (arith, t.0.most);
        some = λ away. omega arith;
        rises = subst (λ (ps : List Pair). Rise low high ps) (sym is.pairs_are) (rise_from_less mid low high (page_pairs old r) le t.0.rises);
      },
      subst (λ (ps : List Pair). AreGiven new root.table ps) (sym is.pairs_are) (given_kept old new keeps root.table (page_pairs old r) t.1),
    )

-- a leaf whose range grows to the right
wide_leaf : (root : Root) (bytes : List ℕ) (q low mid high : ℕ) → mid ≤ high → IsTree root 0 bytes q low mid → IsTree root 0 bytes q low high
wide_leaf root bytes q low mid high le t = (
  record {
    kind = t.0.kind;
    level = t.0.level;
    link = t.0.link;
    most = t.0.most;
    some = t.0.some;
    rises = rise_to_more low mid high (page_pairs bytes q) le t.0.rises;
  },
  t.1,
)

module _ (root : Root) (old new : List ℕ) (keeps : Keeps old new) (c key : ℕ) (alone : removed (page_pairs old c) key ≡ []) where
  -- the key's child takes the pairs of the page to its right
  module _ (r : ℕ) (is_leaf : IsLeafWith new c (page_pairs old r)) where
    pub joins_right : (es : List Pair) (high : ℕ) → c ≡ child_for es key → r ≡ right_of es key → right_of es key ≢ 0 → AreBelow root.page (next_page old) es → AreSound (IsTree root 0 old) es high
        → ((x : ℕ) → IsUnderSome (IsUnder 0 old x) es → x ≢ c → x ≢ r → page_bytes new x ≡ page_bytes old x)
        → Joins root old new key es (without_right es key) high
    joins_right [] high is at some are sound kept = absurd (some refl)
    joins_right (e ∷ []) high is at some are sound kept = absurd (some refl)
    joins_right (e ∷ f ∷ es) high is at some are sound kept =
        elim (leb_tells (suc key) f.0) [
          | inl h ↦
              let b : nat_lt key f.0 ≡ true = h.0 in
              let is' : c ≡ e.1 = is ∙ (rw b refl) in
              let at' : r ≡ f.1 = at ∙ (rw b refl) in
              let here = child_facts root 0 old e.1 e.0 f.0 are.0.1 sound.0 in
              let other : r ≢ root.page = λ z. are.2.0.1 (sym at' ∙ z) in
              let sub : IsTree root 0 old r f.0 (next_low es high) = subst (λ (x : ℕ). IsTree root 0 old x f.0 (next_low es high)) (sym at') sound.1.0 in
              let leaf : IsTree root 0 new e.1 e.0 (next_low es high) =
              subst (λ (x : ℕ). IsTree root 0 new x e.0 (next_low es high)) is' (taken_leaf root old new keeps c r e.0 f.0 (next_low es high) is_leaf other (omega (arith, here.1)) sub) in
              let rest = below_kept root old new keeps 0 (tree_kept root old new keeps 0) es high sound.1.1
              (λ x u. kept x (inr (inr u))
              (λ same.
              let v : IsUnder 0 old x e.1 = same ∙ is' in
              subs_apart root old x 0 0 e.0 f.0 f.0 high (λ z. are.0.1 (sym (same ∙ is') ∙ z)) (omega arith) (sub_of root 0 old x e.1 e.0 f.0 sound.0 v)
              (sub_below root 0 old x (sub_of root 0 old x) (f ∷ es) high are.2 sound.1 (inr u)))
              (λ same.
              let v : IsUnder 0 old x f.1 = same ∙ at' in
              subs_apart root old x 0 0 f.0 (next_low es high) (next_low es high) high (λ z. other (sym same ∙ z)) (omega arith) (sub_of root 0 old x f.1 f.0 (next_low es high) sound.1.0 v)
              (sub_below root 0 old x (sub_of root 0 old x) es high are.2.2 sound.1.1 u))) in
              let tile = entries_tile root 0 old (f ∷ es) high are.2 sound.1 in
              let gone : removed (page_pairs old e.1 ++ joined (pieces_with (pairs_under 0 old) (f ∷ es))) key ≡ joined (pieces_with (pairs_under 0 old) (f ∷ es)) =
              removed-left f.0 high key (page_pairs old e.1) (joined (pieces_with (pairs_under 0 old) (f ∷ es))) (joined_rises f.0 high (pieces_with (pairs_under 0 old) (f ∷ es)) tile) h.1
              ∙ ap (λ (ps : List Pair). ps ++ joined (pieces_with (pairs_under 0 old) (f ∷ es))) (subst (λ (x : ℕ). removed (page_pairs old x) key ≡ []) is' alone) in
              let takes : page_pairs new e.1 ≡ page_pairs old f.1 = ap (page_pairs new) (sym is') ∙ is_leaf.pairs_are ∙ ap (page_pairs old) at' in
              record {
                sound = rw b (leaf, rest.0);
                pairs = rw b (ap (λ (ps : List Pair). ps ++ joined (pieces_with (pairs_under 0 new) es)) takes
                    ∙ ap (λ (ps : List Pair). page_pairs old f.1 ++ ps) rest.1 ∙ sym gone);
                rises = λ low r. rw b (r.0, rise_from_less (suc f.0) (suc e.0) key_end es (omega (arith, r.1.0)) r.1.1);
              }
          | inr h ↦
              let b : nat_lt key f.0 ≡ false = h.0 in
              let is' : c ≡ child_for (f ∷ es) key = is ∙ (rw b refl) in
              let at_is : right_of (e ∷ f ∷ es) key ≡ right_of (f ∷ es) key = rw b refl in
              let at' : r ≡ right_of (f ∷ es) key = at ∙ at_is in
              let some' : right_of (f ∷ es) key ≢ 0 = λ none. some (at_is ∙ none) in
              let here = child_facts root 0 old e.1 e.0 f.0 are.0.1 sound.0 in
              let c_in = child_under 0 old (f ∷ es) key (omega arith) in
              let r_in = right_under 0 old (f ∷ es) key some' in
              let c_two = child_given root old (f ∷ es) key (omega arith) are.2 in
              let r_two = right_given root old (f ∷ es) key some' are.2 in
              let first = tree_kept root old new keeps 0 e.1 e.0 f.0 sound.0
              (λ x u. kept x (inl u)
              (λ same.
              let v : IsUnderSome (IsUnder 0 old x) (f ∷ es) = subst (λ (y : ℕ). IsUnderSome (IsUnder 0 old y) (f ∷ es)) (sym (same ∙ is')) c_in in
              subs_apart root old x 0 0 e.0 f.0 f.0 high (λ z. c_two.0.1 (sym (same ∙ is') ∙ z)) (omega arith) (sub_of root 0 old x e.1 e.0 f.0 sound.0 u)
              (sub_below root 0 old x (sub_of root 0 old x) (f ∷ es) high are.2 sound.1 v))
              (λ same.
              let v : IsUnderSome (IsUnder 0 old x) (f ∷ es) = subst (λ (y : ℕ). IsUnderSome (IsUnder 0 old y) (f ∷ es)) (sym (same ∙ at')) r_in in
              subs_apart root old x 0 0 e.0 f.0 f.0 high (λ z. r_two.0.1 (sym (same ∙ at') ∙ z)) (omega arith) (sub_of root 0 old x e.1 e.0 f.0 sound.0 u)
              (sub_below root 0 old x (sub_of root 0 old x) (f ∷ es) high are.2 sound.1 v))) in
              let rest = joins_right (f ∷ es) high is' at' some' are.2 sound.1 (λ x u other other'. kept x (inr u) other other') in
              record {
                sound = rw b (subst (λ (x : ℕ). IsTree root 0 new e.1 e.0 x) (sym (next_low-right (f ∷ es) key high)) first.0, rest.sound);
                pairs = rw b (ap (λ (ps : List Pair). ps ++ joined (pieces_with (pairs_under 0 new) (without_right (f ∷ es) key))) first.1
                    ∙ ap (λ (ps : List Pair). page_pairs old e.1 ++ ps) rest.pairs
                    ∙ sym (removed-right e.0 f.0 key (page_pairs old e.1) (joined (pieces_with (pairs_under 0 old) (f ∷ es))) here.0 (omega (arith, h.1))));
                rises = λ low r. rw b (r.0, rest.rises (suc e.0) r.1);
              }
        ]

  -- an entry before that of the key's child
  first_stays : (e f : Pair) (es : List Pair) (high : ℕ) → c ≡ child_for (f ∷ es) key → AreBelow root.page (next_page old) (e ∷ f ∷ es) → AreSound (IsTree root 0 old) (e ∷ f ∷ es) high
      → ((x : ℕ) → IsUnderSome (IsUnder 0 old x) (e ∷ f ∷ es) → x ≢ c → page_bytes new x ≡ page_bytes old x)
      → IsTree root 0 new e.1 e.0 f.0 × (pairs_under 0 new e.1 ≡ pairs_under 0 old e.1)
  first_stays e f es high is are sound kept =
      let c_in = child_under 0 old (f ∷ es) key (omega arith) in
      let c_two = child_given root old (f ∷ es) key (omega arith) are.2 in
      tree_kept root old new keeps 0 e.1 e.0 f.0 sound.0
      (λ x u. kept x (inl u)
      (λ same.
      let v : IsUnderSome (IsUnder 0 old x) (f ∷ es) = subst (λ (y : ℕ). IsUnderSome (IsUnder 0 old y) (f ∷ es)) (sym (same ∙ is)) c_in in
      subs_apart root old x 0 0 e.0 f.0 f.0 high (λ z. c_two.0.1 (sym (same ∙ is) ∙ z)) (omega arith) (sub_of root 0 old x e.1 e.0 f.0 sound.0 u)
      (sub_below root 0 old x (sub_of root 0 old x) (f ∷ es) high are.2 sound.1 v)))

  split_first : (e f : Pair) (es : List Pair) (high : ℕ) → f.0 ≤ key → AreBelow root.page (next_page old) (e ∷ f ∷ es) → AreSound (IsTree root 0 old) (e ∷ f ∷ es) high
      → removed (page_pairs old e.1 ++ joined (pieces_with (pairs_under 0 old) (f ∷ es))) key ≡ page_pairs old e.1 ++ removed (joined (pieces_with (pairs_under 0 old) (f ∷ es))) key
  split_first e f es high le are sound =
      let here = child_facts root 0 old e.1 e.0 f.0 are.0.1 sound.0 in
      removed-right e.0 f.0 key (page_pairs old e.1) (joined (pieces_with (pairs_under 0 old) (f ∷ es))) here.0 le

  last_two : (e f : Pair) (high : ℕ) → c ≡ f.1 → f.0 ≤ key → AreBelow root.page (next_page old) (e ∷ f ∷ []) → AreSound (IsTree root 0 old) (e ∷ f ∷ []) high
      → ((x : ℕ) → IsUnderSome (IsUnder 0 old x) (e ∷ f ∷ []) → x ≢ c → page_bytes new x ≡ page_bytes old x)
      → Joins root old new key (e ∷ f ∷ []) (e ∷ []) high
  last_two e f high is le are sound kept =
      let first = first_stays e f [] high is are sound kept in
      let there = child_facts root 0 old f.1 f.0 high are.2.0.1 sound.1.0 in
      let gone : removed (page_pairs old f.1 ++ []) key ≡ [] =
      ap (λ (ps : List Pair). removed ps key) (append-nil (page_pairs old f.1)) ∙ subst (λ (x : ℕ). removed (page_pairs old x) key ≡ []) is alone in
      record {
        sound = (wide_leaf root new e.1 e.0 f.0 high (omega (arith, there.1)) first.0, tt);
        pairs = ap (λ (ps : List Pair). ps ++ []) first.1 ∙ ap (λ (ps : List Pair). page_pairs old e.1 ++ ps) (sym gone) ∙ sym (split_first e f [] high le are sound);
        rises = λ low r. (r.0, omega (arith, r.1.0, r.1.1));
      }

  -- the key's child is the last, and is named no more
  pub joins_left : (es : List Pair) (high : ℕ) → c ≡ child_for es key → right_of es key ≡ 0 → 2 ≤ length es → AreBelow root.page (next_page old) es → AreSound (IsTree root 0 old) es high
      → ((x : ℕ) → IsUnderSome (IsUnder 0 old x) es → x ≢ c → page_bytes new x ≡ page_bytes old x)
      → Joins root old new key es (without_last es) high
  joins_left [] high is at some are sound kept = absurd (omega arith)
  joins_left (e ∷ []) high is at some are sound kept = absurd (omega arith)
  joins_left (e ∷ f ∷ []) high is at some are sound kept =
      elim (leb_tells (suc key) f.0) [
        | inl h ↦
            let b : nat_lt key f.0 ≡ true = h.0 in
            let here : right_of (e ∷ f ∷ []) key ≡ f.1 = rw b refl in
            absurd (omega (arith, here, at, are.2.0.0))
        | inr h ↦
            let b : nat_lt key f.0 ≡ false = h.0 in
            last_two e f high (is ∙ (rw b refl)) (omega (arith, h.1)) are sound kept
      ]
  joins_left (e ∷ f ∷ g ∷ es) high is at some are sound kept =
      elim (leb_tells (suc key) f.0) [
        | inl h ↦
            let b : nat_lt key f.0 ≡ true = h.0 in
            let here : right_of (e ∷ f ∷ g ∷ es) key ≡ f.1 = rw b refl in
            absurd (omega (arith, here, at, are.2.0.0))
        | inr h ↦
            let b : nat_lt key f.0 ≡ false = h.0 in
            let is' : c ≡ child_for (f ∷ g ∷ es) key = is ∙ (rw b refl) in
            let at_is : right_of (e ∷ f ∷ g ∷ es) key ≡ right_of (f ∷ g ∷ es) key = rw b refl in
            let at' : right_of (f ∷ g ∷ es) key ≡ 0 = sym at_is ∙ at in
            let first = first_stays e f (g ∷ es) high is' are sound kept in
            let rest = joins_left (f ∷ g ∷ es) high is' at' (omega arith) are.2 sound.1 (λ x u other. kept x (inr u) other) in
            record {
              sound = (first.0, rest.sound);
              pairs = ap (λ (ps : List Pair). ps ++ joined (pieces_with (pairs_under 0 new) (without_last (f ∷ g ∷ es)))) first.1
                  ∙ ap (λ (ps : List Pair). page_pairs old e.1 ++ ps) rest.pairs ∙ sym (split_first e f (g ∷ es) high (omega (arith, h.1)) are sound);
              rises = λ low r. (r.0, rest.rises (suc e.0) r.1);
            }
      ]
