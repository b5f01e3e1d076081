-- An insertion on its way down.
use Rattle.std.proofs.Common.{◌≡◌, ℕ, zero, suc, ◌+◌, ◌-◌, ◌<◌, ◌≤◌, true, false, nat_lt, List, [], ◌∷◌, length, refl, sym, ◌∙◌, ap, subst, arith}
use Rattle.std.specs.Prelude.{if◌then◌else◌}
use Rattle.std.proofs.lemmas.Bool.Decides.{nat_tests}
use Rattle.eaw_face.specs.StoreView.{StoreView}
use Rattle.record_slots.specs.Places.{next_page, first_slot_page, page_due, used_pages}
use Rattle.page_store.specs.Index.{Action}
use Rattle.page_store.specs.Inserts.{ActionFits, LackPages}
use Rattle.page_store.specs.Pairs.{Pair}
use Rattle.index_pages.specs.Page.{page_pairs, level_of, count_of}
use Rattle.index_pages.specs.Ways.{above}
use Rattle.index_pages.proofs.PageFacts.{length-page_pairs}
use Rattle.btree_laws.specs.Descent.{child_for}
use Rattle.btree_laws.specs.declared.root.Root.{Root}
use Rattle.btree_laws.proofs.Ways.{page_for_last}
use Rattle.btree_pages.specs.Index.{cutting, growing, actions_below, tree_actions}
use Rattle.index_pages.specs.Actions.{adding, half_for}
use Rattle.btree_pages.specs.OnWay.{IsOnWay, IsReached}
use Rattle.index_pages.proofs.Left.{DecidesAll, all_left, one_done, pages_lack}

-- The data now has this page on the key's way, with this level and these pairs. What is left to do from there on decides, with all pages,
-- how all that was to do ends. Few new pages are taken.
pub record Walks (store : StoreView) (root : Root) (t pages key left : ℕ) (all : List Action) (most : ℕ) (now : List ℕ) (page level : ℕ) (pairs : List Pair) : Type 0 where
  pub d : ℕ
  pub way : IsOnWay root now key d page level pairs
  pub decides : DecidesAll store t left all (pages - used_pages now) (actions_below level now page page 0 key)
  pub few : next_page now + level ≤ most

above_suc : (d m : ℕ) → above d (suc m) ≡ above (suc d) m
above_suc zero m = refl
above_suc (suc d) m = ap suc (above_suc d m)

-- it begins at a page with room
pub walk_first : (store : StoreView) (root : Root) (t pages key most : ℕ) (now : List ℕ) (page level : ℕ) (pairs : List Pair) → IsReached root now key page level pairs → next_page now + level ≤ most
    → Walks store root t pages key (pages - used_pages now) (actions_below level now page page 0 key) most now page level pairs
walk_first store root t pages key most now page level pairs reached few = record {
  d = reached.0;
  way = reached.1;
  decides = all_left store t (pages - used_pages now) (actions_below level now page page 0 key);
  few = few;
}

step_to : (m : ℕ) (now : List ℕ) (page child key : ℕ) → child ≡ child_for (page_pairs now page) key → actions_below (suc m) now page page 0 key
    ≡ (if nat_lt (count_of now child) 30 then actions_below m now child child 0 key
    else cutting child (page_due now 0) page ∷ actions_below m now child (half_for (page_pairs now child) child (page_due now 0) key) 1 key)
step_to m now page child key is =
    ap (λ (c : ℕ). if nat_lt (count_of now c) 30 then actions_below m now c c 0 key
    else cutting c (page_due now 0) page ∷ actions_below m now c (half_for (page_pairs now c) c (page_due now 0) key) 1 key) (sym is)

-- what is left from a page on, if the child that comes next has room, and if it has none
pub rest_room : (m : ℕ) (now : List ℕ) (page child key : ℕ) → child ≡ child_for (page_pairs now page) key → count_of now child < 30 → actions_below (suc m) now page page 0 key ≡ actions_below m now child child 0 key
rest_room m now page child key is room = (let b : nat_lt (count_of now child) 30 ≡ true = grind (arith, nat_tests) in step_to m now page child key is ∙ (rw b refl))

pub rest_full : (m : ℕ) (now : List ℕ) (page child key : ℕ) → child ≡ child_for (page_pairs now page) key → 30 ≤ count_of now child
    → actions_below (suc m) now page page 0 key ≡ cutting child (page_due now 0) page ∷ actions_below m now child (half_for (page_pairs now child) child (page_due now 0) key) 1 key
rest_full m now page child key is full = (let b : nat_lt (count_of now child) 30 ≡ false = grind (arith, nat_tests) in step_to m now page child key is ∙ (rw b refl))

module _ (store : StoreView) (root : Root) (t pages key left : ℕ) (all : List Action) (most : ℕ) (now : List ℕ) (page m : ℕ) (pairs : List Pair) (w : Walks store root t pages key left all most now page (suc m) pairs)
    (child : ℕ) (child_is : child ≡ child_for pairs key) where
  child_there : child ≡ child_for (page_pairs now page) key
  child_there = child_is ∙ ap (λ (ps : List Pair). child_for ps key) w.way.pairs_are

  -- the child is on the way
  pub child_way : (below : List Pair) → below ≡ page_pairs now child → IsOnWay root now key (suc w.d) child m below
  child_way below are = record {
    page_is = child_there ∙ ap (λ (q : ℕ). child_for (page_pairs now q) key) w.way.page_is ∙ sym (page_for_last w.d now root.page key);
    level_is = w.way.level_is ∙ above_suc w.d m;
    pairs_are = are;
  }

  -- a child with room is the next page on the way
  pub walk_down : (below : List Pair) → below ≡ page_pairs now child → length below < 30 → Walks store root t pages key left all most now child m below
  walk_down below are room =
      let count : count_of now child < 30 = omega (arith, room, ap (λ (ps : List Pair). length ps) are, length-page_pairs now child) in
      let b : nat_lt (count_of now child) 30 ≡ true = grind (arith, nat_tests) in
      let is : actions_below (suc m) now page page 0 key ≡ actions_below m now child child 0 key = step_to m now page child key child_there ∙ (rw b refl) in
      record {
        d = suc w.d;
        way = child_way below are;
        decides = subst (λ (l : List Action). DecidesAll store t left all (pages - used_pages now) l) is w.decides;
        few = omega (arith, w.few);
      }

  module _ (full : 30 ≤ count_of now child) where
    rest : List Action
    rest = actions_below m now child (half_for (page_pairs now child) child (page_due now 0) key) 1 key

    -- a child without room is to be split
    pub walk_due : DecidesAll store t left all (pages - used_pages now) (cutting child (page_due now 0) page ∷ actions_below m now child (half_for (page_pairs now child) child (page_due now 0) key) 1 key)
    walk_due =
        let b : nat_lt (count_of now child) 30 ≡ false = grind (arith, nat_tests) in
        let is : actions_below (suc m) now page page 0 key ≡ cutting child (page_due now 0) page ∷ actions_below m now child (half_for (page_pairs now child) child (page_due now 0) key) 1 key
        = step_to m now page child key child_there ∙ (rw b refl) in
        subst (λ (l : List Action). DecidesAll store t left all (pages - used_pages now) l) is w.decides

    -- after the split, the half that has the key is the next page on the way
    pub walk_cut : (new : List ℕ) (half : ℕ) (below : List Pair) → half ≡ half_for (page_pairs now child) child (page_due now 0) key
        → ActionFits store t (pages - used_pages now) (cutting child (page_due now 0) page) → used_pages new ≡ used_pages now + 1 → next_page new ≤ next_page now + 1 → IsOnWay root new key (suc w.d) half m below
        → actions_below m new half half 0 key ≡ actions_below m now child half 1 key
        → Walks store root t pages key left all most new half m below
    walk_cut new half below is fits used next way same =
        let done = one_done store t left all (pages - used_pages now) (cutting child (page_due now 0) page)
        (actions_below m now child (half_for (page_pairs now child) child (page_due now 0) key) 1 key) walk_due fits in
        let on : actions_below m now child (half_for (page_pairs now child) child (page_due now 0) key) 1 key ≡ actions_below m new half half 0 key =
        ap (λ (x : ℕ). actions_below m now child x 1 key) (sym is) ∙ sym same in
        let fewer : pages - used_pages now - 1 ≡ pages - used_pages new = omega (arith, used) in
        record {
          d = suc w.d;
          way = way;
          decides = subst (λ (n : ℕ). DecidesAll store t left all n (actions_below m new half half 0 key)) fewer
              (subst (λ (l : List Action). DecidesAll store t left all (pages - used_pages now - 1) l) on done);
          few = omega (arith, w.few, next);
        }

-- at the leaf the pair is added, and then nothing is left
pub walk_last : (store : StoreView) (root : Root) (t pages key left : ℕ) (all : List Action) (most : ℕ) (now : List ℕ) (page : ℕ) (pairs : List Pair) → Walks store root t pages key left all most now page 0 pairs
    → DecidesAll store t left all (pages - used_pages now) (adding now page ∷ [])
walk_last store root t pages key left all most now page pairs w = w.decides

-- the insertion begins at a root with room
pub root_first : (root key : ℕ) (old : List ℕ) → count_of old root < 30 → actions_below (level_of old root) old root root 0 key ≡ tree_actions old root key
root_first root key old room = (let b : nat_lt (count_of old root) 30 ≡ true = grind (arith, nat_tests) in rw b refl)

-- a root without room is split first
pub root_split : (root key : ℕ) (old : List ℕ) → 30 ≤ count_of old root → tree_actions old root key
    ≡ growing old root ∷ actions_below (level_of old root) old root (half_for (page_pairs old root) (page_due old 0) (page_due old 1) key) 2 key
root_split root key old full = (let b : nat_lt (count_of old root) 30 ≡ false = grind (arith, nat_tests) in rw b refl)

module _ (store : StoreView) (t pages root key : ℕ) (old : List ℕ) (full : 30 ≤ count_of old root) where
  -- a root without room is split
  pub grow_due : DecidesAll store t (pages - used_pages old) (tree_actions old root key) (pages - used_pages old) (growing old root
      ∷ actions_below (level_of old root) old root (half_for (page_pairs old root) (page_due old 0) (page_due old 1) key) 2 key)
  grow_due =
      let b : nat_lt (count_of old root) 30 ≡ false = grind (arith, nat_tests) in
      let is : tree_actions old root key ≡ growing old root ∷ actions_below (level_of old root) old root (half_for (page_pairs old root) (page_due old 0) (page_due old 1) key) 2 key = (rw b refl) in
      subst (λ (l : List Action). DecidesAll store t (pages - used_pages old) (tree_actions old root key) (pages - used_pages old) l) is (all_left store t (pages - used_pages old) (tree_actions old root key))

  -- below level 7 that takes two pages
  pub growing_takes : level_of old root < 7 → (growing old root).takes ≡ 2
  growing_takes low = (let b : nat_lt (level_of old root) 7 ≡ true = grind (arith, nat_tests) in rw b refl)

  -- what is left after the root was split
  pub grown_decides : (new : List ℕ) (half level : ℕ) → level_of old root ≡ level → level < 7 → half ≡ half_for (page_pairs old root) (page_due old 0) (page_due old 1) key
      → ActionFits store t (pages - used_pages old) (growing old root) → used_pages new ≡ used_pages old + 2
      → actions_below level new half half 0 key ≡ actions_below level old root half 2 key
      → DecidesAll store t (pages - used_pages old) (tree_actions old root key) (pages - used_pages new) (actions_below level new half half 0 key)
  grown_decides new half level level_is low is fits used same =
      let takes = growing_takes (omega (arith, level_is, low)) in
      let done = one_done store t (pages - used_pages old) (tree_actions old root key) (pages - used_pages old) (growing old root)
      (actions_below (level_of old root) old root (half_for (page_pairs old root) (page_due old 0) (page_due old 1) key) 2 key) grow_due fits in
      let on : actions_below (level_of old root) old root (half_for (page_pairs old root) (page_due old 0) (page_due old 1) key) 2 key ≡ actions_below level new half half 0 key =
      ap (λ (x : ℕ). actions_below (level_of old root) old root x 2 key) (sym is) ∙ ap (λ (n : ℕ). actions_below n old root half 2 key) level_is ∙ sym same in
      let fewer : pages - used_pages old - (growing old root).takes ≡ pages - used_pages new = omega (arith, used, takes) in
      subst (λ (n : ℕ). DecidesAll store t (pages - used_pages old) (tree_actions old root key) n (actions_below level new half half 0 key)) fewer
      (subst (λ (l : List Action). DecidesAll store t (pages - used_pages old) (tree_actions old root key) (pages - used_pages old - (growing old root).takes) l) on done)

  -- too few pages are left for it
  pub growing_lacks : pages - used_pages old < (growing old root).takes → LackPages store t (pages - used_pages old) (tree_actions old root key)
  growing_lacks few =
      pages_lack store t (pages - used_pages old) (tree_actions old root key) (pages - used_pages old) (growing old root)
      (actions_below (level_of old root) old root (half_for (page_pairs old root) (page_due old 0) (page_due old 1) key) 2 key) grow_due few

  -- a root of level 7 cannot be split, however many pages there are
  pub growing_stops : 7 ≤ level_of old root → (growing old root).takes ≡ first_slot_page old
  growing_stops high = (let b : nat_lt (level_of old root) 7 ≡ false = grind (arith, nat_tests) in rw b refl)
