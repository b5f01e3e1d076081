-- What the actions of a removal make of the data.
use Rattle.std.proofs.Common.{◌≡◌, ◌≢◌, ℕ, suc, ◌+◌, ◌-◌, ◌*◌, ◌^◌, ◌<◌, ◌≤◌, true, false, nat_eq, inl, inr, List, [], ◌∷◌, length, Option, Some, None, sym, ◌∙◌, ap, subst, arith}
use Rattle.std.specs.Prelude.{IsSome, if◌then◌else◌}
use Rattle.std.proofs.lemmas.Bool.{cases_eq, false≢true}
use Rattle.std.proofs.lemmas.Bool.Decides.{eqb_tells}
use Rattle.record_slots.specs.Places.{page_bytes, slot_of, next_slot, next_page, version_of, tables_of, free_pages, free_page_of, IsSuper}
use Rattle.page_store.specs.Index.{IsTable, HasCounts, IsFreePage}
use Rattle.page_store.specs.Pairs.{Pair, found, removed}
use Rattle.page_store.specs.Removes.{FreesSlot, FreesPage, KeepsFreePages, Shrinks}
use Rattle.index_pages.specs.Keys.{key_end}
use Rattle.index_pages.specs.Page.{page_pairs, pairs_said, kind_said, level_said, link_said, count_said, level_of, count_of}
use Rattle.index_pages.specs.Ways.{above, KeepsBut}
use Rattle.index_pages.specs.Written.{AreSmall, written_page}
use Rattle.index_pages.proofs.Carrying.{carries_on}
use Rattle.index_pages.proofs.PageFacts.{length-page_pairs}
use Rattle.index_pages.proofs.Tabled.{IsWhole, whole_counts}
use Rattle.index_pages.proofs.Taken.{FreeSlots, FreePages, due_free}
use Rattle.index_pages.proofs.Writing.{written_kind, written_level, written_link, written_pairs}
use Rattle.btree_laws.proofs.Belonging.{tree_stays_taken}
use Rattle.btree_laws.proofs.Choosing.{one_has_none}
use Rattle.btree_laws.proofs.Pages.{had_before_loss, had_before_left, had_before_right}
use Rattle.btree_laws.proofs.Places.{join_place}
use Rattle.index_pages.proofs.Removing.{found-removed, length-removed, small_removed}
use Rattle.btree_laws.proofs.Staying.{StaysLast, last_kept, leaf_kept, leaf_page, parent_page, leaf_bottom, parent_bottom, parent_level_is, stays_but_right, stays_but_left}
use Rattle.btree_laws.proofs.Ways.{sound_tree_finds}
use Rattle.btree_laws.proofs.Whole.{freed_loses, freed_joins_left, freed_joins_right}
use Rattle.btree_laws.specs.Descent.{child_for, leaf_for}
use Rattle.btree_laws.specs.Removals.{IsJoinPlace, IsLeafWith, IsParentWith, JoinsLeft, JoinsRight, Lacks, LosesPair, parent_for, right_of, without_last, without_right}
use Rattle.btree_laws.specs.Sound.{IsSoundTree}
use Rattle.btree_laws.specs.Tree.{pairs_of_tree, IsPageOfTree}
use Rattle.btree_laws.specs.TreeFacts.{sound_tree_rises, under_own}
use Rattle.btree_laws.specs.declared.root.Root.{Root}
use Rattle.btree_pages.specs.Index.{tree, tree_of, AreSoundTrees}
use Rattle.btree_pages.specs.Trees.{whole_of, table_sound}
use Rattle.btree_pages.proofs.Others.{free_apart, tables_apart}
use Rattle.btree_pages.proofs.Shrinking.{counts_of, shrinks}

-- what the super page and the lists say once a slot was given back
pub record GivenBack (old new : List ℕ) (slot : ℕ) : Type 0 where
  pub front : IsSuper 1 new
  pub tables : tables_of new ≡ tables_of old
  pub version : version_of new ≡ version_of old
  pub slots : FreeSlots new
  pub pages : FreePages new
  pub freed : FreesSlot slot old new
  pub next_slots : next_slot new ≡ next_slot old
  pub next_pages : next_page new ≡ next_page old

-- a page that is written says its pairs
pub leaf_written : (new : List ℕ) (page : ℕ) (ps : List Pair) → length ps ≤ 30 → AreSmall ps → page_bytes new page ≡ written_page 0 0 ps → IsLeafWith new page ps
leaf_written new page ps few small is = record {
  kind = ap kind_said is ∙ written_kind 0 0 ps few (omega arith);
  level = ap level_said is ∙ written_level 0 0 ps few (omega arith);
  link = ap link_said is ∙ written_link 0 0 ps few (omega arith);
  pairs_are = ap pairs_said is ∙ written_pairs 0 0 ps few (omega arith) small;
}

pub parent_written : (new : List ℕ) (page : ℕ) (es : List Pair) → length es ≤ 30 → AreSmall es → page_bytes new page ≡ written_page 1 0 es → IsParentWith new page es
parent_written new page es few small is = record {
  kind = ap kind_said is ∙ written_kind 1 0 es few (omega arith);
  level = ap level_said is ∙ written_level 1 0 es few (omega arith);
  link = ap link_said is ∙ written_link 1 0 es few (omega arith);
  entries_are = ap pairs_said is ∙ written_pairs 1 0 es few (omega arith) small;
}

-- a page that was freed is the first of the free ones
freed_is_free : (old new : List ℕ) (page : ℕ) → FreePages new → FreesPage page old new → IsFreePage new page
freed_is_free old new page list frees =
    let less : 0 < free_pages new = omega (arith, frees.more) in
    let due = (due_free new list 0 less).0 in
    let back : suc page - 1 ≡ page = omega arith in
    (0, less, due ∙ ap (λ (n : ℕ). n - 1) frees.first ∙ back)

freed_says : (old new : List ℕ) (page : ℕ) → FreesPage page old new → free_page_of new page ≢ None
freed_says old new page frees none = (let bad = sym frees.says ∙ none in absurd (cc))

-- two keys that are found in a list of one pair are one
one_found : (ps : List Pair) (a b slot : ℕ) → length ps ≤ 1 → found ps a ≡ Some slot → IsSome (found ps b) → a ≡ b
one_found [] a b slot few is some = absurd (cc)
one_found (p ∷ q ∷ ps) a b slot few is some = absurd (omega arith)
one_found (p ∷ []) a b slot few is some = elim (eqb_tells p.0 a) [
  | inl here ↦ elim (eqb_tells p.0 b) [
    | inl there ↦ sym here.1 ∙ there.1
    | inr other ↦ let e : nat_eq p.0 b ≡ false = other.0 in let bad = rw e at some in absurd (false≢true bad)
  ]
  | inr other ↦ let e : nat_eq p.0 a ≡ false = other.0 in let bad = rw e at is in absurd (cc)
]

module _ (old : List ℕ) (half : ℕ) (size : length old ≡ 512 * (half + half)) (root : Root) (key slot : ℕ) (fits : key < 2 ^ 64) (sound : AreSoundTrees old) (table : IsTable old root.table root.page)
    (is : found (pairs_of_tree old root.page) key ≡ Some slot) (new : List ℕ) (new_size : length new ≡ length old) (others : (j : ℕ) → j ≢ slot → slot_of new j ≡ slot_of old j) (lists : GivenBack old new slot) where
  whole : IsWhole 1 tree_of old
  whole = whole_of old sound

  root_sound : IsSoundTree root old
  root_sound = table_sound old root sound table

  lt : key < key_end
  lt = omega (arith, fits)

  given_most : next_page old ≤ half
  given_most = omega (arith, whole.front.pages, size)

  keeps : KeepsBut slot old new
  keeps = record {
    size = new_size;
    pages = omega (arith, lists.next_pages);
    slots = omega (arith, lists.next_slots);
    carried = λ t p other less carries. carries_on old new t p (others p.1 other) carries;
  }

  counts : HasCounts old
  counts = whole_counts 1 tree_of old whole

  counts_now : HasCounts new
  counts_now = counts_of new lists.front lists.slots lists.pages

  given_page : (x : ℕ) → IsPageOfTree old root.page x → (1 ≤ x) × (x < half)
  given_page x u =
      let own = under_own root (level_of old root.page) old x root.page 0 key_end root_sound.0 root_sound.2 u in
      (own.0, omega (arith, own.1, given_most))

  other_page : (two : Root) → IsTable old two.table two.page → (x : ℕ) → IsPageOfTree old two.page x → (1 ≤ x) × (x < half)
  other_page two there x u =
      let t = table_sound old two sound there in
      let own = under_own two (level_of old two.page) old x two.page 0 key_end t.0 t.2 u in
      (own.0, omega (arith, own.1, given_most))

  -- another key that is left was there
  was_there : Lacks root old new key → (one : ℕ) → IsSome (found (pairs_of_tree new root.page) one) → IsSome (found (pairs_of_tree old root.page) one) × (key ≢ one)
  was_there lacks one some = elim (eqb_tells key one) [
    | inl same ↦ let e : nat_eq key one ≡ true = same.0 in let bad = rw e at (here) in absurd (false≢true bad)
    | inr other ↦ let e : nat_eq key one ≡ false = other.0 in (let there = rw e at (here) in there, other.1)
  ]
    where
      here : IsSome (if nat_eq key one then None else found (pairs_of_tree old root.page) one)
      here = subst (λ (o : Option ℕ). IsSome o) (ap (λ (ps : List Pair). found ps one) lacks.pairs ∙ found-removed 0 key_end key one (pairs_of_tree old root.page) (sound_tree_rises root old root_sound)) some

  -- the leaf loses the pair
  module _ (leaf : ℕ) (leaf_is : leaf ≡ leaf_for old root.page key) (pairs : List Pair) (pairs_are : pairs ≡ page_pairs old leaf) (few : length pairs ≤ 30) (small : AreSmall pairs)
      (more : leaf ≢ root.page → 2 ≤ length pairs) (leaf_new : page_bytes new leaf ≡ written_page 0 0 (removed pairs key))
      (pages : (x : ℕ) → 1 ≤ x → x < half → x ≢ leaf → page_bytes new x ≡ page_bytes old x) (kept_pages : KeepsFreePages old new) where
    leaf_count : length pairs ≡ count_of old leaf
    leaf_count = ap (λ (ps : List Pair). length ps) pairs_are ∙ length-page_pairs old leaf

    bottom : level_of old leaf ≡ 0
    bottom = ap (λ (x : ℕ). level_of old x) leaf_is ∙ leaf_bottom root old key root_sound lt

    leaf_under : IsPageOfTree old root.page leaf
    leaf_under = subst (λ (x : ℕ). IsPageOfTree old root.page x) (sym leaf_is) (leaf_page root old key root_sound lt)

    left_few : length (removed pairs key) ≤ 30
    left_few = omega (arith, few, (length-removed key pairs).1)

    loses_pair : LosesPair root old new leaf key
    loses_pair = record {
      more = λ other. omega (arith, more other, leaf_count);
      leaf_is = subst (λ (ps : List Pair). IsLeafWith new leaf (removed ps key)) pairs_are (leaf_written new leaf (removed pairs key) left_few (small_removed key pairs small) leaf_new);
    }

    same : (x : ℕ) → IsPageOfTree old root.page x → x ≢ leaf → page_bytes new x ≡ page_bytes old x
    same x u other = let g = given_page x u in pages x g.0 g.1 other

    lacks : Lacks root old new key
    lacks = freed_loses root old new key slot root_sound keeps counts counts_now is lt (subst (λ (x : ℕ). LosesPair root old new x key) leaf_is loses_pair)
        (subst (λ (y : ℕ). (x : ℕ) → IsPageOfTree old root.page x → x ≢ y → page_bytes new x ≡ page_bytes old x) leaf_is same)

    last : (one : ℕ) → one < key_end → IsSome (found (pairs_of_tree new root.page) one) → StaysLast old root.page one → StaysLast new root.page one
    last one less some s =
        let q_level = parent_bottom root old one root_sound less s.below in
        last_kept root old new one root_sound less lacks.levels
        (λ x u high. same x u (λ e. omega (arith, high, bottom, ap (λ (y : ℕ). level_of old y) e)))
        (same (parent_for old root.page one) (parent_page root old one root_sound less s.below) (λ e. omega (arith, q_level, bottom, ap (λ (y : ℕ). level_of old y) e)))
        s.below
        (elim (cases_eq (leaf_for old root.page one) leaf) [
          | inl here ↦
              let below_root : leaf ≢ root.page = λ e. omega (arith, bottom, s.below, ap (λ (y : ℕ). level_of old y) e) in
              absurd (omega (arith, more below_root, leaf_count, s.alone, ap (λ (y : ℕ). count_of old y) here))
          | inr other ↦ subst (λ (b : List ℕ). count_said b ≤ 1) (sym (same (leaf_for old root.page one) (leaf_page root old one root_sound less) other)) s.alone
        ])
        s

    pub lost_shrinks : Shrinks tree root.page key slot old new
    lost_shrinks = shrinks old new root key slot sound table is new_size lists.version lists.tables lists.front lists.slots lists.pages lists.freed lists.next_slots lists.next_pages
        (inl kept_pages) others lacks
        (λ two there differ x u. let g = other_page two there x u in pages x g.0 g.1 (λ e. tables_apart old two root x sound there table differ u (subst (λ (y : ℕ). IsPageOfTree old root.page y) (sym e) leaf_under)))
        (λ x u. inl (tree_stays_taken root old new leaf x root_sound bottom same lacks.levels u))
        (λ x u. had_before_loss root old new key x root_sound lacks.levels leaf bottom (λ p some given other. pages p some (omega (arith, given, given_most)) other) u)
        last

  -- the leaf has no other pair, and lies below the root
  module _ (below : 1 ≤ level_of old root.page) (alone : count_of old (child_for (page_pairs old (parent_for old root.page key)) key) ≡ 1) where
    level : level_of old root.page ≡ above (level_of old root.page - 1) 1
    level = parent_level_is old root.page below

    place : IsJoinPlace old (parent_for old root.page key) (leaf_for old root.page key) key
    place = join_place root old (level_of old root.page - 1) key root_sound lt level

    leaf_level : level_of old (child_for (page_pairs old (parent_for old root.page key)) key) ≡ 0
    leaf_level = ap (λ (x : ℕ). level_of old x) place.leaf_is ∙ place.leaf_level

    parent_under : IsPageOfTree old root.page (parent_for old root.page key)
    parent_under = parent_page root old key root_sound lt below

    child_in_tree : IsPageOfTree old root.page (child_for (page_pairs old (parent_for old root.page key)) key)
    child_in_tree = subst (λ (x : ℕ). IsPageOfTree old root.page x) (sym place.leaf_is) (leaf_page root old key root_sound lt)

    -- another key whose pair is left is not in the leaf
    apart_from : Lacks root old new key → (one : ℕ) → one < key_end → IsSome (found (pairs_of_tree new root.page) one) → leaf_for old root.page one ≢ child_for (page_pairs old (parent_for old root.page key)) key
    apart_from lacks one less some same =
        let there = was_there lacks one some in
        let len = length-page_pairs old (leaf_for old root.page key) in
        let at = sym (sound_tree_finds root old key root_sound lt) ∙ is in
        let at' = subst (λ (o : Option ℕ). IsSome o) (sound_tree_finds root old one root_sound less) there.0 in
        let here : IsSome (found (page_pairs old (leaf_for old root.page key)) one) = subst (λ (x : ℕ). IsSome (found (page_pairs old x) one)) (same ∙ place.leaf_is) at' in
        there.1 (one_found (page_pairs old (leaf_for old root.page key)) key one slot (omega (arith, len, alone, ap (λ (x : ℕ). count_of old x) place.leaf_is)) at here)

    -- it takes the pairs of the page to its right
    module _ (there : right_of (page_pairs old (parent_for old root.page key)) key ≢ 0)
        (few : length (page_pairs old (right_of (page_pairs old (parent_for old root.page key)) key)) ≤ 30) (small : AreSmall (page_pairs old (right_of (page_pairs old (parent_for old root.page key)) key)))
        (fewer : length (without_right (page_pairs old (parent_for old root.page key)) key) ≤ 30) (smaller : AreSmall (without_right (page_pairs old (parent_for old root.page key)) key))
        (leaf_new : page_bytes new (child_for (page_pairs old (parent_for old root.page key)) key) ≡ written_page 0 0 (page_pairs old (right_of (page_pairs old (parent_for old root.page key)) key)))
        (parent_new : page_bytes new (parent_for old root.page key) ≡ written_page 1 0 (without_right (page_pairs old (parent_for old root.page key)) key))
        (pages : (x : ℕ) → 1 ≤ x → x < half → x ≢ parent_for old root.page key → x ≢ child_for (page_pairs old (parent_for old root.page key)) key
        → x ≢ right_of (page_pairs old (parent_for old root.page key)) key → page_bytes new x ≡ page_bytes old x)
        (right_under : IsPageOfTree old root.page (right_of (page_pairs old (parent_for old root.page key)) key))
        (frees : FreesPage (right_of (page_pairs old (parent_for old root.page key)) key) old new) where
      joins : JoinsRight old new (parent_for old root.page key) key
      joins = record { alone = alone; right = there; leaf_is = leaf_written new _ _ few small leaf_new; parent_is = parent_written new _ _ fewer smaller parent_new }

      right_level : level_of old (right_of (page_pairs old (parent_for old root.page key)) key) ≡ 0
      right_level = (place.right there).2

      same_right : (x : ℕ) → IsPageOfTree old root.page x → x ≢ parent_for old root.page key → x ≢ child_for (page_pairs old (parent_for old root.page key)) key
          → x ≢ right_of (page_pairs old (parent_for old root.page key)) key → page_bytes new x ≡ page_bytes old x
      same_right x u a b c = let g = given_page x u in pages x g.0 g.1 a b c

      lacks_right : Lacks root old new key
      lacks_right = freed_joins_right root old new key slot root_sound keeps counts counts_now is lt (level_of old root.page - 1) level joins same_right

      several : 2 ≤ count_of old (parent_for old root.page key)
      several = elim (cases_eq (count_of old (parent_for old root.page key)) 1) [
        | inl one ↦ absurd (there (one_has_none key (page_pairs old (parent_for old root.page key)) (length-page_pairs old (parent_for old root.page key) ∙ one)))
        | inr other ↦ omega (arith, place.some, other)
      ]

      last_right : (one : ℕ) → one < key_end → IsSome (found (pairs_of_tree new root.page) one) → StaysLast old root.page one → StaysLast new root.page one
      last_right one less some s =
          let q_level = parent_bottom root old one root_sound less s.below in
          let high_same = λ (x : ℕ) (u : IsPageOfTree old root.page x) (high : 1 < level_of old x).
          same_right x u (λ e. omega (arith, high, place.parent_level, ap (λ (y : ℕ). level_of old y) e)) (λ e. omega (arith, high, leaf_level, ap (λ (y : ℕ). level_of old y) e))
          (λ e. omega (arith, high, right_level, ap (λ (y : ℕ). level_of old y) e)) in
          let parent_same = same_right (parent_for old root.page one) (parent_page root old one root_sound less s.below)
          (λ e. omega (arith, several, s.only, ap (λ (y : ℕ). count_of old y) e)) (λ e. omega (arith, q_level, leaf_level, ap (λ (y : ℕ). level_of old y) e))
          (λ e. omega (arith, q_level, right_level, ap (λ (y : ℕ). level_of old y) e)) in
          let bottom = leaf_bottom root old one root_sound less in
          let way = leaf_kept root old new one root_sound less lacks_right.levels high_same parent_same s.below in
          let now = leaf_page root new one lacks_right.sound less in
          let not_right = λ (e : leaf_for old root.page one ≡ right_of (page_pairs old (parent_for old root.page key)) key).
          free_apart new root (right_of (page_pairs old (parent_for old root.page key)) key) lacks_right.sound (subst (λ (x : ℕ). IsPageOfTree new root.page x) (way ∙ e) now) (freed_says old new _ frees) in
          last_kept root old new one root_sound less lacks_right.levels high_same parent_same s.below
          (subst (λ (b : List ℕ). count_said b ≤ 1) (sym (same_right (leaf_for old root.page one) (leaf_page root old one root_sound less)
          (λ e. omega (arith, bottom, place.parent_level, ap (λ (y : ℕ). level_of old y) e)) (apart_from lacks_right one less some) not_right)) s.alone)
          s

      pub joined_shrinks : Shrinks tree root.page key slot old new
      joined_shrinks = shrinks old new root key slot sound table is new_size lists.version lists.tables lists.front lists.slots lists.pages lists.freed lists.next_slots lists.next_pages
          (inr (right_of (page_pairs old (parent_for old root.page key)) key, right_under, frees)) others lacks_right
          (λ two named differ x u. let g = other_page two named x u in pages x g.0 g.1
          (λ e. tables_apart old two root x sound named table differ u (subst (λ (y : ℕ). IsPageOfTree old root.page y) (sym e) parent_under))
          (λ e. tables_apart old two root x sound named table differ u (subst (λ (y : ℕ). IsPageOfTree old root.page y) (sym e) child_in_tree))
          (λ e. tables_apart old two root x sound named table differ u (subst (λ (y : ℕ). IsPageOfTree old root.page y) (sym e) right_under)))
          (λ x u. elim (stays_but_right root old new key (level_of old root.page - 1) root_sound lacks_right.levels lt level joins same_right x u) [
            | inl a ↦ inl a
            | inr e ↦ inr (subst (λ (y : ℕ). IsFreePage new y) (sym e) (freed_is_free old new _ lists.pages frees))
          ])
          (λ x u. had_before_right root old new key x root_sound lacks_right.levels (level_of old root.page - 1) lt level joins
          (λ p some given a b c. pages p some (omega (arith, given, given_most)) a b c) u)
          last_right

    -- or it is the last of several, and goes
    module _ (none : right_of (page_pairs old (parent_for old root.page key)) key ≡ 0) (several : 2 ≤ count_of old (parent_for old root.page key))
        (fewer : length (without_last (page_pairs old (parent_for old root.page key))) ≤ 30) (smaller : AreSmall (without_last (page_pairs old (parent_for old root.page key))))
        (parent_new : page_bytes new (parent_for old root.page key) ≡ written_page 1 0 (without_last (page_pairs old (parent_for old root.page key))))
        (pages : (x : ℕ) → 1 ≤ x → x < half → x ≢ parent_for old root.page key → x ≢ child_for (page_pairs old (parent_for old root.page key)) key → page_bytes new x ≡ page_bytes old x)
        (frees : FreesPage (child_for (page_pairs old (parent_for old root.page key)) key) old new) where
      leaves : JoinsLeft old new (parent_for old root.page key) key
      leaves = record { alone = alone; last = none; more = several; parent_is = parent_written new _ _ fewer smaller parent_new }

      same_left : (x : ℕ) → IsPageOfTree old root.page x → x ≢ parent_for old root.page key → x ≢ child_for (page_pairs old (parent_for old root.page key)) key → page_bytes new x ≡ page_bytes old x
      same_left x u a b = let g = given_page x u in pages x g.0 g.1 a b

      lacks_left : Lacks root old new key
      lacks_left = freed_joins_left root old new key slot root_sound keeps counts counts_now is lt (level_of old root.page - 1) level leaves same_left

      last_left : (one : ℕ) → one < key_end → IsSome (found (pairs_of_tree new root.page) one) → StaysLast old root.page one → StaysLast new root.page one
      last_left one less some s =
          let q_level = parent_bottom root old one root_sound less s.below in
          let high_same = λ (x : ℕ) (u : IsPageOfTree old root.page x) (high : 1 < level_of old x).
          same_left x u (λ e. omega (arith, high, place.parent_level, ap (λ (y : ℕ). level_of old y) e)) (λ e. omega (arith, high, leaf_level, ap (λ (y : ℕ). level_of old y) e)) in
          let parent_same = same_left (parent_for old root.page one) (parent_page root old one root_sound less s.below)
          (λ e. omega (arith, several, s.only, ap (λ (y : ℕ). count_of old y) e)) (λ e. omega (arith, q_level, leaf_level, ap (λ (y : ℕ). level_of old y) e)) in
          let bottom = leaf_bottom root old one root_sound less in
          last_kept root old new one root_sound less lacks_left.levels high_same parent_same s.below
          (subst (λ (b : List ℕ). count_said b ≤ 1) (sym (same_left (leaf_for old root.page one) (leaf_page root old one root_sound less)
          (λ e. omega (arith, bottom, place.parent_level, ap (λ (y : ℕ). level_of old y) e)) (apart_from lacks_left one less some))) s.alone)
          s

      pub left_shrinks : Shrinks tree root.page key slot old new
      left_shrinks = shrinks old new root key slot sound table is new_size lists.version lists.tables lists.front lists.slots lists.pages lists.freed lists.next_slots lists.next_pages
          (inr (child_for (page_pairs old (parent_for old root.page key)) key, child_in_tree, frees)) others lacks_left
          (λ two named differ x u. let g = other_page two named x u in pages x g.0 g.1
          (λ e. tables_apart old two root x sound named table differ u (subst (λ (y : ℕ). IsPageOfTree old root.page y) (sym e) parent_under))
          (λ e. tables_apart old two root x sound named table differ u (subst (λ (y : ℕ). IsPageOfTree old root.page y) (sym e) child_in_tree)))
          (λ x u. elim (stays_but_left root old new key (level_of old root.page - 1) root_sound lacks_left.levels lt level leaves same_left x u) [
            | inl a ↦ inl a
            | inr e ↦ inr (subst (λ (y : ℕ). IsFreePage new y) (sym e) (freed_is_free old new _ lists.pages frees))
          ])
          (λ x u. had_before_left root old new key x root_sound lacks_left.levels (level_of old root.page - 1) lt level leaves
          (λ p some given a b. pages p some (omega (arith, given, given_most)) a b) u)
          last_left
