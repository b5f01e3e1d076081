-- What splitting a page does to the data.
use Rattle.std.proofs.Common.{◌≡◌, ◌≢◌, ℕ, zero, suc, ◌+◌, ◌-◌, ◌*◌, ◌^◌, ◌<◌, ◌≤◌, true, false, nat_lt, inl, inr, List, [], ◌∷◌, length, take, drop, refl, sym, ◌∙◌, ap, subst, arith}
use Rattle.std.specs.Prelude.{if◌then◌else◌, Bool}
use Rattle.std.proofs.lemmas.Bool.{cases_lt}
use Rattle.std.proofs.lemmas.Bool.Decides.{leb_tells}
use Rattle.std.proofs.lemmas.List.{length-take-le, length-drop}
use Rattle.mars_base.specs.Bytes.{range}
use Rattle.array_shape.specs.declared.shape.Shape.{Shape}
use Rattle.array_shape.specs.Places.{data_len}
use Rattle.array_shape.specs.Places as array
use Rattle.array_shape.specs.Logged.{Part, applied, AllFit}
use Rattle.record_slots.specs.Super.{SaysSuper, part_bytes}
use Rattle.record_slots.specs.declared.super_page.Super.{Super}
use Rattle.record_slots.specs.Places.{page_bytes, page_count, slot_at, slot_of, next_slot, next_page, free_pages, used_pages, slot_due, page_due, tables_of, IsSuper}
use Rattle.page_store.specs.Index.{IsTable, index_pages_of, Grows, Rests}
use Rattle.page_store.specs.Pairs.{Pair, Rise, inserted}
use Rattle.page_store.specs.Shown.{address}
use Rattle.index_pages.specs.Adding.{TakesPage}
use Rattle.index_pages.specs.Keys.{key_at, key_end}
use Rattle.index_pages.specs.Page.{page_pairs, pairs_said, kind_said, level_said, link_said, kind_of, level_of}
use Rattle.index_pages.specs.Ways.{above, Keeps}
use Rattle.index_pages.specs.Written.{AreSmall, kind_for, written_page}
use Rattle.record_slots.proofs.ReadingBack.{length-part_bytes}
use Rattle.index_pages.proofs.Fronts.{version_kept}
use Rattle.index_pages.proofs.Carrying.{carries_on}
use Rattle.index_pages.proofs.PageFacts.{length-page_pairs}
use Rattle.index_pages.proofs.Rising.{length-inserted}
use Rattle.index_pages.proofs.Taken.{HasTaken, IsAfter, taken_none, due_free, due_next, dues_differ, is_after, after_due, after_slots, after_pages, after_free}
use Rattle.index_pages.proofs.Writing.{small_take, small_inserted, written_kind, written_level, written_link, written_pairs, length-written_page}
use Rattle.btree_laws.specs.Changes.{IsHalf, IsCut, middle, with_entry, SplitsChild}
use Rattle.btree_laws.specs.Descent.{child_for, page_for}
use Rattle.btree_laws.specs.Tree.{IsUnder, IsUnderSome, IsPageOfTree, pairs_of_tree, next_low}
use Rattle.btree_laws.specs.Sound.{IsTree, IsSoundTree}
use Rattle.btree_laws.specs.TreeFacts.{tree_level, under_own}
use Rattle.btree_laws.specs.declared.root.Root.{Root}
use Rattle.btree_laws.proofs.Apart.{start_of, sub_of}
use Rattle.btree_laws.proofs.Belonging.{StaysSplit, tree_stays_split}
use Rattle.btree_laws.proofs.Splitting.{halves, sound_tree_splits, under_self, child_under}
use Rattle.btree_laws.proofs.Ways.{Way, way_of, way_under, child_some, page_for_last}
use Rattle.btree_pages.specs.OnWay.{IsOnWay}
use Rattle.btree_pages.specs.Writes.{IsRead, cut_for, half_pairs, cutting_parts}
use Rattle.btree_pages.specs.Index.{tree, AreSoundTrees, actions_below}
use Rattle.index_pages.specs.Actions.{half_for}
use Rattle.btree_pages.specs.Trees.{table_sound}
use Rattle.btree_pages.proofs.Actions.{half_actions}
use Rattle.btree_pages.proofs.Children.{rises_of}
use Rattle.btree_pages.proofs.CutPlace.{cut_inside, cut_side}
use Rattle.btree_pages.proofs.Descending.{Child, child_step}
use Rattle.btree_pages.proofs.Entries.{with_inserted, entry_child}
use Rattle.btree_pages.proofs.Halving.{AreWritten, are_written, is_half, takes_due, taken_says}
use Rattle.btree_pages.proofs.LaidOut.{LaidOut, laid_out}
use Rattle.btree_pages.proofs.Others.{due_apart, free_apart, tables_apart, one_changed, others_untouched}

pub small_at : (n : ℕ) (ps : List Pair) → n < length ps → AreSmall ps → key_at ps n < 2 ^ 64
small_at n [] lt small = absurd (omega arith)
small_at zero (p ∷ ps) lt small = small.0
small_at (suc n) (p ∷ ps) lt small = small_at n ps (omega arith) small.2

-- the kind of a page is that of its level
pub tree_kind : (root : Root) (m : ℕ) (bytes : List ℕ) (page low high : ℕ) → IsTree root m bytes page low high → kind_of bytes page ≡ kind_for m
tree_kind root zero bytes page low high t = t.0.kind
tree_kind root (suc m) bytes page low high t = t.0.kind

module _ (shape : Shape) (old : List ℕ) (half : ℕ) (long : length old ≡ data_len shape) (half_is : half ≡ index_pages_of shape) (all : half + half ≡ array.page_count shape) (few : half ≤ 16384)
    (root : Root) (front after : Super) (taken key d page level parent : ℕ) (pairs entries : List Pair) (fits : key < 2 ^ 64) (entries_long : length front.entries ≡ 256)
    (read : IsRead shape page level pairs) (above_read : IsRead shape parent (level + 1) entries)
    (sound : AreSoundTrees old) (table : IsTable old root.table root.page) (says : SaysSuper (page_bytes old 0) front) (takes : TakesPage old front taken after)
    (way : IsOnWay root old key d parent (suc level) entries) (page_is : page ≡ child_for entries key) (pairs_are : pairs ≡ page_pairs old page)
    (full : length pairs ≡ 30) (room : length entries < 30) (left : used_pages old < index_pages_of shape) where
  laid : LaidOut root old half
  laid = laid_out shape old half long all root sound table

  takes_first : (taken ≡ page_due old 0) × HasTaken old 1 after
  takes_first = takes_due root old half laid 0 front after taken (taken_none old front says laid.whole.pages) takes

  due : taken ≡ page_due old 0
  due = takes_first.0

  took : HasTaken old 1 after
  took = takes_first.1

  -- the page that is taken: it is a given page that is free, or the next
  taken_in : (2 ≤ taken) × (taken < half) × (taken < next_page old + (1 - free_pages old))
  taken_in = elim (cases_lt 0 (free_pages old)) [
    | inl some ↦ let f = due_free old laid.whole.pages 0 some in (omega (arith, due, f.1), omega (arith, due, f.2, laid.given_most), omega (arith, due, f.2))
    | inr none ↦ let f = due_next old laid.whole.pages 0 (omega (arith, none)) in (omega (arith, due, f, laid.whole.front.some_pages), omega (arith, due, f, none, left, half_is), omega (arith, due, f, none))
  ]

  -- both pages have some of the pairs
  inside : (1 ≤ cut_for level pairs key) × (cut_for level pairs key < 30)
  inside = cut_inside level pairs key

  lower : List ℕ
  lower = written_page level 0 (take (cut_for level pairs key) pairs)

  upper : List ℕ
  upper = written_page level 0 (drop (cut_for level pairs key) pairs)

  named : List ℕ
  named = written_page (level + 1) 0 (inserted entries (key_at pairs (cut_for level pairs key)) taken)

  part : List ℕ
  part = part_bytes after

  lower_few : length (take (cut_for level pairs key) pairs) ≤ 30
  lower_few = omega (arith, inside, length-take-le (cut_for level pairs key) pairs (omega (arith, inside, full)))

  upper_few : length (drop (cut_for level pairs key) pairs) ≤ 30
  upper_few = omega (arith, length-drop (cut_for level pairs key) pairs, full)

  named_few : length (inserted entries (key_at pairs (cut_for level pairs key)) taken) ≤ 30
  named_few = omega (arith, length-inserted (key_at pairs (cut_for level pairs key)) taken entries)

  len1 : length lower ≡ 512
  unfolding lower
  len1 = length-written_page level 0 (take (cut_for level pairs key) pairs) lower_few (omega (arith, read.level_most))

  len2 : length upper ≡ 512
  unfolding upper
  len2 = length-written_page level 0 (drop (cut_for level pairs key) pairs) upper_few (omega (arith, read.level_most))

  len3 : length named ≡ 512
  unfolding named
  len3 = length-written_page (level + 1) 0 (inserted entries (key_at pairs (cut_for level pairs key)) taken) named_few (omega (arith, above_read.level_most))

  after_long : length after.entries ≡ 256
  after_long = ap (λ (es : List ℕ). length es) (took.entries_are ∙ sym says.entries) ∙ entries_long

  len4 : length part ≡ 280
  unfolding part
  len4 = length-part_bytes after after_long

  root_tree : IsTree root (above d (suc level)) old root.page 0 key_end
  root_tree = subst (λ (n : ℕ). IsTree root n old root.page 0 key_end) way.level_is laid.root_sound.2

  parent_way : Way root old (suc level) parent key 0 key_end
  parent_way = subst (λ (x : ℕ). Way root old (suc level) x key 0 key_end) (sym way.page_is) (way_of root d (suc level) old key root.page 0 key_end root_tree (omega arith) (omega (arith, fits)))

  entries_some : 1 ≤ length (page_pairs old parent)
  entries_some = omega (arith, parent_way.tree.0.some, length-page_pairs old parent)

  page_there : page ≡ child_for (page_pairs old parent) key
  page_there = page_is ∙ ap (λ (ps : List Pair). child_for ps key) way.pairs_are

  parent_under : IsPageOfTree old root.page parent
  parent_under =
      subst (λ (x : ℕ). IsPageOfTree old root.page x) (sym way.page_is) (subst (λ (n : ℕ). IsUnder n old (page_for d old root.page key) root.page) (sym way.level_is)
      (way_under root d (suc level) old key root.page 0 key_end (page_for d old root.page key) root_tree (omega arith) (omega (arith, fits)) (under_self (suc level) old (page_for d old root.page key))))

  page_under : IsPageOfTree old root.page page
  page_under =
      let here : IsUnder (suc level) old page parent = inr (subst (λ (x : ℕ). IsUnderSome (IsUnder level old x) (page_pairs old parent)) (sym page_there) (child_under level old (page_pairs old parent) key entries_some)) in
      subst (λ (n : ℕ). IsUnder n old page root.page) (sym way.level_is)
      (way_under root d (suc level) old key root.page 0 key_end page root_tree (omega arith) (omega (arith, fits)) (subst (λ (x : ℕ). IsUnder (suc level) old page x) way.page_is here))

  own_parent : (1 ≤ parent) × (parent < next_page old)
  own_parent = under_own root (level_of old root.page) old parent root.page 0 key_end laid.root_sound.0 laid.root_sound.2 parent_under

  own_page : (1 ≤ page) × (page < next_page old)
  own_page = under_own root (level_of old root.page) old page root.page 0 key_end laid.root_sound.0 laid.root_sound.2 page_under

  -- no page of the tree is taken
  fresh : (x : ℕ) → IsPageOfTree old root.page x → x ≢ taken
  fresh x u same = due_apart old root x 0 laid.whole.pages laid.root_sound u (same ∙ due)

  level_parent : level_of old parent ≡ suc level
  level_parent = tree_level root (suc level) old parent parent_way.from parent_way.to parent_way.tree

  start : next_low (page_pairs old parent) parent_way.to ≡ parent_way.from
  start = start_of parent_way.from parent_way.to (page_pairs old parent) entries_some parent_way.tree.0.first

  child : Child root level old (page_pairs old parent) parent_way.to key
  child = child_step root level old (page_pairs old parent) parent_way.to key entries_some parent_way.tree.0.children parent_way.tree.1 (omega (arith, start, parent_way.from_key)) parent_way.key_to

  page_tree : IsTree root level old page child.from child.to
  page_tree = subst (λ (x : ℕ). IsTree root level old x child.from child.to) (sym page_there) child.tree

  level_page : level_of old page ≡ level
  level_page = tree_level root level old page child.from child.to page_tree

  other : page ≢ parent
  other same = omega (arith, level_page, level_parent, ap (λ (x : ℕ). level_of old x) same)

  cut : List ℕ
  cut = applied (cutting_parts after page level pairs key taken parent entries) old

  written : AreWritten old cut half page taken parent lower upper named part
  unfolding cut lower upper named part
  written = are_written old half laid.size page taken parent (written_page level 0 (take (cut_for level pairs key) pairs)) (written_page level 0 (drop (cut_for level pairs key) pairs)) (written_page (level + 1) 0 (inserted entries (key_at pairs (cut_for level pairs key)) taken)) (part_bytes after)
      (own_page.0, omega (arith, own_page, laid.given_most)) (omega (arith, taken_in), taken_in.1) (own_parent.0, omega (arith, own_parent, laid.given_most)) (fresh page page_under) other (λ e. fresh parent parent_under (sym e)) len1 len2 len3 len4

  -- the other pages and the slots are as they were
  cut_others : (x : ℕ) → 1 ≤ x → x ≢ parent → x ≢ page → x ≢ taken → page_bytes cut x ≡ page_bytes old x
  cut_others x some no_parent no_page no_taken = written.others x some no_page no_taken no_parent

  pub cut_slots : (j : ℕ) → slot_of (applied (cutting_parts after page level pairs key taken parent entries) old) j ≡ slot_of old j
  unfolding cut
  cut_slots = written.slots

  -- what the super page says then
  after_next : after.next_page ≡ next_page old + (1 - free_pages old)
  after_next = took.page_next

  after_most : after.next_page ≤ half
  after_most = elim (cases_lt 0 (free_pages old)) [ inl some ↦ omega (arith, after_next, some, laid.given_most) | inr none ↦ omega (arith, after_next, none, left, half_is) ]

  says_all : SaysSuper (page_bytes cut 0) after × IsSuper 1 cut × (tables_of cut ≡ tables_of old)
  unfolding part
  says_all = taken_says root old cut half laid few front after entries_long says 1 took after_most written.count written.mark written.front

  lists_now : IsAfter old cut 1
  unfolding cut
  lists_now = is_after old cut 1 after laid.whole.slots laid.whole.pages took says_all.0
      (λ i from less.
      let f = due_free old laid.whole.pages i less in
      cut_others (page_due old i) (omega (arith, f.1)) (λ e. free_apart old root (page_due old i) laid.root_sound (subst (λ (x : ℕ). IsPageOfTree old root.page x) (sym e) parent_under) f.3)
      (λ e. free_apart old root (page_due old i) laid.root_sound (subst (λ (x : ℕ). IsPageOfTree old root.page x) (sym e) page_under) f.3)
      (λ e. dues_differ old laid.whole.pages 0 i (omega (arith, from)) (sym due ∙ sym e)))
      (λ j free. cut_slots j)

  keeps : Keeps old cut
  unfolding cut
  keeps = record {
    pages = omega (arith, lists_now.pages_next);
    slots = omega (arith, lists_now.slots_next);
    carried = λ t p lt carries. carries_on old cut t p (cut_slots p.1) carries;
  }

  lower_half : IsHalf old cut page page (take (cut_for level pairs key) (page_pairs old page))
  unfolding lower
  lower_half = is_half old cut page page level (take (cut_for level pairs key) pairs) (take (cut_for level pairs key) (page_pairs old page)) written.first lower_few read.level_most (small_take (cut_for level pairs key) pairs read.small).0
      (tree_kind root level old page child.from child.to page_tree) level_page (ap (take (cut_for level pairs key)) pairs_are)

  upper_half : IsHalf old cut page taken (drop (cut_for level pairs key) (page_pairs old page))
  unfolding upper
  upper_half = is_half old cut page taken level (drop (cut_for level pairs key) pairs) (drop (cut_for level pairs key) (page_pairs old page)) written.second upper_few read.level_most (small_take (cut_for level pairs key) pairs read.small).1
      (tree_kind root level old page child.from child.to page_tree) level_page (ap (drop (cut_for level pairs key)) pairs_are)

  is_cut : IsCut old cut page page taken (cut_for level pairs key)
  is_cut = record { full = ap (λ (ps : List Pair). length ps) (sym pairs_are) ∙ full; some = inside.0; less = inside.1; left_is = lower_half; right_is = upper_half }

  -- the other pages of the tree
  tree_others : (x : ℕ) → IsPageOfTree old root.page x → x ≢ parent → x ≢ page → page_bytes cut x ≡ page_bytes old x
  tree_others x u no_parent no_page =
      let own = under_own root (level_of old root.page) old x root.page 0 key_end laid.root_sound.0 laid.root_sound.2 u in
      cut_others x own.0 no_parent no_page (fresh x u)

  under_page : (x : ℕ) → IsUnder level old x page → IsPageOfTree old root.page x
  under_page x u =
      let here : IsUnder (suc level) old x parent = inr (child_some (IsUnder level old x) (page_pairs old parent) key entries_some (subst (λ (y : ℕ). IsUnder level old x y) page_there u)) in
      subst (λ (n : ℕ). IsUnder n old x root.page) (sym way.level_is)
      (way_under root d (suc level) old key root.page 0 key_end x root_tree (omega arith) (omega (arith, fits)) (subst (λ (y : ℕ). IsUnder (suc level) old x y) way.page_is here))

  below_page : (a b : ℕ) → IsTree root level old page a b → (x : ℕ) → IsUnder level old x page → x ≢ page → page_bytes cut x ≡ page_bytes old x
  below_page a b t x u ne =
      let sub = sub_of root level old x page a b t u in
      tree_others x (under_page x u) (λ e. omega (arith, ap (λ (y : ℕ). level_of old y) e, level_parent, tree_level root sub.m old x sub.from sub.to sub.tree, sub.most)) ne

  within : (a b : ℕ) → IsTree root level old page a b → (a ≤ key_at (page_pairs old page) (cut_for level pairs key)) × (key_at (page_pairs old page) (cut_for level pairs key) < b)
  within a b t = let h = halves root old cut keeps level page page taken (cut_for level pairs key) a b t is_cut (below_page a b t) in (omega (arith, h.above), h.below)

  named_small : AreSmall (inserted entries (key_at pairs (cut_for level pairs key)) taken)
  named_small = small_inserted (key_at pairs (cut_for level pairs key)) taken entries above_read.small (small_at (cut_for level pairs key) pairs (omega (arith, full, inside)) read.small) (omega (arith, taken_in, few))

  one_more : level + 1 ≡ suc level
  one_more = omega arith

  named_pairs : page_pairs cut parent ≡ with_entry (page_pairs old parent) key (middle old page (cut_for level pairs key), taken)
  unfolding named
  named_pairs =
      ap pairs_said written.third ∙ written_pairs (level + 1) 0 (inserted entries (key_at pairs (cut_for level pairs key)) taken) named_few (omega (arith, above_read.level_most)) named_small
      ∙ ap (λ (ps : List Pair). inserted entries (key_at ps (cut_for level pairs key)) taken) pairs_are ∙ ap (λ (ps : List Pair). inserted ps (key_at (page_pairs old page) (cut_for level pairs key)) taken) way.pairs_are
      ∙ with_inserted root level old (page_pairs old parent) parent_way.to key (key_at (page_pairs old page) (cut_for level pairs key)) taken entries_some parent_way.tree.0.children parent_way.tree.1 (omega (arith, start, parent_way.from_key)) parent_way.key_to
      (λ a b t. within a b (subst (λ (x : ℕ). IsTree root level old x a b) (sym page_there) t))

  cut_splits : SplitsChild root old cut parent key taken
  unfolding named
  cut_splits = record {
    place = (cut_for level pairs key);
    room = omega (arith, room, ap (λ (ps : List Pair). length ps) way.pairs_are, length-page_pairs old parent);
    kind = ap kind_said written.third ∙ written_kind (level + 1) 0 (inserted entries (key_at pairs (cut_for level pairs key)) taken) named_few (omega (arith, above_read.level_most)) ∙ ap kind_for one_more;
    level = ap level_said written.third ∙ written_level (level + 1) 0 (inserted entries (key_at pairs (cut_for level pairs key)) taken) named_few (omega (arith, above_read.level_most)) ∙ one_more ∙ sym level_parent;
    link = ap link_said written.third ∙ written_link (level + 1) 0 (inserted entries (key_at pairs (cut_for level pairs key)) taken) named_few (omega (arith, above_read.level_most));
    pairs = named_pairs ∙ ap (λ (x : ℕ). with_entry (page_pairs old parent) key (middle old x (cut_for level pairs key), taken)) page_there;
    cut = subst (λ (x : ℕ). IsCut old cut x x taken (cut_for level pairs key)) page_there is_cut;
    two = taken_in.0;
    other = λ e. fresh root.page (under_self (level_of old root.page) old root.page) (sym e);
    given = omega (arith, lists_now.pages_next, taken_in.2);
  }

  splits_there : SplitsChild root old cut (page_for d old root.page key) key taken
  splits_there = subst (λ (q : ℕ). SplitsChild root old cut q key taken) way.page_is cut_splits

  others_there : (x : ℕ) → IsPageOfTree old root.page x → x ≢ page_for d old root.page key → x ≢ child_for (page_pairs old (page_for d old root.page key)) key → page_bytes cut x ≡ page_bytes old x
  others_there = subst (λ (q : ℕ). (x : ℕ) → IsPageOfTree old root.page x → x ≢ q → x ≢ child_for (page_pairs old q) key → page_bytes cut x ≡ page_bytes old x) way.page_is
      (λ x u no_parent no_child. tree_others x u no_parent (λ e. no_child (e ∙ page_there)))

  -- the tree is sound and has the same pairs, and all its pages
  cut_tree : IsSoundTree root cut × (pairs_of_tree cut root.page ≡ pairs_of_tree old root.page) × (level_of cut root.page ≡ level_of old root.page)
  cut_tree = sound_tree_splits root old cut d level key taken laid.root_sound keeps (omega (arith, fits)) way.level_is splits_there others_there

  stays : StaysSplit root old cut d key taken
  stays = tree_stays_split root old cut d level key taken laid.root_sound keeps (omega (arith, fits)) way.level_is splits_there others_there

  -- the pages of other trees are as they were
  tables_others : (two : Root) → IsTable old two.table two.page → two.page ≢ root.page → (x : ℕ) → IsPageOfTree old two.page x → page_bytes cut x ≡ page_bytes old x
  tables_others two is differ x u =
      let t = table_sound old two sound is in
      let own = under_own two (level_of old two.page) old x two.page 0 key_end t.0 t.2 u in
      cut_others x own.0
      (λ e. tables_apart old two root x sound is table differ u (subst (λ (y : ℕ). IsPageOfTree old root.page y) (sym e) parent_under))
      (λ e. tables_apart old two root x sound is table differ u (subst (λ (y : ℕ). IsPageOfTree old root.page y) (sym e) page_under))
      (λ e. due_apart old two x 0 laid.whole.pages t u (e ∙ due))

  pub cut_sound : AreSoundTrees (applied (cutting_parts after page level pairs key taken parent entries) old)
  unfolding cut
  cut_sound = one_changed old cut root sound table says_all.1 lists_now.slots lists_now.pages says_all.2 keeps cut_tree.0 tables_others

  -- what splitting a page does to the data
  pub cutting_grows : Grows tree root.page old (applied (cutting_parts after page level pairs key taken parent entries) old) × Rests tree root.page old (applied (cutting_parts after page level pairs key taken parent entries) old)
  unfolding cut
  cutting_grows = (
    record {
      sound = cut_sound;
      size = written.size;
      version = version_kept old cut written.mark;
      tables = says_all.2;
      others = others_untouched old cut root sound table says_all.1 lists_now.slots lists_now.pages says_all.2 keeps cut_tree.0 tables_others;
      slots = λ j lt ne. cut_slots j;
      later = omega (arith, lists_now.pages_next);
      few = omega (arith, lists_now.pages_next);
      free_pages_fall = omega (arith, lists_now.pages_free);
      named = λ x from to. subst (λ (y : ℕ). IsPageOfTree cut root.page y) (next_is x from to) stays.named;
      taken = λ x free. elim (after_free old cut 1 lists_now x free) [
        | inl still ↦ inl still
        | inr now ↦ inr (subst (λ (y : ℕ). IsPageOfTree cut root.page y) (due ∙ ap (λ (i : ℕ). page_due old i) (let z : 0 ≡ now.0 = omega (arith, now.1) in z) ∙ now.2) stays.named)
      ];
      kept = stays.stay;
      levels = omega (arith, stays.level);
    },
    record {
      pairs = cut_tree.1;
      slots = after_slots old cut 1 lists_now;
      due = after_due old cut 1 lists_now;
      same = cut_slots (slot_due old);
    },
  )
    where
      next_is : (x : ℕ) → next_page old ≤ x → x < next_page cut → taken ≡ x
      next_is x from to =
          let none : free_pages old ≤ 0 = omega (arith, lists_now.pages_next, from, to) in
          let f = due_next old laid.whole.pages 0 none in
          omega (arith, due, f, lists_now.pages_next, from, to)

  pub cut_after : IsAfter old (applied (cutting_parts after page level pairs key taken parent entries) old) 1
  unfolding cut
  cut_after = lists_now

  pub cut_says : SaysSuper (page_bytes (applied (cutting_parts after page level pairs key taken parent entries) old) 0) after
  unfolding cut
  cut_says = says_all.0

  pub cut_size : length (applied (cutting_parts after page level pairs key taken parent entries) old) ≡ length old
  unfolding cut
  cut_size = written.size

  -- the page that is taken is the one that is due
  pub cut_due : taken ≡ page_due old 0
  cut_due = due

  -- one page less is left
  pub cut_used : used_pages (applied (cutting_parts after page level pairs key taken parent entries) old) ≡ used_pages old + 1
  unfolding cut
  cut_used = after_pages old cut 1 lists_now (omega (arith, laid.free_few))

  -- the root keeps its level
  pub cut_level : level_of (applied (cutting_parts after page level pairs key taken parent entries) old) root.page ≡ level_of old root.page
  unfolding cut
  cut_level = stays.level

  side : nat_lt key (key_at (page_pairs old page) (cut_for level pairs key)) ≡ nat_lt key (key_at (page_pairs old page) 15)
  side =
      let r = rises_of root level old page child.from child.to page_tree in
      subst (λ (ps : List Pair). nat_lt key (key_at ps (cut_for level pairs key)) ≡ nat_lt key (key_at ps 15)) pairs_are
      (cut_side level key r.0 r.1 pairs full (subst (λ (ps : List Pair). Rise r.0 r.1 ps) (sym pairs_are) r.2))

  -- the half that has the key is now on its way, and has room
  pub half_there : half_for (page_pairs old page) page taken key ≡ page_for (suc d) (applied (cutting_parts after page level pairs key taken parent entries) old) root.page key
  unfolding cut
  half_there =
      ap (λ (x : ℕ). if nat_lt key (key_at (page_pairs old page) 15) then x else taken) page_there
      ∙ ap (λ (b : Bool). if b then child_for (page_pairs old parent) key else taken) (sym side)
      ∙ sym (page_for_last d cut root.page key ∙ ap (λ (q : ℕ). child_for (page_pairs cut q) key) (stays.way ∙ sym way.page_is) ∙ ap (λ (ps : List Pair). child_for ps key) named_pairs
      ∙ entry_child (page_pairs old parent) key (middle old page (cut_for level pairs key)) taken entries_some)

  pub half_says : page_pairs (applied (cutting_parts after page level pairs key taken parent entries) old) (half_for (page_pairs old page) page taken key) ≡ half_pairs level (page_pairs old page) key
  unfolding cut
  half_says = elim (leb_tells (suc key) (key_at (page_pairs old page) 15)) [
    | inl h ↦ let b : nat_lt key (key_at (page_pairs old page) 15) ≡ true = h.0 in rw b (lower_half.pairs_are ∙ ap (λ (ps : List Pair). take (cut_for level ps key) (page_pairs old page)) pairs_are)
    | inr h ↦ let b : nat_lt key (key_at (page_pairs old page) 15) ≡ false = h.0 in rw b (upper_half.pairs_are ∙ ap (λ (ps : List Pair). drop (cut_for level ps key) (page_pairs old page)) pairs_are)
  ]

  -- what is left to do after the split is what is to do from that half on
  pub half_left : actions_below level (applied (cutting_parts after page level pairs key taken parent entries) old) (half_for (page_pairs old page) page taken key)
      (half_for (page_pairs old page) page taken key) 0 key
      ≡ actions_below level old page (half_for (page_pairs old page) page taken key) 1 key
  unfolding cut
  half_left =
      half_actions root old cut 1 (after_due old cut 1 lists_now) written.size lists_now.due page page taken (cut_for level pairs key) key is_cut side level child.from child.to page_tree child.from_key child.key_to (below_page child.from child.to page_tree)
      (half_for (page_pairs old page) page taken key) 0
      ∙ ap (λ (n : ℕ). actions_below level old page (half_for (page_pairs old page) page taken key) n key) (let z : 1 + 0 ≡ 1 = omega arith in z)
