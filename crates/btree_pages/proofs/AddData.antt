-- What adding a pair does to the data.
use Rattle.std.proofs.Common.{◌≡◌, ◌≢◌, ℕ, ◌+◌, ◌*◌, ◌^◌, ◌<◌, ◌≤◌, inl, inr, List, length, None, sym, ◌∙◌, ap, subst, arith}
use Rattle.std.proofs.lemmas.Bool.{cases_eq}
use Rattle.array_shape.specs.declared.shape.Shape.{Shape}
use Rattle.array_shape.specs.Places.{data_len}
use Rattle.array_shape.specs.Places as array
use Rattle.array_shape.specs.Logged.{applied}
use Rattle.record_slots.specs.Slots.{slot_bytes}
use Rattle.record_slots.specs.Super.{SaysSuper}
use Rattle.record_slots.specs.declared.super_page.Super.{Super}
use Rattle.record_slots.specs.declared.slot.Slot.TheVariants.{Absent}
use Rattle.record_slots.specs.Places.{page_bytes, page_count, slot_of, next_slot, next_page, free_slots, free_page_of, slot_due, used_slots, tables_of, IsSuper}
use Rattle.page_store.specs.Index.{IsTable, slots_of, index_pages_of, Grows, Gains}
use Rattle.page_store.specs.Pairs.{Pair, inserted, found}
use Rattle.index_pages.specs.Adding.{adding_parts, TakesSlot}
use Rattle.index_pages.specs.Keys.{key_end}
use Rattle.index_pages.specs.Page.{pairs_said, kind_said, level_said, link_said, level_of}
use Rattle.index_pages.specs.Ways.{above, Keeps}
use Rattle.index_pages.proofs.Added.{IsAdded, added_is}
use Rattle.index_pages.proofs.Carrying.{carries_on, carries_absent}
use Rattle.record_slots.proofs.ReadingBack.{IsWritable}
use Rattle.index_pages.proofs.Fronts.{super_written, super_kept, version_kept}
use Rattle.index_pages.proofs.Given.{above_zero}
use Rattle.index_pages.proofs.PageFacts.{length-page_pairs}
use Rattle.index_pages.proofs.Rising.{length-inserted}
use Rattle.index_pages.proofs.Tabled.{whole_counts}
use Rattle.index_pages.proofs.Taken.{IsSlotAfter, is_slot_after, slot_is_due, slot_writable, slot_due_next, due_carries}
use Rattle.index_pages.proofs.Writing.{small_inserted, written_kind, written_level, written_link, written_pairs}
use Rattle.btree_laws.specs.Changes.{TakesPair}
use Rattle.btree_laws.specs.Descent.{page_for}
use Rattle.btree_laws.specs.Sound.{IsTree, IsSoundTree}
use Rattle.btree_laws.specs.Tree.{IsUnder, IsPageOfTree, pairs_of_tree}
use Rattle.btree_laws.specs.TreeFacts.{under_own}
use Rattle.btree_laws.specs.declared.root.Root.{Root}
use Rattle.btree_laws.proofs.Belonging.{tree_stays_taken}
use Rattle.btree_laws.proofs.Splitting.{under_self}
use Rattle.btree_laws.proofs.Taking.{sound_tree_takes}
use Rattle.btree_laws.proofs.Ways.{Way, way_of, way_under}
use Rattle.btree_pages.specs.Index.{tree, tree_of, AreSoundTrees}
use Rattle.btree_pages.specs.OnWay.{IsOnWay}
use Rattle.btree_pages.specs.Trees.{table_sound}
use Rattle.btree_pages.specs.Writes.{IsRead}
use Rattle.btree_pages.proofs.LaidOut.{LaidOut, laid_out}
use Rattle.btree_pages.proofs.Others.{free_apart, tables_apart, one_changed, others_untouched}

module _ (shape : Shape) (old : List ℕ) (half : ℕ) (long : length old ≡ data_len shape) (half_is : half ≡ index_pages_of shape) (all : half + half ≡ array.page_count shape) (few : half ≤ 16384)
    (root : Root) (front after : Super) (slot key d leaf : ℕ) (pairs : List Pair) (fits : key < 2 ^ 64) (table_few : root.table < 8) (entries_long : length front.entries ≡ 256) (read : IsRead shape leaf 0 pairs)
    (sound : AreSoundTrees old) (table : IsTable old root.table root.page) (says : SaysSuper (page_bytes old 0) front) (takes : TakesSlot old front slot after)
    (way : IsOnWay root old key d leaf 0 pairs) (room : length pairs < 30) (left : used_slots old < slots_of shape) (none : found (pairs_of_tree old root.page) key ≡ None) where
  laid : LaidOut root old half
  laid = laid_out shape old half long all root sound table

  slots_most : next_slot old ≤ 8 * half
  slots_most = omega (arith, laid.whole.front.slots, laid.count)

  slots_few : free_slots old ≤ next_slot old
  slots_few = (whole_counts 1 tree_of old laid.whole).free_slots_few

  due : slot ≡ slot_due old
  due = takes.due ∙ slot_is_due old front says

  eight : slot < 8 * half
  eight = elim (cases_eq (free_slots old) 0) [
    | inl empty ↦ omega (arith, due, slot_due_next old empty, left, empty, all)
    | inr some ↦ omega (arith, due, (whole_counts 1 tree_of old laid.whole).due some, slots_most)
  ]

  leaf_few : length (inserted pairs key slot) ≤ 30
  leaf_few = omega (arith, length-inserted key slot pairs)

  root_tree : IsTree root (above d 0) old root.page 0 key_end
  root_tree = subst (λ (n : ℕ). IsTree root n old root.page 0 key_end) way.level_is laid.root_sound.2

  leaf_under : IsPageOfTree old root.page leaf
  leaf_under =
      subst (λ (x : ℕ). IsPageOfTree old root.page x) (sym way.page_is) (subst (λ (n : ℕ). IsUnder n old (page_for d old root.page key) root.page) (sym way.level_is)
      (way_under root d 0 old key root.page 0 key_end (page_for d old root.page key) root_tree (omega arith) (omega (arith, fits)) (under_self 0 old (page_for d old root.page key))))

  own_leaf : (1 ≤ leaf) × (leaf < next_page old)
  own_leaf = under_own root (level_of old root.page) old leaf root.page 0 key_end laid.root_sound.0 laid.root_sound.2 leaf_under

  leaf_way : Way root old 0 leaf key 0 key_end
  leaf_way = subst (λ (x : ℕ). Way root old 0 x key 0 key_end) (sym way.page_is) (way_of root d 0 old key root.page 0 key_end root_tree (omega arith) (omega (arith, fits)))

  bottom : level_of old leaf ≡ 0
  bottom = leaf_way.tree.0.level

  writable : IsWritable after × (after.version ≡ front.version) × (after.form ≡ front.form) × (after.entries ≡ front.entries) × (after.next_page ≡ front.next_page)
  writable = slot_writable old front after laid.whole.slots laid.whole.pages says takes.after_is entries_long (omega (arith, slots_most, few)) laid.whole.front.some_pages (omega (arith, laid.given_most, few))

  added : List ℕ
  added = applied (adding_parts half after slot leaf 0 pairs root.table key) old

  is : IsAdded old added half after slot leaf 0 pairs root.table key
  unfolding added
  is = added_is old half laid.size after writable.0.whole.entries slot leaf 0 pairs root.table key table_few fits eight own_leaf.0 (omega (arith, own_leaf, laid.given_most)) (omega arith) room

  says_now : SaysSuper (page_bytes added 0) after
  says_now = super_written old added front after is.mark is.part says writable.1 writable.2 writable.0

  other_slots : (j : ℕ) → j ≢ slot_due old → slot_of added j ≡ slot_of old j
  other_slots j ne = is.slots j (λ e. ne (e ∙ due))

  free_pages_kept : (x : ℕ) → free_page_of old x ≢ None → 1 ≤ x → x < half → page_bytes added x ≡ page_bytes old x
  free_pages_kept x free some below = is.pages x some below (λ e. free_apart old root x laid.root_sound (subst (λ (y : ℕ). IsPageOfTree old root.page y) (sym e) leaf_under) free)

  lists_now : IsSlotAfter old added
  lists_now = is_slot_after old added front after laid.whole.slots laid.whole.pages says takes.after_is says_now slots_few other_slots
      (λ x free from to. free_pages_kept x free (omega (arith, from)) (omega (arith, to, laid.given_most)))

  after_slots_most : after.next_slot ≤ 8 * half
  after_slots_most = elim (cases_eq (free_slots old) 0) [
    | inl empty ↦ omega (arith, says_now.next_slot, lists_now.one_more empty, left, all, empty)
    | inr some ↦ omega (arith, says_now.next_slot, lists_now.as_many some, slots_most)
  ]

  front_now : IsSuper 1 added × (tables_of added ≡ tables_of old)
  front_now = super_kept 1 old added front after half (omega (arith, is.size, laid.size)) says says_now writable.1 writable.2 writable.3
      after_slots_most (omega (arith, writable.4)) (omega (arith, writable.4, says.next_page, laid.given_most)) laid.whole.front

  keeps : Keeps old added
  keeps = record {
    pages = omega (arith, lists_now.pages_next);
    slots = lists_now.later;
    carried = λ t p lt carries. carries_on old added t p (other_slots p.1 (due_carries old t p laid.whole.slots lt carries)) carries;
  }

  takes_pair : TakesPair root old added leaf key slot
  takes_pair = record {
    room = omega (arith, room, ap (λ (ps : List Pair). length ps) way.pairs_are, length-page_pairs old leaf);
    kind = ap kind_said is.bytes ∙ written_kind 0 0 (inserted pairs key slot) leaf_few (omega arith);
    level = ap level_said is.bytes ∙ written_level 0 0 (inserted pairs key slot) leaf_few (omega arith);
    link = ap link_said is.bytes ∙ written_link 0 0 (inserted pairs key slot) leaf_few (omega arith);
    pairs = ap pairs_said is.bytes ∙ written_pairs 0 0 (inserted pairs key slot) leaf_few (omega arith) (small_inserted key slot pairs read.small fits (omega (arith, eight, few)))
        ∙ ap (λ (ps : List Pair). inserted ps key slot) way.pairs_are;
    given = omega (arith, due, lists_now.given);
    carries = carries_absent added root.table key slot table_few fits is.slot_is;
  }

  leaf_there : leaf ≡ page_for (level_of old root.page) old root.page key
  leaf_there = way.page_is ∙ ap (λ (n : ℕ). page_for n old root.page key) (sym (way.level_is ∙ above_zero d))

  tree_others : (x : ℕ) → IsPageOfTree old root.page x → x ≢ leaf → page_bytes added x ≡ page_bytes old x
  tree_others x u ne =
      let own = under_own root (level_of old root.page) old x root.page 0 key_end laid.root_sound.0 laid.root_sound.2 u in
      is.pages x own.0 (omega (arith, own.1, laid.given_most)) ne

  adds : IsSoundTree root added × (pairs_of_tree added root.page ≡ inserted (pairs_of_tree old root.page) key slot) × (level_of added root.page ≡ level_of old root.page)
  adds = sound_tree_takes root old added key slot laid.root_sound keeps (omega (arith, fits)) none
      (subst (λ (x : ℕ). TakesPair root old added x key slot) leaf_there takes_pair)
      (subst (λ (x : ℕ). (y : ℕ) → IsPageOfTree old root.page y → y ≢ x → page_bytes added y ≡ page_bytes old y) leaf_there tree_others)

  tables_others : (two : Root) → IsTable old two.table two.page → two.page ≢ root.page → (x : ℕ) → IsPageOfTree old two.page x → page_bytes added x ≡ page_bytes old x
  tables_others two named differ x u =
      let t = table_sound old two sound named in
      let own = under_own two (level_of old two.page) old x two.page 0 key_end t.0 t.2 u in
      is.pages x own.0 (omega (arith, own.1, laid.given_most)) (λ e. tables_apart old two root x sound named table differ u (subst (λ (y : ℕ). IsPageOfTree old root.page y) (sym e) leaf_under))

  -- what adding a pair does to the data
  pub adding_grows : Grows tree root.page old (applied (adding_parts half after slot leaf 0 pairs root.table key) old) × Gains tree root.page root.table key old (applied (adding_parts half after slot leaf 0 pairs root.table key) old)
  unfolding added
  adding_grows = (
    record {
      sound = one_changed old added root sound table front_now.0 lists_now.slots lists_now.pages front_now.1 keeps adds.0 tables_others;
      size = is.size;
      version = version_kept old added is.mark;
      tables = front_now.1;
      others = others_untouched old added root sound table front_now.0 lists_now.slots lists_now.pages front_now.1 keeps adds.0 tables_others;
      slots = λ j lt ne. other_slots j ne;
      later = omega (arith, lists_now.pages_next);
      few = omega (arith, lists_now.pages_next);
      free_pages_fall = omega (arith, lists_now.pages_free);
      named = λ x from to. absurd (omega (arith, lists_now.pages_next, from, to));
      taken = λ x free. inl (free.0, omega (arith, free.1, lists_now.pages_free), lists_now.due free.0 ∙ free.2);
      kept = λ x u. tree_stays_taken root old added leaf x laid.root_sound bottom tree_others adds.2 u;
      levels = omega (arith, adds.2);
    },
    record {
      pairs = adds.1 ∙ ap (λ (s : ℕ). inserted (pairs_of_tree old root.page) key s) due;
      slots = lists_now.in_use;
      fresh = subst (λ (s : ℕ). slot_of added s ≡ slot_bytes (Absent root.table key)) due is.slot_is;
    },
  )

  pub adding_takes_none : next_page (applied (adding_parts half after slot leaf 0 pairs root.table key) old) ≡ next_page old
  unfolding added
  adding_takes_none = lists_now.pages_next

  pub slot_there : slot ≡ slot_due old
  slot_there = due
