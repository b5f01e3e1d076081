-- What splitting the root does to the data.
use Rattle.std.proofs.Common.{◌≡◌, ◌≢◌, ℕ, zero, suc, ◌+◌, ◌-◌, ◌*◌, ◌^◌, ◌<◌, ◌≤◌, true, false, nat_lt, inl, inr, List, [], ◌∷◌, length, take, drop, refl, sym, ◌∙◌, ap, subst, arith}
use Rattle.std.specs.Prelude.{if◌then◌else◌, Bool}
use Rattle.std.proofs.lemmas.Bool.{cases_lt}
use Rattle.std.proofs.lemmas.Bool.Decides.{leb_tells}
use Rattle.std.proofs.lemmas.List.{length-take-le, length-drop}
use Rattle.mars_base.specs.Bytes.{range}
use Rattle.array_shape.specs.declared.shape.Shape.{Shape}
use Rattle.array_shape.specs.Places.{data_len}
use Rattle.array_shape.specs.Places as array
use Rattle.array_shape.specs.Logged.{Part, applied, AllFit}
use Rattle.record_slots.specs.Super.{SaysSuper, part_bytes}
use Rattle.record_slots.specs.declared.super_page.Super.{Super}
use Rattle.record_slots.specs.Places.{page_bytes, page_count, slot_at, slot_of, next_slot, next_page, free_pages, used_pages, slot_due, page_due, tables_of, IsSuper}
use Rattle.page_store.specs.Index.{IsTable, index_pages_of, Grows, Rests}
use Rattle.page_store.specs.Pairs.{Pair, Rise}
use Rattle.page_store.specs.Shown.{address}
use Rattle.index_pages.specs.Adding.{TakesPage}
use Rattle.index_pages.specs.Keys.{key_at, key_end}
use Rattle.index_pages.specs.Page.{page_pairs, pairs_said, kind_said, level_said, link_said, level_of}
use Rattle.index_pages.specs.Ways.{Keeps}
use Rattle.index_pages.specs.Written.{AreSmall, kind_for, written_page}
use Rattle.record_slots.proofs.ReadingBack.{length-part_bytes}
use Rattle.index_pages.proofs.Fronts.{version_kept}
use Rattle.index_pages.proofs.Carrying.{carries_on}
use Rattle.index_pages.proofs.Taken.{HasTaken, IsAfter, taken_none, due_free, due_next, dues_differ, is_after, after_due, after_slots, after_pages, after_free}
use Rattle.index_pages.proofs.Writing.{small_take, written_kind, written_level, written_link, written_pairs, length-written_page}
use Rattle.btree_laws.specs.Changes.{IsHalf, IsCut, middle, SplitsRoot}
use Rattle.btree_laws.specs.Descent.{child_for, page_for}
use Rattle.btree_laws.specs.Tree.{IsUnder, IsPageOfTree, pairs_of_tree}
use Rattle.btree_laws.specs.Sound.{IsTree, IsSoundTree}
use Rattle.btree_laws.specs.TreeFacts.{under_own}
use Rattle.btree_laws.specs.declared.root.Root.{Root}
use Rattle.btree_laws.proofs.Belonging.{StaysGrown, tree_stays_grown}
use Rattle.btree_laws.proofs.Splitting.{sound_tree_grows, under_self}
use Rattle.btree_pages.specs.Writes.{IsRead, cut_for, half_pairs, growing_parts}
use Rattle.btree_pages.specs.Index.{tree, AreSoundTrees, actions_below}
use Rattle.index_pages.specs.Actions.{half_for}
use Rattle.btree_pages.specs.Trees.{table_sound}
use Rattle.btree_pages.proofs.Actions.{half_actions}
use Rattle.btree_pages.proofs.Children.{rises_of}
use Rattle.btree_pages.proofs.CutPlace.{cut_inside, cut_side}
use Rattle.btree_pages.proofs.Halving.{AreWritten, are_written, is_half, takes_due, taken_says}
use Rattle.btree_pages.proofs.LaidOut.{LaidOut, laid_out}
use Rattle.btree_pages.proofs.Others.{due_apart, free_apart, tables_apart, one_changed, others_untouched}
use Rattle.btree_pages.proofs.CutData.{small_at, tree_kind}

module _ (shape : Shape) (old : List ℕ) (half : ℕ) (long : length old ≡ data_len shape) (half_is : half ≡ index_pages_of shape) (all : half + half ≡ array.page_count shape) (few : half ≤ 16384)
    (root : Root) (front mid after : Super) (left right key level : ℕ) (pairs : List Pair) (fits : key < 2 ^ 64) (entries_long : length front.entries ≡ 256)
    (read : IsRead shape root.page level pairs) (sound : AreSoundTrees old) (table : IsTable old root.table root.page) (says : SaysSuper (page_bytes old 0) front)
    (one : TakesPage old front left mid) (two : TakesPage old mid right after)
    (level_is : level_of old root.page ≡ level) (pairs_are : pairs ≡ page_pairs old root.page) (full : length pairs ≡ 30) (less : level < 7) (enough : used_pages old + 1 < index_pages_of shape) where
  laid : LaidOut root old half
  laid = laid_out shape old half long all root sound table

  takes_first : (left ≡ page_due old 0) × HasTaken old 1 mid
  takes_first = takes_due root old half laid 0 front mid left (taken_none old front says laid.whole.pages) one

  takes_second : (right ≡ page_due old 1) × HasTaken old 2 after
  takes_second = takes_due root old half laid 1 mid after right takes_first.1 two

  left_due : left ≡ page_due old 0
  left_due = takes_first.0

  right_due : right ≡ page_due old 1
  right_due = takes_second.0

  took : HasTaken old 2 after
  took = takes_second.1

  -- a page that is taken: it is a given page that is free, or one of the next
  due_in : (i : ℕ) → i < 2 → (2 ≤ page_due old i) × (page_due old i < half) × (page_due old i < next_page old + (2 - free_pages old))
  due_in i lt = elim (cases_lt i (free_pages old)) [
    | inl some ↦ let f = due_free old laid.whole.pages i some in (f.1, omega (arith, f.2, laid.given_most), omega (arith, f.2))
    | inr none ↦ let f = due_next old laid.whole.pages i (omega (arith, none)) in
        (omega (arith, f, laid.whole.front.some_pages), omega (arith, f, none, enough, half_is, lt, laid.free_few), omega (arith, f, none, lt))
  ]

  left_in : (2 ≤ left) × (left < half) × (left < next_page old + (2 - free_pages old))
  left_in = let h = due_in 0 (omega arith) in (omega (arith, left_due, h.0), omega (arith, left_due, h.1), omega (arith, left_due, h.2))

  right_in : (2 ≤ right) × (right < half) × (right < next_page old + (2 - free_pages old))
  right_in = let h = due_in 1 (omega arith) in (omega (arith, right_due, h.0), omega (arith, right_due, h.1), omega (arith, right_due, h.2))

  differ : left ≢ right
  differ same = dues_differ old laid.whole.pages 0 1 (omega arith) (sym left_due ∙ same ∙ right_due)

  -- both pages have some of the pairs
  inside : (1 ≤ cut_for level pairs key) × (cut_for level pairs key < 30)
  inside = cut_inside level pairs key

  lower : List ℕ
  lower = written_page level 0 (take (cut_for level pairs key) pairs)

  upper : List ℕ
  upper = written_page level 0 (drop (cut_for level pairs key) pairs)

  named : List ℕ
  named = written_page (level + 1) 0 ((0, left) ∷ (key_at pairs (cut_for level pairs key), right) ∷ [])

  part : List ℕ
  part = part_bytes after

  lower_few : length (take (cut_for level pairs key) pairs) ≤ 30
  lower_few = omega (arith, inside, length-take-le (cut_for level pairs key) pairs (omega (arith, full, inside)))

  upper_few : length (drop (cut_for level pairs key) pairs) ≤ 30
  upper_few = omega (arith, length-drop (cut_for level pairs key) pairs, full)

  named_few : length {A = Pair} ((0, left) ∷ (key_at pairs (cut_for level pairs key), right) ∷ []) ≤ 30
  named_few = omega arith

  len1 : length lower ≡ 512
  unfolding lower
  len1 = length-written_page level 0 (take (cut_for level pairs key) pairs) lower_few (omega arith)

  len2 : length upper ≡ 512
  unfolding upper
  len2 = length-written_page level 0 (drop (cut_for level pairs key) pairs) upper_few (omega arith)

  len3 : length named ≡ 512
  unfolding named
  len3 = length-written_page (level + 1) 0 ((0, left) ∷ (key_at pairs (cut_for level pairs key), right) ∷ []) named_few (omega arith)

  after_long : length after.entries ≡ 256
  after_long = ap (λ (es : List ℕ). length es) (took.entries_are ∙ sym says.entries) ∙ entries_long

  len4 : length part ≡ 280
  unfolding part
  len4 = length-part_bytes after after_long

  root_tree : IsTree root level old root.page 0 key_end
  root_tree = subst (λ (n : ℕ). IsTree root n old root.page 0 key_end) level_is laid.root_sound.2

  root_under : IsPageOfTree old root.page root.page
  root_under = under_self (level_of old root.page) old root.page

  root_in : (1 ≤ root.page) × (root.page < next_page old)
  root_in = laid.root_sound.0

  -- no page of the tree is taken
  not_left : (x : ℕ) → IsPageOfTree old root.page x → x ≢ left
  not_left x u same = due_apart old root x 0 laid.whole.pages laid.root_sound u (same ∙ left_due)

  not_right : (x : ℕ) → IsPageOfTree old root.page x → x ≢ right
  not_right x u same = due_apart old root x 1 laid.whole.pages laid.root_sound u (same ∙ right_due)

  grown : List ℕ
  grown = applied (growing_parts after left right root.page level pairs key) old

  written : AreWritten old grown half left right root.page lower upper named part
  unfolding grown lower upper named part
  written = are_written old half laid.size left right root.page (written_page level 0 (take (cut_for level pairs key) pairs)) (written_page level 0 (drop (cut_for level pairs key) pairs)) (written_page (level + 1) 0 ((0, left) ∷ (key_at pairs (cut_for level pairs key), right) ∷ [])) (part_bytes after)
      (omega (arith, left_in), left_in.1) (omega (arith, right_in), right_in.1) (root_in.0, omega (arith, root_in, laid.given_most)) differ (λ e. not_left root.page root_under (sym e)) (λ e. not_right root.page root_under (sym e)) len1 len2 len3 len4

  grown_long : length grown ≡ length old
  grown_long = written.size

  others : (x : ℕ) → 1 ≤ x → x ≢ root.page → x ≢ left → x ≢ right → page_bytes grown x ≡ page_bytes old x
  others x some no_root no_left no_right = written.others x some no_left no_right no_root

  after_most : after.next_page ≤ half
  after_most = elim (cases_lt 1 (free_pages old)) [
    | inl some ↦ omega (arith, took.page_next, some, laid.given_most)
    | inr none ↦ omega (arith, took.page_next, none, enough, half_is, laid.free_few, laid.given_most)
  ]

  says_all : SaysSuper (page_bytes grown 0) after × IsSuper 1 grown × (tables_of grown ≡ tables_of old)
  unfolding part
  says_all = taken_says root old grown half laid few front after entries_long says 2 took after_most written.count written.mark written.front

  lists_now : IsAfter old grown 2
  lists_now = is_after old grown 2 after laid.whole.slots laid.whole.pages took says_all.0
      (λ i from less.
      let f = due_free old laid.whole.pages i less in
      others (page_due old i) (omega (arith, f.1)) (λ e. free_apart old root (page_due old i) laid.root_sound (subst (λ (x : ℕ). IsPageOfTree old root.page x) (sym e) root_under) f.3)
      (λ e. dues_differ old laid.whole.pages 0 i (omega (arith, from)) (sym left_due ∙ sym e))
      (λ e. dues_differ old laid.whole.pages 1 i (omega (arith, from)) (sym right_due ∙ sym e)))
      (λ j free. written.slots j)

  keeps : Keeps old grown
  keeps = record {
    pages = omega (arith, lists_now.pages_next);
    slots = omega (arith, lists_now.slots_next);
    carried = λ t p lt carries. carries_on old grown t p (written.slots p.1) carries;
  }

  lower_half : IsHalf old grown root.page left (take (cut_for level pairs key) (page_pairs old root.page))
  unfolding lower
  lower_half = is_half old grown root.page left level (take (cut_for level pairs key) pairs) (take (cut_for level pairs key) (page_pairs old root.page)) written.first lower_few (omega (arith, less)) (small_take (cut_for level pairs key) pairs read.small).0
      (tree_kind root level old root.page 0 key_end root_tree) level_is (ap (take (cut_for level pairs key)) pairs_are)

  upper_half : IsHalf old grown root.page right (drop (cut_for level pairs key) (page_pairs old root.page))
  unfolding upper
  upper_half = is_half old grown root.page right level (drop (cut_for level pairs key) pairs) (drop (cut_for level pairs key) (page_pairs old root.page)) written.second upper_few (omega (arith, less)) (small_take (cut_for level pairs key) pairs read.small).1
      (tree_kind root level old root.page 0 key_end root_tree) level_is (ap (drop (cut_for level pairs key)) pairs_are)

  is_cut : IsCut old grown root.page left right (cut_for level pairs key)
  is_cut = record { full = ap (λ (ps : List Pair). length ps) (sym pairs_are) ∙ full; some = inside.0; less = inside.1; left_is = lower_half; right_is = upper_half }

  one_more : level + 1 ≡ suc level
  one_more = omega arith

  named_small : AreSmall ((0, left) ∷ (key_at pairs (cut_for level pairs key), right) ∷ [])
  named_small = (omega arith, omega (arith, left_in, few), (small_at (cut_for level pairs key) pairs (omega (arith, full, inside)) read.small, omega (arith, right_in, few), tt))

  named_pairs : page_pairs grown root.page ≡ (0, left) ∷ (middle old root.page (cut_for level pairs key), right) ∷ []
  unfolding named
  named_pairs =
      ap pairs_said written.third ∙ written_pairs (level + 1) 0 ((0, left) ∷ (key_at pairs (cut_for level pairs key), right) ∷ []) named_few (omega arith) named_small
      ∙ ap (λ (ps : List Pair). (0, left) ∷ (key_at ps (cut_for level pairs key), right) ∷ []) pairs_are

  splits : SplitsRoot root old grown left right
  unfolding named
  splits = record {
    place = (cut_for level pairs key);
    kind = ap kind_said written.third ∙ written_kind (level + 1) 0 ((0, left) ∷ (key_at pairs (cut_for level pairs key), right) ∷ []) named_few (omega arith) ∙ ap kind_for one_more;
    level = ap level_said written.third ∙ written_level (level + 1) 0 ((0, left) ∷ (key_at pairs (cut_for level pairs key), right) ∷ []) named_few (omega arith) ∙ one_more ∙ ap suc (sym level_is);
    link = ap link_said written.third ∙ written_link (level + 1) 0 ((0, left) ∷ (key_at pairs (cut_for level pairs key), right) ∷ []) named_few (omega arith);
    pairs = named_pairs;
    cut = is_cut;
    two = left_in.0;
    other = λ e. not_left root.page root_under (sym e);
    left_given = omega (arith, lists_now.pages_next, left_in.2);
    two' = right_in.0;
    other' = λ e. not_right root.page root_under (sym e);
    right_given = omega (arith, lists_now.pages_next, right_in.2);
  }

  tree_others : (x : ℕ) → IsPageOfTree old root.page x → x ≢ root.page → page_bytes grown x ≡ page_bytes old x
  tree_others x u ne =
      let own = under_own root (level_of old root.page) old x root.page 0 key_end laid.root_sound.0 laid.root_sound.2 u in
      others x own.0 ne (not_left x u) (not_right x u)

  grown_tree : IsSoundTree root grown × (pairs_of_tree grown root.page ≡ pairs_of_tree old root.page)
  grown_tree = sound_tree_grows root old grown left right laid.root_sound keeps (omega (arith, level_is, less)) splits tree_others

  stays : StaysGrown root old grown left right
  stays = tree_stays_grown root old grown left right laid.root_sound splits tree_others

  -- the pages of other trees are as they were
  tables_others : (two : Root) → IsTable old two.table two.page → two.page ≢ root.page → (x : ℕ) → IsPageOfTree old two.page x → page_bytes grown x ≡ page_bytes old x
  tables_others two is ne x u =
      let t = table_sound old two sound is in
      let own = under_own two (level_of old two.page) old x two.page 0 key_end t.0 t.2 u in
      others x own.0
      (λ e. tables_apart old two root x sound is table ne u (subst (λ (y : ℕ). IsPageOfTree old root.page y) (sym e) root_under))
      (λ e. due_apart old two x 0 laid.whole.pages t u (e ∙ left_due))
      (λ e. due_apart old two x 1 laid.whole.pages t u (e ∙ right_due))

  -- the root is one level up
  pub grown_level : level_of (applied (growing_parts after left right root.page level pairs key) old) root.page ≡ suc level
  unfolding grown
  grown_level = splits.level ∙ ap suc level_is

  -- each page that is taken is one of the tree
  due_named : (i : ℕ) → i < 2 → (x : ℕ) → page_due old i ≡ x → IsPageOfTree grown root.page x
  due_named zero lt x is = subst (λ (y : ℕ). IsPageOfTree grown root.page y) (left_due ∙ is) stays.left_is
  due_named (suc zero) lt x is = subst (λ (y : ℕ). IsPageOfTree grown root.page y) (right_due ∙ is) stays.right_is
  due_named (suc (suc i)) lt x is = absurd (omega arith)

  -- what splitting the root does to the data
  pub growing_grows : Grows tree root.page old (applied (growing_parts after left right root.page level pairs key) old) × Rests tree root.page old (applied (growing_parts after left right root.page level pairs key) old)
  unfolding grown
  growing_grows = (
    record {
      sound = one_changed old grown root sound table says_all.1 lists_now.slots lists_now.pages says_all.2 keeps grown_tree.0 tables_others;
      size = grown_long;
      version = version_kept old grown written.mark;
      tables = says_all.2;
      others = others_untouched old grown root sound table says_all.1 lists_now.slots lists_now.pages says_all.2 keeps grown_tree.0 tables_others;
      slots = λ j lt ne. written.slots j;
      later = omega (arith, lists_now.pages_next);
      few = omega (arith, lists_now.pages_next);
      free_pages_fall = omega (arith, lists_now.pages_free);
      named = λ x from to.
          let i : ℕ = x - next_page old + free_pages old in
          let f = due_next old laid.whole.pages (x - next_page old + free_pages old) (omega arith) in
          due_named (x - next_page old + free_pages old) (omega (arith, lists_now.pages_next, from, to)) x (omega (arith, f, from));
      taken = λ x free. elim (after_free old grown 2 lists_now x free) [
        | inl still ↦ inl still
        | inr now ↦ inr (due_named now.0 now.1 x now.2)
      ];
      kept = stays.stay;
      levels = omega (arith, splits.level);
    },
    record {
      pairs = grown_tree.1;
      slots = after_slots old grown 2 lists_now;
      due = after_due old grown 2 lists_now;
      same = written.slots (slot_due old);
    },
  )

  pub grown_says : SaysSuper (page_bytes (applied (growing_parts after left right root.page level pairs key) old) 0) after
  unfolding grown
  grown_says = says_all.0

  -- the pages that are taken are those that are due
  pub grown_dues : (left ≡ page_due old 0) × (right ≡ page_due old 1)
  grown_dues = (left_due, right_due)

  pub grown_slots : (next_slot (applied (growing_parts after left right root.page level pairs key) old) ≡ next_slot old) × (next_page (applied (growing_parts after left right root.page level pairs key) old) ≤ next_page old + 2)
  unfolding grown
  grown_slots = (lists_now.slots_next, omega (arith, lists_now.pages_next))

  -- two pages less are left
  pub grown_used : used_pages (applied (growing_parts after left right root.page level pairs key) old) ≡ used_pages old + 2
  unfolding grown
  grown_used = after_pages old grown 2 lists_now (omega (arith, laid.free_few))

  side : nat_lt key (key_at (page_pairs old root.page) (cut_for level pairs key)) ≡ nat_lt key (key_at (page_pairs old root.page) 15)
  side =
      let r = rises_of root level old root.page 0 key_end root_tree in
      subst (λ (ps : List Pair). nat_lt key (key_at ps (cut_for level pairs key)) ≡ nat_lt key (key_at ps 15)) pairs_are
      (cut_side level key r.0 r.1 pairs full (subst (λ (ps : List Pair). Rise r.0 r.1 ps) (sym pairs_are) r.2))

  -- the half that has the key is the root's child for it, and has what is left to do
  pub grown_half : half_for (page_pairs old root.page) left right key ≡ page_for 1 (applied (growing_parts after left right root.page level pairs key) old) root.page key
  unfolding grown
  grown_half = ap (λ (b : Bool). if b then left else right) (sym side) ∙ sym (ap (λ (ps : List Pair). child_for ps key) named_pairs)

  pub grown_pairs : page_pairs (applied (growing_parts after left right root.page level pairs key) old) (half_for (page_pairs old root.page) left right key) ≡ half_pairs level (page_pairs old root.page) key
  unfolding grown
  grown_pairs = elim (leb_tells (suc key) (key_at (page_pairs old root.page) 15)) [
    | inl h ↦ let b : nat_lt key (key_at (page_pairs old root.page) 15) ≡ true = h.0 in rw b (lower_half.pairs_are ∙ ap (λ (ps : List Pair). take (cut_for level ps key) (page_pairs old root.page)) pairs_are)
    | inr h ↦ let b : nat_lt key (key_at (page_pairs old root.page) 15) ≡ false = h.0 in rw b (upper_half.pairs_are ∙ ap (λ (ps : List Pair). drop (cut_for level ps key) (page_pairs old root.page)) pairs_are)
  ]

  pub grown_left : actions_below level (applied (growing_parts after left right root.page level pairs key) old) (half_for (page_pairs old root.page) left right key)
      (half_for (page_pairs old root.page) left right key) 0 key
      ≡ actions_below level old root.page (half_for (page_pairs old root.page) left right key) 2 key
  unfolding grown
  grown_left =
      half_actions root old grown 2 (after_due old grown 2 lists_now) written.size lists_now.due root.page left right (cut_for level pairs key) key is_cut side level 0 key_end root_tree (omega arith) (omega (arith, fits))
      (λ x u ne. tree_others x (subst (λ (n : ℕ). IsUnder n old x root.page) (sym level_is) u) ne)
      (half_for (page_pairs old root.page) left right key) 0
      ∙ ap (λ (n : ℕ). actions_below level old root.page (half_for (page_pairs old root.page) left right key) n key) (let z : 2 + 0 ≡ 2 = omega arith in z)
