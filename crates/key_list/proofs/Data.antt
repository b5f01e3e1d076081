-- What the actions of an insertion and of a removal make of the data.
use Rattle.std.proofs.Common.{◌≡◌, ◌≢◌, ℕ, suc, ◌+◌, ◌-◌, ◌*◌, ◌^◌, ◌<◌, ◌≤◌, true, false, nat_lt, ◌/◌, inl, inr, List, [], ◌∷◌, length, take, drop, Option, Some, None, refl, sym, ◌∙◌, ap, subst, arith}
use Rattle.std.specs.Prelude.{IsSome}
use Rattle.std.specs.Option.{unwrap_or}
use Rattle.std.proofs.lemmas.Bool.{cases_lt, cases_eq}
use Rattle.std.proofs.lemmas.Bool.Decides.{eqb_tells, leb_tells, nat_tests}
use Rattle.std.proofs.lemmas.List.{length-take-le, length-drop}
use Rattle.mars_base.specs.Bytes.{range}
use Rattle.array_shape.specs.declared.shape.Shape.{Shape}
use Rattle.array_shape.specs.Places.{data_len}
use Rattle.array_shape.specs.Places as array
use Rattle.array_shape.specs.Logged.{Part, applied, AllFit}
use Rattle.record_slots.specs.Free.{free_said}
use Rattle.record_slots.specs.Slots.{slot_bytes}
use Rattle.record_slots.specs.Super.{SaysSuper, part_bytes}
use Rattle.record_slots.specs.declared.free.Free.{Free}
use Rattle.record_slots.specs.declared.super_page.Super.{Super}
use Rattle.record_slots.specs.declared.slot.Slot.TheVariants.{Absent}
use Rattle.record_slots.specs.Places.{page_bytes, page_count, first_slot_page, slot_at, slot_page, slot_of, next_slot, next_page, free_slots, free_page, free_pages, free_slot_of, free_page_of, slot_due, page_due, used_slots, used_pages, version_of, tables_of, IsSuper, Carries, AreGiven}
use Rattle.page_store.specs.Index.{Action, IsTable, IsUntouched, HasCounts, slots_of, index_pages_of, Grows, Rests, Gains}
use Rattle.page_store.specs.Removes.{FreesSlot, LosesKey}
use Rattle.page_store.specs.Pairs.{Pair, found, inserted, removed}
use Rattle.page_store.specs.Shown.{address}
use Rattle.index_pages.specs.Adding.{adding_parts, TakesSlot, TakesPage}
use Rattle.index_pages.specs.Giving.{MayGive, GivesSlot, removing_pages, removing_parts}
use Rattle.index_pages.specs.Keys.{key_at}
use Rattle.index_pages.specs.Page.{page_pairs, pairs_said, kind_said, level_said, count_said, link_said, kind_of, link_of, count_of}
use Rattle.index_pages.specs.Ways.{Keeps, KeepsBut, IsOwn}
use Rattle.index_pages.specs.Written.{written_page}
use Rattle.index_pages.proofs.Added.{IsAdded, IsRemoved, added_is, removed_is}
use Rattle.index_pages.proofs.Carrying.{carries_on, carries_absent}
use Rattle.index_pages.proofs.Claims.{entries_long}
use Rattle.record_slots.proofs.ReadingBack.{IsWritable, length-part_bytes}
use Rattle.index_pages.proofs.Fronts.{super_written, super_kept, version_kept}
use Rattle.index_pages.proofs.Freeing.{found_given, given_elsewhere}
use Rattle.index_pages.proofs.Halved.{slot_found}
use Rattle.index_pages.proofs.PageFacts.{length-page_pairs}
use Rattle.index_pages.proofs.Puts.{AllApart, Stand, applied_long, applied_away, applied_stand}
use Rattle.index_pages.proofs.Ranges.{Apart}
use Rattle.index_pages.proofs.Released.{carries_not_free, may_give_slot, read_writable, slot_given_writable, slot_given_said, slot_given_rest, slot_frees, slots_back}
use Rattle.index_pages.proofs.Removing.{length-removed, small_removed}
use Rattle.index_pages.proofs.Rising.{length-inserted}
use Rattle.index_pages.proofs.Sizes.{slot_page_is}
use Rattle.index_pages.proofs.Tabled.{IsWhole, whole_counts}
use Rattle.index_pages.proofs.Taken.{FreeSlots, FreePages, free_pages_stay, HasTaken, IsAfter, IsSlotAfter, is_slot_after, slot_is_due, slot_writable, slot_due_next, due_carries, taken_none, taken_one, page_is_due, due_free, due_next, dues_differ, is_after, after_due, after_slots, after_pages, after_free, taken_writable}
use Rattle.index_pages.proofs.Writing.{small_take, small_inserted, written_kind, written_level, written_link, written_pairs, length-written_page}
use Rattle.key_list.specs.Chain.{chain_check, IsSoundChain, pairs_of_chain, page_of_key}
use Rattle.key_list.specs.Changes.{TakesPairInChain, SplitsPage, LosesPairInChain}
use Rattle.key_list.specs.Index.{chain, chain_actions, keeps_last, chain_removal, IsPageOfChain}
use Rattle.index_pages.specs.Actions.{adding, half_for, losing}
use Rattle.key_list.specs.Located.{IsLocated, Locates, cutting_parts}
use Rattle.key_list.specs.Resting.{sound_table, sound_chain_given}
use Rattle.key_list.proofs.ChainActions.{chain_of_table_finds, chain_of_table_takes, chain_of_table_splits, chain_of_table_more}
use Rattle.key_list.proofs.Chains.{key_page_own, pages_same, cut_keeps, cut_names, half_after}
use Rattle.key_list.proofs.Holding.{found_before, kept_none, last_stays, more_of}
use Rattle.key_list.proofs.Losing.{freed_chain_loses}
use Rattle.key_list.proofs.Resting.{chain_stays}
use Rattle.key_list.proofs.Walking.{key_page_linked}
use Rattle.key_list.proofs.Others.{roots_one, whole_of, root_own, member_of, free_apart, due_apart, tables_apart, all_given, one_changed, others_untouched}

module _ (shape : Shape) (old : List ℕ) (half : ℕ) (long : length old ≡ data_len shape) (half_is : half ≡ index_pages_of shape) (all : half + half ≡ array.page_count shape) (few : half ≤ 16384)
    (root table : ℕ) (front : Super) (page link : ℕ) (pairs : List Pair) (key : ℕ) (fits : key < 2 ^ 64) (loc : IsLocated shape front page link pairs)
    (sound : IsSoundChain old) (named : IsTable old table root) (says : Locates old root key front page link pairs) where
  size : length old ≡ 512 * (half + half)
  size = omega (arith, long, all)

  count : page_count old ≡ half + half
  count = omega (arith, size)

  first : first_slot_page old ≡ half
  first = omega (arith, count)

  whole : IsWhole 0 chain_check old
  whole = whole_of old sound

  counts : HasCounts old
  counts = whole_counts 0 chain_check old whole

  chain_sound : chain_check old root table None
  chain_sound = sound_table old table root sound named

  own : IsOwn old root
  own = root_own old table root sound named

  on_page : IsPageOfChain old root page
  on_page = subst (λ (x : ℕ). IsPageOfChain old root x) (sym says.page_is) (key_page_own table old root key own chain_sound).1

  own_page : (1 ≤ page) × (page < next_page old)
  own_page = subst (λ (x : ℕ). (1 ≤ x) × (x < next_page old)) (sym says.page_is) (key_page_own table old root key own chain_sound).0

  page_kind : kind_of old page ≡ 1
  page_kind = (member_of old table root page sound named on_page).kind

  given_most : next_page old ≤ half
  given_most = omega (arith, whole.front.pages, first)

  slots_most : next_slot old ≤ 8 * half
  slots_most = omega (arith, whole.front.slots, count)

  long_entries : length front.entries ≡ 256
  long_entries = entries_long old front (omega (arith, size, given_most, whole.front.some_pages)) says.front_says

  link_fits : link < 2 ^ 32
  link_fits =
      let linked = key_page_linked old root table half key whole.front chain_sound first in
      let below : link_of old page < half = subst (λ (x : ℕ). link_of old x < half) (sym says.page_is) linked.link in
      omega (arith, says.link_is, below, few)

  -- a pair is added with the slot that is due
  module _ (after : Super) (slot : ℕ) (takes : TakesSlot old front slot after) (table_few : table < 8) (room : length pairs < 30) (left : used_slots old < slots_of shape)
      (none : found (pairs_of_chain old root) key ≡ None) where
    due : slot ≡ slot_due old
    due = takes.due ∙ slot_is_due old front says.front_says

    eight : slot < 8 * half
    eight = elim (cases_eq (free_slots old) 0) [
      | inl empty ↦ omega (arith, due, slot_due_next old empty, left, empty, all)
      | inr some ↦ omega (arith, due, counts.due some, slots_most)
    ]

    many : length (inserted pairs key slot) ≤ 30
    many = omega (arith, length-inserted key slot pairs)

    writable : IsWritable after × (after.version ≡ front.version) × (after.form ≡ front.form) × (after.entries ≡ front.entries) × (after.next_page ≡ front.next_page)
    writable = slot_writable old front after whole.slots whole.pages says.front_says takes.after_is long_entries (omega (arith, slots_most, few)) whole.front.some_pages (omega (arith, given_most, few))

    added : List ℕ
    added = applied (adding_parts half after slot page link pairs table key) old

    is : IsAdded old added half after slot page link pairs table key
    unfolding added
    is = added_is old half size after writable.0.whole.entries slot page link pairs table key table_few fits eight own_page.0 (omega (arith, own_page, given_most)) link_fits room

    says_now : SaysSuper (page_bytes added 0) after
    says_now = super_written old added front after is.mark is.part says.front_says writable.1 writable.2 writable.0

    other_slots : (j : ℕ) → j ≢ slot_due old → slot_of added j ≡ slot_of old j
    other_slots j ne = is.slots j (λ e. ne (e ∙ due))

    free_pages_kept : (x : ℕ) → free_page_of old x ≢ None → 1 ≤ x → x < half → page_bytes added x ≡ page_bytes old x
    free_pages_kept x free some below = is.pages x some below (λ e. free_apart old x (ap (λ (y : ℕ). kind_of old y) e ∙ page_kind) free)

    lists_now : IsSlotAfter old added
    lists_now = is_slot_after old added front after whole.slots whole.pages says.front_says takes.after_is says_now counts.free_slots_few other_slots
        (λ x free from to. free_pages_kept x free (omega (arith, from)) (omega (arith, to, given_most)))

    after_slots_most : after.next_slot ≤ 8 * half
    after_slots_most = elim (cases_eq (free_slots old) 0) [
      | inl empty ↦ omega (arith, says_now.next_slot, lists_now.one_more empty, left, all, empty)
      | inr some ↦ omega (arith, says_now.next_slot, lists_now.as_many some, slots_most)
    ]

    front_now : IsSuper 0 added × (tables_of added ≡ tables_of old)
    front_now = super_kept 0 old added front after half (omega (arith, is.size, size)) says.front_says says_now writable.1 writable.2 writable.3
        after_slots_most (omega (arith, writable.4)) (omega (arith, writable.4, says.front_says.next_page, given_most)) whole.front

    keeps : Keeps old added
    keeps = record {
      pages = omega (arith, lists_now.pages_next);
      slots = lists_now.later;
      carried = λ t p lt carries. carries_on old added t p (other_slots p.1 (due_carries old t p whole.slots lt carries)) carries;
    }

    takes_pair : TakesPairInChain old added table page key slot
    takes_pair = record {
      room = omega (arith, room, ap (λ (ps : List Pair). length ps) says.pairs_are, length-page_pairs old page);
      kind = ap kind_said is.bytes ∙ written_kind 0 link (inserted pairs key slot) many link_fits;
      level = ap level_said is.bytes ∙ written_level 0 link (inserted pairs key slot) many link_fits;
      link = ap link_said is.bytes ∙ written_link 0 link (inserted pairs key slot) many link_fits ∙ says.link_is;
      pairs = ap pairs_said is.bytes ∙ written_pairs 0 link (inserted pairs key slot) many link_fits (small_inserted key slot pairs loc.small fits (omega (arith, eight, few)))
          ∙ ap (λ (ps : List Pair). inserted ps key slot) says.pairs_are;
      given = omega (arith, due, lists_now.given);
      carries = carries_absent added table key slot table_few fits is.slot_is;
    }

    pages_kept : (x : ℕ) → 1 ≤ x → x < next_page old → kind_of old x ≡ 1 → x ≢ page → page_bytes added x ≡ page_bytes old x
    pages_kept x some lt kind ne = is.pages x some (omega (arith, lt, given_most)) ne

    adds : chain_check added root table None × (pairs_of_chain added root ≡ inserted (pairs_of_chain old root) key slot)
    adds = chain_of_table_takes old added root table key slot own chain_sound keeps lists_now.pages_next fits none
        (subst (λ (x : ℕ). TakesPairInChain old added table x key slot) says.page_is takes_pair)
        (subst (λ (x : ℕ). (y : ℕ) → 1 ≤ y → y < next_page old → kind_of old y ≡ 1 → y ≢ x → page_bytes added y ≡ page_bytes old y) says.page_is pages_kept)

    links_kept : (p : ℕ) → 1 ≤ p → p < next_page old → kind_of old p ≡ 1 → link_of added p ≡ link_of old p
    links_kept p some lt kind = elim (eqb_tells p page) [
      | inl same ↦ ap (λ (x : ℕ). link_of added x) same.1 ∙ takes_pair.link ∙ ap (λ (x : ℕ). link_of old x) (sym same.1)
      | inr other ↦ ap link_said (pages_kept p some lt kind other.1)
    ]

    tables_kept : (table' root' : ℕ) → IsTable old table' root' → root' ≢ root → (x : ℕ) → IsPageOfChain old root' x → page_bytes added x ≡ page_bytes old x
    tables_kept table' root' is' differ x on =
        let m = member_of old table' root' x sound is' on in
        pages_kept x m.own.0 m.own.1 m.kind (λ e. tables_apart old table' root' table root x sound is' named differ on (subst (λ (y : ℕ). IsPageOfChain old root y) (sym e) on_page))

    -- what an added pair makes of the data
    pub adding_grows : Grows chain root old (applied (adding_parts half after slot page link pairs table key) old) × Gains chain root table key old (applied (adding_parts half after slot page link pairs table key) old)
    unfolding added
    adding_grows = (
      record {
        sound = one_changed old added table root sound named front_now.0 lists_now.slots lists_now.pages front_now.1 keeps.pages adds.0 (λ t r named' ne. all_given old added sound keeps t r named') tables_kept;
        size = is.size;
        version = version_kept old added is.mark;
        tables = front_now.1;
        others = others_untouched old added table root sound named front_now.0 lists_now.slots lists_now.pages front_now.1 keeps.pages adds.0 (λ t r named' ne. all_given old added sound keeps t r named') tables_kept;
        slots = λ j lt ne. other_slots j ne;
        later = omega (arith, lists_now.pages_next);
        few = omega (arith, lists_now.pages_next);
        free_pages_fall = omega (arith, lists_now.pages_free);
        named = λ x from to. absurd (omega (arith, lists_now.pages_next, from, to));
        taken = λ x free. inl (free.0, omega (arith, free.1, lists_now.pages_free), lists_now.due free.0 ∙ free.2);
        kept = pages_same table old added root own chain_sound lists_now.pages_next links_kept;
        levels = omega arith;
      },
      record {
        pairs = adds.1 ∙ ap (λ (s : ℕ). inserted (pairs_of_chain old root) key s) due;
        slots = lists_now.in_use;
        fresh = subst (λ (s : ℕ). slot_of added s ≡ slot_bytes (Absent table key)) due is.slot_is;
      },
    )

    pub adding_takes_none : next_page (applied (adding_parts half after slot page link pairs table key) old) ≡ next_page old
    unfolding added
    adding_takes_none = lists_now.pages_next

    pub slot_there : slot ≡ slot_due old
    slot_there = due

  -- a full page is cut: its upper half goes to the page that is due
  module _ (after : Super) (taken : ℕ) (takes : TakesPage old front taken after) (full : length pairs ≡ 30) (left : used_pages old < index_pages_of shape) where
    took_none : HasTaken old 0 front
    took_none = taken_none old front says.front_says whole.pages

    taken_due : taken ≡ page_due old 0
    taken_due = takes.due ∙ page_is_due old 0 front whole.pages took_none

    took : HasTaken old 1 after
    took = subst (λ (f : Super). HasTaken old 1 f) (sym takes.after_is) (taken_one old 0 front whole.pages took_none)

    -- it is a given page that is free, or the next
    taken_in : (2 ≤ taken) × (taken < half) × (taken < next_page old + (1 - free_pages old))
    taken_in = elim (cases_lt 0 (free_pages old)) [
      | inl some ↦ let f = due_free old whole.pages 0 some in (omega (arith, taken_due, f.1), omega (arith, taken_due, f.2, given_most), omega (arith, taken_due, f.2))
      | inr empty ↦
          let f = due_next old whole.pages 0 (omega (arith, empty)) in
          (omega (arith, taken_due, f, whole.front.some_pages), omega (arith, taken_due, f, empty, left, half_is), omega (arith, taken_due, f, empty))
    ]

    lower : List ℕ
    lower = written_page 0 taken (take 15 pairs)

    upper : List ℕ
    upper = written_page 0 link (drop 15 pairs)

    part : List ℕ
    part = part_bytes after

    cut : List ℕ
    cut = applied (cutting_parts after taken page link pairs) old

    lower_many : length (take 15 pairs) ≡ 15
    lower_many = length-take-le 15 pairs (omega (arith, full))

    upper_many : length (drop 15 pairs) ≡ 15
    upper_many = omega (arith, length-drop 15 pairs, full)

    lower_few : length (take 15 pairs) ≤ 30
    lower_few = omega (arith, lower_many)

    upper_few : length (drop 15 pairs) ≤ 30
    upper_few = omega (arith, upper_many)

    taken_fits : taken < 2 ^ 32
    taken_fits = omega (arith, taken_in.1, few)

    len1 : length lower ≡ 512
    unfolding lower
    len1 = length-written_page 0 taken (take 15 pairs) lower_few taken_fits

    len2 : length upper ≡ 512
    unfolding upper
    len2 = length-written_page 0 link (drop 15 pairs) upper_few link_fits

    after_long : length after.entries ≡ 256
    after_long = ap (λ (es : List ℕ). length es) (took.entries_are ∙ sym says.front_says.entries) ∙ long_entries

    len3 : length part ≡ 280
    unfolding part
    len3 = length-part_bytes after after_long

    page_below : page < half
    page_below = omega (arith, own_page.1, given_most)

    fresh : page ≢ taken
    fresh same = due_apart old page 0 whole.pages own_page page_kind (same ∙ taken_due)

    parts : List Part
    parts = cutting_parts after taken page link pairs

    fit : AllFit (length old) parts
    unfolding parts lower upper part
    fit = (omega (arith, len1, size, page_below), (omega (arith, len2, size, taken_in.1), (omega (arith, len3, size, page_below), tt)))

    apart_pages : (x y n m : ℕ) → n ≡ 512 → m ≡ 512 → x ≢ y → Apart (address x 0) n (address y 0) m
    apart_pages x y n m is is' ne = elim (cases_lt x y) [ inl below ↦ inl (omega (arith, is)) | inr behind ↦ (let other : x ≡ y → ⊥ = ne in inr (omega (arith, is', other))) ]

    apart_front : (x n m : ℕ) → n ≡ 512 → m ≡ 280 → 1 ≤ x → Apart (address x 0) n (address 0 8) m
    apart_front x n m is is' some = inr (omega (arith, is', some))

    apart : AllApart parts
    unfolding parts lower upper part
    apart = (
      (apart_pages page taken _ _ len1 len2 fresh, (apart_front page _ _ len1 len3 own_page.0, tt)),
      ((apart_front taken _ _ len2 len3 (omega (arith, taken_in.0)), tt), (tt, tt)),
    )

    stand : Stand parts cut
    unfolding cut parts
    stand = applied_stand parts old fit apart

    cut_long : length cut ≡ length old
    unfolding cut parts
    cut_long = applied_long parts old fit

    cut_count : page_count cut ≡ half + half
    cut_count = omega (arith, cut_long, size)

    page_at : (x : ℕ) (b : List ℕ) → length b ≡ 512 → range cut (address x 0) (length b) ≡ b → page_bytes cut x ≡ b
    unfolding page_bytes
    page_at x b is e = ap (λ (n : ℕ). range cut n 512) (let z : 512 * x ≡ address x 0 = omega arith in z) ∙ ap (λ (n : ℕ). range cut (address x 0) n) (sym is) ∙ e

    lower_new : page_bytes cut page ≡ lower
    unfolding parts lower
    lower_new = page_at page lower len1 stand.0

    upper_new : page_bytes cut taken ≡ upper
    unfolding parts upper
    upper_new = page_at taken upper len2 stand.1.0

    part_new : range cut 8 280 ≡ part
    unfolding parts part
    part_new = ap (λ (n : ℕ). range cut 8 n) (sym len3) ∙ stand.1.1.0

    away : (at n : ℕ) → Apart at n (address page 0) (length lower) → Apart at n (address taken 0) (length upper) → Apart at n (address 0 8) (length part) → range cut at n ≡ range old at n
    unfolding cut parts lower upper part
    away at n a b e = applied_away parts old at n fit (a, (b, (e, tt)))

    zero_new : range cut 0 8 ≡ range old 0 8
    zero_new = away 0 8 (inl (omega (arith, own_page.0))) (inl (omega (arith, taken_in.0))) (inl (omega arith))

    cut_others : (x : ℕ) → 1 ≤ x → x ≢ page → x ≢ taken → page_bytes cut x ≡ page_bytes old x
    unfolding page_bytes
    cut_others x some no_page no_taken =
        let e : 512 * x ≡ address x 0 = omega arith in
        rw e (away (address x 0) 512 (apart_pages x page 512 _ refl len1 no_page) (apart_pages x taken 512 _ refl len2 no_taken) (apart_front x 512 _ refl len3 some))

    pub cut_slots : (j : ℕ) → slot_of (applied (cutting_parts after taken page link pairs) old) j ≡ slot_of old j
    unfolding slot_of cut
    cut_slots j =
        let place : slot_at cut j ≡ 512 * half + 64 * j = omega (arith, cut_count) in
        let place' : slot_at old j ≡ 512 * half + 64 * j = omega (arith, count) in
        ap (λ (x : ℕ). range cut x 64) place
        ∙ away (512 * half + 64 * j) 64 (inr (omega (arith, len1, page_below))) (inr (omega (arith, len2, taken_in.1))) (inr (omega (arith, len3, page_below)))
        ∙ ap (λ (x : ℕ). range old x 64) (sym place')

    after_next : after.next_page ≡ next_page old + (1 - free_pages old)
    after_next = took.page_next

    after_most : after.next_page ≤ half
    after_most = elim (cases_lt 0 (free_pages old)) [ inl some ↦ omega (arith, after_next, some, given_most) | inr empty ↦ omega (arith, after_next, empty, left, half_is) ]

    same_version : after.version ≡ front.version
    same_version = took.version_is ∙ sym says.front_says.version

    same_form : after.form ≡ front.form
    same_form = took.form_is ∙ sym says.front_says.form

    cut_says_now : SaysSuper (page_bytes cut 0) after
    unfolding part
    cut_says_now =
        super_written old cut front after zero_new part_new says.front_says same_version same_form
        (taken_writable old 1 after whole.slots whole.pages took after_long (omega (arith, slots_most, few)) whole.front.some_pages (omega (arith, given_most, few)))

    cut_front : IsSuper 0 cut × (tables_of cut ≡ tables_of old)
    cut_front = super_kept 0 old cut front after half cut_count says.front_says cut_says_now same_version same_form (took.entries_are ∙ sym says.front_says.entries)
        (omega (arith, took.slot_next, slots_most)) (omega (arith, says.front_says.next_page, after_next)) after_most whole.front

    cut_lists : IsAfter old cut 1
    unfolding cut
    cut_lists = is_after old cut 1 after whole.slots whole.pages took cut_says_now
        (λ i from less.
        let f = due_free old whole.pages i less in
        cut_others (page_due old i) (omega (arith, f.1)) (λ e. free_apart old (page_due old i) (ap (λ (y : ℕ). kind_of old y) e ∙ page_kind) f.3)
        (λ e. dues_differ old whole.pages 0 i (omega (arith, from)) (sym taken_due ∙ sym e)))
        (λ j free. cut_slots j)

    cut_kept : Keeps old cut
    unfolding cut
    cut_kept = record {
      pages = omega (arith, cut_lists.pages_next);
      slots = omega (arith, cut_lists.slots_next);
      carried = λ t p lt carries. carries_on old cut t p (cut_slots p.1) carries;
    }

    splits : SplitsPage old cut page taken
    unfolding lower upper
    splits = record {
      full = ap (λ (ps : List Pair). length ps) (sym says.pairs_are) ∙ full;
      kind = ap kind_said lower_new ∙ written_kind 0 taken (take 15 pairs) lower_few taken_fits;
      level = ap level_said lower_new ∙ written_level 0 taken (take 15 pairs) lower_few taken_fits;
      link = ap link_said lower_new ∙ written_link 0 taken (take 15 pairs) lower_few taken_fits;
      pairs = ap pairs_said lower_new ∙ written_pairs 0 taken (take 15 pairs) lower_few taken_fits (small_take 15 pairs loc.small).0 ∙ ap (take 15) says.pairs_are;
      kind' = ap kind_said upper_new ∙ written_kind 0 link (drop 15 pairs) upper_few link_fits;
      level' = ap level_said upper_new ∙ written_level 0 link (drop 15 pairs) upper_few link_fits;
      link' = ap link_said upper_new ∙ written_link 0 link (drop 15 pairs) upper_few link_fits ∙ says.link_is;
      pairs' = ap pairs_said upper_new ∙ written_pairs 0 link (drop 15 pairs) upper_few link_fits (small_take 15 pairs loc.small).1 ∙ ap (drop 15) says.pairs_are;
      two = taken_in.0;
      given = omega (arith, cut_lists.pages_next, taken_in.2);
    }

    cut_pages : (x : ℕ) → 1 ≤ x → x < next_page old → kind_of old x ≡ 1 → x ≢ page → page_bytes cut x ≡ page_bytes old x
    cut_pages x some lt kind ne = cut_others x some ne (λ e. due_apart old x 0 whole.pages (some, lt) kind (e ∙ taken_due))

    splits_there : SplitsPage old cut (page_of_key old root key) taken
    splits_there = subst (λ (x : ℕ). SplitsPage old cut x taken) says.page_is splits

    pages_there : (x : ℕ) → 1 ≤ x → x < next_page old → kind_of old x ≡ 1 → x ≢ page_of_key old root key → page_bytes cut x ≡ page_bytes old x
    pages_there = subst (λ (y : ℕ). (x : ℕ) → 1 ≤ x → x < next_page old → kind_of old x ≡ 1 → x ≢ y → page_bytes cut x ≡ page_bytes old x) says.page_is cut_pages

    cuts : chain_check cut root table None × (pairs_of_chain cut root ≡ pairs_of_chain old root)
    cuts = chain_of_table_splits old cut root table taken key own chain_sound cut_kept fits splits_there pages_there

    cut_tables : (table' root' : ℕ) → IsTable old table' root' → root' ≢ root → (x : ℕ) → IsPageOfChain old root' x → page_bytes cut x ≡ page_bytes old x
    cut_tables table' root' is' differ x on =
        let m = member_of old table' root' x sound is' on in
        cut_pages x m.own.0 m.own.1 m.kind (λ e. tables_apart old table' root' table root x sound is' named differ on (subst (λ (y : ℕ). IsPageOfChain old root y) (sym e) on_page))

    on_taken : IsPageOfChain cut root taken
    on_taken = cut_names table old cut page taken splits cut_pages root own chain_sound cuts.0 on_page

    next_is : (x : ℕ) → next_page old ≤ x → x < next_page cut → taken ≡ x
    next_is x from to =
        let empty : free_pages old ≤ 0 = omega (arith, cut_lists.pages_next, from, to) in
        let f = due_next old whole.pages 0 empty in
        omega (arith, taken_due, f, cut_lists.pages_next, from, to)

    -- what a cut page makes of the data
    pub cutting_grows : Grows chain root old (applied (cutting_parts after taken page link pairs) old) × Rests chain root old (applied (cutting_parts after taken page link pairs) old)
    unfolding cut
    cutting_grows = (
      record {
        sound = one_changed old cut table root sound named cut_front.0 cut_lists.slots cut_lists.pages cut_front.1 cut_kept.pages cuts.0 (λ t r named' ne. all_given old cut sound cut_kept t r named') cut_tables;
        size = cut_long;
        version = version_kept old cut zero_new;
        tables = cut_front.1;
        others = others_untouched old cut table root sound named cut_front.0 cut_lists.slots cut_lists.pages cut_front.1 cut_kept.pages cuts.0 (λ t r named' ne. all_given old cut sound cut_kept t r named') cut_tables;
        slots = λ j lt ne. cut_slots j;
        later = omega (arith, cut_lists.pages_next);
        few = omega (arith, cut_lists.pages_next);
        free_pages_fall = omega (arith, cut_lists.pages_free);
        named = λ x from to. subst (λ (y : ℕ). IsPageOfChain cut root y) (next_is x from to) on_taken;
        taken = λ x free. elim (after_free old cut 1 cut_lists x free) [
          | inl still ↦ inl still
          | inr now ↦ inr (subst (λ (y : ℕ). IsPageOfChain cut root y) (taken_due ∙ ap (λ (i : ℕ). page_due old i) (let z : 0 ≡ now.0 = omega (arith, now.1) in z) ∙ now.2) on_taken)
        ];
        kept = cut_keeps table old cut page taken splits cut_pages root own chain_sound cuts.0;
        levels = omega arith;
      },
      record {
        pairs = cuts.1;
        slots = after_slots old cut 1 cut_lists;
        due = after_due old cut 1 cut_lists;
        same = cut_slots (slot_due old);
      },
    )

    pub cut_after : IsAfter old (applied (cutting_parts after taken page link pairs) old) 1
    unfolding cut
    cut_after = cut_lists

    -- the page that is taken is the one that is due
    pub cut_due : taken ≡ page_due old 0
    cut_due = taken_due

    -- one page less is left
    pub cut_used : used_pages (applied (cutting_parts after taken page link pairs) old) ≡ used_pages old + 1
    unfolding cut
    cut_used = after_pages old cut 1 cut_lists (omega (arith, counts.free_pages_few))

    half_page_is : page_of_key cut root key ≡ half_for (page_pairs old page) page taken key
    half_page_is = half_after table old cut page taken splits cut_pages key root own chain_sound (chain_of_table_more old cut root table taken key own chain_sound cut_kept fits splits_there pages_there) cuts.0 says.page_is

    by_pairs : {T : Type 0} → (a b : T) → half_for (page_pairs old page) a b key ≡ half_for pairs a b key
    by_pairs a b = ap (λ (ps : List Pair). half_for ps a b key) (sym says.pairs_are)

    half_link_is : link_of cut (half_for pairs page taken key) ≡ half_for pairs taken link key
    half_link_is = elim (leb_tells (suc key) (key_at pairs 15)) [
      | inl h ↦ let b : nat_lt key (key_at pairs 15) ≡ true = h.0 in rw b splits.link
      | inr h ↦ let b : nat_lt key (key_at pairs 15) ≡ false = h.0 in rw b (splits.link' ∙ sym says.link_is)
    ]

    half_pairs_are : page_pairs cut (half_for pairs page taken key) ≡ half_for pairs (take 15 pairs) (drop 15 pairs) key
    half_pairs_are = elim (leb_tells (suc key) (key_at pairs 15)) [
      | inl h ↦ let b : nat_lt key (key_at pairs 15) ≡ true = h.0 in rw b (splits.pairs ∙ ap (take 15) (sym says.pairs_are))
      | inr h ↦ let b : nat_lt key (key_at pairs 15) ≡ false = h.0 in rw b (splits.pairs' ∙ ap (drop 15) (sym says.pairs_are))
    ]

    -- the half that has the key is its page then
    pub half_located : (hpage hlink : ℕ) (hpairs : List Pair) → hpage ≡ half_for pairs page taken key → hlink ≡ half_for pairs taken link key → hpairs ≡ half_for pairs (take 15 pairs) (drop 15 pairs) key
        → Locates (applied (cutting_parts after taken page link pairs) old) root key after hpage hlink hpairs
    unfolding cut
    half_located hpage hlink hpairs page_is link_is pairs_are = record {
      front_says = cut_says_now;
      page_is = page_is ∙ sym (by_pairs page taken) ∙ sym half_page_is;
      link_is = link_is ∙ sym half_link_is ∙ ap (λ (x : ℕ). link_of cut x) (sym page_is);
      pairs_are = pairs_are ∙ sym half_pairs_are ∙ ap (λ (x : ℕ). page_pairs cut x) (sym page_is);
    }

    -- the action that is left adds to that half, with the slot that was due
    pub half_left : chain_actions (applied (cutting_parts after taken page link pairs) old) root key ≡ adding old (half_for (page_pairs old page) page (page_due old 0) key) ∷ []
    unfolding cut
    half_left =
        let at : page_of_key cut root key ≡ half_for pairs page taken key = half_page_is ∙ by_pairs page taken in
        let short : length (half_for pairs (take 15 pairs) (drop 15 pairs) key) ≡ 15 = half_many in
        let count : count_of cut (page_of_key cut root key) ≡ 15 =
        sym (length-page_pairs cut (page_of_key cut root key)) ∙ ap (λ (x : ℕ). length (page_pairs cut x)) at ∙ ap (λ (ps : List Pair). length ps) half_pairs_are ∙ short in
        let b : nat_lt (count_of cut (page_of_key cut root key)) 30 ≡ true = grind (arith, nat_tests, count) in
        let one : chain_actions cut root key ≡ adding cut (page_of_key cut root key) ∷ [] = (rw b refl) in
        let slot : slot_page cut (slot_due cut) ≡ slot_page old (slot_due old) = ap (λ (s : ℕ). slot_page cut s) (after_due old cut 1 cut_lists) ∙ (let e : slot_page cut (slot_due old) ≡ slot_page old (slot_due old) = omega (arith, cut_count, count) in e) in
        one
        ∙ ap (λ (x : ℕ). adding cut x ∷ []) (half_page_is ∙ ap (λ (x : ℕ). half_for (page_pairs old page) page x key) taken_due)
        ∙ ap (λ (s : ℕ). (let a : Action = record { pages = s ∷ half_for (page_pairs old page) page (page_due old 0) key ∷ 0 ∷ []; takes = 0 } in a) ∷ []) slot
      where
        half_many : length (half_for pairs (take 15 pairs) (drop 15 pairs) key) ≡ 15
        half_many = elim (leb_tells (suc key) (key_at pairs 15)) [
          | inl h ↦ let b : nat_lt key (key_at pairs 15) ≡ true = h.0 in rw b lower_many
          | inr h ↦ let b : nat_lt key (key_at pairs 15) ≡ false = h.0 in rw b upper_many
        ]

  -- a pair is taken out, and its slot given back
  module _ (slot : ℕ) (free : Free) (after : Super) (gives : GivesSlot front slot free after) (goes : keeps_last root page link (length pairs) ≡ false) (is_there : found pairs key ≡ Some slot) where
    found_is : found (pairs_of_chain old root) key ≡ Some slot
    found_is =
        chain_of_table_finds old root table key chain_sound ∙ ap (λ (x : ℕ). found (page_pairs old x) key) (sym says.page_is) ∙ ap (λ (ps : List Pair). found ps key) (sym says.pairs_are) ∙ is_there

    had : (slot < next_slot old) × Carries old table (key, slot)
    had = found_given old table key slot (pairs_of_chain old root) found_is (sound_chain_given old root table chain_sound)

    eight_slot : slot < 8 * half
    eight_slot = omega (arith, had.0, slots_most)

    read : IsWritable front
    read = read_writable old front whole.slots whole.pages says.front_says long_entries (omega (arith, slots_most, few)) whole.front.some_pages (omega (arith, given_most, few))

    now_writable : IsWritable after
    now_writable = slot_given_writable front after slot free read gives

    rest : (after.version ≡ front.version) × (after.form ≡ front.form) × (after.entries ≡ front.entries) × (after.next_slot ≡ front.next_slot) × (after.next_page ≡ front.next_page)
        × (after.free_page ≡ front.free_page) × (after.free_pages ≡ front.free_pages)
    rest = slot_given_rest front after slot free gives

    lost : List ℕ
    lost = applied (removing_parts half after slot free page link pairs key) old

    lost_is : IsRemoved old lost half after slot free page link pairs key
    unfolding lost
    lost_is = removed_is old half size after now_writable.whole.entries slot free page link pairs key eight_slot own_page.0 (omega (arith, own_page.1, given_most)) link_fits loc.most

    says_lost : SaysSuper (page_bytes lost 0) after
    says_lost = super_written old lost front after lost_is.mark lost_is.part says.front_says rest.0 rest.1 now_writable

    next_slots : next_slot lost ≡ next_slot old
    next_slots = sym says_lost.next_slot ∙ rest.3 ∙ says.front_says.next_slot

    next_pages : next_page lost ≡ next_page old
    next_pages = sym says_lost.next_page ∙ rest.4 ∙ says.front_says.next_page

    pages_first : free_page lost ≡ free_page old
    pages_first = sym says_lost.free_page ∙ rest.5 ∙ says.front_says.free_page

    pages_many : free_pages lost ≡ free_pages old
    pages_many = sym says_lost.free_pages ∙ rest.6 ∙ says.front_says.free_pages

    front_lost : IsSuper 0 lost × (tables_of lost ≡ tables_of old)
    front_lost = super_kept 0 old lost front after half (omega (arith, lost_is.size, size)) says.front_says says_lost rest.0 rest.1 rest.2
        (omega (arith, says_lost.next_slot, next_slots, slots_most)) (omega (arith, rest.4)) (omega (arith, says_lost.next_page, next_pages, given_most)) whole.front

    frees : FreesSlot slot old lost
    frees = slot_frees old lost front after after slot free says.front_says says_lost gives refl refl (slot_given_said front after slot free read lost gives lost_is.slot_is)

    slots_lost : FreeSlots lost
    slots_lost = slots_back old lost slot whole.slots frees next_slots had.0
        (λ x some. ap (free_said 0xF0 2) (lost_is.slots x (λ e. some (ap (λ (j : ℕ). free_slot_of old j) e ∙ carries_not_free old table (key, slot) had.1))))

    pages_lost : FreePages lost
    pages_lost = free_pages_stay old lost whole.pages next_pages pages_first pages_many
        (λ x some from to. lost_is.pages x (omega (arith, from)) (omega (arith, to, given_most)) (λ e. free_apart old x (ap (λ (y : ℕ). kind_of old y) e ∙ page_kind) some))

    but : KeepsBut slot old lost
    but = record {
      size = lost_is.size;
      pages = omega (arith, next_pages);
      slots = omega (arith, next_slots);
      carried = λ t p other lt carries. carries_on old lost t p (lost_is.slots p.1 other) carries;
    }

    left_few : length (removed pairs key) ≤ 30
    left_few = omega (arith, (length-removed key pairs).1, loc.most)

    count_is : length pairs ≡ count_of old page
    count_is = ap (λ (ps : List Pair). length ps) says.pairs_are ∙ length-page_pairs old page

    left_pairs : page_pairs lost page ≡ removed (page_pairs old page) key
    left_pairs = ap pairs_said lost_is.bytes ∙ written_pairs 0 link (removed pairs key) left_few link_fits (small_removed key pairs loc.small) ∙ ap (λ (ps : List Pair). removed ps key) says.pairs_are

    loses_pair : LosesPairInChain old lost root page key
    loses_pair = record {
      more = elim (more_of root page link (length pairs) goes) [ inl two ↦ inl (omega (arith, two, count_is)) | inr alone ↦ inr (alone.0, sym says.link_is ∙ alone.1) ];
      kind = ap kind_said lost_is.bytes ∙ written_kind 0 link (removed pairs key) left_few link_fits;
      level = ap level_said lost_is.bytes ∙ written_level 0 link (removed pairs key) left_few link_fits;
      link = ap link_said lost_is.bytes ∙ written_link 0 link (removed pairs key) left_few link_fits ∙ says.link_is;
      pairs = left_pairs;
    }

    others_kept : (x : ℕ) → 1 ≤ x → x < next_page old → x ≢ page → page_bytes lost x ≡ page_bytes old x
    others_kept x some lt ne = lost_is.pages x some (omega (arith, lt, given_most)) ne

    loss : chain_check lost root table None × (pairs_of_chain lost root ≡ removed (pairs_of_chain old root) key)
    loss = freed_chain_loses old lost root table key slot own chain_sound but counts found_is next_pages
        (subst (λ (x : ℕ). LosesPairInChain old lost root x key) says.page_is loses_pair)
        (subst (λ (x : ℕ). (y : ℕ) → 1 ≤ y → y < next_page old → kind_of old y ≡ 1 → y ≢ x → page_bytes lost y ≡ page_bytes old y) says.page_is (λ y some lt kind ne. others_kept y some lt ne))

    links_lost : (x : ℕ) → 1 ≤ x → x < next_page old → link_of lost x ≡ link_of old x
    links_lost x some lt = elim (eqb_tells x page) [
      | inl same ↦ ap (λ (y : ℕ). link_of lost y) same.1 ∙ loses_pair.link ∙ ap (λ (y : ℕ). link_of old y) (sym same.1)
      | inr other ↦ ap link_said (others_kept x some lt other.1)
    ]

    own_lost : IsOwn lost root
    own_lost = (own.0, omega (arith, own.1, next_pages))

    named_lost : (x : ℕ) → IsPageOfChain lost root x → IsPageOfChain old root x
    named_lost = pages_same table lost old root own_lost loss.0 (sym next_pages) (λ p some lt kind. sym (links_lost p some (omega (arith, lt, next_pages))))

    -- the chain of another table names no page and no slot that was written
    tables_lost : (table' root' : ℕ) → IsTable old table' root' → root' ≢ root → (x : ℕ) → IsPageOfChain old root' x → page_bytes lost x ≡ page_bytes old x
    tables_lost table' root' is' differ x on =
        let m = member_of old table' root' x sound is' on in
        others_kept x m.own.0 m.own.1 (λ e. tables_apart old table' root' table root x sound is' named differ on (subst (λ (y : ℕ). IsPageOfChain old root y) (sym e) on_page))

    given_lost : (table' root' : ℕ) → IsTable old table' root' → root' ≢ root → AreGiven lost table' (pairs_of_chain old root')
    given_lost table' root' is' differ =
        given_elsewhere slot old lost but table table' key (pairs_of_chain old root') (λ same. differ (roots_one old table table' root root' same named is')) had.1
        (sound_chain_given old root' table' (sound_table old table' root' sound is'))

    sound_lost : IsSoundChain lost
    sound_lost = one_changed old lost table root sound named front_lost.0 slots_lost pages_lost front_lost.1 (omega (arith, next_pages)) loss.0 given_lost tables_lost

    untouched : (table' other : ℕ) → IsTable old table' other → other ≢ root → IsUntouched chain other old lost
    untouched = others_untouched old lost table root sound named front_lost.0 slots_lost pages_lost front_lost.1 (omega (arith, next_pages)) loss.0 given_lost tables_lost

    fewer : (x one : ℕ) → IsPageOfChain lost root x → IsSome (found (page_pairs lost x) one) → (count_of lost x ≤ count_of old x) × IsSome (found (page_pairs old x) one)
    fewer x one on some = elim (eqb_tells x page) [
      | inl same ↦
          subst (λ (y : ℕ). (count_of lost y ≤ count_of old y) × IsSome (found (page_pairs old y) one)) (sym same.1) (
            (let now : length (page_pairs lost page) ≡ length (removed (page_pairs old page) key) = ap (λ (ps : List Pair). length ps) left_pairs in
                omega (arith, now, length-page_pairs lost page, length-page_pairs old page, (length-removed key (page_pairs old page)).1)),
            found_before (page_pairs old page) key one
                (subst (λ (ps : List Pair). IsSome (found ps one)) left_pairs (subst (λ (y : ℕ). IsSome (found (page_pairs lost y) one)) same.1 some)),
          )
      | inr other ↦
          let m = member_of old table root x sound named (named_lost x on) in
          let e : page_bytes lost x ≡ page_bytes old x = others_kept x m.own.0 m.own.1 other.1 in
          (omega (arith, ap count_said e), subst (λ (b : List ℕ). IsSome (found (pairs_said b) one)) e some)
    ]

    -- what stays as the last pair of its page stays so, in this chain and in the others
    last_here : (one : ℕ) → IsSome (found (pairs_of_chain lost root) one) → chain_removal old root one ≡ None → chain_removal lost root one ≡ None
    last_here one = last_stays old lost root table one own_lost chain_sound loss.0 named_lost
        (λ x on. let m = member_of old table root x sound named (named_lost x on) in links_lost x m.own.0 m.own.1) (λ x on some. fewer x one on some)

    last_there : (table' other one : ℕ) → IsTable old table' other → other ≢ root → IsSome (found (pairs_of_chain lost other) one) → chain_removal old other one ≡ None → chain_removal lost other one ≡ None
    last_there table' other one is' differ =
        let was = sound_table old table' other sound is' in
        let own' = root_own old table' other sound is' in
        let own_now : IsOwn lost other = (own'.0, omega (arith, own'.1, next_pages)) in
        let still = chain_stays old lost table' other own' was (omega (arith, next_pages)) (given_lost table' other is' differ) (tables_lost table' other is' differ) in
        let back : (x : ℕ) → IsPageOfChain lost other x → IsPageOfChain old other x = pages_same table' lost old other own_now still.0 (sym next_pages) (λ p some lt kind. sym (links_lost p some (omega (arith, lt, next_pages)))) in
        last_stays old lost other table' one own_now was still.0 back
        (λ x on. ap link_said (tables_lost table' other is' differ x (back x on)))
        (λ x on some.
        let e : page_bytes lost x ≡ page_bytes old x = tables_lost table' other is' differ x (back x on) in
        (omega (arith, ap count_said e), subst (λ (b : List ℕ). IsSome (found (pairs_said b) one)) e some))

    -- what a pair that is taken out makes of the data
    pub removing_loses : LosesKey chain root key old (applied (removing_parts half after slot free page link pairs key) old)
    unfolding lost
    removing_loses = (
      slot,
      found_is,
      record {
        sound = sound_lost;
        size = lost_is.size;
        version = version_kept old lost lost_is.mark;
        tables = front_lost.1;
        others = untouched;
        pairs = loss.1;
        slots = λ j ne. lost_is.slots j ne;
        freed = frees;
        next_slot_same = next_slots;
        next_page_same = next_pages;
        freed_page = inl (record { first = pages_first; many = pages_many });
        kept = λ x on. inl (pages_same table old lost root own chain_sound next_pages (λ p some lt kind. links_lost p some lt) x on);
        named = named_lost;
        levels = refl;
        last = λ table' other one is' some none. elim (cases_eq other root) [
          | inl same ↦
              subst (λ (r : ℕ). chain_removal lost r one ≡ None) (sym same) (last_here one (subst (λ (r : ℕ). IsSome (found (pairs_of_chain lost r) one)) same some) (subst (λ (r : ℕ). chain_removal old r one ≡ None) same none))
          | inr differ ↦ last_there table' other one is' differ some none
        ];
      },
    )

    -- the parts lie in these pages
    pub removing_at : chain_removal old root key ≡ Some (removing_pages half slot page)
    removing_at =
        let b : keeps_last root (page_of_key old root key) (link_of old (page_of_key old root key)) (count_of old (page_of_key old root key)) ≡ false =
        subst (λ (x : ℕ). keeps_last root x (link_of old x) (count_of old x) ≡ false) says.page_is
        (subst (λ (n : ℕ). keeps_last root page (link_of old page) n ≡ false) count_is (subst (λ (l : ℕ). keeps_last root page l (length pairs) ≡ false) says.link_is goes)) in
        let slot_in : slot_page old slot ≡ half + slot / 8 = slot_page_is shape old long half slot all in
        (rw b (ap (λ (s : ℕ). Some (losing old s (page_of_key old root key))) (slot_found (pairs_of_chain old root) key)
        ∙ ap (λ (o : Option ℕ). Some (losing old (unwrap_or o 0) (page_of_key old root key))) found_is
        ∙ ap (λ (x : ℕ). Some (losing old slot x)) (sym says.page_is) ∙ ap (λ (s : ℕ). Some (s ∷ page ∷ 0 ∷ [])) slot_in))

  -- the pair stays as the last of its page
  pub staying_none : keeps_last root page link (length pairs) ≡ true → chain_removal old root key ≡ None
  staying_none keeps =
      let count_is : length pairs ≡ count_of old page = ap (λ (ps : List Pair). length ps) says.pairs_are ∙ length-page_pairs old page in
      kept_none old root key (subst (λ (x : ℕ). keeps_last root x (link_of old x) (count_of old x) ≡ true) says.page_is
      (subst (λ (n : ℕ). keeps_last root page (link_of old page) n ≡ true) count_is (subst (λ (l : ℕ). keeps_last root page l (length pairs) ≡ true) says.link_is keeps)))

  -- the key is among the pairs, and its slot can be given back
  pub key_there : (slot : ℕ) → found (pairs_of_chain old root) key ≡ Some slot → found pairs key ≡ Some slot
  key_there slot is =
      ap (λ (ps : List Pair). found ps key) says.pairs_are ∙ ap (λ (x : ℕ). found (page_pairs old x) key) says.page_is ∙ sym (chain_of_table_finds old root table key chain_sound) ∙ is

  pub slot_may : (slot : ℕ) → version_of old ≡ 2 → found (pairs_of_chain old root) key ≡ Some slot → (slot < 8 * half) × MayGive front.version slot front.next_slot front.free_slots
  slot_may slot two is =
      let had = found_given old table key slot (pairs_of_chain old root) is (sound_chain_given old root table chain_sound) in (
        omega (arith, had.0, slots_most),
        may_give_slot old front slot whole.slots (says.front_says.version ∙ two) says.front_says.next_slot says.front_says.free_slots had.0 (carries_not_free old table (key, slot) had.1),
      )
