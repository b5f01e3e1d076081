-- The records of sound data are such as a dump tells.
use Rattle.std.proofs.Common.{◌≡◌, ℕ, ◌^◌, ◌<◌, Bool, true, false, inl, inr, List, length, map, drop, get_or, Option, Some, None, refl, sym, ap, subst, ◌∙◌, arith, nat_eq}
use Rattle.std.specs.Prelude.{nat_le, if◌then◌else◌, slice_get, slice_index, ◌&&◌, ◌%◌, ◌/◌}
use Rattle.std.specs.FinMap.{entries}
use Rattle.std.specs.List.{Contains, IsDistinct, list_all, list_any}
use Rattle.std.specs.Option.{option_map, unwrap_or}
use Rattle.std.proofs.lemmas.Bool.{and_parts, both_ways, cases_Bool, leb-true}
use Rattle.std.proofs.lemmas.Bool.Decides.{Decides-eqb}
use Rattle.std.proofs.lemmas.List.{get_or-map, length-drop, length-map, length-take-le}
use Rattle.std.proofs.lemmas.List.Elements.{Contains-get_or}
use Rattle.std.proofs.lemmas.Map.Keys.{IsDistinct-from_apart, apart_from_distinct}
use Rattle.std.proofs.lemmas.Map.Made.{is_member-Decides}
use Rattle.std.proofs.lemmas.Map.Steps.{length-le_from_distinct_below}
use Rattle.std.proofs.lemmas.Option.{same_Some}
use Rattle.record_slots.specs.Places.{slot_at, slot_of, next_slot, Carries}
use Rattle.record_slots.specs.Slots.{slot_said, state_said, text_said, value_said}
use Rattle.record_slots.specs.Text.{IsValue, is_visible}
use Rattle.record_slots.specs.declared.slot.Slot.TheVariants.{Absent, Present}
use Rattle.record_slots.proofs.SlotLemmas.{is_value_said, length-text_said, short_said}
use Rattle.history.specs.Key.{is_same_key, main_name, of_table}
use Rattle.history.proofs.Keys.{same_key}
use Rattle.page_store.specs.Index.{Index, HasCounts}
use Rattle.page_store.specs.Records.{value_of}
use Rattle.record_table.specs.Names.{names_of}
use Rattle.record_table.specs.Shown.{found_key, pairs_of, table_of}
use Rattle.record_table.proofs.Joint.{found_inside}
use Rattle.record_table.proofs.Sharing.{Laws, Placed, carries_one, placed}
use Rattle.record_table.proofs.Tables.{get-table_in, record_at}
use Rattle.dump_text.specs.Dump.{IsRecord}
use Rattle.dump_text.specs.Again.{AreOfArray}
use Rattle.restore_law.specs.Told.{IsTold}
use Rattle.restore_law.proofs.Found.{Entry, keys_in, once, entry_got, got_entry}
use Rattle.restore_law.proofs.Named.{IsOfOne, at_place, proper_name, few_names, has_main, met_few}

-- ---- what a slot says

-- the value in 64 bytes, if there is one, is proper
said_value : (bytes value : List ℕ) → length bytes ≡ 64 → value_said bytes ≡ Some value → IsValue value
unfolding value_said
said_value bytes value long is = go (is_value_said bytes) refl is
  where
    proper : is_value_said bytes ≡ true → IsValue (text_said bytes)
    proper passes =
        let fits = short_said bytes passes in
        let len = length-text_said bytes long fits in
        let first : (nat_le 1 (slice_index bytes 1) ≡ true) × ((nat_le (slice_index bytes 1) 54 && list_all is_visible (text_said bytes)) ≡ true) = and_parts _ _ passes in
        let some = leb-true 1 (slice_index bytes 1) first.0 in
        let tests : (nat_le (slice_index bytes 1) 54 ≡ true) × (list_all is_visible (text_said bytes) ≡ true) = and_parts _ _ first.1 in
        record { some = omega (arith, len, some); short = omega (arith, len, fits); visible = tests.1 }

    go : (b : Bool) → is_value_said bytes ≡ b → (if b then Some (text_said bytes) else None) ≡ Some value → IsValue value
    go true passes is = subst IsValue (same_Some (text_said bytes) value is) (proper passes)
    go false fails is = absurd (cc)

slot_value : (bytes value : List ℕ) → length bytes ≡ 64 → value_of (slot_said bytes) ≡ Some value → IsValue value
unfolding slot_said
slot_value bytes value long is = go _ (nat_le 16 (state_said bytes)) (nat_eq (state_said bytes % 2) 0) is
  where
    shown : (key : ℕ) (o : Option (List ℕ)) → value_said bytes ≡ o → value_of (option_map (Present (state_said bytes / 2) key) o) ≡ Some value → IsValue value
    shown key None at is = absurd (cc)
    shown key (Some text) at is = said_value bytes value long (at ∙ is)

    go : (key : ℕ) (large even : Bool)
        → value_of (if large then None else if even then Some (Absent (state_said bytes / 2) key) else option_map (Present (state_said bytes / 2) key) (value_said bytes)) ≡ Some value → IsValue value
    go key true even is = absurd (cc)
    go key false true is = absurd (cc)
    go key false false is = shown key (value_said bytes) refl is

-- ---- the records of data

module _ (index : Index) (laws : Laws index) (bytes : List ℕ) (sound : index.sound bytes) where
  counts : HasCounts bytes
  counts = laws.counts bytes sound

  abbrev records : List Entry
  records = entries (table_of index bytes)

  slot_long : (slot : ℕ) → slot < next_slot bytes → length (slot_of bytes slot) ≡ 64
  unfolding slot_of
  slot_long slot less = length-take-le 64 (drop (slot_at bytes slot) bytes) (omega (arith, length-drop (slot_at bytes slot) bytes, less, counts.slots))

  -- a record has a slot, which holds its value
  pub record Held (entry : Entry) : Type 0 where
    pub slot : ℕ
    pub found_is : found_key (pairs_of index bytes) entry.0 ≡ Some slot
    pub value : value_of (slot_said (slot_of bytes slot)) ≡ Some entry.1

  held : (entry : Entry) → Contains records entry → Held entry
  unfolding table_of
  held entry has = go (found_key (pairs_of index bytes) entry.0) refl (sym (get-table_in bytes (pairs_of index bytes) entry.0) ∙ entry_got (table_of index bytes) entry.0 entry.1 has)
    where
      go : (o : Option ℕ) → found_key (pairs_of index bytes) entry.0 ≡ o → record_at bytes o ≡ Some entry.1 → Held entry
      go None at is = absurd (cc)
      go (Some slot) at is = record { slot = slot; found_is = at; value = is }

  place : (entry : Entry) (has : Contains records entry) → Placed index laws bytes entry.0 (held entry has).slot
  place entry has = placed index laws bytes sound entry.0 (held entry has).slot (held entry has).found_is

  proper : (entry : Entry) → Contains records entry → IsRecord entry
  proper entry has =
      let p = place entry has in
      record {
        table = proper_name bytes counts p.table entry.0.table p.called;
        key = (found_inside 0 (2 ^ 64) (index.pairs bytes p.root) entry.0.key (held entry has).slot (laws.rises bytes p.table p.root sound p.there) p.has).1;
        value = slot_value (slot_of bytes (held entry has).slot) entry.1 (slot_long (held entry has).slot p.given) (held entry has).value;
      }

  -- it is of a table of the data
  named : (name : List ℕ) → IsOfOne records name → Contains (names_of bytes) name
  named name (entry, has, of) = let p = place entry has in subst (Contains (names_of bytes)) of (at_place (names_of bytes) p.table entry.0.table p.called)

  -- ---- each has a slot of its own

  abbrev slot_for : Entry → ℕ
  slot_for entry = unwrap_or (found_key (pairs_of index bytes) entry.0) 0

  slot_is : (entry : Entry) (has : Contains records entry) → slot_for entry ≡ (held entry has).slot
  slot_is entry has = ap (λ (o : Option ℕ). unwrap_or o 0) (held entry has).found_is

  -- two records in one slot have one key
  one_slot : (one two : Entry) → Contains records one → Contains records two → slot_for one ≡ slot_for two → one.0 ≡ two.0
  one_slot one two first second same =
      let p = place one first in
      let q = place two second in
      let slots : (held two second).slot ≡ (held one first).slot = sym (slot_is two second) ∙ sym same ∙ slot_is one first in
      let both = carries_one bytes p.table q.table one.0.key two.0.key (held one first).slot p.carries (subst (λ (s : ℕ). Carries bytes q.table (two.0.key, s)) slots q.carries) in
      let name : one.0.table ≡ two.0.table = same_Some one.0.table two.0.table (sym p.called ∙ ap (λ (n : ℕ). slice_get (names_of bytes) n) both.0 ∙ q.called) in
      λ i. of_table (name i) (both.1 i)

  any : Entry
  any = (of_table main_name 0, main_name)

  slots_apart : IsDistinct nat_eq (map slot_for records)
  slots_apart = IsDistinct-from_apart nat_eq (map slot_for records) (λ i j d less within. apart i j d less (omega (arith, within, length-map records slot_for)))
    where
      apart : (i j d : ℕ) → i < j → j < length records → nat_eq (get_or (map slot_for records) i d) (get_or (map slot_for records) j d) ≡ false
      apart i j d less within = elim (cases_Bool (nat_eq (get_or (map slot_for records) i d) (get_or (map slot_for records) j d))) [
        | inl same ↦
            let inside : i < length records = omega (arith, less, within) in
            let slots : slot_for (get_or records i any) ≡ slot_for (get_or records j any) =
            sym (get_or-map slot_for records i any d inside) ∙ (Decides-eqb (get_or (map slot_for records) i d) (get_or (map slot_for records) j d)).0 same ∙ get_or-map slot_for records j any d within in
            let keys = one_slot (get_or records i any) (get_or records j any) (Contains-get_or records i any inside) (Contains-get_or records j any within) slots in
            let there : is_same_key (get_or (keys_in records) i any.0) (get_or (keys_in records) j any.0) ≡ true =
            same_key _ _ (get_or-map (λ (entry : Entry). entry.0) records i any any.0 inside ∙ keys ∙ sym (get_or-map (λ (entry : Entry). entry.0) records j any any.0 within)) in
            absurd (both_ways _ (apart_from_distinct is_same_key (keys_in records) i j any.0 (once (table_of index bytes)) less (omega (arith, within, length-map records (λ (entry : Entry). entry.0)))) there)
        | inr differ ↦ differ
      ]

  slots_below : (slot : ℕ) → list_any (nat_eq slot) (map slot_for records) ≡ true → slot < next_slot bytes
  slots_below slot is =
      let has = (is_member-Decides Decides-eqb (map slot_for records) slot).0 is in
      let within : has.0 < length records = omega (arith, has.1, length-map records slot_for) in
      let entry = get_or records has.0 any in
      let there = Contains-get_or records has.0 any within in
      let at : slot_for entry ≡ slot = sym (get_or-map slot_for records has.0 any slot within) ∙ has.2 in
      subst (λ (s : ℕ). s < next_slot bytes) (sym (slot_is entry there) ∙ at) (place entry there).given

  countable : length bytes < 2 ^ 32 → length records < 2 ^ 64
  countable short = omega (arith, length-le_from_distinct_below (map slot_for records) (next_slot bytes) slots_apart slots_below, length-map records slot_for, counts.slots, short)

  pub may_be_dumped : length bytes < 2 ^ 32 → AreOfArray (entries (table_of index bytes))
  may_be_dumped short = record {
    proper = λ k d within. proper (get_or records k d) (Contains-get_or records k d within);
    once = once (table_of index bytes);
    few = omega (arith, met_few records (names_of bytes) (has_main bytes counts) named, few_names bytes counts);
    countable = countable short;
  }

  -- each table that is told is one of the data
  pub told_named : (name : List ℕ) → IsTold (table_of index bytes) name → Contains (names_of bytes) name
  told_named name (inl main) = subst (Contains (names_of bytes)) (sym main) (has_main bytes counts)
  told_named name (inr (key, value, got)) = named name ((of_table name key, value), got_entry (table_of index bytes) (of_table name key) value got, refl)
