-- Data from which the pair of a key without a record was taken out: it has the same records, and all other keys.
use Rattle.std.proofs.Common.{◌≡◌, ◌≢◌, ◌^◌, ℕ, suc, ◌+◌, ◌-◌, ◌*◌, ◌/◌, ◌<◌, ◌≤◌, Bool, true, false, cond, inl, inr, List, [], ◌∷◌, refl, sym, ◌∙◌, ap, subst, arith}
use Rattle.std.specs.Prelude.{nat_eq, slice_get, Option, Some, None, IsSome}
use Rattle.std.specs.Option.{option_map, unwrap_or}
use Rattle.std.specs.List.{list_any}
use Rattle.std.specs.FinMap.{get}
use Rattle.std.proofs.lemmas.Bool.{cases_eq, eq-eqb, ne_eqb, true≢false, or_parts}
use Rattle.std.proofs.lemmas.Bool.Decides.{eqb_tells}
use Rattle.std.proofs.lemmas.Option.{same_Some}
use Rattle.array_shape.specs.Logged.{Part}
use Rattle.record_slots.specs.Slots.{slot_said}
use Rattle.record_slots.specs.Places.{tables_of, slot_of, next_slot, slot_due, free_slot, free_slots, free_pages, IsOfKey, Carries}
use Rattle.record_slots.specs.Names.{names_in}
use Rattle.record_slots.specs.declared.super_page.TableEntry.{TableEntry}
use Rattle.record_slots.specs.declared.slot.Slot.{Slot}
use Rattle.record_slots.specs.declared.slot.Slot.TheVariants.{Absent, Present}
use Rattle.history.specs.declared.key.Key.{Key}
use Rattle.history.specs.Key.{is_same_key, of_table}
use Rattle.record_table.specs.Names.{IsCalled}
use Rattle.history.specs.Writes.{Write, is_of}
use Rattle.history.proofs.Keys.{cases_key, same_key, other_key}
use Rattle.history.proofs.Agreeing.{same_table}
use Rattle.page_store.specs.Index.{Index, IsTable}
use Rattle.page_store.specs.Pairs.{Pair, Rise, found, removed}
use Rattle.page_store.specs.Removes.{HasAbsent, Shrinks}
use Rattle.page_store.specs.Records.{value_of}
use Rattle.record_table.specs.Invariant.{AreSlotParts}
use Rattle.record_table.specs.Removing.{IsKept, Loses}
use Rattle.record_table.specs.Shown.{found_key, table_in, table_of, write_of, writes_of, pairs_of, keys_of}
use Rattle.index_keys.specs.Keys.{LosesKey}
use Rattle.record_table.proofs.Sharing.{Laws, removal_under, Placed, placed, root_called, called_same, found_given, found_in, carries_one, level_same}
use Rattle.record_table.proofs.SlotParts.{said_same, one_slot}
use Rattle.record_table.proofs.Tables.{record_at, get-table_in}

pub found_below : (low high q : ℕ) (ps : List Pair) → Rise low high ps → q < low → found ps q ≡ None
found_below low high q [] rise lt = refl
found_below low high q (p ∷ ps) rise lt = ap (λ (b : Bool). cond b (Some p.1) (found ps q)) (ne_eqb p.0 q (λ e. absurd (omega (arith, e, lt, rise.0)))) ∙ found_below (suc p.0) high q ps rise.1 (omega (arith, lt, rise.0))

-- the key that was taken out leads to nothing, and each other to what it did
found_removed : (low high key other : ℕ) (ps : List Pair) → Rise low high ps → found (removed ps key) other ≡ cond (nat_eq key other) None (found ps other)
found_removed low high key other [] rise = elim (cases_eq key other) [
  | inl same ↦ sym (ap (λ (b : Bool). cond b None (found [] other)) (eq-eqb key other same))
  | inr ne ↦ sym (ap (λ (b : Bool). cond b None (found [] other)) (ne_eqb key other ne))
]
found_removed low high key other (p ∷ ps) rise = elim (eqb_tells p.0 key) [
  | inl h ↦
      let e : nat_eq p.0 key ≡ true = h.0 in
      elim (eqb_tells key other) [
        | inl same ↦
            let f : nat_eq key other ≡ true = same.0 in
            let none : found ps other ≡ None = found_below (suc p.0) high other ps rise.1 (omega (arith, h.1, same.1)) in
            rw (e, f) none
        | inr differ ↦
            let f : nat_eq key other ≡ false = differ.0 in
            let f' : nat_eq p.0 other ≡ false = ne_eqb p.0 other (λ x. differ.1 (sym h.1 ∙ x)) in
            rw (e, f, f') refl
      ]
  | inr h ↦
      let e : nat_eq p.0 key ≡ false = h.0 in
      let rest = found_removed (suc p.0) high key other ps rise.1 in
      elim (eqb_tells p.0 other) [
        | inl here ↦
            let t : nat_eq p.0 other ≡ true = here.0 in
            let f : nat_eq key other ≡ false = ne_eqb key other (λ x. h.1 (here.1 ∙ sym x)) in
            rw (e, t, f) refl
        | inr there ↦ let t : nat_eq p.0 other ≡ false = there.0 in rw (e, t) rest
      ]
]

-- a slot of the key without a value is absent under it
absent_said : (table key : ℕ) (o : Option Slot) → IsOfKey table key o → value_of o ≡ None → o ≡ Some (Absent table key)
absent_said table key None of none = absurd of
absent_said table key (Some (Absent j k)) of none = λ i. Some (Absent (of.0 i) (of.1 i))
absent_said table key (Some (Present j k v)) of none = absurd (cc)

some_of : (o : Option ℕ) → IsSome o → (slot : ℕ) × (o ≡ Some slot)
some_of None some = absurd (cc)
some_of (Some slot) some = (slot, refl)

module _ (index : Index) (laws : Laws index) (table root key : ℕ) (name : List ℕ) (d : List ℕ) (called : IsCalled d table name) (sound : index.sound d) (named : IsTable d table root) where
  -- a key that the indexes have, and that has no record, has an absent slot
  pub has_absent : IsSome (found_key (pairs_of index d) (of_table name key)) → get (table_of index d) (of_table name key) ≡ None → HasAbsent index root table key d
  unfolding table_of Carries
  has_absent some none =
      let it = some_of (found_key (pairs_of index d) (of_table name key)) some in
      let has : found (index.pairs d root) key ≡ Some it.0 = sym (found_in index laws d table root key name sound called named) ∙ it.1 in
      let given = found_given d table (index.pairs d root) key it.0 (laws.given d table root sound named) has in
      let value : value_of (slot_said (slot_of d it.0)) ≡ None =
      sym (ap (record_at d) it.1) ∙ sym (get-table_in d (pairs_of index d) (of_table name key)) ∙ none in
      (it.0, has, absent_said table key (slot_said (slot_of d it.0)) given.1 value)

  module _ (e : List ℕ) (slot : ℕ) (has : found (index.pairs d root) key ≡ Some slot) (shrinks : Shrinks index root key slot d e) where
    named_now : (number other : ℕ) → IsTable d number other → IsTable e number other
    named_now number other is = ap (λ (ts : List TableEntry). option_map (λ entry. entry.root) (slice_get ts number)) shrinks.tables ∙ is

    named_then : (number other : ℕ) → IsTable e number other → IsTable d number other
    named_then number other is = ap (λ (ts : List TableEntry). option_map (λ entry. entry.root) (slice_get ts number)) (sym shrinks.tables) ∙ is

    called_now : IsCalled e table name
    called_now = called_same d e shrinks.tables table name called

    here : found_key (pairs_of index d) (of_table name key) ≡ Some slot
    here = found_in index laws d table root key name sound called named ∙ has

    found_now : (k : ℕ) → found (index.pairs e root) k ≡ cond (nat_eq key k) None (found (index.pairs d root) k)
    found_now k = ap (λ (l : List Pair). found l k) shrinks.pairs ∙ found_removed 0 (2 ^ 64) key k (index.pairs d root) (laws.rises d table root sound named)

    gone : found_key (pairs_of index e) (of_table name key) ≡ None
    gone =
        found_in index laws e table root key name shrinks.sound called_now (named_now table root named) ∙ found_now key
        ∙ ap (λ (b : Bool). cond b None (found (index.pairs d root) key)) (eq-eqb key key refl)

    still_there : (q : Key) (s : ℕ) → q ≢ of_table name key → (p : Placed index laws d q s) → found (index.pairs e p.root) q.key ≡ Some s
    still_there q s ne p = elim (cases_eq p.root root) [
      | inl same ↦
          let it : found (index.pairs d root) q.key ≡ Some s = ap (λ (r : ℕ). found (index.pairs d r) q.key) (sym same) ∙ p.has in
          let carried = (found_given d table (index.pairs d root) q.key s (laws.given d table root sound named) it).1 in
          let number : p.table ≡ table = (carries_one d p.table table q.key q.key s p.carries carried).0 in
          let name_is : q.table ≡ name = same_Some q.table name (sym p.called ∙ ap (λ (n : ℕ). slice_get (names_in (tables_of d)) n) number ∙ called) in
          let apart : key ≢ q.key = λ x. ne (λ i. of_table (name_is i) (sym x i)) in
          ap (λ (r : ℕ). found (index.pairs e r) q.key) same ∙ found_now q.key ∙ ap (λ (b : Bool). cond b None (found (index.pairs d root) q.key)) (ne_eqb key q.key apart) ∙ it
      | inr differs ↦ ap (λ (l : List Pair). found l q.key) (shrinks.others p.table p.root p.there differs).pairs ∙ p.has
    ]

    pub still : (q : Key) (s : ℕ) → q ≢ of_table name key → found_key (pairs_of index d) q ≡ Some s → found_key (pairs_of index e) q ≡ Some s
    still q s ne is =
        let p = placed index laws d sound q s is in
        found_in index laws e p.table p.root q.key q.table shrinks.sound (called_same d e shrinks.tables p.table q.table p.called) (named_now p.table p.root p.there) ∙ still_there q s ne p

    was_there : (q : Key) (s : ℕ) → (p : Placed index laws e q s) → found (index.pairs d p.root) q.key ≡ Some s
    was_there q s p = elim (cases_eq p.root root) [
      | inl same ↦
          ap (λ (r : ℕ). found (index.pairs d r) q.key) same
          ∙ of_cond (nat_eq key q.key) (found (index.pairs d root) q.key) (sym (found_now q.key) ∙ ap (λ (r : ℕ). found (index.pairs e r) q.key) (sym same) ∙ p.has)
      | inr differs ↦ ap (λ (l : List Pair). found l q.key) (sym (shrinks.others p.table p.root (named_then p.table p.root p.there) differs).pairs) ∙ p.has
    ]
      where
        of_cond : (b : Bool) (o : Option ℕ) → cond b None o ≡ Some s → o ≡ Some s
        of_cond true o x = absurd (cc)
        of_cond false o x = x

    was : (q : Key) (s : ℕ) → found_key (pairs_of index e) q ≡ Some s → found_key (pairs_of index d) q ≡ Some s
    was q s is =
        let p = placed index laws e shrinks.sound q s is in
        found_in index laws d p.table p.root q.key q.table sound (called_same e d (sym shrinks.tables) p.table q.table p.called) (named_then p.table p.root p.there) ∙ was_there q s p

    none_came : (q : Key) → found_key (pairs_of index d) q ≡ None → found_key (pairs_of index e) q ≡ None
    none_came q none = go (found_key (pairs_of index e) q) refl
      where
        go : (o : Option ℕ) → found_key (pairs_of index e) q ≡ o → o ≡ None
        go None is = refl
        go (Some s) is = sym (was q s is) ∙ none

    other_same : (q : Key) → q ≢ of_table name key → found_key (pairs_of index e) q ≡ found_key (pairs_of index d) q
    other_same q ne = go (found_key (pairs_of index d) q) refl
      where
        go : (o : Option ℕ) → found_key (pairs_of index d) q ≡ o → found_key (pairs_of index e) q ≡ o
        go None is = none_came q is
        go (Some s) is = still q s ne is

    lost : (q : Key) → found_key (pairs_of index e) q ≡ cond (is_same_key (of_table name key) q) None (found_key (pairs_of index d) q)
    lost q = elim (cases_key (of_table name key) q) [
      | inl same ↦ ap (found_key (pairs_of index e)) (sym same) ∙ gone ∙ sym (ap (λ (b : Bool). cond b None (found_key (pairs_of index d) q)) (same_key (of_table name key) q same))
      | inr ne ↦ other_same q (λ x. ne (sym x)) ∙ sym (ap (λ (b : Bool). cond b None (found_key (pairs_of index d) q)) (other_key (of_table name key) q ne))
    ]

    record_kept : (o : Option ℕ) (q : Key) → q ≢ of_table name key → found_key (pairs_of index d) q ≡ o → record_at e o ≡ record_at d o
    record_kept None q ne is = refl
    record_kept (Some s) q ne is = ap (λ (b : List ℕ). value_of (slot_said b)) (shrinks.slots s (λ same. ne (one_slot index laws d sound q (of_table name key) s is (here ∙ ap Some (sym same)))))

    pub records_same : get (table_of index d) (of_table name key) ≡ None → table_of index e ≡ table_of index d
    unfolding table_of
    records_same none = same_table (table_in e (pairs_of index e)) (table_in d (pairs_of index d)) (λ q.
        get-table_in e (pairs_of index e) q ∙ ap (record_at e) (lost q)
        ∙ elim (cases_key (of_table name key) q) [
          | inl same ↦
              ap (λ (b : Bool). record_at e (cond b None (found_key (pairs_of index d) q))) (same_key (of_table name key) q same)
              ∙ sym (ap (get (table_in d (pairs_of index d))) (sym same) ∙ none)
          | inr ne ↦
              ap (λ (b : Bool). record_at e (cond b None (found_key (pairs_of index d) q))) (other_key (of_table name key) q ne)
              ∙ record_kept (found_key (pairs_of index d) q) q (λ x. ne (sym x)) refl ∙ sym (get-table_in d (pairs_of index d) q)
        ])

    pub parts_kept : (log : List Part) → AreSlotParts index d log → list_any (is_of (of_table name key)) (writes_of d log) ≡ false → AreSlotParts index e log
    parts_kept [] parts other = tt
    parts_kept (p ∷ ps) parts other =
        let apart = or_parts (is_of (of_table name key) (write_of d p)) (list_any (is_of (of_table name key)) (writes_of d ps)) other in (
          record {
            slot = parts.0.slot;
            named = (λ i. found_key (pairs_of index e) (said_same d e shrinks.tables (slot_said p.1) i).0) ∙ still (write_of d p).0 parts.0.slot (λ e. true≢false (sym (same_key (write_of d p).0 (of_table name key) e) ∙ apart.0)) parts.0.named;
            place = parts.0.place ∙ ap (λ (n : ℕ). 64 * (4 * (n / 512) + parts.0.slot)) (sym shrinks.size);
            size = parts.0.size;
            table = parts.0.table;
            key = parts.0.key;
            called = subst (λ (w : Write). IsCalled e parts.0.table w.0.table) (sym (said_same d e shrinks.tables (slot_said p.1))) (called_same d e shrinks.tables parts.0.table (write_of d p).0.table parts.0.called);
            says = parts.0.says;
          },
          parts_kept ps parts.1 apart.1,
        )

    due_is : slot_due e ≡ slot
    due_is =
        ap (λ (b : Bool). cond b (next_slot e) (free_slot e - 1)) (ne_eqb (free_slots e) 0 (λ x. absurd (omega (arith, x, shrinks.freed.more))))
        ∙ (let it : free_slot e - 1 ≡ slot = omega (arith, shrinks.freed.first) in it)

    level_of : (number other : ℕ) → IsTable d number other → index.level e other ≡ index.level d other
    level_of number other is = elim (cases_eq other root) [
      | inl same ↦ subst (λ (r : ℕ). index.level e r ≡ index.level d r) (sym same) shrinks.levels
      | inr differs ↦ (shrinks.others number other is differs).level
    ]

    pages_fewer : (free_pages d ≤ free_pages e) × (free_pages e ≤ suc (free_pages d))
    pages_fewer = elim shrinks.freed_page [
      | inl kept ↦ (omega (arith, kept.many), omega (arith, kept.many))
      | inr one ↦ (omega (arith, one.2.more), omega (arith, one.2.more))
    ]

    loses_key : LosesKey (of_table name key) (keys_of index d) (keys_of index e)
    loses_key =
        let now = laws.counts e shrinks.sound in
        let few = pages_fewer in
        record {
          slot_of = λ i q. lost q i;
          due = here ∙ ap Some (sym due_is);
          slots = omega (arith, shrinks.next_slot_same, shrinks.freed.more, now.free_slots_few);
          fewer = omega (arith, shrinks.next_page_same, few.0);
          one_page = omega (arith, shrinks.next_page_same, few.1, now.free_pages_few);
          next_page = shrinks.next_page_same;
          levels = λ i number. level_same index d e number shrinks.tables (λ other is. level_of number other is) i;
        }

    -- a last pair that is kept is kept still
    kept_still : (number one : ℕ) (other : List ℕ) → IsCalled d number other → IsSome (found_key (pairs_of index e) (of_table other one)) → IsKept index number d one → IsKept index number e one
    kept_still number one other its some kept =
        let r = root_called d number other its in
        let there : IsSome (found (index.pairs e r.0) one) =
        subst (λ (o : Option ℕ). IsSome o) (found_in index laws e number r.0 one other shrinks.sound (called_same d e shrinks.tables number other its) (named_now number r.0 r.1)) some in
        let before : index.removal d r.0 one ≡ None = sym (ap (removal_under index d one) r.1) ∙ kept in
        ap (removal_under index e one) (named_now number r.0 r.1) ∙ shrinks.last number r.0 one r.1 there before

    pub loses : Loses index table key d e
    loses = record {
      keys = subst (λ (k : Key). LosesKey k (keys_of index d) (keys_of index e)) (sym (ap (λ (o : Option (List ℕ)). of_table (unwrap_or o []) key) called)) loses_key;
      kept = kept_still;
    }
