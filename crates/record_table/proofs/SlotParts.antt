-- What parts that are whole slots do to the data.
use Rattle.std.proofs.Common.{◌≡◌, ◌≢◌, ℕ, zero, suc, take, ◌+◌, ◌*◌, ◌/◌, ◌<◌, ◌≤◌, ◌⊎◌, inl, inr, List, [], ◌∷◌, length, refl, sym, ◌∙◌, ap, subst, arith}
use Rattle.std.specs.Prelude.{map, slice_get, Option, Some, None}
use Rattle.std.specs.Option.{unwrap_or}
use Rattle.std.specs.FinMap.{get}
use Rattle.std.proofs.lemmas.Bool.{cases_eq}
use Rattle.std.proofs.lemmas.Option.{same_Some}
use Rattle.mars_base.specs.Bytes.{put, range}
use Rattle.mars_base.proofs.Puts.{length-put}
use Rattle.pcm_media.proofs.Ranges.{range-put}
use Rattle.array_shape.specs.Logged.{Part, applied}
use Rattle.record_slots.specs.Slots.{slot_said}
use Rattle.record_slots.specs.Names.{names_in}
use Rattle.record_slots.specs.Super.{version_said, tables_said}
use Rattle.record_slots.specs.Places.{page_bytes, slot_count, slot_at, slot_of, next_slot, version_of, tables_of, free_slot_of, IsOfKey, Carries}
use Rattle.record_slots.specs.declared.free.Free.{Free}
use Rattle.record_slots.specs.declared.slot.Slot.{Slot}
use Rattle.record_slots.specs.declared.slot.Slot.TheVariants.{Absent, Present}
use Rattle.record_slots.proofs.SlotLemmas.{free_says_none}
use Rattle.history.specs.declared.key.Key.{Key}
use Rattle.history.specs.Key.{of_table}
use Rattle.history.specs.Writes.{Table, Write, all_written, write_into}
use Rattle.history.proofs.Keys.{cases_key}
use Rattle.page_store.specs.Pairs.{Pair}
use Rattle.page_store.specs.Index.{Index, IsTable, KeepsIndex}
use Rattle.page_store.proofs.Reading.{part_missed}
use Rattle.page_store.specs.Records.{value_of}
use Rattle.page_store.specs.Shown.{saved_of}
use Rattle.history.specs.Log.{Log}
use Rattle.record_table.specs.Shown.{found_key, table_in, table_of, write_said, write_of, writes_of, pairs_of, keys_of}
use Rattle.record_table.specs.Invariant.{IsSlotPart, AreSlotParts}
use Rattle.record_table.specs.Names.{IsCalled}
use Rattle.history.proofs.Agreeing.{get-set_here, get-set_there, same_table}
use Rattle.record_table.proofs.Sharing.{Laws, carries_one, placed, one_number, called_same, key_said, pairs_rest, keys_same}
use Rattle.record_table.proofs.Tables.{record_at, get-table_in, value_is}

-- a free slot carries none
free_not : (bytes : List ℕ) (t : ℕ) (p : Pair) (o : Option Free) → free_slot_of bytes p.1 ≡ o → o ≢ None → Carries bytes t p → ⊥
unfolding Carries
free_not bytes t p None is some carries = some refl
free_not bytes t p (Some f) is some carries = subst (λ (s : Option Slot). IsOfKey t p.0 s) (free_says_none (slot_of bytes p.1) f is) carries

-- the same tables have the same names
pub said_same : (d e : List ℕ) → tables_of e ≡ tables_of d → (said : Option Slot) → write_said e said ≡ write_said d said
said_same d e tables None = refl
said_same d e tables (Some (Absent j k)) = λ i. (record { table = unwrap_or (slice_get (names_in (tables i)) j) []; key = k }, None)
said_same d e tables (Some (Present j k v)) = λ i. (record { table = unwrap_or (slice_get (names_in (tables i)) j) []; key = k }, Some v)

pub writes_same : (d e : List ℕ) → tables_of e ≡ tables_of d → (log : List Part) → writes_of e log ≡ writes_of d log
writes_same d e tables [] = refl
writes_same d e tables (p ∷ ps) = λ i. said_same d e tables (slot_said p.1) i ∷ writes_same d e tables ps i

pub saves_same : (d e : List ℕ) → tables_of e ≡ tables_of d → (saves : List (List Part)) → map (writes_of e) saves ≡ map (writes_of d) saves
saves_same d e tables [] = refl
saves_same d e tables (save ∷ saves) = λ i. writes_same d e tables save i ∷ saves_same d e tables saves i

-- so a log of the same parts is the same
pub log_kept : (d e : List ℕ) → tables_of e ≡ tables_of d → (now was : List Part) → now ≡ was → (counts before : List ℕ) → counts ≡ before
    → ◌≡◌ {A = Log} (record { writes = writes_of e now; saved = map (writes_of e) (saved_of now counts) }) (record { writes = writes_of d was; saved = map (writes_of d) (saved_of was before) })
log_kept d e tables now was parts counts before same = λ i. record {
  writes = (writes_same d e tables now ∙ ap (writes_of d) parts) i;
  saved = (saves_same d e tables (saved_of now counts) ∙ (λ j. map (writes_of d) (saved_of (parts j) (same j)))) i;
}

-- each table has the name that it had
abbrev pub KeepsCalls : List ℕ → List ℕ → Type 0
KeepsCalls d e = (table : ℕ) (name : List ℕ) → IsCalled d table name → IsCalled e table name

module _ (index : Index) (laws : Laws index) where
  -- two keys with the same slot are equal
  pub one_slot : (d : List ℕ) → index.sound d → (a b : Key) (slot : ℕ) → found_key (pairs_of index d) a ≡ Some slot → found_key (pairs_of index d) b ≡ Some slot → a ≡ b
  one_slot d sound a b slot x y =
      let p = placed index laws d sound a slot x in
      let q = placed index laws d sound b slot y in
      let one = carries_one d p.table q.table a.key b.key slot p.carries q.carries in
      let name : a.table ≡ b.table = same_Some a.table b.table (sym p.called ∙ ap (λ (n : ℕ). slice_get (names_in (tables_of d)) n) one.0 ∙ q.called) in
      λ i. of_table (name i) (one.1 i)

  -- the key of a part is one of its table
  pub part_key : (d : List ℕ) (part : Part) (is : IsSlotPart index d part) → (write_of d part).0 ≡ of_table (write_of d part).0.table is.key
  part_key d part is = key_said d (slot_said part.1) is.table is.key (write_of d part).0.table is.called is.says

  -- a part stands for the same write in all data in which each table has its name still
  part_same : (d e : List ℕ) → KeepsCalls d e → (p : Part) → IsSlotPart index d p → write_of e p ≡ write_of d p
  part_same d e stays p is =
      let key : (write_of e p).0 ≡ (write_of d p).0 =
      key_said e (slot_said p.1) is.table is.key (write_of d p).0.table (stays is.table (write_of d p).0.table is.called) is.says ∙ sym (part_key d p is) in
      λ i. (key i, (sym (value_is e (slot_said p.1)) ∙ value_is d (slot_said p.1)) i)

  pub parts_same : (d e : List ℕ) → KeepsCalls d e → (log : List Part) → AreSlotParts index d log → writes_of e log ≡ writes_of d log
  parts_same d e stays [] parts = refl
  parts_same d e stays (p ∷ ps) parts = λ i. part_same d e stays p parts.0 i ∷ parts_same d e stays ps parts.1 i

  pub parts_take : (d : List ℕ) (n : ℕ) (log : List Part) → AreSlotParts index d log → AreSlotParts index d (take n log)
  parts_take d zero log parts = tt
  parts_take d (suc n) [] parts = tt
  parts_take d (suc n) (p ∷ ps) parts = (parts.0, parts_take d n ps parts.1)

  saves_so : (d e : List ℕ) → KeepsCalls d e → (log : List Part) → AreSlotParts index d log → (counts : List ℕ) → map (writes_of e) (saved_of log counts) ≡ map (writes_of d) (saved_of log counts)
  saves_so d e stays log parts [] = refl
  saves_so d e stays log parts (n ∷ counts) = λ i. parts_same d e stays (take n log) (parts_take d n log parts) i ∷ saves_so d e stays log parts counts i

  -- so a log of the same slot parts is the same
  pub log_carried : (d e far : List ℕ) → far ≡ e → KeepsCalls d e → (now was : List Part) → now ≡ was → AreSlotParts index d was → (counts before : List ℕ) → counts ≡ before
      → ◌≡◌ {A = Log} (record { writes = writes_of far now; saved = map (writes_of far) (saved_of now counts) }) (record { writes = writes_of d was; saved = map (writes_of d) (saved_of was before) })
  log_carried d e far at stays now was same parts counts before equal = λ i. record {
    writes = ((λ j. writes_of (at j) (same j)) ∙ parts_same d e stays was parts) i;
    saved = ((λ j. map (writes_of (at j)) (saved_of (same j) (equal j))) ∙ saves_so d e stays was parts before) i;
  }

  -- parts stay slot parts in data with the same pairs and the same length, in which each table has its name still
  pub parts_carry : (d e : List ℕ) → KeepsCalls d e → pairs_of index e ≡ pairs_of index d → length e ≡ length d → (log : List Part) → AreSlotParts index d log → AreSlotParts index e log
  parts_carry d e stays pairs long [] parts = tt
  parts_carry d e stays pairs long (p ∷ ps) parts = (
    record {
      slot = parts.0.slot;
      named = (λ i. found_key (pairs i) (part_same d e stays p parts.0 i).0) ∙ parts.0.named;
      place = parts.0.place ∙ ap (λ (n : ℕ). 64 * (4 * (n / 512) + parts.0.slot)) (sym long);
      size = parts.0.size;
      table = parts.0.table;
      key = parts.0.key;
      called = subst (λ (w : Write). IsCalled e parts.0.table w.0.table) (sym (part_same d e stays p parts.0)) (stays parts.0.table (write_of d p).0.table parts.0.called);
      says = parts.0.says;
    },
    parts_carry d e stays pairs long ps parts.1,
  )

  module _ (d : List ℕ) (sound : index.sound d) (part : Part) (is : IsSlotPart index d part) where
    new : List ℕ
    new = put d part.0 part.1

    here : (is.slot < next_slot d) × Carries d is.table (is.key, is.slot) × (next_slot d ≤ slot_count d)
    here =
        let p = placed index laws d sound (write_of d part).0 is.slot is.named in
        let table : p.table ≡ is.table = one_number d (laws.counts d sound) p.table is.table (write_of d part).0.table p.called is.called in
        let key : (write_of d part).0.key ≡ is.key = ap (λ (k : Key). k.key) (part_key d part is) in
        (p.given, subst (λ (t : ℕ). Carries d t (is.key, is.slot)) table (subst (λ (k : ℕ). Carries d p.table (k, is.slot)) key p.carries), (laws.counts d sound).slots)

    pub part_fits : part.0 + length part.1 ≤ length d
    part_fits = omega (arith, here.0, here.2, is.place, is.size)

    pub part_long : length (put d part.0 part.1) ≡ length d
    part_long = length-put d part.0 part.1 part_fits

    slot_there : (slot : ℕ) → slot ≢ is.slot → slot_of (put d part.0 part.1) slot ≡ slot_of d slot
    unfolding slot_of
    slot_there slot ne =
        let away : (slot_at d slot + 64 ≤ part.0) ⊎ (part.0 + length part.1 ≤ slot_at d slot) = away_of in
        ap (λ (n : ℕ). range (put d part.0 part.1) (64 * (4 * (n / 512) + slot)) 64) part_long ∙ part_missed d part (slot_at d slot) 64 part_fits away
      where
        away_of : (slot_at d slot + 64 ≤ part.0) ⊎ (part.0 + length part.1 ≤ slot_at d slot)
        away_of = elim (less_or_more slot is.slot ne) [ inl lt ↦ inl (omega (arith, is.place, lt)) | inr gt ↦ inr (omega (arith, is.place, is.size, gt)) ]
          where
            less_or_more : (a b : ℕ) → a ≢ b → (a < b) ⊎ (b < a)
            less_or_more a b ne = grind arith

    slot_here : slot_of (put d part.0 part.1) is.slot ≡ part.1
    unfolding slot_of
    slot_here =
        ap (λ (n : ℕ). range (put d part.0 part.1) (64 * (4 * (n / 512) + is.slot)) 64) part_long
        ∙ (λ i. range (put d part.0 part.1) (sym is.place i) (sym is.size i))
        ∙ range-put d part.1 part.0 (length part.1) refl part_fits

    pub part_keeps : KeepsIndex d (put d part.0 part.1)
    unfolding page_bytes Carries
    part_keeps = record {
      size = part_long;
      pages = λ page lt. part_missed d part (512 * page) 512 part_fits (inl (omega (arith, is.place, lt)));
      carried = λ table pair lt carries. elim (cases_eq pair.1 is.slot) [
        | inl same ↦
            let one : (table ≡ is.table) × (pair.0 ≡ is.key) = carries_one d table is.table pair.0 is.key is.slot (subst (λ (s : ℕ). Carries d table (pair.0, s)) same carries) here.1 in
            subst (λ (s : ℕ). IsOfKey table pair.0 (slot_said (slot_of (put d part.0 part.1) s))) (sym same)
            (subst (λ (b : List ℕ). IsOfKey table pair.0 (slot_said b)) (sym slot_here)
            (subst (λ (t : ℕ). IsOfKey t pair.0 (slot_said part.1)) (sym one.0) (subst (λ (k : ℕ). IsOfKey is.table k (slot_said part.1)) (sym one.1) is.says)))
        | inr ne ↦ subst (λ (b : List ℕ). IsOfKey table pair.0 (slot_said b)) (sym (slot_there pair.1 ne)) carries
      ];
      free = λ slot lt free. slot_there slot (λ e. free_not d is.table (is.key, is.slot) (free_slot_of d is.slot) refl (subst (λ (s : ℕ). free_slot_of d s ≢ None) e free) here.1);
    }

    part_rests : index.sound (put d part.0 part.1) × ((table root : ℕ) → IsTable d table root → (index.pairs (put d part.0 part.1) root ≡ index.pairs d root) × (index.level (put d part.0 part.1) root ≡ index.level d root))
    part_rests = laws.rests d (put d part.0 part.1) sound part_keeps

    part_front : page_bytes (put d part.0 part.1) 0 ≡ page_bytes d 0
    part_front = (let counts = laws.counts d sound in part_keeps.pages 0 (omega (arith, counts.some, counts.pages)))

    part_version : version_of (put d part.0 part.1) ≡ version_of d
    part_version = ap version_said part_front

    part_tables : tables_of (put d part.0 part.1) ≡ tables_of d
    part_tables = ap tables_said part_front

    pub part_sound : index.sound (put d part.0 part.1) × (pairs_of index (put d part.0 part.1) ≡ pairs_of index d)
    part_sound = (part_rests.0, pairs_rest index d (put d part.0 part.1) part_tables (λ table root is. (part_rests.1 table root is).0))

    record_there : (o : Option ℕ) (q : Key) → q ≢ (write_of d part).0 → found_key (pairs_of index d) q ≡ o → record_at (put d part.0 part.1) o ≡ record_at d o
    record_there None q ne at = refl
    record_there (Some slot) q ne at =
        let other : slot ≢ is.slot = λ e. ne (one_slot d sound q (write_of d part).0 is.slot (at ∙ ap Some e) is.named) in
        ap (λ (b : List ℕ). value_of (slot_said b)) (slot_there slot other)

    pub part_table : table_of index (put d part.0 part.1) ≡ write_into (table_of index d) (write_of d part)
    unfolding table_of
    part_table = same_table (table_in (put d part.0 part.1) (pairs_of index (put d part.0 part.1))) (write_into (table_in d (pairs_of index d)) (write_of d part)) (λ q.
        get-table_in (put d part.0 part.1) (pairs_of index (put d part.0 part.1)) q
        ∙ ap (λ (l : List (Key × ℕ)). record_at (put d part.0 part.1) (found_key l q)) part_sound.1
        ∙ elim (cases_key q (write_of d part).0) [
          | inl same ↦
              ap (λ (k : Key). record_at (put d part.0 part.1) (found_key (pairs_of index d) k)) same
              ∙ ap (record_at (put d part.0 part.1)) is.named
              ∙ ap (λ (b : List ℕ). value_of (slot_said b)) slot_here
              ∙ value_is d (slot_said part.1)
              ∙ sym (ap (get (write_into (table_in d (pairs_of index d)) (write_of d part))) same ∙ get-set_here (table_in d (pairs_of index d)) (write_of d part).0 (write_of d part).1)
          | inr ne ↦
              record_there (found_key (pairs_of index d) q) q ne refl
              ∙ sym (get-table_in d (pairs_of index d) q)
              ∙ sym (get-set_there (table_in d (pairs_of index d)) (write_of d part).0 (write_of d part).1 q ne)
        ])

    pub part_keys : keys_of index (put d part.0 part.1) ≡ keys_of index d
    part_keys = keys_same index d (put d part.0 part.1) part_sound.1 part_front (λ table root is. (part_rests.1 table root is).1)

  -- data with the parts written into it
  pub record IsWritten (d : List ℕ) (log : List Part) (e : List ℕ) : Type 0 where
    pub sound : index.sound e
    pub pairs : pairs_of index e ≡ pairs_of index d
    pub size : length e ≡ length d
    pub keys : keys_of index e ≡ keys_of index d
    pub version : version_of e ≡ version_of d
    pub tables : tables_of e ≡ tables_of d
    pub table : table_of index e ≡ all_written (table_of index d) (writes_of d log)

  pub applied_parts : (log : List Part) (d : List ℕ) → index.sound d → AreSlotParts index d log → IsWritten d log (applied log d)
  applied_parts [] d sound parts = record { sound = sound; pairs = refl; size = refl; keys = refl; version = refl; tables = refl; table = refl }
  applied_parts (p ∷ ps) d sound parts =
      let one = part_sound d sound p parts.0 in
      let long = part_long d sound p parts.0 in
      let rest = applied_parts ps (put d p.0 p.1) one.0 (parts_carry d (put d p.0 p.1) (called_same d (put d p.0 p.1) (part_tables d sound p parts.0)) one.1 long ps parts.1) in
      record {
        sound = rest.sound;
        pairs = rest.pairs ∙ one.1;
        size = rest.size ∙ long;
        keys = rest.keys ∙ part_keys d sound p parts.0;
        version = rest.version ∙ part_version d sound p parts.0;
        tables = rest.tables ∙ part_tables d sound p parts.0;
        table = rest.table ∙ (λ i. all_written (part_table d sound p parts.0 i) (writes_same d (put d p.0 p.1) (part_tables d sound p parts.0) ps i));
      }

  -- what a number sees for a key is the record in its slot
  pub seen_at : (log : List Part) (d : List ℕ) → index.sound d → AreSlotParts index d log → (q : Key)
      → get (all_written (table_of index d) (writes_of d log)) q ≡ record_at (applied log d) (found_key (pairs_of index d) q)
  unfolding table_of
  seen_at log d sound parts q =
      let w = applied_parts log d sound parts in
      sym (ap (λ (t : Table). get t q) w.table) ∙ get-table_in (applied log d) (pairs_of index (applied log d)) q ∙ ap (λ (l : List (Key × ℕ)). record_at (applied log d) (found_key l q)) w.pairs
