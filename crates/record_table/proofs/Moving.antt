-- Calls below that leave records, writes and saves as they were: looks and insertions, one after another, and one that fails.
use Rattle.std.proofs.Common.{◌≡◌, ◌≢◌, ◌^◌, ℕ, ◌+◌, ◌*◌, ◌/◌, ◌<◌, ◌⊎◌, Bool, true, false, cond, inl, inr, IsTrue, List, [], ◌∷◌, Result, Ok, Err, refl, sym, ◌∙◌, ap, subst}
use Rattle.std.specs.Prelude.{map, Option, Some, None, IsFalse}
use Rattle.std.proofs.lemmas.Bool.{cases_eq, false≢true}
use Rattle.mars_base.specs.Causes.{Rose}
use Rattle.mars_base.proofs.Going.{stays, then, weaker}
use Rattle.array_shape.specs.Logged.{Part}
use Rattle.eaw_face.specs.State.{State, listed}
use Rattle.eaw_face.specs.StoreView.{LeavesOnly}
use Rattle.eaw_face.specs.Causes.{IsAlive}
use Rattle.record_slots.specs.Names.{names_in}
use Rattle.record_slots.specs.Slots.{slot_said, slot_bytes}
use Rattle.record_slots.specs.Places.{slot_of, slot_due, version_of, tables_of}
use Rattle.record_slots.specs.declared.slot.Slot.TheVariants.{Absent}
use Rattle.page_store.specs.Index.{Index, IsTable, Grows, Gains}
use Rattle.page_store.specs.Index as face
use Rattle.page_store.specs.Inserts.{Inserts, KeepsLogs, Made, is_insert_failed}
use Rattle.page_store.specs.Pairs.{found}
use Rattle.page_store.specs.Records.{value_of}
use Rattle.page_store.specs.Shown.{PagesView, saved_of}
use Rattle.page_store.specs.Shown as pages
use Rattle.page_store.specs.State.{log_of}
use Rattle.page_store.specs.declared.index_fault.IndexFault.{IndexFault}
use Rattle.page_store.specs.declared.index_fault.IndexFault.TheVariants as fault
use Rattle.record_table.specs.Does.{OpensWith, OpensAs}
use Rattle.record_table.specs.Invariant.{AreSlotParts, IsTied, Rests}
use Rattle.record_table.specs.Shown.{found_key, table_in, table_of, write_of, writes_of, state_of, pairs_of}
use Rattle.record_table.specs.Names.{IsCalled}
use Rattle.record_table.specs.Sought.{LooksAs}
use Rattle.record_table.specs.State.{TableState}
use Rattle.history.specs.declared.key.Key.{Key}
use Rattle.history.specs.Key.{is_same_key, of_table}
use Rattle.history.specs.Writes.{Table, Write}
use Rattle.history.proofs.Keys.{cases_key, same_key, other_key}
use Rattle.history.proofs.Agreeing.{same_table}
use Rattle.record_table.proofs.Tables.{record_at, get-table_in}
use Rattle.record_table.proofs.Sharing.{Laws, placed, called_same, found_in, pairs_kept, gained}
use Rattle.record_table.proofs.SlotParts.{said_same, log_kept, one_slot}
use Rattle.eaw_face.specs.Mirroring.{Mirrors}
use Rattle.eaw_face.proofs.Mirroring.{none_sent, sent_then}

-- records, writes and saves are as they were, and the invariant holds
pub record Moved (tells : Bool) (Opens : List ℕ → List ℕ → Type 0) (index : Index) (t : ℕ) (old new : PagesView) : Type 0 where
  pub shape : new.store.shape ≡ old.store.shape
  pub depth : new.store.depth ≡ old.store.depth
  pub dead : new.store.is_dead ≡ old.store.is_dead
  pub faults : new.store.faults ≡ old.store.faults
  pub counts : new.counts ≡ old.counts
  pub tops : new.top ≡ old.top
  pub ranges : (u : ℕ) → listed (new.store.ranges u) ≡ listed (old.store.ranges u)
  pub others : (u : ℕ) → u ≢ t → new.store.ranges u ≡ old.store.ranges u
  pub version : IsTrue tells → version_of old.store.state.bytes ≡ 2 → version_of new.store.state.bytes ≡ 2
  pub tables : IsTrue tells → tables_of new.store.state.bytes ≡ tables_of old.store.state.bytes
  pub state : IsTrue tells → state_of index new ≡ state_of index old
  pub tied : IsTrue tells → IsTied index new
  pub time : IsTrue tells → LeavesOnly (λ image. OpensAs Opens index image old.store.state.bytes (state_of index old).table) old.store new.store
  pub mirrors : Mirrors tells old.store new.store

-- the medium failed
pub record Failed (tells : Bool) (Opens : List ℕ → List ℕ → Type 0) (index : Index) (t : ℕ) (old new : PagesView) : Type 0 where
  pub shape : new.store.shape ≡ old.store.shape
  pub depth : new.store.depth ≡ old.store.depth
  pub dies : (new.store.is_dead ≡ true) × Rose old.store.faults new.store.faults
  pub counts : new.counts ≡ old.counts
  pub others : (u : ℕ) → u ≢ t → new.store.ranges u ≡ old.store.ranges u
  pub time : IsTrue tells → LeavesOnly (λ image. OpensAs Opens index image old.store.state.bytes (state_of index old).table) old.store new.store
  pub mirrors : Mirrors tells old.store new.store

-- the state of records is determined by data, logs and counts
pub shown_same : (index : Index) (old new : PagesView) → new.store.state ≡ old.store.state → new.counts ≡ old.counts → state_of index new ≡ state_of index old
shown_same index old new state counts = λ i. record {
  table = table_of index (state i).bytes;
  logs = λ u. record { writes = writes_of (state i).bytes (listed ((state i).logs u)); saved = map (writes_of (state i).bytes) (saved_of (listed ((state i).logs u)) (counts i u)) };
}

-- what opens as the data behind a change does, opens as the data before it
pub opens_behind : (Opens : List ℕ → List ℕ → Type 0) (index : Index) (image : List ℕ) (old mid : PagesView) → (version_of old.store.state.bytes ≡ 2 → version_of mid.store.state.bytes ≡ 2) → tables_of mid.store.state.bytes ≡ tables_of old.store.state.bytes
    → state_of index mid ≡ state_of index old → OpensAs Opens index image mid.store.state.bytes (state_of index mid).table → OpensAs Opens index image old.store.state.bytes (state_of index old).table
opens_behind Opens index image old mid version tables state opens = record {
  bytes = opens.bytes;
  opened = opens.opened;
  sound = opens.sound;
  version = λ two. opens.version (version two);
  named = opens.named ∙ ap names_in tables;
  shows = opens.shows ∙ ap (λ (s : TableState). s.table) state;
}

-- so it opens with the records
pub opens_with : (Opens : List ℕ → List ℕ → Type 0) (index : Index) (image bytes : List ℕ) (table : Table) → OpensAs Opens index image bytes table → OpensWith Opens index image table
opens_with Opens index image bytes table opens = record { bytes = opens.bytes; opened = opens.opened; sound = opens.sound; shows = opens.shows }

module _ (tells : Bool) (Opens : List ℕ → List ℕ → Type 0) (index : Index) (t : ℕ) where
  pub moved_none : (old : PagesView) → IsAlive old.store → Rests tells index old → Moved tells Opens index t old old
  moved_none old alive rests = record {
    shape = refl;
    depth = refl;
    mirrors = none_sent tells old.store old.store refl refl refl refl (λ fine. fine) (λ told mirrors fine. refl);
    dead = refl;
    faults = refl;
    counts = refl;
    tops = refl;
    ranges = λ u. refl;
    others = λ u ne. refl;
    version = λ told two. two;
    tables = λ told. refl;
    state = λ told. refl;
    tied = rests.tied;
    time = λ told. stays old.store.moment old.store.left_since (λ image. OpensAs Opens index image old.store.state.bytes (state_of index old).table);
  }

  pub rests_moved : (old new : PagesView) → Rests tells index old → Moved tells Opens index t old new → Rests tells index new
  rests_moved old new rests moved = record { closed = λ u. ap (λ (f : ℕ → Option ℕ). f u) moved.tops ∙ rests.closed u; tied = moved.tied }

  pub moved_then : (old mid new : PagesView) → Moved tells Opens index t old mid → Moved tells Opens index t mid new → Moved tells Opens index t old new
  moved_then old mid new a b = record {
    shape = b.shape ∙ a.shape;
    depth = b.depth ∙ a.depth;
    mirrors = sent_then tells old.store mid.store new.store a.mirrors b.mirrors;
    dead = b.dead ∙ a.dead;
    faults = b.faults ∙ a.faults;
    counts = b.counts ∙ a.counts;
    tops = b.tops ∙ a.tops;
    ranges = λ u. b.ranges u ∙ a.ranges u;
    others = λ u ne. b.others u ne ∙ a.others u ne;
    version = λ told two. b.version told (a.version told two);
    tables = λ told. b.tables told ∙ a.tables told;
    state = λ told. b.state told ∙ a.state told;
    tied = b.tied;
    time = λ told. then (a.time told) (weaker (λ image opens. opens_behind Opens index image old mid (a.version told) (a.tables told) (a.state told) opens) (b.time told));
  }

  pub failed_then : (old mid new : PagesView) → Moved tells Opens index t old mid → Failed tells Opens index t mid new → Failed tells Opens index t old new
  failed_then old mid new a b = record {
    shape = b.shape ∙ a.shape;
    depth = b.depth ∙ a.depth;
    mirrors = sent_then tells old.store mid.store new.store a.mirrors b.mirrors;
    dies = (b.dies.0, subst (λ (n : ℕ). Rose n new.store.faults) a.faults b.dies.1);
    counts = b.counts ∙ a.counts;
    others = λ u ne. b.others u ne ∙ a.others u ne;
    time = λ told. then (a.time told) (weaker (λ image opens. opens_behind Opens index image old mid (a.version told) (a.tables told) (a.state told) opens) (b.time told));
  }

  module _ (old new : PagesView) (alive : IsAlive old.store) (rests : Rests tells index old) where
    looks_time : (failed : Bool) → LooksAs tells Opens t failed old new → IsTrue tells → LeavesOnly (λ image. OpensAs Opens index image old.store.state.bytes (state_of index old).table) old.store new.store
    looks_time failed looks told = weaker (λ image. λ opens. record { bytes = old.store.state.bytes; opened = opens; sound = (rests.tied told).sound; version = λ two. two; named = refl; shows = refl }) (looks.time told alive)

    pub moved_by_look : LooksAs tells Opens t false old new → Moved tells Opens index t old new
    moved_by_look looks =
        let same = looks.same refl in
        record {
          shape = looks.shape;
          depth = looks.depth;
          mirrors = looks.mirrors;
          dead = same.still.dead;
          faults = same.still.faults;
          counts = looks.saves;
          tops = looks.tops;
          ranges = λ u. ap (λ (f : ℕ → Option (List (ℕ × ℕ))). listed (f u)) same.ranges;
          others = looks.others;
          version = λ told two. ap (λ (s : State). version_of s.bytes) (same.still.state told) ∙ two;
          tables = λ told. ap (λ (s : State). tables_of s.bytes) (same.still.state told);
          state = λ told. shown_same index old new (same.still.state told) looks.saves;
          tied = λ told. record {
            sound = subst (λ (s : State). index.sound s.bytes) (sym (same.still.state told)) (rests.tied told).sound;
            parts = λ u. subst (λ (s : State). AreSlotParts index s.bytes (listed (s.logs u))) (sym (same.still.state told)) ((rests.tied told).parts u);
          };
          time = looks_time false looks;
        }

    pub failed_by_look : LooksAs tells Opens t true old new → Failed tells Opens index t old new
    failed_by_look looks = record { shape = looks.shape; depth = looks.depth; mirrors = looks.mirrors; dies = looks.dies refl; counts = looks.saves; others = looks.others; time = looks_time true looks }

module _ (index : Index) (laws : Laws index) (table root key : ℕ) (name : List ℕ) (d e : List ℕ) (called : IsCalled d table name) (sound : index.sound d) (named : IsTable d table root) (absent : found (index.pairs d root) key ≡ None)
    (grows : Grows index root d e) where
  -- the key, which is new, among those of all tables
  new_key : found_key (pairs_of index d) (of_table name key) ≡ None
  new_key = found_in index laws d table root key name sound called named ∙ absent

  -- given slots are as they were
  record_kept : ((q : Key) (slot : ℕ) → found_key (pairs_of index d) q ≡ Some slot → slot_of e slot ≡ slot_of d slot) → (o : Option ℕ) (q : Key) → found_key (pairs_of index d) q ≡ o → record_at e o ≡ record_at d o
  record_kept slots None q is = refl
  record_kept slots (Some slot) q is = ap (λ (b : List ℕ). value_of (slot_said b)) (slots q slot is)

  part_kept : (pairs : (q : Key) (slot : ℕ) → found_key (pairs_of index d) q ≡ Some slot → found_key (pairs_of index e) q ≡ Some slot) (log : List Part) → AreSlotParts index d log → AreSlotParts index e log
  part_kept pairs [] parts = tt
  part_kept pairs (p ∷ ps) parts = (
    record {
      slot = parts.0.slot;
      named = (λ i. found_key (pairs_of index e) (said_same d e grows.tables (slot_said p.1) i).0) ∙ pairs (write_of d p).0 parts.0.slot parts.0.named;
      place = parts.0.place ∙ ap (λ (n : ℕ). 64 * (4 * (n / 512) + parts.0.slot)) (sym grows.size);
      size = parts.0.size;
      table = parts.0.table;
      key = parts.0.key;
      called = subst (λ (w : Write). IsCalled e parts.0.table w.0.table) (sym (said_same d e grows.tables (slot_said p.1))) (called_same d e grows.tables parts.0.table (write_of d p).0.table parts.0.called);
      says = parts.0.says;
    },
    part_kept pairs ps parts.1,
  )

  -- the slot that is due is as it was too
  resting_slot : face.Rests index root d e → (q : Key) (slot : ℕ) → found_key (pairs_of index d) q ≡ Some slot → slot_of e slot ≡ slot_of d slot
  resting_slot rests q slot is = elim (cases_eq slot (slot_due d)) [
    | inl same ↦ subst (λ (s : ℕ). slot_of e s ≡ slot_of d s) (sym same) rests.same
    | inr ne ↦ grows.slots slot (placed index laws d sound q slot is).given ne
  ]

  resting : face.Rests index root d e → (table_of index e ≡ table_of index d) × ((log : List Part) → AreSlotParts index d log → AreSlotParts index e log)
  unfolding table_of
  resting rests =
      let pairs = pairs_kept index laws d e table root sound named grows rests in (
        same_table (table_in e (pairs_of index e)) (table_in d (pairs_of index d)) (λ q.
            get-table_in e (pairs_of index e) q ∙ ap (λ (l : List (Key × ℕ)). record_at e (found_key l q)) pairs ∙ record_kept (resting_slot rests) (found_key (pairs_of index d) q) q refl ∙ sym (get-table_in d (pairs_of index d) q)),
        part_kept (λ q slot is. ap (λ (l : List (Key × ℕ)). found_key l q) pairs ∙ is),
      )

  other_than : (q : Key) (slot : ℕ) → found_key (pairs_of index d) q ≡ Some slot → of_table name key ≢ q
  other_than q slot is same = let x : Some slot ≡ None = sym is ∙ ap (found_key (pairs_of index d)) (sym same) ∙ new_key in absurd (cc)

  module _ (gains : Gains index root table key d e) where
    found_still : (q : Key) (slot : ℕ) → found_key (pairs_of index d) q ≡ Some slot → found_key (pairs_of index e) q ≡ Some slot
    found_still q slot is =
        gained index laws d e table root sound named grows name called key absent gains q
        ∙ ap (λ (b : Bool). cond b (Some (slot_due d)) (found_key (pairs_of index d) q)) (other_key (of_table name key) q (other_than q slot is)) ∙ is

    pub found_due : found_key (pairs_of index e) (of_table name key) ≡ Some (slot_due d)
    found_due =
        gained index laws d e table root sound named grows name called key absent gains (of_table name key)
        ∙ ap (λ (b : Bool). cond b (Some (slot_due d)) (found_key (pairs_of index d) (of_table name key))) (same_key (of_table name key) (of_table name key) refl)

    -- the slot of another key is not the one that was due
    gaining_slot : (q : Key) (slot : ℕ) → found_key (pairs_of index d) q ≡ Some slot → slot_of e slot ≡ slot_of d slot
    gaining_slot q slot is =
        grows.slots slot (placed index laws d sound q slot is).given
        (λ same. other_than q slot is (one_slot index laws e grows.sound (of_table name key) q slot (found_due ∙ ap Some (sym same)) (found_still q slot is)))

    gaining : slot_said (slot_bytes (Absent table key)) ≡ Some (Absent table key) → (table_of index e ≡ table_of index d) × ((log : List Part) → AreSlotParts index d log → AreSlotParts index e log)
    unfolding table_of
    gaining reads = (
      same_table (table_in e (pairs_of index e)) (table_in d (pairs_of index d)) (λ q.
          get-table_in e (pairs_of index e) q ∙ ap (record_at e) (gained index laws d e table root sound named grows name called key absent gains q)
          ∙ elim (cases_key (of_table name key) q) [
            | inl same ↦
                ap (λ (b : Bool). record_at e (cond b (Some (slot_due d)) (found_key (pairs_of index d) q))) (same_key (of_table name key) q same)
                ∙ ap (λ (b : List ℕ). value_of (slot_said b)) gains.fresh ∙ ap value_of reads
                ∙ sym (ap (λ (k : Key). record_at d (found_key (pairs_of index d) k)) (sym same) ∙ ap (record_at d) new_key)
            | inr ne ↦
                ap (λ (b : Bool). record_at e (cond b (Some (slot_due d)) (found_key (pairs_of index d) q))) (other_key (of_table name key) q ne)
                ∙ record_kept gaining_slot (found_key (pairs_of index d) q) q refl
          ]
          ∙ sym (get-table_in d (pairs_of index d) q)),
      part_kept found_still,
    )

  -- data during or after the insertion has the same records
  pub insertion_keeps : slot_said (slot_bytes (Absent table key)) ≡ Some (Absent table key) → (face.Rests index root d e ⊎ Gains index root table key d e)
      → (table_of index e ≡ table_of index d) × ((log : List Part) → AreSlotParts index d log → AreSlotParts index e log)
  insertion_keeps reads either = elim either [ inl r ↦ resting r | inr g ↦ gaining g reads ]

-- a call that keeps what numbers have logged, and whose data has the records that there were
module _ (tells : Bool) (Opens : List ℕ → List ℕ → Type 0) (index : Index) (t : ℕ) (old new : PagesView) where
  pub moved_so : new.store.shape ≡ old.store.shape → Mirrors tells old.store new.store → KeepsLogs tells old new → new.counts ≡ old.counts → ((u : ℕ) → u ≢ t → new.store.ranges u ≡ old.store.ranges u)
      → (IsTrue tells → index.sound new.store.state.bytes) → (IsTrue tells → version_of old.store.state.bytes ≡ 2 → version_of new.store.state.bytes ≡ 2) → (IsTrue tells → tables_of new.store.state.bytes ≡ tables_of old.store.state.bytes)
      → (IsTrue tells → table_of index new.store.state.bytes ≡ table_of index old.store.state.bytes) → (IsTrue tells → (u : ℕ) → AreSlotParts index new.store.state.bytes (log_of (pages.state_of old) u))
      → (IsTrue tells → LeavesOnly (λ image. OpensAs Opens index image old.store.state.bytes (state_of index old).table) old.store new.store) → Moved tells Opens index t old new
  moved_so shape mirrors kept counts others sound version tables records parts time = record {
    shape = shape;
    depth = mirrors.depth;
    mirrors = mirrors;
    dead = kept.dead;
    faults = kept.faults;
    counts = counts;
    tops = kept.tops;
    ranges = kept.ranges;
    others = others;
    version = version;
    tables = tables;
    state = λ told i. record {
      table = records told i;
      logs = λ u. log_kept old.store.state.bytes new.store.state.bytes (tables told) _ _ (kept.logs told u) _ _ (λ j. counts j u) i;
    };
    tied = λ told. record { sound = sound told; parts = λ u. subst (AreSlotParts index new.store.state.bytes) (sym (kept.logs told u)) (parts told u) };
    time = time;
  }

either_of : (index : Index) (table root key : ℕ) (d e : List ℕ) (r : Result ℕ IndexFault) → IsFalse (is_insert_failed r) → Made index root table key d e r → Grows index root d e × (face.Rests index root d e ⊎ Gains index root table key d e)
either_of index table root key d e (Ok slot) well made = (made.1, inr made.2)
either_of index table root key d e (Err fault.Media) well made = absurd (false≢true (sym well))
either_of index table root key d e (Err (fault.PagesFull n)) well made = (made.0, inl made.1)
either_of index table root key d e (Err (fault.SlotsFull n)) well made = (made.0, inl made.1)
either_of index table root key d e (Err (fault.LogFull g h n)) well made = (made.0, inl made.1)
either_of index table root key d e (Err fault.Dead) well made = (made.0, inl made.1)
either_of index table root key d e (Err (fault.Damaged p)) well made = (made.0, inl made.1)

module _ (tells : Bool) (Opens : List ℕ → List ℕ → Type 0) (index : Index) (laws : Laws index) (t table root key : ℕ) (name : List ℕ) (reads : slot_said (slot_bytes (Absent table key)) ≡ Some (Absent table key)) (old new : PagesView) (alive : IsAlive old.store)
    (rests : Rests tells index old) (called : IsTrue tells → IsCalled old.store.state.bytes table name) (named : IsTrue tells → IsTable old.store.state.bytes table root) (absent : IsTrue tells → found (index.pairs old.store.state.bytes root) key ≡ None) (r : Result ℕ IndexFault)
    (does : Inserts tells Opens index t root table key old new r) where
  insert_time : IsTrue tells → LeavesOnly (λ image. OpensAs Opens index image old.store.state.bytes (state_of index old).table) old.store new.store
  insert_time told = weaker (λ image left. record {
    bytes = left.0;
    opened = left.1;
    sound = left.2.0.sound;
    version = λ two. left.2.0.version ∙ two;
    named = ap names_in left.2.0.tables;
    shows = (insertion_keeps index laws table root key name old.store.state.bytes left.0 (called told) (rests.tied told).sound (named told) (absent told) left.2.0 reads left.2.1).0;
  }) (does.time told alive)

  pub moved_by_insert : IsFalse (is_insert_failed r) → Moved tells Opens index t old new
  moved_by_insert well =
      let made = λ (told : IsTrue tells). either_of index table root key old.store.state.bytes new.store.state.bytes r well (does.made told alive) in
      let keeps = λ (told : IsTrue tells). insertion_keeps index laws table root key name old.store.state.bytes new.store.state.bytes (called told) (rests.tied told).sound (named told) (absent told) (made told).0 reads (made told).1 in
      moved_so tells Opens index t old new does.shape does.mirrors (does.kept well) does.saves does.others (λ told. (made told).0.sound) (λ told two. (made told).0.version ∙ two) (λ told. (made told).0.tables)
      (λ told. (keeps told).0) (λ told u. (keeps told).1 (listed (old.store.state.logs u)) ((rests.tied told).parts u)) insert_time

  pub failed_by_insert : IsTrue (is_insert_failed r) → Failed tells Opens index t old new
  failed_by_insert failed = record { shape = does.shape; depth = does.depth; mirrors = does.mirrors; dies = does.dies failed; counts = does.saves; others = does.others; time = insert_time }
