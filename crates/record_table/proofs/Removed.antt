-- What a removal of a key from its index does to the records.
use Rattle.std.proofs.Common.{◌≡◌, ◌^◌, ℕ, ◌<◌, Bool, true, false, inl, inr, IsTrue, List, Result, Ok, Err, refl, sym, ◌∙◌, ap, subst}
use Rattle.std.specs.Prelude.{IsFalse}
use Rattle.std.proofs.lemmas.Bool.{false≢true}
use Rattle.mars_base.proofs.Going.{stays, weaker}
use Rattle.array_shape.specs.Logged.{Part}
use Rattle.std.specs.List.{list_any}
use Rattle.eaw_face.specs.State.{listed}
use Rattle.eaw_face.specs.StoreView.{LeavesOnly}
use Rattle.eaw_face.specs.Causes.{IsAlive}
use Rattle.record_slots.specs.Names.{names_in}
use Rattle.record_slots.specs.Places.{version_of, tables_of}
use Rattle.history.specs.declared.key.Key.{Key}
use Rattle.history.specs.Key.{of_table}
use Rattle.history.specs.Writes.{is_of}
use Rattle.page_store.specs.Fits.{FitAll, IsFirstLacking}
use Rattle.page_store.specs.Index.{Index, IsTable}
use Rattle.page_store.specs.Looks.{is_failed}
use Rattle.page_store.specs.Removes as face
use Rattle.page_store.specs.Shown.{PagesView}
use Rattle.page_store.specs.declared.fault.PageFault.{PageFault}
use Rattle.page_store.specs.declared.fault.PageFault.TheVariants as fault
use Rattle.record_table.specs.Does.{OpensAs}
use Rattle.record_table.specs.Does as answers
use Rattle.record_table.specs.Faults.{told_as}
use Rattle.record_table.specs.Invariant.{AreSlotParts, Holds}
use Rattle.record_table.specs.Removing.{IsAbsent, IsUnwritten, Takes, RemoveCause, Lost, Removes}
use Rattle.record_table.specs.Shown.{table_of, writes_of, state_of}
use Rattle.record_table.specs.Names.{IsCalled}
use Rattle.record_table.specs.declared.fault.TableFault.TheVariants as refusal
use Rattle.record_table.proofs.Moving.{Moved, Failed, moved_so, opens_with, rests_moved}
use Rattle.record_table.proofs.Sharing.{Laws, removal_under}
use Rattle.record_table.proofs.Lost.{has_absent, records_same, parts_kept, loses}
use Rattle.eaw_face.proofs.Mirroring.{none_sent}

-- sound data of the same version, with the same tables and records, and with the slots of all parts that are not the key's
record Alike (index : Index) (key : Key) (d e : List ℕ) : Type 0 where
  sound : index.sound e
  version : version_of e ≡ version_of d
  tables : tables_of e ≡ tables_of d
  records : table_of index e ≡ table_of index d
  parts : (log : List Part) → AreSlotParts index d log → list_any (is_of key) (writes_of d log) ≡ false → AreSlotParts index e log

alike_same : (index : Index) (key : Key) (d e : List ℕ) → index.sound d → e ≡ d → Alike index key d e
alike_same index key d e sound same = subst (λ (x : List ℕ). Alike index key d x) (sym same) (record { sound = sound; version = refl; tables = refl; records = refl; parts = λ log parts other. parts })

module _ (tells : Bool) (Opens : List ℕ → List ℕ → Type 0) (index : Index) (laws : Laws index) (t table root key : ℕ) (name : List ℕ) (old : PagesView) (called : IsTrue tells → IsAlive old.store → IsCalled old.store.state.bytes table name) (named : IsTrue tells → IsAlive old.store → IsTable old.store.state.bytes table root)
    (holds : Holds tells index old) (absent : IsTrue tells → IsAlive old.store → IsAbsent index old.store.state.bytes (of_table name key)) (unwritten : IsTrue tells → IsAlive old.store → IsUnwritten index old (of_table name key)) where
  -- the slot that the index below asks about
  pub absent_below : IsTrue tells → IsAlive old.store → face.HasAbsent index root table key old.store.state.bytes
  absent_below told alive =
      let is = absent told alive in
      has_absent index laws table root key name old.store.state.bytes (called told alive) ((holds alive).tied told).sound (named told alive) is.0 is.1

  module _ (new : PagesView) (alive : IsAlive old.store) where
    alike_less : IsTrue tells → (e : List ℕ) → face.LosesKey index root key old.store.state.bytes e → Alike index (of_table name key) old.store.state.bytes e
    alike_less told e less =
        let sound = ((holds alive).tied told).sound in
        record {
          sound = less.2.sound;
          version = less.2.version;
          tables = less.2.tables;
          records = records_same index laws table root key name old.store.state.bytes (called told alive) sound (named told alive) e less.0 less.1 less.2 (absent told alive).1;
          parts = parts_kept index laws table root key name old.store.state.bytes (called told alive) sound (named told alive) e less.0 less.1 less.2;
        }

    alike_equal : IsTrue tells → (e : List ℕ) → e ≡ old.store.state.bytes → Alike index (of_table name key) old.store.state.bytes e
    alike_equal told e same = alike_same index (of_table name key) old.store.state.bytes e ((holds alive).tied told).sound same

    -- what is left by a removal that met no fault
    alike : IsTrue tells → (r : Result Bool PageFault) → IsFalse (is_failed r) → face.Removed index root key old.store.state.bytes new.store.state.bytes r → Alike index (of_table name key) old.store.state.bytes new.store.state.bytes
    alike told (Ok true) well made = alike_less told new.store.state.bytes made
    alike told (Ok false) well made = alike_equal told new.store.state.bytes made
    alike told (Err fault.Media) well made = absurd (false≢true (sym well))
    alike told (Err (fault.LogFull g h n)) well made = alike_equal told new.store.state.bytes made
    alike told (Err fault.SavesFull) well made = alike_equal told new.store.state.bytes made
    alike told (Err fault.Dead) well made = alike_equal told new.store.state.bytes made
    alike told (Err (fault.Damaged page)) well made = alike_equal told new.store.state.bytes made

    module _ (r : Result Bool PageFault) (does : face.Removes tells Opens index t root key old new r) where
      remove_time : IsTrue tells → LeavesOnly (λ image. OpensAs Opens index image old.store.state.bytes (state_of index old).table) old.store new.store
      remove_time told = weaker (λ image either. elim either [
        | inl was ↦ record { bytes = old.store.state.bytes; opened = was; sound = ((holds alive).tied told).sound; version = λ two. two; named = refl; shows = refl }
        | inr less ↦ record {
          bytes = less.0;
          opened = less.1;
          sound = less.2.2.sound;
          version = λ two. less.2.2.version ∙ two;
          named = ap names_in less.2.2.tables;
          shows = (alike_less told less.0 less.2).records;
        }
      ]) (does.time told alive)

      moved_by_remove : IsFalse (is_failed r) → Moved tells Opens index t old new
      moved_by_remove well =
          let same = λ (told : IsTrue tells). alike told r well (does.made told alive) in
          moved_so tells Opens index t old new does.shape does.mirrors (does.kept well) does.saves does.others (λ told. (same told).sound) (λ told two. (same told).version ∙ two) (λ told. (same told).tables)
          (λ told. (same told).records) (λ told u. (same told).parts (listed (old.store.state.logs u)) (((holds alive).tied told).parts u) (unwritten told alive u)) remove_time

      failed_by_remove : IsTrue (is_failed r) → Failed tells Opens index t old new
      failed_by_remove failed = record { shape = does.shape; depth = does.depth; mirrors = does.mirrors; dies = does.dies failed; counts = does.saves; others = does.others; time = remove_time }

  -- what it takes, in terms of the table
  takes_so : (Ends : List ℕ → Type 0) → IsTable old.store.state.bytes table root → face.Takes index root key old.store Ends → Takes index table key old Ends
  takes_so Ends is takes = (takes.0, ap (removal_under index old.store.state.bytes key) is ∙ takes.1, takes.2)

  cause_so : (r : Result Bool PageFault) → face.RemoveCause tells index t root key old.store r → RemoveCause tells index table t key old (told_as r)
  cause_so (Ok true) cause = (cause.0, λ told. takes_so (FitAll old.store t) (named told cause.0) (cause.1 told))
  cause_so (Ok false) cause = (cause.0, λ told. ap (removal_under index old.store.state.bytes key) (named told cause.0) ∙ cause.1 told)
  cause_so (Err (fault.LogFull g h n)) cause = (cause.0, cause.1, λ told. takes_so (λ pages. IsFirstLacking old.store t pages g h n) (named told cause.0) (cause.2 told))
  cause_so (Err fault.Media) cause = cause
  cause_so (Err fault.Dead) cause = cause
  cause_so (Err (fault.Damaged page)) cause = cause
  cause_so (Err fault.SavesFull) cause = absurd cause

  lost_so : (new : PagesView) → IsTrue tells → IsAlive old.store → (r : Result Bool PageFault) → face.Removed index root key old.store.state.bytes new.store.state.bytes r
      → Lost index table key old.store.state.bytes new.store.state.bytes (told_as r)
  lost_so new told alive (Ok true) made = loses index laws table root key name old.store.state.bytes (called told alive) ((holds alive).tied told).sound (named told alive) new.store.state.bytes made.0 made.1 made.2
  lost_so new told alive (Ok false) made = made
  lost_so new told alive (Err (fault.LogFull g h n)) made = made
  lost_so new told alive (Err fault.Media) made = made
  lost_so new told alive (Err fault.Dead) made = made
  lost_so new told alive (Err (fault.Damaged page)) made = made
  lost_so new told alive (Err fault.SavesFull) made = made

  still_failed : (r : Result Bool PageFault) → answers.is_failed (told_as r) ≡ is_failed r
  still_failed (Ok answer) = refl
  still_failed (Err (fault.LogFull g h n)) = refl
  still_failed (Err fault.Media) = refl
  still_failed (Err fault.Dead) = refl
  still_failed (Err (fault.Damaged page)) = refl
  still_failed (Err fault.SavesFull) = refl

  dead_same : old.store.is_dead ≡ true → Removes tells Opens index table t key old old (Err refusal.Dead)
  dead_same dead = record {
    shape = refl;
    depth = refl;
    mirrors = none_sent tells old.store old.store refl refl refl refl (λ fine. fine) (λ told mirrors fine. refl);
    cause = dead;
    faults = λ _. (refl, refl);
    dies = λ failed. absurd (false≢true failed);
    state = λ told _. refl;
    lost = λ told alive. refl;
    version = λ told _. refl;
    tables = λ told _. refl;
    sound = λ told living. absurd (false≢true (sym living ∙ dead));
    saves = refl;
    ranges = λ _ u. refl;
    others = λ u ne. refl;
    time = λ told _. stays old.store.moment old.store.left_since _;
    named = λ told _. stays old.store.moment old.store.left_since _;
  }

  holds_dead : (new : PagesView) → new.store.is_dead ≡ true → Holds tells index new
  holds_dead new dead = λ living. absurd (false≢true (sym living ∙ dead))

  module _ (new : PagesView) where
    moved_removes : IsAlive old.store → (r : Result Bool PageFault) → IsFalse (is_failed r) → face.Removes tells Opens index t root key old new r → Removes tells Opens index table t key old new (told_as r) × Holds tells index new
    moved_removes alive r well does =
        let moved = moved_by_remove new alive r does well in
        let same = λ (told : IsTrue tells). alike new alive told r well (does.made told alive) in (
          record {
            shape = moved.shape;
            depth = moved.depth;
            mirrors = moved.mirrors;
            cause = cause_so r does.cause;
            faults = λ _. (moved.dead, moved.faults);
            dies = λ failed. absurd (false≢true (sym well ∙ sym (still_failed r) ∙ failed));
            state = λ told _. moved.state told;
            lost = λ told living. lost_so new told living r (does.made told living);
            version = λ told _. (same told).version;
            tables = λ told _. (same told).tables;
            sound = λ told living. (same told).sound;
            saves = moved.counts;
            ranges = λ _. moved.ranges;
            others = moved.others;
            time = λ told _. weaker (λ image opens. opens_with Opens index image _ _ opens) (moved.time told);
            named = λ told _. moved.time told;
          },
          λ living. rests_moved tells Opens index t old new (holds alive) moved,
        )

    -- it met a fault of the medium
    broken : face.Removes tells Opens index t root key old new (Err fault.Media) → Removes tells Opens index table t key old new (Err refusal.Media) × Holds tells index new
    broken does =
        let failed = failed_by_remove new does.cause (Err fault.Media) does refl in (
          record {
            shape = failed.shape;
            depth = failed.depth;
            mirrors = failed.mirrors;
            cause = does.cause;
            faults = λ well. absurd (false≢true (sym well));
            dies = λ _. failed.dies;
            state = λ told well. absurd (false≢true (sym well));
            lost = λ told living. tt;
            version = λ told well. absurd (false≢true (sym well));
            tables = λ told well. absurd (false≢true (sym well));
            sound = λ told living. absurd (false≢true (sym living ∙ failed.dies.0));
            saves = failed.counts;
            ranges = λ well. absurd (false≢true (sym well));
            others = failed.others;
            time = λ told _. weaker (λ image opens. opens_with Opens index image _ _ opens) (failed.time told);
            named = λ told _. failed.time told;
          },
          holds_dead new failed.dies.0,
        )

    pub removes_so : (r : Result Bool PageFault) → face.Removes tells Opens index t root key old new r → (r ≡ Err fault.Dead → new ≡ old)
        → Removes tells Opens index table t key old new (told_as r) × Holds tells index new
    removes_so (Ok true) does same = moved_removes does.cause.0 (Ok true) refl does
    removes_so (Ok false) does same = moved_removes does.cause.0 (Ok false) refl does
    removes_so (Err (fault.LogFull g h n)) does same = moved_removes does.cause.0 (Err (fault.LogFull g h n)) refl does
    removes_so (Err (fault.Damaged page)) does same = moved_removes does.cause.0 (Err (fault.Damaged page)) refl does
    removes_so (Err fault.Media) does same = broken does
    removes_so (Err fault.Dead) does same = (
      subst (λ (v : PagesView). Removes tells Opens index table t key old v (Err refusal.Dead)) (sym (same refl)) (dead_same does.cause),
      subst (Holds tells index) (sym (same refl)) holds,
    )
    removes_so (Err fault.SavesFull) does same = absurd does.cause
