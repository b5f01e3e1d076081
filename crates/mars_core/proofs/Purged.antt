-- A core after a purge.
use Rattle.std.proofs.Common.{◌≡◌, ℕ, zero, suc, ◌<◌, ◌≤◌, ◌⊎◌, ◌++◌, inl, inr, Bool, true, false, cond, ◌||◌, IsTrue, List, [], ◌∷◌, length, filter, Result, Ok, Err, refl, sym, ◌∙◌, ap, subst, arith}
use Rattle.std.specs.Prelude.{Option, Some, None, is_some, is_none, not, unwrap_or, option_map, IsSome, IsFalse, slice_get, map, if◌then◌else◌}
use Rattle.std.specs.FinMap.{get}
use Rattle.std.specs.List.{list_any}
use Rattle.std.specs.Map.{update}
use Rattle.std.proofs.lemmas.Bool.{cases_Bool, false≢true, true≢false, or_parts}
use Rattle.mars_base.proofs.Going.{weaker}
use Rattle.array_shape.specs.declared.shape.Shape.{Shape}
use Rattle.eaw_face.specs.StoreView.{LeavesOnly}
use Rattle.eaw_face.specs.Causes.{IsAlive}
use Rattle.record_slots.specs.Places.{tables_of}
use Rattle.page_store.specs.Index as below
use Rattle.page_store.specs.Shown.{PagesView}
use Rattle.history.specs.Key.{is_same_key}
use Rattle.history.specs.declared.key.Key.{Key}
use Rattle.history.specs.Key.{of_table}
use Rattle.history.proofs.Keys.{same_key, same_keys}
use Rattle.page_store.specs.Pairs.{Pair}
use Rattle.record_slots.specs.Names.{names_in, number_of}
use Rattle.record_slots.proofs.Numbering.{first_is}
use Rattle.record_slots.specs.declared.super_page.TableEntry.{TableEntry}
use Rattle.record_table.specs.Names.{names_of}
use Rattle.record_table.specs.Faults.{reply_to}
use Rattle.record_table.proofs.Joint.{tables_apart}
use Rattle.caller_steps.proofs.Holding.{is_write_on}
use Rattle.caller_steps.proofs.AtKeys.{at_other_key}
use Rattle.history.specs.Log.{log_of}
use Rattle.history.specs.Rows.{NamedRows}
use Rattle.history.specs.Writes.{Table, Write, is_of}
use Rattle.history.specs.declared.transaction.Done.{Done}
use Rattle.history.specs.declared.call.Call.{Call}
use Rattle.history.specs.declared.call.Call.TheVariants as call
use Rattle.history.specs.declared.call.Control.TheVariants.{Purge}
use Rattle.history.specs.declared.call.Reply.{Reply}
use Rattle.history.specs.declared.call.Reply.TheVariants as reply
use Rattle.record_table.specs.Does.{is_failed}
use Rattle.record_table.specs.Shown.{table_of, state_of, pairs_of, keys_of}
use Rattle.record_table.specs.Shown as shown
use Rattle.record_table.specs.State.{TableState}
use Rattle.record_table.specs.declared.fault.TableFault.{TableFault}
use Rattle.record_table.specs.declared.fault.TableFault.TheVariants.{Media, Damaged}
use Rattle.caller_steps.specs.Core.{IsSafe, Steps}
use Rattle.caller_steps.specs.Cause as cause
use Rattle.caller_steps.proofs.Causing.{plain_cause}
use Rattle.mars_core.proofs.Saving.{saves_same}
use Rattle.caller_steps.specs.Prefix.{HasPrefixOf}
use Rattle.caller_steps.specs.Purging as face
use Rattle.caller_steps.specs.Purging.{Try, IsTouched, IsTried, Becomes, Lost, PurgeCause}
use Rattle.caller_steps.proofs.Trying.{lost_count, each_as, tried_among}
use Rattle.caller_steps.specs.Offers.{is_unoffered, is_engaged}
use Rattle.caller_steps.specs.Fate.{is_busy, is_media, Moves}
use Rattle.caller_steps.specs.Run.{is_purge}
use Rattle.caller_steps.proofs.Fates as fates
use Rattle.caller_steps.proofs.Fates.{Acts, fate_moves}
use Rattle.caller_steps.specs.Room.{Limits, is_slot_on, held_on}
use Rattle.caller_steps.specs.State.{State, Index, unoffered}
use Rattle.mars_core.specs.Held.{core_over, state_at}
use Rattle.mars_core.specs.Kept.{IsTied, IsKept}
use Rattle.mars_core.specs.Over.{limits_of, index_of, keeps_in, OpensWithTables}
use Rattle.mars_core.proofs.Named.{by_number}
use Rattle.mars_core.specs.Purging.{IsOfFirst, IsTouchedIn, Keeps, AreFreeIn, Tried, Trail, IsReady, ClearCause, Clears}
use Rattle.mars_core.specs.Seats.{Seats, live_in, offers_in, calls_at}
use Rattle.mars_core.proofs.Answered.{fault_plain}
use Rattle.record_table.proofs.Sharing.{Laws}
use Rattle.mars_core.proofs.Clearing.{one_name, loses_one}
use Rattle.record_table.specs.Names.{IsCalled}
use Rattle.record_table.specs.Removing as removing
use Rattle.record_table.specs.Removing.{IsAbsent, removal_in}
use Rattle.history.proofs.Keys.{cases_key}
use Rattle.mars_core.proofs.Indexing.{is_within}
use Rattle.mars_core.proofs.Prefixes.{StoreLaws, safe_dead, safe_alive}
use Rattle.mars_core.proofs.Stepping.{shows_tied, step_of, steps_of, time_same}
use Rattle.mars_core.proofs.Unwritten.{unwritten}

-- a key of the pairs of tables is one of theirs
module _ (index : below.Index) (d : List ℕ) (key : Key) where
  in_front : (name : List ℕ) (pairs : List Pair) (rest : List (Key × ℕ)) → IsSome (shown.found_key (map (shown.in_table name) pairs ++ rest) key) → (key.table ≡ name) ⊎ IsSome (shown.found_key rest key)
  in_front name [] rest some = inr some
  in_front name (pair ∷ pairs) rest some = go (is_same_key (of_table name pair.0) key) refl some (in_front name pairs rest)
    where
      go : (b : Bool) → is_same_key (of_table name pair.0) key ≡ b → IsSome (if b then Some pair.1 else shown.found_key (map (shown.in_table name) pairs ++ rest) key)
          → (IsSome (shown.found_key (map (shown.in_table name) pairs ++ rest) key) → (key.table ≡ name) ⊎ IsSome (shown.found_key rest key)) → (key.table ≡ name) ⊎ IsSome (shown.found_key rest key)
      go true same some more = inl (sym (ap (λ (k : Key). k.table) (same_keys (of_table name pair.0) key same)))
      go false differ some more = more some

  named_in : (entries : List TableEntry) → IsSome (shown.found_key (shown.pairs_from index d entries) key) → (j : ℕ) × (j < length (names_in entries)) × (slice_get (names_in entries) j ≡ Some key.table)
  named_in [] some = absurd (cc)
  named_in (entry ∷ entries) some = elim (in_front entry.name (index.pairs d entry.root) (shown.pairs_from index d entries) some) [
    | inl is ↦ (0, omega arith, ap (λ (name : List ℕ). Some name) (sym is))
    | inr rest ↦ (let at = named_in entries rest in (suc at.0, omega (arith, at.1), at.2))
  ]

  named_key : IsSome (shown.found_key (pairs_of index d) key) → (j : ℕ) × (j < length (names_of d)) × (slice_get (names_of d) j ≡ Some key.table)
  unfolding pairs_of
  named_key some = named_in (tables_of d) some

-- a call that is none is no purge
pub no_purge : (asked : Call) → is_purge asked ≡ false → asked ≡ call.Control Purge → ⊥
no_purge asked plain is = true≢false (sym (ap is_purge is) ∙ plain)

-- a name at a number is that of the table there
entry_at : (entries : List TableEntry) (j : ℕ) (name : List ℕ) → slice_get (names_in entries) j ≡ Some name → (entry : TableEntry) × (slice_get entries j ≡ Some entry) × (entry.name ≡ name)
entry_at [] j name is = absurd (cc)
entry_at (entry ∷ entries) zero name is = (entry, refl, one_name entry.name name is)
entry_at (entry ∷ entries) (suc j) name is = entry_at entries j name is

-- in sound data a table's name has the table's number, since no other table has the name
numbered : (index : below.Index) (laws : Laws index) (bytes : List ℕ) → index.sound bytes → (table : ℕ) (name : List ℕ) → slice_get (names_of bytes) table ≡ Some name → number_of (names_of bytes) name ≡ Some table
numbered index laws bytes sound table name called = first_is (names_of bytes) name table called (λ k lt again.
    let one = entry_at (tables_of bytes) k name again in
    let other = entry_at (tables_of bytes) table name called in
    tables_apart bytes (laws.counts bytes sound) k table one.0 other.0 lt one.1 other.1 (one.2 ∙ sym other.2))

-- the index of the table with this number, if there is one, keeps the pair of the key
abbrev keeps_at : below.Index → List ℕ → ℕ → Option ℕ → Bool
keeps_at index bytes key o = unwrap_or (option_map (λ table. is_none (removal_in index table bytes key)) o) false

keeps_named : (index : below.Index) (bytes : List ℕ) (key : Key) → keeps_in index bytes key ≡ keeps_at index bytes key.key (number_of (names_of bytes) key.table)
keeps_named index bytes key = by_number (λ (root : Option ℕ). is_none (unwrap_or (option_map (λ r. index.removal bytes r key.key) root) None)) false key.table bytes

-- a key that an index keeps is one of those that callers know to be kept
keeps_told : (index : below.Index) (laws : Laws index) (bytes : List ℕ) → index.sound bytes → (key : Key) → Keeps index bytes key → keeps_in index bytes key ≡ true
keeps_told index laws bytes sound key (table, called, kept) =
    keeps_named index bytes key ∙ ap (keeps_at index bytes key.key) (numbered index laws bytes sound table key.table called) ∙ ap (λ (o : Option (List ℕ)). not (is_some o)) kept

-- and one that it does not keep is not
keeps_not : (index : below.Index) (laws : Laws index) (bytes : List ℕ) → index.sound bytes → (key : Key) (table : ℕ) → IsCalled bytes table key.table → (removing.IsKept index table bytes key.key → ⊥) → keeps_in index bytes key ≡ false
keeps_not index laws bytes sound key table called unkept = keeps_named index bytes key ∙ ap (keeps_at index bytes key.key) (numbered index laws bytes sound table key.table called) ∙ go (removal_in index table bytes key.key) refl
  where
    go : (o : Option (List ℕ)) → removal_in index table bytes key.key ≡ o → not (is_some o) ≡ false
    go None is = absurd (unkept is)
    go (Some pages) is = refl

-- how a purge is answered, by what came of it
abbrev pub outcome : Result ℕ TableFault → Reply
outcome (Ok n) = reply.Purged n
outcome (Err fault) = reply_to fault

-- no other caller's locks refuse it
pub outcome_plain : (r : Result ℕ TableFault) → is_busy (outcome r) ≡ false
outcome_plain (Ok n) = refl
outcome_plain (Err fault) = fault_plain fault

module _ (limits : Limits) (g : ℕ) where
  -- If a key that no write names is lost, the writes on a logger stay the same,
  writes_lost : (old new : Index) (key : Key) → new.keys.slot_of ≡ update is_same_key old.keys.slot_of key None → (writes : List Write) → list_any (is_of key) writes ≡ false
      → filter (is_write_on limits new g) writes ≡ filter (is_write_on limits old g) writes
  writes_lost old new key loses [] none = refl
  writes_lost old new key loses (write ∷ writes) none =
      let parts = or_parts (is_of key write) (list_any (is_of key) writes) none in
      let same : new.keys.slot_of write.0 ≡ old.keys.slot_of write.0 = ap (λ (f : Key → Option ℕ). f write.0) loses
      ∙ at_other_key old.keys.slot_of key None write.0 (λ e. true≢false (sym (same_key write.0 key e) ∙ parts.0)) in
      ap (λ (s : Option ℕ). cond (is_slot_on limits g s) (write ∷ filter (is_write_on limits new g) writes) (filter (is_write_on limits new g) writes)) same
      ∙ ap (λ (l : List Write). cond (is_write_on limits old g write) (write ∷ l) l) (writes_lost old new key loses writes parts.1)

  -- and so they do after all keys that a purge takes out.
  all_lost : (index : below.Index) (seats : Seats) (bytes : List ℕ) (t : ℕ) (first now : Index) (keys : List Key) → Lost first keys now → AreFreeIn index seats bytes keys
      → filter (is_write_on limits now g) (log_of (calls_at seats t)).writes ≡ filter (is_write_on limits first g) (log_of (calls_at seats t)).writes
  all_lost index seats bytes t first now [] lost free = ap (λ (ix : Index). filter (is_write_on limits ix g) (log_of (calls_at seats t)).writes) lost
  all_lost index seats bytes t first now (key ∷ keys) (before, lost, loses) free =
      writes_lost before now key loses.slot_of (log_of (calls_at seats t)).writes (unwritten seats.names key (calls_at seats t) (λ meets. free.0.1 (t, meets))) ∙ all_lost index seats bytes t first before keys lost free.1

module _ (tells : Bool) (Opens : Shape → List ℕ → List ℕ → Type 0) (index : below.Index) (index_laws : Laws index) (one : (shape : Shape) (image a b : List ℕ) → Opens shape image a → Opens shape image b → a ≡ b)
    (p : PagesView) (old_laws : StoreLaws tells Opens p.store) (rows : List NamedRows) (base : Table) (history : List Done) (seats : Seats) (doubt : List Done) (count : ℕ)
    (kept : IsKept tells Opens index p count rows (state_at index p.store seats.names base history (live_in seats) (offers_in seats) doubt)) (alive : IsAlive p.store) (t : ℕ) (none : live_in seats t ≡ None) (un : offers_in seats t ≡ unoffered) where
  abbrev s : State
  s = state_at index p.store seats.names base history (live_in seats) (offers_in seats) doubt

  -- it has no transaction, live or unsettled
  free_caller : is_engaged s t ≡ false
  free_caller = λ i. is_some (none i) || not (is_unoffered (un i))

  -- what the purge rests on
  pub ready : IsTrue tells → IsReady index seats t p
  ready told =
      let tied = kept.tied told alive in
      let counts = index_laws.counts p.store.state.bytes tied.index_sound in
      record {
        sound = tied.index_sound;
        version = tied.version;
        named = sym tied.named;
        logs = tied.mirrors.logs;
        slots = (is_within p.store.shape p.store.state.bytes (keys_of index p.store.state.bytes) (old_laws.long told) counts refl refl).slots;
      }

  module _ (q : PagesView) (new_laws : StoreLaws tells Opens q.store) where
    abbrev new : State
    new = state_at index q.store seats.names base history (live_in seats) (offers_in seats) doubt

    module _ (told : IsTrue tells) where
      was : IsTied index p (state_at index p.store seats.names base history (live_in seats) (offers_in seats) doubt)
      was = kept.tied told alive

      tied_new : (n : ℕ) → Clears tells (Opens p.store.shape) index seats t (IsOfFirst seats.names (length seats.names)) p q (Ok n) → IsAlive q.store → IsTied index q (state_at index q.store seats.names base history (live_in seats) (offers_in seats) doubt)
      tied_new n clears living =
          let state = clears.spares.state told refl in
          let cleared = clears.cleared told in
          record {
            index_sound = clears.spares.sound told living;
            version = (clears.ready told).version;
            named = sym (clears.ready told).named;
            mirrors = record { table = ap (λ (x : TableState). x.table) state ∙ was.mirrors.table; logs = λ u. ap (λ (x : TableState). x.logs u) state ∙ was.mirrors.logs u };
            sound = record { legal = was.sound.legal; certain = λ _. was.sound.certain alive; doubtful = was.sound.doubtful; groups = was.sound.groups; doubtful_groups = was.sound.doubtful_groups; right = was.sound.right; offers = was.sound.offers; apart = was.sound.apart };
            room = λ u g. subst (λ (l : Limits). held_on l (state_at index q.store seats.names base history (live_in seats) (offers_in seats) doubt) u g ≤ l.entries) (λ i. limits_of index (sym clears.spares.shape i) (sym clears.spares.depth i))
                (subst (λ (k : ℕ). k ≤ p.store.shape.entries)
                (sym (ap length (all_lost (limits_of index p.store.shape p.store.depth) g index seats p.store.state.bytes u (index_of index p.store.state.bytes) (index_of index q.store.state.bytes) cleared.keys cleared.lost cleared.free))) (was.room u g));
          }

      -- Where the store tells its data, nothing but a fault of the medium refuses a purge.
      tied_of : (r : Result ℕ TableFault) → Clears tells (Opens p.store.shape) index seats t (IsOfFirst seats.names (length seats.names)) p q r → IsAlive q.store → IsTied index q (state_at index q.store seats.names base history (live_in seats) (offers_in seats) doubt)
      tied_of (Ok n) clears living = tied_new n clears living
      tied_of (Err Media) clears living = absurd (false≢true (sym living ∙ (clears.spares.dies refl).0))
      tied_of (Err (Damaged page)) clears living = absurd (clears.cause told)
      tied_of _ clears living = absurd clears.cause

    module _ (r : Result ℕ TableFault) (clears : Clears tells (Opens p.store.shape) index seats t (IsOfFirst seats.names (length seats.names)) p q r) where
      time_now : IsTrue tells → LeavesOnly (HasPrefixOf (OpensWithTables (Opens q.store.shape) index seats.names) (state_at index q.store seats.names base history (live_in seats) (offers_in seats) doubt) (length history)) p.store q.store
      time_now told = time_same tells Opens index p q s new (state_of index p).table (state_of index p).table (was told) clears.spares.shape (was told).mirrors.table (was told).mirrors.table refl refl refl
          (weaker (λ image opens. inl opens) (clears.spares.time told))

      safe_now : (b : Bool) → q.store.is_dead ≡ b → IsTrue tells → IsSafe (core_over Opens index q.store (state_at index q.store seats.names base history (live_in seats) (offers_in seats) doubt)) q.store.moment (length history)
      safe_now false living told = safe_alive tells Opens index q new_laws (state_at index q.store seats.names base history (live_in seats) (offers_in seats) doubt) told living (tied_of told r clears living)
      safe_now true dead told = safe_dead tells Opens index one p q old_laws new_laws told clears.spares.shape alive (was told).index_sound s new (was told) refl refl refl (time_now told)

      not_failed : IsAlive q.store → IsFalse (is_failed r)
      not_failed living = elim (cases_Bool (is_failed r)) [
        | inl failed ↦ absurd (false≢true (sym living ∙ (clears.spares.dies failed).0))
        | inr well ↦ well
      ]

      pub purged_keeps : IsKept tells Opens index q count rows (state_at index q.store seats.names base history (live_in seats) (offers_in seats) doubt)
      purged_keeps = record {
        seats = kept.seats ∙ ap (λ (x : Shape). x.numbers) (sym clears.spares.shape);
        in_order = kept.in_order;
        idle = λ living u none. clears.spares.ranges (not_failed living) u ∙ kept.idle alive u none;
        saves = λ living. saves_same p.counts q.counts s new (λ u. ap (λ (f : ℕ → List ℕ). length (f u)) (clears.spares.saves (not_failed living))) refl (kept.saves alive);
        tied = λ told living. tied_of told r clears living;
        safe = safe_now q.store.is_dead refl;
      }

    -- the keys without a record, as callers see them
    absent_so : IsTrue tells → (key : Key) → IsAbsent index p.store.state.bytes key → face.IsAbsent (state_at index p.store seats.names base history (live_in seats) (offers_in seats) doubt) key
    absent_so told key absent = (absent.0, ap (λ (x : Table). get x key) (sym (was told).mirrors.table) ∙ absent.1)

    was_absent : IsTrue tells → (key : Key) → face.IsAbsent (state_at index p.store seats.names base history (live_in seats) (offers_in seats) doubt) key → IsAbsent index p.store.state.bytes key
    was_absent told key absent = (absent.0, ap (λ (x : Table). get x key) (was told).mirrors.table ∙ absent.1)

    -- and what came of each that was tried
    comes_so : (key : Key) (lost : Bool) (a b : List ℕ) (table : ℕ) → index.sound a → IsCalled a table key.table → names_of b ≡ names_of a → Tried index seats table key a b lost
        → Becomes (limits_of index p.store.shape p.store.depth) (state_at index p.store seats.names base history (live_in seats) (offers_in seats) doubt) key lost (index_of index a) (index_of index b)
    comes_so key true a b table sound called named comes = (comes.0, keeps_not index index_laws a sound key table called comes.1, loses_one index a b table key called named comes.2)
    comes_so key false a b table sound called named comes = (touched_or comes.1, ap (index_of index) comes.0)
      where
        touched_or : IsTouchedIn seats key ⊎ Keeps index a key → IsTouched (state_at index p.store seats.names base history (live_in seats) (offers_in seats) doubt) key ⊎ IsTrue (keeps_in index a key)
        touched_or (inl touch) = inl touch
        touched_or (inr keeps) = inr (keeps_told index index_laws a sound key keeps)

    tries_so : (first now : List ℕ) (tries : List Try) → Trail index seats first tries now
        → face.Tries (limits_of index p.store.shape p.store.depth) (state_at index p.store seats.names base history (live_in seats) (offers_in seats) doubt) (index_of index first) tries (index_of index now)
    tries_so first now [] trail = ap (index_of index) trail
    tries_so first now (one ∷ tries) (before, trail, tried) =
        (index_of index before, tries_so first before tries trail, comes_so one.0 one.1 before now tried.table tried.sound tried.called tried.named tried.comes)

    -- A key that was absent is absent still, or was tried.
    tried_or_still : (first now : List ℕ) (tries : List Try) (key : Key) → Trail index seats first tries now → IsSome ((index_of index first).keys.slot_of key) → IsTried key tries ⊎ IsSome ((index_of index now).keys.slot_of key)
    tried_or_still first now [] key trail some = inr (subst (λ (d : List ℕ). IsSome ((index_of index d).keys.slot_of key)) (sym trail) some)
    tried_or_still first now (one ∷ tries) key (before, trail, tried) some = elim (tried_or_still first before tries key trail some) [
      | inl tried_then ↦ inl (inr tried_then)
      | inr there ↦ elim (cases_key key one.0) [
        | inl same ↦ inl (inl (sym same))
        | inr other ↦ inr (still one.1 tried.table tried.called tried.named tried.comes other there)
      ]
    ]
      where
        still : (lost : Bool) (table : ℕ) → IsCalled before table one.0.table → names_of now ≡ names_of before → Tried index seats table one.0 before now lost → (key ≡ one.0 → ⊥) → IsSome ((index_of index before).keys.slot_of key) → IsSome ((index_of index now).keys.slot_of key)
        still true table called named comes other there =
            let lost = loses_one index before now table one.0 called named comes.2 in
            subst (λ (o : Option ℕ). IsSome o) (sym (ap (λ (f : Key → Option ℕ). f key) lost.slot_of ∙ at_other_key (index_of index before).keys.slot_of one.0 None key other)) there
        still false table called named comes other there = subst (λ (d : List ℕ). IsSome ((index_of index d).keys.slot_of key)) (sym comes.0) there

    -- the same callers over another index
    still : (r : Result ℕ TableFault) → IsFalse (is_failed r) → Clears tells (Opens p.store.shape) index seats t (IsOfFirst seats.names (length seats.names)) p q r → new ≡ record s { index = index_of index q.store.state.bytes }
    still r well clears = λ i. record new { is_dead = (clears.spares.faults well).0 i }

    -- and dead after a fault of the medium
    dying : (let r : Result ℕ TableFault = Err Media in Clears tells (Opens p.store.shape) index seats t (IsOfFirst seats.names (length seats.names)) p q r) → new ≡ record s { index = index_of index q.store.state.bytes; is_dead = true }
    dying clears = λ i. record new { is_dead = (clears.spares.dies refl).0 i }

    moves_of : (r : Result ℕ TableFault) → Clears tells (Opens p.store.shape) index seats t (IsOfFirst seats.names (length seats.names)) p q r → Moves p.store.shape.numbers s t (call.Control Purge) (outcome r) new
    moves_of (Ok n) clears = fate_moves p.store.shape.numbers s t (call.Control Purge) (reply.Purged n) new (fates.purged n un none refl refl (index_of index q.store.state.bytes) (still (Ok n) refl clears))
    moves_of (Err Media) clears = fate_moves p.store.shape.numbers s t (call.Control Purge) reply.Media new (fates.failed refl refl (index_of index q.store.state.bytes) (dying clears))
    moves_of (Err (Damaged page)) clears = fate_moves p.store.shape.numbers s t (call.Control Purge) (reply.Damaged page) new (fates.refused refl refl (index_of index q.store.state.bytes) (still (Err (Damaged page)) refl clears))
    moves_of _ clears = absurd clears.cause

    purge_step : (r : Result ℕ TableFault) → Clears tells (Opens p.store.shape) index seats t (IsOfFirst seats.names (length seats.names)) p q r → IsTrue tells → Acts (limits_of index p.store.shape p.store.depth) s t (call.Control Purge) (outcome r) new
    purge_step (Ok n) clears told =
        let cleared = clears.cleared told in
        let ready_then = clears.ready told in
        let table = ap (λ (x : TableState). x.table) (clears.spares.state told refl) ∙ (was told).mirrors.table in
        step_of (limits_of index p.store.shape p.store.depth) None s new t (call.Control Purge) (reply.Purged n) alive none un (inl (
          n,
          refl,
          record {
            tried = cleared.tried;
            order = cleared.order;
            absent = each_as (IsAbsent index p.store.state.bytes) (face.IsAbsent (state_at index p.store seats.names base history (live_in seats) (offers_in seats) doubt)) (absent_so told) cleared.tried cleared.absent;
            all = λ key small is. tried_among key cleared.tried (elim (tried_or_still p.store.state.bytes q.store.state.bytes cleared.tried key cleared.trail is.0) [
              | inl tried ↦ tried
              | inr there ↦ (let at = named_key index q.store.state.bytes key there in
                  cleared.all key (at.0, subst (λ (ns : List (List ℕ)). at.0 < length ns) ready_then.named at.1, ap (λ (ns : List (List ℕ)). slice_get ns at.0) (sym ready_then.named) ∙ at.2, small)
                  (there, ap (λ (x : TableState). get x.table key) (clears.spares.state told refl) ∙ (was_absent told key is).1))
            ]);
            count = cleared.count ∙ ap length cleared.keys_are ∙ sym (lost_count cleared.tried);
            index = index_of index q.store.state.bytes;
            trail = tries_so p.store.state.bytes q.store.state.bytes cleared.tried cleared.trail;
            same = still (Ok n) refl clears;
            left = λ key lt is.
                let at = named_key index q.store.state.bytes key is.0 in
                let same = ready_then.named in
                elim (cleared.left key (at.0, subst (λ (ns : List (List ℕ)). at.0 < length ns) same at.1, ap (λ (ns : List (List ℕ)). slice_get ns at.0) (sym same) ∙ at.2, lt) (is.0, ap (λ (x : Table). get x key) table ∙ is.1)) [
                  | inl touch ↦ inl touch
                  | inr keeps ↦ inr (keeps_told index index_laws q.store.state.bytes ready_then.sound key keeps)
                ];
          },
        ))
    purge_step (Err Media) clears told = step_of (limits_of index p.store.shape p.store.depth) None s new t (call.Control Purge) reply.Media alive none un (inr (refl, index_of index q.store.state.bytes, dying clears))
    purge_step (Err (Damaged page)) clears told = absurd (clears.cause told)
    purge_step _ clears told = absurd clears.cause

    pub purge_cause : (r : Result ℕ TableFault) → Clears tells (Opens p.store.shape) index seats t (IsOfFirst seats.names (length seats.names)) p q r → PurgeCause s t (outcome r)
    purge_cause (Ok n) clears = (alive, free_caller)
    purge_cause (Err Media) clears = (alive, free_caller)
    purge_cause (Err (Damaged page)) clears = (alive, free_caller)
    purge_cause _ clears = absurd clears.cause

    cleared_cause : (r : Result ℕ TableFault) → ClearCause tells r → cause.ClearCause (outcome r)
    cleared_cause (Ok n) cause = tt
    cleared_cause (Err Media) cause = tt
    cleared_cause (Err (Damaged page)) cause = tt
    cleared_cause _ cause = absurd cause

    failed_is : (r : Result ℕ TableFault) → ClearCause tells r → is_media (outcome r) ≡ is_failed r
    failed_is (Ok n) cause = refl
    failed_is (Err Media) cause = refl
    failed_is (Err (Damaged page)) cause = refl
    failed_is _ cause = absurd cause

    module _ (r : Result ℕ TableFault) (clears : Clears tells (Opens p.store.shape) index seats t (IsOfFirst seats.names (length seats.names)) p q r) where
      pub purged_steps : Steps tells t (call.Control Purge) (core_over Opens index p.store s) (core_over Opens index q.store new) (outcome r)
      purged_steps = steps_of tells Opens index p q s new t (call.Control Purge) (outcome r) clears.spares.shape clears.spares.depth (moves_of r clears)
          (plain_cause (limits_of index p.store.shape p.store.depth) s t (call.Control Purge) alive (ap not free_caller) refl (outcome r) (cleared_cause r clears.cause))
          (λ ill. (clears.spares.dies (sym (failed_is r clears.cause) ∙ ill)).1) (λ well. (clears.spares.faults (sym (failed_is r clears.cause) ∙ well)).1)
          (purge_step r clears) (time_now r clears) (purged_keeps r clears).safe (inr (λ told living. shows_tied index q new refl (tied_of told r clears living)))
