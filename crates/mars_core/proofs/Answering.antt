-- A call of a transaction that the records made: granted, refused, or failed.
use Rattle.std.proofs.Common.{◌≡◌, ◌≢◌, ◌⊎◌, ℕ, inl, inr, Bool, true, false, ◌||◌, nat_eq, List, [], ◌∷◌, ◌++◌, length, IsTrue, Option, Some, unwrap_or, Result, Ok, Err, refl, sym, ap, subst, ◌∙◌, arith}
use Rattle.std.specs.Prelude.{None, is_some, IsFalse, IsErrOf, IfOk, OnOk, OnErr}
use Rattle.std.proofs.lemmas.Bool.{cases_eq}
use Rattle.std.specs.Map.{update}
use Rattle.mars_base.specs.Causes.{Rose}
use Rattle.std.proofs.lemmas.Bool.{false≢true}
use Rattle.array_shape.specs.declared.shape.Shape.{Shape}
use Rattle.array_shape.specs.Places.{data_len}
use Rattle.eaw_face.specs.StoreView.{LeavesOnly}
use Rattle.eaw_face.specs.Causes.{IsAlive}
use Rattle.page_store.specs.Index as below
use Rattle.page_store.specs.Shown.{PagesView}
use Rattle.history.specs.Writes.{Write}
use Rattle.history.specs.Rows.{NamedRows}
use Rattle.history.specs.Table.{Granted, IsRight}
use Rattle.history.specs.Legal.{records}
use Rattle.history.specs.Log.{Log, log_of}
use Rattle.history.specs.declared.call.Call.TheVariants.{Table as OnTable}
use Rattle.history.specs.declared.call.TableCall.{TableCall}
use Rattle.history.specs.declared.call.TableCall.TheVariants.{Get, Put, Del, Scan, Save}
use Rattle.history.specs.declared.call.Reply.{Reply}
use Rattle.history.specs.declared.call.Reply.TheVariants as reply
use Rattle.record_table.specs.State.{TableState}
use Rattle.record_table.specs.Faults.{reply_to}
use Rattle.record_table.specs.Causes.{Cause, IsSavedOut, IsScan}
use Rattle.record_table.specs.Calls.{Replies, table_after, after, saves_after}
use Rattle.record_table.specs.Does.{Does, OpensWith, OpensAs, Indexed, IsQuiet, is_failed}
use Rattle.record_table.specs.Shown.{state_of, pairs_of, keys_of}
use Rattle.record_table.specs.Shown as shown
use Rattle.record_table.specs.declared.fault.TableFault.{TableFault}
use Rattle.record_table.specs.declared.fault.TableFault.TheVariants.{SlotsFull, PagesFull, SavesFull, LogFull, Media, Dead, Damaged, NoMemory}
use Rattle.caller_steps.proofs.Fates.{Acts}
use Rattle.caller_steps.specs.State.{State, unoffered, Index, calls_of, records_of}
use Rattle.caller_steps.specs.Locked.{IsFree}
use Rattle.caller_steps.specs.Room.{Limits, Indexes}
use Rattle.caller_steps.specs.Step.{Asks, uses_index}
use Rattle.caller_steps.specs.Fate.{is_refusal, is_media, is_committed}
use Rattle.caller_steps.specs.Prefix.{HasPrefixOf}
use Rattle.caller_steps.specs.Core.{IsSafe, Steps}
use Rattle.caller_steps.specs.Cause.{saves_of, IsOfKind, TableCause, ReplyCause}
use Rattle.caller_steps.specs.Offers.{may_do}
use Rattle.caller_steps.proofs.Able.{takes_within}
use Rattle.caller_steps.proofs.Causing.{call_cause}
use Rattle.caller_steps.proofs.Holding.{AreNamed}
use Rattle.caller_steps.proofs.Sound.{acts_sound}
use Rattle.record_slots.specs.Names.{names_in}
use Rattle.record_slots.specs.Places.{version_of, tables_of}
use Rattle.record_table.specs.Names.{names_of}
use Rattle.history.specs.Locks.{has_table}
use Rattle.mars_core.specs.TableCall.{number_for}
use Rattle.mars_core.specs.Over.{limits_of, index_of, OpensWithTables}
use Rattle.mars_core.specs.Held.{core_over}
use Rattle.mars_core.specs.Kept.{Mirrors, HasHeld, IsTied, IsKept}
use Rattle.mars_core.specs.Works.{HasSaves, IsShown}
use Rattle.mars_core.proofs.Keeping.{dead_keeps, still_keeps}
use Rattle.mars_core.proofs.Indexing.{IsWithin, InsertsNone, is_within, indexes_granted, indexes_refused, indexes_shown, indexes_slots}
use Rattle.mars_core.proofs.Mirroring.{scan_after, mirrors_granted, answers}
use Rattle.mars_core.proofs.Rooming.{fits_is, log_lacks, slot_lacks, page_lacks, named_is}
use Rattle.mars_core.proofs.Entering.{index_room, room_granted}
use Rattle.mars_core.proofs.Saving.{saves_in, saves_same, saves_one, saves_granted}
use Rattle.mars_core.proofs.Causes.{no_refusal, granted_cause, fault_cause}
use Rattle.mars_core.proofs.Idle.{no_calls, idle_after, idle_still}
use Rattle.mars_core.proofs.Prefixes.{StoreLaws, sound_after, safe_dead, safe_alive}
use Rattle.record_table.proofs.Sharing.{Laws}
use Rattle.record_table.proofs.SlotParts.{one_slot}
use Rattle.mars_core.proofs.Stepping.{ShowsPages, or_false, or_true, media_none, moves_refused, moves_granted, step_of, shows_tied, asks_at, steps_of, time_same, counts_is, saves_at, returns_at, enters_at}

refusal_of : (f : TableFault) → is_refusal (reply_to f) ≡ true
refusal_of (SlotsFull n) = refl
refusal_of _ = refl

plain_of : (f : TableFault) → is_committed (reply_to f) ≡ false
plain_of (SlotsFull n) = refl
plain_of _ = refl

-- a refusal without a fault of the medium
abbrev Well : TableFault → Type 0
Well f = let r : Result Reply TableFault = Err f in is_failed r ≡ false

media_of : (f : TableFault) → Well f → is_media (reply_to f) ≡ false
media_of Media well = absurd (cc)
media_of _ well = refl

saved_out : (p : PagesView) (t : ℕ) (call : TableCall) → HasSaves (length (p.counts t)) call → IsSavedOut p t (OnTable call) → ⊥
saved_out p t Save saves out = omega (arith, saves, out)
saved_out p t _ saves out = out

-- a call of a table that inserts no key writes nothing into the data
quiet_of : (index : below.Index) (p : PagesView) (t : ℕ) (call : TableCall) → InsertsNone (keys_of index p.store.state.bytes) call → IsQuiet index p t (OnTable call)
quiet_of index p t (Put name key value) inserts = inserts
quiet_of index p t _ inserts = tt

scan_same : (limits : Limits) (call : TableCall) (answer : Reply) (old new : Index) → IsScan (OnTable call) → Indexes limits call answer old new → new ≡ old
scan_same limits (Put name key value) answer old new scan same = absurd scan
scan_same limits _ answer old new scan same = same

-- What the records made of a call, as far as a core needs it.
pub record Did (tells : Bool) (Opens : List ℕ → List ℕ → Type 0) (index : below.Index) (table t : ℕ) (call : TableCall) (old new : PagesView) (result : Result Reply TableFault) : Type 0 where
  pub shape : new.store.shape ≡ old.store.shape
  pub depth : new.store.depth ≡ old.store.depth
  pub cause : Cause tells index table t (OnTable call) old result
  pub grown : OnOk result (length (new.counts t) ≡ saves_after (OnTable call) (length (old.counts t)))
  pub counts : OnErr result ((u : ℕ) → length (new.counts u) ≡ length (old.counts u))
  pub apart : (u : ℕ) → u ≢ t → new.counts u ≡ old.counts u
  pub faults : IsFalse (is_failed result) → (new.store.is_dead ≡ old.store.is_dead) × (new.store.faults ≡ old.store.faults)
  pub dies : IsTrue (is_failed result) → (new.store.is_dead ≡ true) × Rose old.store.faults new.store.faults
  pub replies : IsTrue tells → IfOk result (Replies (state_of index old) t (OnTable call))
  pub done : IsTrue tells → IfOk result (λ reply. state_of index new ≡ after t (OnTable call) reply (state_of index old))
  pub refused : IsTrue tells → IsFalse (is_failed result) → OnErr result (state_of index new ≡ state_of index old)
  pub quiet : IsTrue tells → IsFalse (is_failed result) → IsQuiet index old t (OnTable call) → new.store.state.bytes ≡ old.store.state.bytes
  pub indexed : IsTrue tells → IsAlive old.store → IsFalse (is_failed result) → Indexed table (OnTable call) (keys_of index old.store.state.bytes) (keys_of index new.store.state.bytes) result
  pub version : IsTrue tells → IsFalse (is_failed result) → version_of old.store.state.bytes ≡ 2 → version_of new.store.state.bytes ≡ 2
  pub tables : IsTrue tells → IsFalse (is_failed result) → tables_of new.store.state.bytes ≡ tables_of old.store.state.bytes
  pub others : (u : ℕ) → u ≢ t → new.store.ranges u ≡ old.store.ranges u
  pub time : IsTrue tells → IsAlive old.store
      → LeavesOnly (λ image. OpensWith Opens index image (state_of index old).table ⊎ OpensWith Opens index image (table_after t (OnTable call) (state_of index old))) old.store new.store
  pub named : IsTrue tells → IsAlive old.store
      → LeavesOnly (λ image. OpensAs Opens index image old.store.state.bytes (state_of index old).table ⊎ OpensAs Opens index image old.store.state.bytes (table_after t (OnTable call) (state_of index old))) old.store new.store

pub did : (tells : Bool) (Opens : List ℕ → List ℕ → Type 0) (index : below.Index) (table t : ℕ) (call : TableCall) (old new : PagesView) (result : Result Reply TableFault) → Does tells Opens index table t (OnTable call) old new result
    → Did tells Opens index table t call old new result
did tells Opens index table t call old new result does = record {
  shape = does.shape;
  depth = does.depth;
  cause = does.cause;
  grown = does.saves;
  counts = counted result does.same_saves;
  apart = λ u ne. (does.others u ne).1;
  faults = does.faults;
  dies = does.dies;
  replies = does.replies;
  done = does.done;
  refused = does.refused;
  quiet = does.quiet;
  indexed = does.indexed;
  version = does.version;
  tables = does.tables;
  others = λ u ne. (does.others u ne).0;
  time = does.time;
  named = does.named;
}
  where
    counted : (r : Result Reply TableFault) → OnErr r (new.counts ≡ old.counts) → OnErr r ((u : ℕ) → length (new.counts u) ≡ length (old.counts u))
    counted (Ok x) same = tt
    counted (Err e) same = λ u. ap (λ (f : ℕ → List ℕ). length (f u)) same

-- only a scan lists rows
listed_is : (saves : ℕ) (call : TableCall) (rows : List (ℕ × List ℕ)) → IsOfKind saves call (reply.Listed rows) → (name : List ℕ) × (low : ℕ) × (high : ℕ) × (call ≡ Scan name low high)
listed_is saves (Scan name low high) rows kind = (name, low, high, refl)
listed_is saves _ rows kind = absurd kind

-- a scan whose rows there is no memory to keep has changed nothing
pub did_unkept : (tells : Bool) (Opens : List ℕ → List ℕ → Type 0) (index : below.Index) (table t : ℕ) (call : TableCall) (old new : PagesView) (rows : List (ℕ × List ℕ)) → IsAlive old.store → IsOfKind (length (old.counts t)) call (reply.Listed rows)
    → Does tells Opens index table t (OnTable call) old new (Ok (reply.Listed rows)) → Did tells Opens index table t call old new (Err NoMemory)
did_unkept tells Opens index table t call old new rows alive kind does = record {
  shape = does.shape;
  depth = does.depth;
  cause = (alive, (let is = scan in subst (λ (c : TableCall). IsScan (OnTable c)) (sym is.3) tt));
  grown = tt;
  counts = λ u. elim (cases_eq u t) [
    | inl e ↦ subst (λ (v : ℕ). length (new.counts v) ≡ length (old.counts v)) (sym e) (does.saves ∙ (let is = scan in ap (λ (c : TableCall). saves_after (OnTable c) (length (old.counts t))) is.3))
    | inr ne ↦ ap (λ (counts : List ℕ). length counts) (does.others u ne).1
  ];
  apart = λ u ne. (does.others u ne).1;
  faults = does.faults;
  dies = λ failed. absurd (false≢true failed);
  replies = λ told. tt;
  done = λ told. tt;
  refused = λ told _. let is = scan in does.done told ∙ ap (λ (c : TableCall). after t (OnTable c) (reply.Listed rows) (state_of index old)) is.3 ∙ scan_after (state_of index old) t is.0 is.1 is.2 (reply.Listed rows);
  quiet = λ told _ quiet. does.quiet told refl quiet;
  indexed = λ told living _. let is = scan in
      subst (λ (c : TableCall). (let r : Result Reply TableFault = Err NoMemory in Indexed table (OnTable c) (keys_of index old.store.state.bytes) (keys_of index new.store.state.bytes) r)) (sym is.3)
      (subst (λ (c : TableCall). (let r : Result Reply TableFault = Ok (reply.Listed rows) in Indexed table (OnTable c) (keys_of index old.store.state.bytes) (keys_of index new.store.state.bytes) r)) is.3 (does.indexed told living refl));
  version = λ told _. does.version told refl;
  tables = λ told _. does.tables told refl;
  others = λ u ne. (does.others u ne).0;
  time = does.time;
  named = does.named;
}
  where
    scan : (name : List ℕ) × (low : ℕ) × (high : ℕ) × (call ≡ Scan name low high)
    scan = listed_is (length (old.counts t)) call rows kind

-- there is the table that is asked for
pub has_asked : (names : List (List ℕ)) (call : TableCall) (table : ℕ) → number_for names call ≡ Some table → has_table names call ≡ true
has_asked names (Get name key) table is = ap is_some is
has_asked names (Put name key value) table is = ap is_some is
has_asked names (Del name key) table is = ap is_some is
has_asked names (Scan name low high) table is = ap is_some is
has_asked names _ table is = refl

-- there is none
pub has_none : (names : List (List ℕ)) (call : TableCall) → number_for names call ≡ None → has_table names call ≡ false
has_none names (Get name key) is = ap is_some is
has_none names (Put name key value) is = ap is_some is
has_none names (Del name key) is = ap is_some is
has_none names (Scan name low high) is = ap is_some is
has_none names _ is = absurd (cc)

mirrors_same : (b : TableState) (s new : State) → records_of new ≡ records_of s → new.live ≡ s.live → Mirrors b s → Mirrors b new
mirrors_same b s new same live m = record { table = m.table ∙ sym same; logs = λ u. m.logs u ∙ ap (λ (f : ℕ → Option Granted). log_of (unwrap_or (f u) [])) (sym live) }

module _ (tells : Bool) (Opens : Shape → List ℕ → List ℕ → Type 0) (index : below.Index) (one : (shape : Shape) (image a b : List ℕ) → Opens shape image a → Opens shape image b → a ≡ b) (laws : Laws index)
    (p q : PagesView) (old_laws : StoreLaws tells Opens p.store) (new_laws : StoreLaws tells Opens q.store) (s new : State) (shows : ShowsPages index p s) (shows_new : ShowsPages index q new)
    (names : new.names ≡ s.names) (offers : new.offers ≡ s.offers) (base : new.base ≡ s.base) (history : new.history ≡ s.history) (doubt : new.doubt ≡ s.doubt) (count count' : ℕ) (same_count : count' ≡ count) (rows : List NamedRows)
    (kept : IsKept tells Opens index p count rows s) (alive : IsAlive p.store) (tells_writes : IsShown tells index p) (table t : ℕ) (call : TableCall) (asked : number_for s.names call ≡ Some table)
    (saves : HasSaves (length (p.counts t)) call) (calls : Granted) (is : s.live t ≡ Some calls) (un : s.offers t ≡ unoffered) (free : IsFree s t call) where
  same_records : records_of new ≡ records_of s
  same_records = λ i. records (base i) (history i)

  has : HasSaves (length ((state_of index p).logs t).saved) call
  has = subst (λ (n : ℕ). HasSaves n call) (sym (counts_is index p t)) saves

  there : has_table s.names call ≡ true
  there = has_asked s.names call table asked

  living_state : s.is_dead ≡ false
  living_state = shows.dead ∙ alive

  module _ (told : IsTrue tells) where
    tied : IsTied index p s
    tied = kept.tied told alive

    right : IsRight (records_of s) (calls_of s t)
    right = tied.sound.right t

    named : (u : ℕ) → AreNamed s.index (log_of (calls_of s u)).writes
    named u = named_is s.index (pairs_of index p.store.state.bytes) (log_of (calls_of s u)).writes (λ key. ap (λ (x : Index). x.keys.slot_of key) shows.indexed)
        (subst (λ (ws : List Write). shown.AreNamed (pairs_of index p.store.state.bytes) ws) (ap (λ (l : Log). l.writes) (tied.mirrors.logs u)) (tells_writes.named told alive u))

    asked_below : number_for (names_of p.store.state.bytes) call ≡ Some table
    asked_below = ap (λ (ns : List (List ℕ)). number_for ns call) (sym tied.named) ∙ asked

    -- the data after the call is within the array
    module _ (result : Result Reply TableFault) (works : Did tells (Opens p.store.shape) index table t call p q result) where
      sound_new : IsAlive q.store → index.sound q.store.state.bytes
      sound_new = sound_after tells Opens index one p q old_laws new_laws told works.shape alive tied.index_sound _ _ (works.time told alive)

      within : IsAlive q.store → IsWithin p.store.shape (keys_of index q.store.state.bytes)
      within living = is_within p.store.shape q.store.state.bytes (keys_of index q.store.state.bytes)
          (subst (λ (h : Shape). length q.store.state.bytes ≡ data_len h) works.shape (new_laws.long told)) (laws.counts q.store.state.bytes (sound_new living)) refl refl

      time : LeavesOnly (HasPrefixOf (OpensWithTables (Opens q.store.shape) index new.names) new (length s.history)) p.store q.store
      time = time_same tells Opens index p q s new (state_of index p).table (state_of index p).table tied works.shape tied.mirrors.table tied.mirrors.table names base history (works.named told alive)

  -- the call has the saves that it needs, and the table is there, so the state does not refuse it
  may : may_do s t (OnTable call) ≡ true
  may = takes_within s t calls un is

  count_is : length (p.counts t) ≡ saves_of s t
  count_is = kept.saves alive t (records_of s)

  asked_cause : (answer : Reply) → TableCause (limits_of index p.store.shape p.store.depth) s t call answer → ReplyCause (limits_of index p.store.shape p.store.depth) s t (OnTable call) answer
  asked_cause answer cause = call_cause (limits_of index p.store.shape p.store.depth) s t call living_state may (no_refusal (saves_of s t) call (subst (λ (n : ℕ). HasSaves n call) count_is saves)) there answer cause

  -- the names stay
  names_same : (result : Result Reply TableFault) → IsTrue tells → IsFalse (is_failed result) → Did tells (Opens p.store.shape) index table t call p q result → names_of q.store.state.bytes ≡ names_of p.store.state.bytes
  names_same result told well works = ap names_in (works.tables told well)

  -- the caller's call was granted
  module _ (answer : Reply) (works : Did tells (Opens p.store.shape) index table t call p q (Ok answer)) (granted : IsFalse (is_refusal answer)) (plain : IsFalse (is_committed answer)) (kind : IsOfKind (length (p.counts t)) call answer)
      (live : new.live ≡ update nat_eq s.live t (Some (calls ++ (call, answer) ∷ []))) where
    living : IsAlive q.store
    living = (works.faults refl).0 ∙ alive

    dead_same : new.is_dead ≡ s.is_dead
    dead_same = shows_new.dead ∙ (works.faults refl).0 ∙ sym shows.dead

    module _ (told : IsTrue tells) where
      indexes : Indexes (limits_of index p.store.shape p.store.depth) call answer s.index new.index
      indexes = subst (λ (x : Index). Indexes (limits_of index p.store.shape p.store.depth) call answer x new.index) (sym shows.indexed)
          (subst (λ (x : Index). Indexes (limits_of index p.store.shape p.store.depth) call answer (index_of index p.store.state.bytes) x) (sym shows_new.indexed)
          (indexes_shown (limits_of index p.store.shape p.store.depth) call answer index p.store.state.bytes q.store.state.bytes (names_same (Ok answer) told refl works)
          (indexes_granted index p.store.shape p.store.depth table (names_of p.store.state.bytes) p.store.state.bytes q.store.state.bytes (keys_of index p.store.state.bytes) (keys_of index q.store.state.bytes) (within told (Ok answer) works living) (one_slot index laws q.store.state.bytes (sound_new told (Ok answer) works living)) call answer answer
          (λ inserts. works.quiet told refl (quiet_of index p t call inserts))
          (λ name key value e. subst (λ (c : TableCall). Replies (state_of index p) t (OnTable c) answer) e (works.replies told)) (works.indexed told alive refl))))

      asks : Asks (limits_of index p.store.shape p.store.depth) calls s t call answer new
      asks = inr (inr (
        free,
        inl (
          answers (state_of index p) s (tied told).mirrors t (right told) call answer (works.replies told),
          fits_is index table p s shows.indexed (tied told).mirrors (tells_writes.held told alive) t (right told) (tied told).room call (asked_below told) (works.cause.2 told),
          new.index,
          indexes,
          λ i. record { names = names i; base = base i; history = history i; live = live i; offers = offers i; doubt = doubt i; is_dead = dead_same i; index = new.index },
        ),
      ))

      step : Acts (limits_of index p.store.shape p.store.depth) s t (OnTable call) answer new
      step = step_of (limits_of index p.store.shape p.store.depth) (Some calls) s new t (OnTable call) answer living_state is un
          (asks_at (limits_of index p.store.shape p.store.depth) calls s new t call answer there (saves_at index table p s shows (tied told).mirrors (tells_writes.held told alive) t (right told) call has) asks)

      tied_new : IsTied index q new
      tied_new = record {
        index_sound = sound_new told (Ok answer) works living;
        version = works.version told refl (tied told).version;
        named = names ∙ (tied told).named ∙ sym (names_same (Ok answer) told refl works);
        mirrors = subst (λ (b : TableState). Mirrors b new) (sym (works.done told)) (mirrors_granted (state_of index p) s (tied told).mirrors new t calls call answer is live same_records);
        sound = acts_sound (limits_of index p.store.shape p.store.depth) s t (OnTable call) answer new (tied told).sound step;
        room = subst (λ (x : Shape × ℕ). HasHeld (limits_of index x.0 x.1) new) (λ i. (sym works.shape i, sym works.depth i))
            (room_granted (limits_of index p.store.shape p.store.depth) s (named told) (tied told).room new.index (indexes_slots (limits_of index p.store.shape p.store.depth) call answer s.index new.index indexes) t calls is new call answer refl live
            (enters_at index table p s shows (tied told).mirrors (tells_writes.held told alive) t (right told) call answer new.index (works.cause.2 told) (works.replies told) indexes)
            (returns_at index table p s shows (tied told).mirrors (tells_writes.held told alive) t (right told) calls (ap (λ (o : Option Granted). unwrap_or o []) is) call has));
      }

      safe_new : IsSafe (core_over Opens index q.store new) q.store.moment (length new.history)
      safe_new = safe_alive tells Opens index q new_laws new told living tied_new

    pub granted_keeps : IsKept tells Opens index q count' rows new
    granted_keeps = still_keeps tells Opens index p q s new count count' same_count rows kept works.shape safe_new
        (idle_after p.store.ranges q.store.ranges s.live new.live t works.others (kept.idle alive) (Some (calls ++ (call, answer) ∷ [])) live (λ e. absurd (no_calls (calls ++ (call, answer) ∷ []) e)))
        (saves_one p.counts q.counts s new t (Some (calls ++ (call, answer) ∷ [])) works.apart live (λ table. saves_granted (length (p.counts t)) (length (q.counts t)) table calls call answer
        (kept.saves alive t table ∙ ap (λ (o : Option Granted). saves_in table (unwrap_or o [])) is) saves works.grown) (kept.saves alive)) tied_new

    pub granted_steps : Steps tells t (OnTable call) (core_over Opens index p.store s) (core_over Opens index q.store new) answer
    granted_steps = steps_of tells Opens index p q s new t (OnTable call) answer works.shape works.depth
        (moves_granted p.store.shape.numbers s new t calls call answer names base history dead_same offers un is live granted plain)
        (asked_cause answer (granted_cause (limits_of index p.store.shape p.store.depth) s t call answer free granted (subst (λ (n : ℕ). IsOfKind n call answer) count_is kind))) (λ failed. absurd (false≢true (sym (media_none answer granted) ∙ failed)))
        (λ _. (works.faults refl).1) step (λ told. time told (Ok answer) works) safe_new (inr (λ told _. shows_tied index q new shows_new.indexed (tied_new told)))

  -- the call was refused
  module _ (f : TableFault) (works : Did tells (Opens p.store.shape) index table t call p q (Err f)) (live : new.live ≡ s.live) where
    module _ (well : Well f) where
      living_still : IsAlive q.store
      living_still = (works.faults well).0 ∙ alive

      dead_still : new.is_dead ≡ s.is_dead
      dead_still = shows_new.dead ∙ (works.faults well).0 ∙ sym shows.dead

      changed : new ≡ record s { index = new.index }
      changed = λ i. record { names = names i; base = base i; history = history i; live = live i; offers = offers i; doubt = doubt i; is_dead = dead_still i; index = new.index }

      module _ (told : IsTrue tells) where
        indexes_still : Indexes (limits_of index p.store.shape p.store.depth) call (reply_to f) s.index new.index
        indexes_still = subst (λ (x : Index). Indexes (limits_of index p.store.shape p.store.depth) call (reply_to f) x new.index) (sym shows.indexed)
            (subst (λ (x : Index). Indexes (limits_of index p.store.shape p.store.depth) call (reply_to f) (index_of index p.store.state.bytes) x) (sym shows_new.indexed)
            (indexes_shown (limits_of index p.store.shape p.store.depth) call (reply_to f) index p.store.state.bytes q.store.state.bytes (names_same (Err f) told well works)
            (indexes_refused index p.store.shape p.store.depth table (names_of p.store.state.bytes) p.store.state.bytes q.store.state.bytes (keys_of index p.store.state.bytes) (keys_of index q.store.state.bytes) (within told (Err f) works living_still) (one_slot index laws q.store.state.bytes (sound_new told (Err f) works living_still)) Reply call f (asked_below told)
            (λ inserts. works.quiet told well (quiet_of index p t call inserts)) well (works.indexed told alive well))))

        -- for its cause
        asks_fault : (g : TableFault) → Well g → (let r : Result Reply TableFault = Err g in Cause tells index table t (OnTable call) p r) → Indexes (limits_of index p.store.shape p.store.depth) call (reply_to g) s.index new.index
            → Asks (limits_of index p.store.shape p.store.depth) calls s t call (reply_to g) new
        asks_fault (SlotsFull n) well cause made = inr (inr (
          free,
          inr (inl (
            slot_lacks index table p s shows.indexed (tied told).mirrors (tells_writes.held told alive) t (right told) (tied told).room call n (cause.3 told) cause.2,
            new.index,
            made,
            changed,
          )),
        ))
        asks_fault (PagesFull n) well cause made = inr (inr (
          free,
          inr (inl (
            page_lacks index table p s shows.indexed (tied told).mirrors (tells_writes.held told alive) t (right told) (tied told).room call n (asked_below told) (cause.3 told) cause.2,
            new.index,
            made,
            changed,
          )),
        ))
        asks_fault (LogFull g h n) well cause made = inr (inr (
          free,
          inr (inl (
            log_lacks index table p s shows.indexed (tied told).mirrors (tells_writes.held told alive) t (right told) (tied told).room call g h n (asked_below told) (cause.2 told) cause.1,
            new.index,
            made,
            changed,
          )),
        ))
        asks_fault SavesFull well cause made = absurd (saved_out p t call saves cause.1)
        asks_fault Dead well cause made = absurd (false≢true (sym alive ∙ cause))
        asks_fault (Damaged page) well cause made = absurd (cause.2 told)
        asks_fault NoMemory well cause made =
            inl (refl, changed ∙ ap (λ (x : Index). record s { index = x }) (scan_same (limits_of index p.store.shape p.store.depth) call reply.NoMemory s.index new.index cause.1 made))
        asks_fault Media well cause made = absurd (false≢true (sym well))

        step_still : Acts (limits_of index p.store.shape p.store.depth) s t (OnTable call) (reply_to f) new
        step_still = step_of (limits_of index p.store.shape p.store.depth) (Some calls) s new t (OnTable call) (reply_to f) living_state is un
            (asks_at (limits_of index p.store.shape p.store.depth) calls s new t call (reply_to f) there (saves_at index table p s shows (tied told).mirrors (tells_writes.held told alive) t (right told) call has) (asks_fault f well works.cause indexes_still))

        tied_still : IsTied index q new
        tied_still = record {
          index_sound = sound_new told (Err f) works living_still;
          version = works.version told well (tied told).version;
          named = names ∙ (tied told).named ∙ sym (names_same (Err f) told well works);
          mirrors = subst (λ (b : TableState). Mirrors b new) (sym (works.refused told well)) (mirrors_same (state_of index p) s new same_records live (tied told).mirrors);
          sound = acts_sound (limits_of index p.store.shape p.store.depth) s t (OnTable call) (reply_to f) new (tied told).sound step_still;
          room = subst (λ (x : Shape × ℕ). HasHeld (limits_of index x.0 x.1) new) (λ i. (sym works.shape i, sym works.depth i)) (subst (HasHeld (limits_of index p.store.shape p.store.depth)) (sym changed)
              (index_room (limits_of index p.store.shape p.store.depth) s (named told) (tied told).room new.index (indexes_slots (limits_of index p.store.shape p.store.depth) call (reply_to f) s.index new.index indexes_still)));
        }

        safe_still : IsSafe (core_over Opens index q.store new) q.store.moment (length new.history)
        safe_still = safe_alive tells Opens index q new_laws new told living_still tied_still

      well_keeps : IsKept tells Opens index q count' rows new
      well_keeps = still_keeps tells Opens index p q s new count count' same_count rows kept works.shape safe_still
          (idle_still p.store.ranges q.store.ranges s.live new.live t works.others (kept.idle alive) calls is live) (saves_same p.counts q.counts s new works.counts live (kept.saves alive)) tied_still

      well_steps : Steps tells t (OnTable call) (core_over Opens index p.store s) (core_over Opens index q.store new) (reply_to f)
      well_steps = steps_of tells Opens index p q s new t (OnTable call) (reply_to f) works.shape works.depth
          (moves_refused p.store.shape.numbers s new t (OnTable call) (reply_to f) names base history live offers (dead_still ∙ sym (ap (λ (b : Bool). s.is_dead || b) (media_of f well) ∙ or_false s.is_dead)) (refusal_of f) (plain_of f))
          (asked_cause (reply_to f) (fault_cause tells index table p s t call alive (saved_out p t call saves) free f works.cause (λ media. absurd (false≢true (sym well ∙ ap is_failed media)))))
          (λ failed. absurd (false≢true (sym (media_of f well) ∙ failed))) (λ _. (works.faults well).1) step_still (λ told. time told (Err f) works) safe_still (inr (λ told _. shows_tied index q new shows_new.indexed (tied_still told)))

  -- the medium failed
  module _ (works : Did tells (Opens p.store.shape) index table t call p q (Err Media)) (due : IsTrue (uses_index call)) (live : new.live ≡ s.live) where
    died : new.is_dead ≡ true
    died = shows_new.dead ∙ (works.dies refl).0

    step_failed : IsTrue tells → Acts (limits_of index p.store.shape p.store.depth) s t (OnTable call) reply.Media new
    step_failed told = step_of (limits_of index p.store.shape p.store.depth) (Some calls) s new t (OnTable call) reply.Media living_state is un
        (asks_at (limits_of index p.store.shape p.store.depth) calls s new t call reply.Media there (saves_at index table p s shows (tied told).mirrors (tells_writes.held told alive) t (right told) call has)
        (inr (inr (free, inr (inr (due, (refl, new.index, λ i. record { names = names i; base = base i; history = history i; live = live i; offers = offers i; doubt = doubt i; is_dead = died i; index = new.index })))))))

    safe_failed : IsTrue tells → IsSafe (core_over Opens index q.store new) q.store.moment (length new.history)
    safe_failed told = safe_dead tells Opens index one p q old_laws new_laws told works.shape alive (tied told).index_sound s new (tied told) names base history (time told (Err Media) works)

    media_keeps : IsKept tells Opens index q count' rows new
    media_keeps = dead_keeps tells Opens index p q s new count count' same_count rows kept works.shape safe_failed (works.dies refl).0

    media_steps : Steps tells t (OnTable call) (core_over Opens index p.store s) (core_over Opens index q.store new) reply.Media
    media_steps = steps_of tells Opens index p q s new t (OnTable call) reply.Media works.shape works.depth
        (moves_refused p.store.shape.numbers s new t (OnTable call) reply.Media names base history live offers (died ∙ sym (or_true s.is_dead)) refl refl) (asked_cause reply.Media (free, inr due))
        (λ _. (works.dies refl).1) (λ kept. absurd (false≢true (sym kept))) step_failed (λ told. time told (Err Media) works) safe_failed (inr (λ told living. absurd (false≢true (sym living ∙ died))))

  module _ (f : TableFault) (works : Did tells (Opens p.store.shape) index table t call p q (Err f)) (due : (let r : Result Reply TableFault = Err f in IsErrOf r Media → IsTrue (uses_index call))) (live : new.live ≡ s.live) where
    refused_both : IsKept tells Opens index q count' rows new × Steps tells t (OnTable call) (core_over Opens index p.store s) (core_over Opens index q.store new) (reply_to f)
    refused_both = go f works due
      where
        go : (f : TableFault) → Did tells (Opens p.store.shape) index table t call p q (Err f) → (let r : Result Reply TableFault = Err f in IsErrOf r Media → IsTrue (uses_index call))
            → IsKept tells Opens index q count' rows new × Steps tells t (OnTable call) (core_over Opens index p.store s) (core_over Opens index q.store new) (reply_to f)
        go Media works due = (media_keeps works (due refl) live, media_steps works (due refl) live)
        go (SlotsFull n) works due = (well_keeps (SlotsFull n) works live refl, well_steps (SlotsFull n) works live refl)
        go (PagesFull n) works due = (well_keeps (PagesFull n) works live refl, well_steps (PagesFull n) works live refl)
        go SavesFull works due = (well_keeps SavesFull works live refl, well_steps SavesFull works live refl)
        go (LogFull g h n) works due = (well_keeps (LogFull g h n) works live refl, well_steps (LogFull g h n) works live refl)
        go Dead works due = (well_keeps Dead works live refl, well_steps Dead works live refl)
        go (Damaged page) works due = (well_keeps (Damaged page) works live refl, well_steps (Damaged page) works live refl)
        go NoMemory works due = (well_keeps NoMemory works live refl, well_steps NoMemory works live refl)

    pub refused_keeps : IsKept tells Opens index q count' rows new
    refused_keeps = refused_both.0

    pub refused_steps : Steps tells t (OnTable call) (core_over Opens index p.store s) (core_over Opens index q.store new) (reply_to f)
    refused_steps = refused_both.1
