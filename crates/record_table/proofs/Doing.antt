-- What a call on records does, given what the calls below leave.
use Rattle.std.proofs.Common.{◌≡◌, ◌≢◌, ℕ, ◌+◌, ◌<◌, ◌≤◌, ◌⊎◌, Bool, true, false, inl, IsTrue, List, length, Result, Ok, Err, refl, sym, ◌∙◌, ap, subst, arith}
use Rattle.std.specs.Prelude.{Option, Some, None, is_some, IsFalse, IsErrOf, IfOk, OnOk, OnErr}
use Rattle.std.specs.FinMap.{get}
use Rattle.std.proofs.lemmas.Bool.{false≢true}
use Rattle.mars_base.specs.Causes.{Rose}
use Rattle.mars_base.proofs.Going.{stays, then, weaker}
use Rattle.array_shape.specs.declared.shape.Shape.{Shape}
use Rattle.eaw_face.specs.State.{State, count_on}
use Rattle.eaw_face.specs.Causes.{IsAlive}
use Rattle.eaw_face.specs.Mirroring.{Mirrors}
use Rattle.eaw_face.specs.StoreView.{LeavesOnly}
use Rattle.mars_base.specs.Room.{IsFirstFull}
use Rattle.history.specs.Log.{Log, is_rewritten}
use Rattle.history.specs.Table as history
use Rattle.history.specs.declared.key.Key.{Key}
use Rattle.history.specs.Key.{of_table}
use Rattle.history.specs.declared.call.Call.{Call}
use Rattle.history.specs.declared.call.Call.TheVariants.{Table as OnTable}
use Rattle.history.specs.declared.call.TableCall.TheVariants.{Get, Put, Del, Scan}
use Rattle.history.specs.declared.call.Reply.{Reply}
use Rattle.history.specs.declared.call.Reply.TheVariants.{Absent, Listed}
use Rattle.record_slots.specs.Places.{version_of, tables_of}
use Rattle.page_store.specs.Index.{Index}
use Rattle.page_store.specs.State.{with_one}
use Rattle.page_store.specs.Looks.{LookCause, is_failed}
use Rattle.page_store.specs.Shown.{PagesView}
use Rattle.page_store.specs.declared.fault.PageFault.{PageFault}
use Rattle.page_store.specs.declared.fault.PageFault.TheVariants as page
use Rattle.record_table.specs.Calls.{Replies, table_after, after, saves_after}
use Rattle.record_table.specs.Causes.{Cause, MaySave, Fits, HasRoom, IsFull, IsShort, IsSought}
use Rattle.record_table.specs.Does.{Does, OpensAs, OpensWith, Indexed, IsQuiet, replied}
use Rattle.record_table.specs.Does as answers
use Rattle.record_table.specs.Faults.{as_table}
use Rattle.record_table.specs.Invariant.{Holds}
use Rattle.record_table.specs.Shown.{state_of, keys_of, held_on, needed_on}
use Rattle.record_table.specs.Scanned.{rows_seen, ScanCause}
use Rattle.record_table.specs.Sought.{LooksAs}
use Rattle.index_keys.specs.Keys.{TakesPages}
use Rattle.record_table.specs.State.{TableState, Keys, seen_by}
use Rattle.record_table.specs.declared.fault.TableFault.{TableFault}
use Rattle.record_table.specs.declared.fault.TableFault.TheVariants.{SlotsFull, PagesFull, SavesFull, LogFull, Media, Dead, Damaged, NoMemory}
use Rattle.record_table.proofs.Moving.{Moved, Failed, opens_behind, opens_with, moved_by_look, failed_by_look, rests_moved}
use Rattle.record_table.proofs.States.{with_same, written}
use Rattle.record_table.proofs.Wrote.{Wrote}
use Rattle.eaw_face.proofs.Mirroring.{none_sent, sent_then}

on_ok : {T E A B : Type 0} (r : Result T E) → (A → B) → OnOk r A → OnOk r B
on_ok (Ok x) f a = f a
on_ok (Err e) f a = tt

if_ok : {T E : Type 0} (A B : T → Type 0) (r : Result T E) → ((x : T) → A x → B x) → IfOk r A → IfOk r B
if_ok A B (Ok x) f a = f x a
if_ok A B (Err e) f a = tt

on_err : {T E B : Type 0} (r : Result T E) → B → OnErr r B
on_err (Ok x) b = tt
on_err (Err e) b = b

same_counts : (old new : PagesView) (n : ℕ) → new.counts ≡ old.counts → length (new.counts n) ≡ length (old.counts n)
same_counts old new n same = ap (λ (f : ℕ → List ℕ). length (f n)) same

-- a call that is answered, and that leaves the logs as they are
pub record Stays (index : Index) (t : ℕ) (c : Call) (old : PagesView) (reply : Reply) : Type 0 where
  pub replies : Replies (state_of index old) t c reply
  pub same : state_of index old ≡ after t c reply (state_of index old)

-- what is left of pages when the medium failed in a call for this number
pub record Broken (tells : Bool) (t : ℕ) (old new : PagesView) : Type 0 where
  pub shape : new.store.shape ≡ old.store.shape
  pub mirrors : Mirrors tells old.store new.store
  pub dies : (new.store.is_dead ≡ true) × Rose old.store.faults new.store.faults
  pub counts : new.counts ≡ old.counts
  pub others : (u : ℕ) → u ≢ t → new.store.ranges u ≡ old.store.ranges u

module _ (tells : Bool) (Opens : List ℕ → List ℕ → Type 0) (index : Index) (table t : ℕ) (c : Call) (old new : PagesView) where
  -- only the index has changed
  pub does_moved : (r : Result Reply TableFault) → IsAlive old.store → IsFalse (answers.is_failed r) → Moved tells Opens index t old new → Cause tells index table t c old r
      → (IsTrue tells → IfOk r (Stays index t c old)) → (IsTrue tells → Indexed table c (keys_of index old.store.state.bytes) (keys_of index new.store.state.bytes) r)
      → (IsTrue tells → IsQuiet index old t c → new.store.state.bytes ≡ old.store.state.bytes) → OnOk r (length (old.counts t) ≡ saves_after c (length (old.counts t))) → Does tells Opens index table t c old new r
  does_moved r alive well moved cause stays indexed quiet saves = record {
    shape = moved.shape;
    depth = moved.depth;
    mirrors = moved.mirrors;
    cause = cause;
    faults = λ _. (moved.dead, moved.faults);
    dies = λ failed. absurd (false≢true (sym well ∙ failed));
    replies = λ told. if_ok (Stays index t c old) (Replies (state_of index old) t c) r (λ reply is. is.replies) (stays told);
    done = λ told. if_ok (Stays index t c old) (λ reply. state_of index new ≡ after t c reply (state_of index old)) r (λ reply is. moved.state told ∙ is.same) (stays told);
    refused = λ told _. on_err r (moved.state told);
    indexed = λ told _ _. indexed told;
    quiet = λ told _. quiet told;
    version = λ told _. moved.version told;
    tables = λ told _. moved.tables told;
    saves = on_ok r (λ e. same_counts old new t moved.counts ∙ e) saves;
    same_saves = on_err r moved.counts;
    others = λ u ne. (moved.others u ne, ap (λ (f : ℕ → List ℕ). f u) moved.counts);
    time = λ told _. weaker (λ image opens. inl (opens_with Opens index image _ _ opens)) (moved.time told);
    named = λ told _. weaker (λ image opens. inl opens) (moved.time told);
  }

  -- the medium failed
  pub does_broken : IsAlive old.store → Broken tells t old new → (IsTrue tells → LeavesOnly (λ image. OpensWith Opens index image (state_of index old).table ⊎ OpensWith Opens index image (table_after t c (state_of index old))) old.store new.store)
      → (IsTrue tells → LeavesOnly (λ image. OpensAs Opens index image old.store.state.bytes (state_of index old).table ⊎ OpensAs Opens index image old.store.state.bytes (table_after t c (state_of index old))) old.store new.store)
      → Does tells Opens index table t c old new (Err Media)
  does_broken alive broken time named = record {
    shape = broken.shape;
    depth = broken.mirrors.depth;
    mirrors = broken.mirrors;
    cause = alive;
    faults = λ well. absurd (false≢true (sym well));
    dies = λ _. broken.dies;
    replies = λ told. tt;
    done = λ told. tt;
    refused = λ told well. absurd (false≢true (sym well));
    indexed = λ told _ well. absurd (false≢true (sym well));
    quiet = λ told well. absurd (false≢true (sym well));
    version = λ told well. absurd (false≢true (sym well));
    tables = λ told well. absurd (false≢true (sym well));
    saves = tt;
    same_saves = broken.counts;
    others = λ u ne. (broken.others u ne, ap (λ (f : ℕ → List ℕ). f u) broken.counts);
    time = λ told _. time told;
    named = λ told _. named told;
  }

  pub does_failed : IsAlive old.store → Failed tells Opens index t old new → Does tells Opens index table t c old new (Err Media)
  does_failed alive failed =
      does_broken alive (record { shape = failed.shape; mirrors = failed.mirrors; dies = failed.dies; counts = failed.counts; others = failed.others })
      (λ told. weaker (λ image opens. inl (opens_with Opens index image _ _ opens)) (failed.time told)) (λ told. weaker (λ image opens. inl opens) (failed.time told))

  -- it was refused, and nothing has changed
  pub does_nothing : (f : TableFault) → (let r : Result Reply TableFault = Err f in IsFalse (answers.is_failed r) × Cause tells index table t c old r)
      → (IsTrue tells → IsAlive old.store → (let r : Result Reply TableFault = Err f in Indexed table c (keys_of index old.store.state.bytes) (keys_of index old.store.state.bytes) r)) → Does tells Opens index table t c old old (Err f)
  does_nothing f well indexed = record {
    shape = refl;
    depth = refl;
    mirrors = none_sent tells old.store old.store refl refl refl refl (λ fine. fine) (λ told mirrors fine. refl);
    cause = well.1;
    faults = λ _. (refl, refl);
    dies = λ failed. absurd (false≢true (sym well.0 ∙ failed));
    replies = λ told. tt;
    done = λ told. tt;
    refused = λ told _. refl;
    indexed = λ told alive _. indexed told alive;
    quiet = λ told _ _. refl;
    version = λ told _ two. two;
    tables = λ told _. refl;
    saves = tt;
    same_saves = refl;
    others = λ u ne. (refl, refl);
    time = λ told _. stays old.store.moment old.store.left_since _;
    named = λ told _. stays old.store.moment old.store.left_since _;
  }

  -- the store was dead
  pub does_dead : new ≡ old → old.store.is_dead ≡ true → Does tells Opens index table t c old new (Err Dead)
  does_dead same dead = subst (λ (v : PagesView). Does tells Opens index table t c old v (Err Dead)) (sym same) (does_nothing Dead (refl, dead) (λ told alive. absurd (false≢true (sym alive ∙ dead))))

  pub holds_dead : new.store.is_dead ≡ true → Holds tells index new
  holds_dead dead alive = absurd (false≢true (sym alive ∙ dead))

  -- a write, after only the index has changed
  pub does_wrote : (reply : Reply) (mid : PagesView) (key : Key) (slot : ℕ) (value : Option (List ℕ)) → Moved tells Opens index t old mid → Wrote tells Opens index t key value slot mid new
      → (let r : Result Reply TableFault = Ok reply in Cause tells index table t c old r) → (IsTrue tells → Replies (state_of index old) t c reply) → (IsTrue tells → after t c reply (state_of index old) ≡ written (state_of index old) t key value)
      → (IsTrue tells → (let r : Result Reply TableFault = Ok reply in Indexed table c (keys_of index old.store.state.bytes) (keys_of index mid.store.state.bytes) r))
      → (IsTrue tells → IsQuiet index old t c → mid.store.state.bytes ≡ old.store.state.bytes) → length (old.counts t) ≡ saves_after c (length (old.counts t)) → Does tells Opens index table t c old new (Ok reply)
  does_wrote reply mid key slot value moved wrote cause replies one indexed quiet saves = record {
    shape = wrote.shape ∙ moved.shape;
    depth = wrote.depth ∙ moved.depth;
    mirrors = sent_then tells old.store mid.store new.store moved.mirrors wrote.mirrors;
    cause = cause;
    faults = λ _. (wrote.dead ∙ moved.dead, wrote.faults ∙ moved.faults);
    dies = λ failed. absurd (false≢true failed);
    replies = replies;
    done = λ told. wrote.state told ∙ ap (λ (s : TableState). written s t key value) (moved.state told) ∙ sym (one told);
    refused = λ told _. tt;
    indexed = λ told _ _. subst (λ (b : List ℕ). (let r : Result Reply TableFault = Ok reply in Indexed table c (keys_of index old.store.state.bytes) (keys_of index b) r)) (sym (wrote.bytes told)) (indexed told);
    quiet = λ told _ is. wrote.bytes told ∙ quiet told is;
    version = λ told _ two. ap version_of (wrote.bytes told) ∙ moved.version told two;
    tables = λ told _. ap tables_of (wrote.bytes told) ∙ moved.tables told;
    saves = same_counts old new t (wrote.counts ∙ moved.counts) ∙ saves;
    same_saves = tt;
    others = λ u ne. (wrote.others u ne ∙ moved.others u ne, ap (λ (f : ℕ → List ℕ). f u) (wrote.counts ∙ moved.counts));
    time = λ told _. weaker (λ image opens. inl (opens_with Opens index image _ _ opens)) (wrote_time told);
    named = λ told _. weaker (λ image opens. inl opens) (wrote_time told);
  }
    where
      wrote_time : IsTrue tells → LeavesOnly (λ image. OpensAs Opens index image old.store.state.bytes (state_of index old).table) old.store new.store
      wrote_time told = then (moved.time told) (weaker (λ image opens. opens_behind Opens index image old mid (moved.version told) (moved.tables told) (moved.state told) opens) (wrote.time told))

  module _ (mid : PagesView) (moved : Moved tells Opens index t old mid) where
    held_behind : (g : ℕ) → held_on mid t g ≡ held_on old t g
    held_behind g = λ i. count_on (moved.shape i) g (moved.ranges t i)

    pub room_behind : IsTrue tells → (key : Key) (slot : ℕ) → HasRoom index t mid key slot → HasRoom index t old key slot
    room_behind told key slot room anew g lt =
        subst (λ (s : Shape). held_on old t g + needed_on s slot g ≤ s.entries) moved.shape
        (subst (λ (n : ℕ). n + needed_on mid.store.shape slot g ≤ mid.store.shape.entries) (held_behind g)
        (room (ap (λ (s : TableState). is_rewritten (s.logs t) key) (moved.state told) ∙ anew) g (subst (λ (s : Shape). g < s.loggers) (sym moved.shape) lt)))

    first_behind : (needed : Shape → ℕ → ℕ) (g h n : ℕ) → IsFirstFull mid.store.shape.loggers mid.store.shape.entries (held_on mid t) (needed mid.store.shape) g h n
        → IsFirstFull old.store.shape.loggers old.store.shape.entries (held_on old t) (needed old.store.shape) g h n
    first_behind needed g h n full =
        subst (λ (s : Shape). IsFirstFull s.loggers s.entries (held_on old t) (needed s) g h n) moved.shape
        (subst (λ (held : ℕ → ℕ). IsFirstFull mid.store.shape.loggers mid.store.shape.entries held (needed mid.store.shape) g h n) (λ i k. held_behind k i) full)

    pub full_behind : IsTrue tells → (key : Key) (slot g h n : ℕ) → IsFull index t mid key slot g h n → IsFull index t old key slot g h n
    full_behind told key slot g h n full = (sym (ap (λ (s : TableState). is_rewritten (s.logs t) key) (moved.state told)) ∙ full.0, first_behind (λ shape k. needed_on shape slot k) g h n full.1)

    pub short_behind : (g h n : ℕ) → IsShort mid t g h n → IsShort old t g h n
    short_behind g h n short = (short.0, short.1, first_behind (λ shape k. short.1 k) g h n short.2)

-- a refusal that is not for lack of pages
abbrev pub HasPages : TableFault → Type 0
HasPages (PagesFull n) = ⊥
HasPages _ = Unit {0}

-- a refusal that leaves the index as it was
inserted_same : (T : Type 0) (table : ℕ) (key : Key) (old new : Keys) (f : TableFault) → HasPages f → new ≡ old → (let r : Result T TableFault = Err f in answers.Inserted table key old new r)
inserted_same T table key old new f has same = subst (λ (k : Keys). (let r : Result T TableFault = Err f in answers.Inserted table key old k r)) (sym same) (go f has)
  where
    takes : TakesPages old old
    takes = record { later = omega arith; few = omega arith; used = omega arith; levels = λ number. omega arith }

    go : (f : TableFault) → HasPages f → (let r : Result T TableFault = Err f in answers.Inserted table key old old r)
    go (LogFull g h n) has = (takes, inl (record { slot_of = refl; slots = refl; due = refl }))
    go (PagesFull n) has = absurd has
    go _ has = (takes, record { slot_of = refl; slots = refl; due = refl })

indexed_at : (T : Type 0) (table : ℕ) (key : Key) (o : Option ℕ) (old new : Keys) (f : TableFault) → HasPages f → new ≡ old → (let r : Result T TableFault = Err f in answers.IndexedAt table key o old new r)
indexed_at T table key None old new f has same = inserted_same T table key old new f has same
indexed_at T table key (Some slot) old new f has same = same

pub indexed_same : (T : Type 0) (table : ℕ) (c : Call) (old new : Keys) (f : TableFault) → HasPages f → new ≡ old → (let r : Result T TableFault = Err f in Indexed table c old new r)
indexed_same T table (OnTable (Put name key value)) old new f has same = indexed_at T table (of_table name key) (old.slot_of (of_table name key)) old new f has same
indexed_same T table _ old new f has same = same

-- a state with a number's own log
unlogged : (s : TableState) (t : ℕ) → s ≡ record { table = s.table; logs = with_one s.logs t (s.logs t) }
unlogged s t = ap (λ (logs : ℕ → Log). (let is : TableState = record { table = s.table; logs = logs } in is)) (sym (with_same s.logs t))

module _ (tells : Bool) (Opens : List ℕ → List ℕ → Type 0) (index : Index) (table t : ℕ) (c : Call) (old new : PagesView) (holds : Holds tells index old) where
  -- a look leaves the data as it was
  pub look_bytes : LooksAs tells Opens t false old new → IsTrue tells → new.store.state.bytes ≡ old.store.state.bytes
  look_bytes looks told = ap (λ (s : State). s.bytes) ((looks.same refl).still.state told)

  -- so it leaves the index
  pub look_keys : LooksAs tells Opens t false old new → IsTrue tells → keys_of index new.store.state.bytes ≡ keys_of index old.store.state.bytes
  look_keys looks told = ap (keys_of index) (look_bytes looks told)

  pub holds_moved : IsAlive old.store → Moved tells Opens index t old new → Holds tells index new
  holds_moved alive moved living = rests_moved tells Opens index t old new (holds alive) moved

  pub holds_same : new ≡ old → Holds tells index new
  holds_same same = subst (Holds tells index) (sym same) holds

  -- a look was refused
  pub look_refused : (U : Type 0) (fault : PageFault) → IsSought c → (let r : Result U PageFault = Err fault in LookCause tells old.store r) → (let r : Result U PageFault = Err fault in LooksAs tells Opens t (is_failed r) old new)
      → (let r : Result U PageFault = Err fault in IsErrOf r page.Dead → new ≡ old) → Does tells Opens index table t c old new (Err (as_table fault)) × Holds tells index new
  look_refused U page.Media sought cause looks dead = (does_failed tells Opens index table t c old new cause (failed_by_look tells Opens index t old new cause (holds cause) looks), holds_dead tells Opens index table t c old new (looks.dies refl).0)
  look_refused U page.Dead sought cause looks dead = (does_dead tells Opens index table t c old new (dead refl) cause, holds_same (dead refl))
  look_refused U (page.Damaged bad) sought cause looks dead =
      let moved = moved_by_look tells Opens index t old new cause.0 (holds cause.0) looks in (
        does_moved tells Opens index table t c old new (Err (Damaged bad)) cause.0 refl moved (cause.0, sought, cause.1) (λ told. tt) (λ told. indexed_same Reply table c _ _ (Damaged bad) tt (look_keys looks told))
            (λ told _. look_bytes looks told) tt,
        holds_moved cause.0 moved,
      )
  look_refused U (page.LogFull g h n) sought cause looks dead = absurd cause
  look_refused U page.SavesFull sought cause looks dead = absurd cause

  -- a look was done
  looked : (reply : Reply) → IsAlive old.store → LooksAs tells Opens t false old new → MaySave old t c → (IsTrue tells → Fits index table old t c) → (IsTrue tells → Stays index t c old reply)
      → ((a b : Keys) → b ≡ a → (let r : Result Reply TableFault = Ok reply in Indexed table c a b r)) → length (old.counts t) ≡ saves_after c (length (old.counts t)) → Does tells Opens index table t c old new (Ok reply) × Holds tells index new
  looked reply alive looks may fits stays indexed saves =
      let moved = moved_by_look tells Opens index t old new alive (holds alive) looks in (
        does_moved tells Opens index table t c old new (Ok reply) alive refl moved (alive, may, fits) stays (λ told. indexed _ _ (look_keys looks told)) (λ told _. look_bytes looks told) saves,
        holds_moved alive moved,
      )

module _ (tells : Bool) (Opens : List ℕ → List ℕ → Type 0) (index : Index) (table t key : ℕ) (name : List ℕ) (old new : PagesView) (holds : Holds tells index old) (alive : IsAlive old.store) (looks : LooksAs tells Opens t false old new) where
  pub got : (value : Option (List ℕ)) → (IsTrue tells → get (seen_by (state_of index old) t) (of_table name key) ≡ value) → Does tells Opens index table t (OnTable (Get name key)) old new (Ok (history.found value)) × Holds tells index new
  got value is = looked tells Opens index table t (OnTable (Get name key)) old new holds (history.found value) alive looks tt (λ told. tt)
      (λ told. record { replies = ap history.found (sym (is told)); same = unlogged (state_of index old) t }) (λ a b same. same) refl

  -- a record that is not seen needs no removal
  pub not_removed : (IsTrue tells → get (seen_by (state_of index old) t) (of_table name key) ≡ None) → Does tells Opens index table t (OnTable (Del name key)) old new (Ok Absent) × Holds tells index new
  not_removed unseen = looked tells Opens index table t (OnTable (Del name key)) old new holds Absent alive looks tt (λ told seen. absurd (false≢true (sym (ap is_some (unseen told)) ∙ seen)))
      (λ told. record { replies = ap history.removed (sym (unseen told)); same = unlogged (state_of index old) t }) (λ a b same. same) refl

-- the answer to a scan, given what was gathered
abbrev pub scanned_as : {T : Type 0} → T → Result (Unit {0}) TableFault → Result T TableFault
scanned_as rows (Ok done) = Ok rows
scanned_as rows (Err f) = Err f

module _ (tells : Bool) (Opens : List ℕ → List ℕ → Type 0) (index : Index) (table t low high : ℕ) (name : List ℕ) (old new : PagesView) (holds : Holds tells index old) (alive : IsAlive old.store) (rows : List (ℕ × List ℕ)) where
  -- the scan was refused, but not by the medium
  unscanned : (f : TableFault) → (let r : Result Reply TableFault = Err f in IsFalse (answers.is_failed r)) → (let r : Result Reply TableFault = Err f in Cause tells index table t (OnTable (Scan name low high)) old r) → LooksAs tells Opens t false old new
      → Does tells Opens index table t (OnTable (Scan name low high)) old new (Err f) × Holds tells index new
  unscanned f well cause looks =
      let moved = moved_by_look tells Opens index t old new alive (holds alive) looks in (
        does_moved tells Opens index table t (OnTable (Scan name low high)) old new (Err f) alive well moved cause (λ told. tt) (λ told. look_keys tells Opens index table t (OnTable (Scan name low high)) old new holds looks told)
            (λ told _. look_bytes tells Opens index table t (OnTable (Scan name low high)) old new holds looks told) tt,
        holds_moved tells Opens index table t (OnTable (Scan name low high)) old new holds alive moved,
      )

  pub scanned : (r : Result (Unit {0}) TableFault) → LooksAs tells Opens t (answers.is_failed r) old new → ScanCause tells r → (IsTrue tells → OnOk r (rows ≡ rows_seen index t name old low high))
      → Does tells Opens index table t (OnTable (Scan name low high)) old new (replied Listed (scanned_as rows r)) × Holds tells index new
  scanned (Ok done) looks cause seen = looked tells Opens index table t (OnTable (Scan name low high)) old new holds (Listed rows) alive looks tt (λ told. tt)
      (λ told. record { replies = ap Listed (seen told); same = unlogged (state_of index old) t }) (λ a b same. same) refl
  scanned (Err Media) looks cause seen =
      (does_failed tells Opens index table t (OnTable (Scan name low high)) old new alive (failed_by_look tells Opens index t old new alive (holds alive) looks), holds_dead tells Opens index table t (OnTable (Scan name low high)) old new (looks.dies refl).0)
  scanned (Err NoMemory) looks cause seen = unscanned NoMemory refl (alive, tt) looks
  scanned (Err (Damaged bad)) looks cause seen = unscanned (Damaged bad) refl (alive, tt, cause) looks
  scanned (Err Dead) looks cause seen = absurd cause
  scanned (Err SavesFull) looks cause seen = absurd cause
  scanned (Err (LogFull g h n)) looks cause seen = absurd cause
  scanned (Err (SlotsFull n)) looks cause seen = absurd cause
  scanned (Err (PagesFull n)) looks cause seen = absurd cause
