-- Keys without records, tried one after another.
use Rattle.std.proofs.Common.{◌≡◌, ◌≢◌, ℕ, ◌+◌, ◌*◌, ◌^◌, ◌<◌, ◌≤◌, ◌⊎◌, Bool, true, false, cond, inl, inr, IsTrue, List, [], ◌∷◌, ◌++◌, length, length-append, Result, Ok, Err, refl, sym, ◌∙◌, ap, subst, arith}
use Rattle.std.specs.Prelude.{Option, Some, None, IsSome, IfOk, slice_get, unwrap_or, option_map}
use Rattle.std.specs.FinMap.{get}
use Rattle.std.specs.List.{list_any}
use Rattle.std.specs.Map.{update}
use Rattle.std.proofs.lemmas.Bool.{cases_eq, false≢true, both_ways}
use Rattle.std.proofs.lemmas.Nat.{mul-le}
use Rattle.mars_base.specs.Causes.{Rose}
use Rattle.mars_base.proofs.Going.{stays, then, weaker}
use Rattle.array_shape.specs.declared.shape.Shape.{Shape}
use Rattle.eaw_face.specs.State.{State, listed, count_on}
use Rattle.eaw_face.specs.StoreView.{LeavesOnly}
use Rattle.eaw_face.specs.Causes.{IsAlive}
use Rattle.eaw_face.specs.Mirroring.{Mirrors}
use Rattle.eaw_face.proofs.Mirroring.{none_sent, sent_then}
use Rattle.record_slots.specs.Places.{version_of, used_slots}
use Rattle.history.proofs.Modes.{clash_none}
use Rattle.history.specs.Key.{is_same_key}
use Rattle.history.specs.declared.key.Key.{Key}
use Rattle.history.proofs.Keys.{cases_key}
use Rattle.caller_steps.proofs.AtKeys.{at_key, at_other_key}
use Rattle.history.specs.Locks.{Meets, touches, touched, clash}
use Rattle.history.specs.Log.{Log}
use Rattle.history.specs.Table.{Granted}
use Rattle.history.specs.Writes.{Table, is_of}
use Rattle.history.specs.declared.call.TableCall.TheVariants.{Del}
use Rattle.page_store.specs.Fits.{is_page_on}
use Rattle.page_store.specs.Index as below
use Rattle.page_store.specs.Index.{slots_of}
use Rattle.page_store.specs.Looks.{Looks}
use Rattle.page_store.specs.Removes.{IsLogFull}
use Rattle.page_store.specs.Shown.{PagesView}
use Rattle.record_table.proofs.Moving.{shown_same}
use Rattle.record_table.proofs.Putting.{filter_short}
use Rattle.record_table.specs.Does.{OpensAs, is_failed}
use Rattle.record_table.specs.Removing.{IsAbsent, IsUnwritten, IsNextAbsent, SearchCause, IsKept, removal_in, Loses, Removes}
use Rattle.record_table.specs.Shown.{table_of, state_of, keys_of}
use Rattle.record_table.specs.State.{TableState}
use Rattle.record_table.specs.declared.fault.TableFault.{TableFault}
use Rattle.record_table.specs.declared.fault.TableFault.TheVariants.{SlotsFull, PagesFull, SavesFull, LogFull, Media, Dead, Damaged, NoMemory}
use Rattle.caller_steps.specs.Locked.{IsFree, IsBusyWith}
use Rattle.caller_steps.specs.Purging.{Try, Lost, IsTried, ComesBefore}
use Rattle.caller_steps.proofs.Trying.{lost_append, each_append, each_as, tried_later, tried_before, order_append}
use Rattle.caller_steps.specs.State.{Index}
use Rattle.mars_core.specs.Over.{index_of}
use Rattle.mars_core.proofs.Named.{index_is}
use Rattle.record_slots.specs.Names.{names_in, number_of}
use Rattle.record_table.specs.Names.{IsCalled, names_of, key_in}
use Rattle.index_keys.specs.Keys.{LosesKey}
use Rattle.mars_core.specs.Purging.{Keeps, IsTouchedIn, AreFreeIn, Tried, Trail, Cleared, IsReady, MayPurge, ClearCause, Spares, Tries, Clears}
use Rattle.mars_core.specs.Seats.{Seats, calls_at, bare}
use Rattle.mars_core.proofs.Unwritten.{unwritten}

-- a key that a shorter index has, a longer one had
kept_slot : (f now : Key → Option ℕ) (key q : Key) → now ≡ update is_same_key f key None → IsSome (now q) → (q ≢ key) × IsSome (f q)
kept_slot f now key q is some = elim (cases_key q key) [
  | inl same ↦ absurd (none_there (now q) (ap (λ (h : Key → Option ℕ). h q) is ∙ ap (update is_same_key f key None) same ∙ at_key f key None) some)
  | inr ne ↦ (ne, subst (λ (o : Option ℕ). IsSome o) (ap (λ (h : Key → Option ℕ). h q) is ∙ at_other_key f key None q ne) some)
]
  where
    none_there : (o : Option ℕ) → o ≡ None → IsSome o → ⊥
    none_there None e some = absurd (cc)
    none_there (Some x) e some = absurd (cc)

lost_still : (first now : Index) (keys : List Key) → Lost first keys now → (q : Key) → IsSome (now.keys.slot_of q) → IsSome (first.keys.slot_of q)
lost_still first now [] lost q some = subst (λ (ix : Index). IsSome (ix.keys.slot_of q)) lost some
lost_still first now (key ∷ keys) (before, lost, loses) q some = lost_still first before keys lost q (kept_slot before.keys.slot_of now.keys.slot_of key q loses.slot_of some).1

lost_slots : (first now : Index) (keys : List Key) → Lost first keys now → first.keys.used_slots ≡ length keys + now.keys.used_slots
lost_slots first now [] lost = omega (arith, ap (λ (ix : Index). ix.keys.used_slots) lost)
lost_slots first now (key ∷ keys) (before, lost, loses) = omega (arith, lost_slots first before keys lost, loses.slots)

-- keys lost behind others
lost_then : (first mid now : Index) (keys more : List Key) → Lost first keys mid → Lost mid more now → Lost first (more ++ keys) now
lost_then first mid now keys [] lost same = subst (λ (ix : Index). Lost first keys ix) (sym same) lost
lost_then first mid now keys (key ∷ more) lost (before, then_lost, loses) = (before, lost_then first mid before keys more lost then_lost, loses)

-- a table has one name
pub one_name : (x y : List ℕ) → Some x ≡ Some y → x ≡ y
one_name x y e = cc

-- the key of a table by its name
pub called_key : (bytes : List ℕ) (table : ℕ) (key : Key) → IsCalled bytes table key.table → key_in bytes table key.key ≡ key
called_key bytes table key called = λ i. record { table = unwrap_or (called i) []; key = key.key }

-- as callers see it
pub loses_one : (index : below.Index) (a b : List ℕ) (table : ℕ) (key : Key) → IsCalled a table key.table → names_of b ≡ names_of a
    → Loses index table key.key a b → LosesKey key (index_of index a).keys (index_of index b).keys
loses_one index a b table key called same loses =
    let lost : LosesKey key (keys_of index a) (keys_of index b) =
    subst (λ (k : Key). LosesKey k (keys_of index a) (keys_of index b)) (called_key a table key called) loses.keys in
    record {
      slot_of = lost.slot_of;
      due = lost.due;
      slots = lost.slots;
      fewer = lost.fewer;
      one_page = lost.one_page;
      next_page = lost.next_page;
      levels = ap (λ (x : Index). x.keys.levels) (index_is index b) ∙ (λ i name. unwrap_or (option_map (lost.levels i) (number_of (same i) name)) 0)
          ∙ sym (ap (λ (x : Index). x.keys.levels) (index_is index a));
    }

-- 1 for a key that was taken out
abbrev pub one_if : Bool → ℕ
one_if was = cond was 1 0

free_append : (index : below.Index) (seats : Seats) (bytes : List ℕ) (xs ys : List Key) → AreFreeIn index seats bytes xs → AreFreeIn index seats bytes ys → AreFreeIn index seats bytes (xs ++ ys)
free_append index seats bytes [] ys a b = b
free_append index seats bytes (x ∷ xs) ys a b = (a.0, free_append index seats bytes xs ys a.1 b)

-- keys tried behind others
trail_then : (index : below.Index) (seats : Seats) (first mid now : List ℕ) (tries later : List Try) → Trail index seats first tries mid → Trail index seats mid later now → Trail index seats first (later ++ tries) now
trail_then index seats first mid now tries [] trail same = subst (λ (d : List ℕ). Trail index seats first tries d) (sym same) trail
trail_then index seats first mid now tries (one ∷ later) trail (before, then_trail, tried) = (before, trail_then index seats first mid before tries later trail then_trail, tried)

module _ (index : below.Index) (seats : Seats) (first : List ℕ) where
  pub cleared_none : (Passed : Key → Type 0) → ((key : Key) → Passed key → ⊥) → Cleared index seats Passed 0 first first
  cleared_none Passed none = record {
    keys = [];
    count = refl;
    free = tt;
    lost = refl;
    kept = λ key some keeps. keeps;
    left = λ key passed is. absurd (none key passed);
    tried = [];
    keys_are = refl;
    passed = tt;
    order = tt;
    absent = tt;
    all = λ key passed is. absurd (none key passed);
    trail = refl;
  }

  module _ (mid : List ℕ) (Passed : Key → Type 0) (n : ℕ) (cleared : Cleared index seats Passed n first mid) where
    -- the same where no key more is absent
    pub cleared_as : (Other : Key → Type 0) → ((key : Key) → Other key → IsAbsent index mid key → Passed key) → ((key : Key) → Passed key → Other key) → Cleared index seats Other n first mid
    cleared_as Other passed among = record {
      keys = cleared.keys;
      count = cleared.count;
      free = cleared.free;
      lost = cleared.lost;
      kept = cleared.kept;
      left = λ key other is. cleared.left key (passed key other is) is;
      tried = cleared.tried;
      keys_are = cleared.keys_are;
      passed = each_as Passed Other among cleared.tried cleared.passed;
      order = cleared.order;
      absent = cleared.absent;
      all = λ key other is. cleared.all key (passed key other is) is;
      trail = cleared.trail;
    }

    -- no more keys were lost than slots were in use
    pub cleared_few : (most : ℕ) → used_slots first ≤ most → n ≤ most
    cleared_few most le = (let sum = lost_slots (index_of index first) (index_of index mid) cleared.keys cleared.lost in omega (arith, sum, le, cleared.count))

    -- and then others
    module _ (last : List ℕ) (More : Key → Type 0) (m : ℕ) (then_cleared : Cleared index seats More m mid last) (same : table_of index mid ≡ table_of index first) (after : table_of index last ≡ table_of index mid) where
      free_before : (keys : List Key) → AreFreeIn index seats mid keys → AreFreeIn index seats first keys
      free_before [] free = tt
      free_before (key ∷ keys) free = (((lost_still (index_of index first) (index_of index mid) cleared.keys cleared.lost key free.0.0.0, ap (λ (t : Table). get t key) (sym same) ∙ free.0.0.1), free.0.1), free_before keys free.1)

      still_absent : (key : Key) → IsAbsent index last key → IsAbsent index mid key
      still_absent key is = (lost_still (index_of index mid) (index_of index last) then_cleared.keys then_cleared.lost key is.0, ap (λ (t : Table). get t key) (sym after) ∙ is.1)

      was_absent_in : (key : Key) → IsAbsent index mid key → IsAbsent index first key
      was_absent_in key is = (lost_still (index_of index first) (index_of index mid) cleared.keys cleared.lost key is.0, ap (λ (t : Table). get t key) (sym same) ∙ is.1)

      left_of : (key : Key) → Passed key ⊎ More key → IsAbsent index last key → IsTouchedIn seats key ⊎ Keeps index last key
      left_of key (inr more) is = then_cleared.left key more is
      left_of key (inl passed) is = elim (cleared.left key passed (still_absent key is)) [
        | inl touch ↦ inl touch
        | inr keeps ↦ inr (then_cleared.kept key is.0 keeps)
      ]

      all_of : (key : Key) → Passed key ⊎ More key → IsAbsent index last key → IsTried key (then_cleared.tried ++ cleared.tried)
      all_of key (inr more) is = tried_later key then_cleared.tried cleared.tried (then_cleared.all key more is)
      all_of key (inl passed) is = tried_before key then_cleared.tried cleared.tried (cleared.all key passed (still_absent key is))

      module _ (before : (one other : Key) → Passed one → More other → ComesBefore seats.names one other) where
        pub cleared_then : Cleared index seats (λ key. Passed key ⊎ More key) (n + m) first last
        cleared_then = record {
          keys = then_cleared.keys ++ cleared.keys;
          count = omega (arith, cleared.count, then_cleared.count, length-append then_cleared.keys cleared.keys);
          free = free_append index seats first then_cleared.keys cleared.keys (free_before then_cleared.keys then_cleared.free) cleared.free;
          lost = lost_then (index_of index first) (index_of index mid) (index_of index last) cleared.keys then_cleared.keys cleared.lost then_cleared.lost;
          kept = λ key some keeps. then_cleared.kept key some (cleared.kept key (lost_still (index_of index mid) (index_of index last) then_cleared.keys then_cleared.lost key some) keeps);
          left = left_of;
          tried = then_cleared.tried ++ cleared.tried;
          keys_are = (λ i. then_cleared.keys_are i ++ cleared.keys_are i) ∙ sym (lost_append then_cleared.tried cleared.tried);
          passed = each_append (λ key. Passed key ⊎ More key) then_cleared.tried cleared.tried
              (each_as More (λ key. Passed key ⊎ More key) (λ key more. inr more) then_cleared.tried then_cleared.passed)
              (each_as Passed (λ key. Passed key ⊎ More key) (λ key passed. inl passed) cleared.tried cleared.passed);
          order = order_append seats.names Passed More before then_cleared.tried cleared.tried then_cleared.passed cleared.passed then_cleared.order cleared.order;
          absent = each_append (IsAbsent index first) then_cleared.tried cleared.tried (each_as (IsAbsent index mid) (IsAbsent index first) was_absent_in then_cleared.tried then_cleared.absent) cleared.absent;
          all = all_of;
          trail = trail_then index seats first mid last cleared.tried then_cleared.tried cleared.trail then_cleared.trail;
        }

      -- no more keys were lost than slots were in use
      pub cleared_both : (most : ℕ) → used_slots first ≤ most → n + m ≤ most
      cleared_both most le =
          let sum = lost_slots (index_of index first) (index_of index mid) cleared.keys cleared.lost in
          let more = lost_slots (index_of index mid) (index_of index last) then_cleared.keys then_cleared.lost in
          omega (arith, sum, more, le, cleared.count, then_cleared.count)

-- what comes of one key that is tried
module _ (index : below.Index) (seats : Seats) (mid last : List ℕ) (table : ℕ) (key : Key) (sound : index.sound mid) (called : IsCalled mid table key.table) (names : names_of last ≡ names_of mid) (absent : IsAbsent index mid key) where
  pub tried_clears : (was : Bool) → Tried index seats table key mid last was → Cleared index seats (λ one. one ≡ key) (one_if was) mid last
  tried_clears true (free, unkept, loses) = record {
    keys = key ∷ [];
    count = refl;
    free = ((absent, free), tt);
    lost = (index_of index mid, refl, loses_one index mid last table key called names loses);
    kept = λ one some keeps. (keeps.0, ap (λ (ns : List (List ℕ)). slice_get ns keeps.0) names ∙ keeps.1, loses.kept keeps.0 one.key one.table keeps.1 some keeps.2);
    left = λ one is at.
        let lost = loses_one index mid last table key called names loses in
        absurd ((kept_slot (index_of index mid).keys.slot_of (index_of index last).keys.slot_of key one lost.slot_of at.0).0 is);
    tried = (key, true) ∷ [];
    keys_are = refl;
    passed = (refl, tt);
    order = (tt, tt);
    absent = (absent, tt);
    all = λ one is at. inl (sym is);
    trail = (mid, refl, record { sound = sound; table = table; called = called; named = names; comes = (free, unkept, loses) });
  }
  tried_clears false (same, why) = record {
    keys = [];
    count = refl;
    free = tt;
    lost = ap (index_of index) same;
    kept = λ one some keeps. subst (λ (d : List ℕ). Keeps index d one) (sym same) keeps;
    left = λ one is at. subst (λ (x : Key × List ℕ). IsTouchedIn seats x.0 ⊎ Keeps index x.1 x.0) (λ i. (sym is i, sym same i)) why;
    tried = (key, false) ∷ [];
    keys_are = refl;
    passed = (refl, tt);
    order = (tt, tt);
    absent = (absent, tt);
    all = λ one is at. inl (sym is);
    trail = (mid, refl, record { sound = sound; table = table; called = called; named = names; comes = (same, why) });
  }

-- an array has fewer slots than numbers of 32 bits
pub few_slots : (shape : Shape) → slots_of shape < 2 ^ 32
few_slots shape =
    let most : shape.loggers * shape.pages ≤ 8 * 4096 = mul-le shape.loggers shape.pages 8 4096 shape.in_range.most_loggers shape.in_range.most_pages in
    omega (arith, most)

module _ (tells : Bool) (Opens : List ℕ → List ℕ → Type 0) (index : below.Index) (seats : Seats) (t table : ℕ) (key : Key) (small : key.key < 2 ^ 64) (named : slice_get seats.names table ≡ Some key.table) (old : PagesView) (alive : IsAlive old.store) (unheld : listed (old.store.ranges t) ≡ [])
    (ready : IsTrue tells → IsReady index seats t old) where
  called : IsTrue tells → IsCalled old.store.state.bytes table key.table
  called told = ap (λ (ns : List (List ℕ)). slice_get ns table) (ready told).named ∙ named

  -- another caller's live transaction touches it
  pub busy_tries : (holder : ℕ) → IsBusyWith (bare seats) t (Del key.table key.key) holder → Tries tells Opens index seats table key old old (Ok false)
  busy_tries holder busy = record {
    spares = record {
      shape = refl;
      depth = refl;
      faults = λ _. (refl, refl);
      dies = λ failed. absurd (false≢true failed);
      state = λ told _. refl;
      ranges = λ _ u. refl;
      saves = λ _. refl;
      sound = λ told _. (ready told).sound;
      time = λ told. stays old.store.moment old.store.left_since _;
      mirrors = none_sent tells old.store old.store refl refl refl refl (λ fine. fine) (λ told mirrors fine. refl);
    };
    cause = tt;
    version = λ told _. refl;
    tables = λ told _. refl;
    called = called;
    small = small;
    tried = λ told. (refl, inl (holder, busy.0.1));
  }

  module _ (idle : calls_at seats t ≡ []) (free : IsFree (bare seats) t (Del key.table key.key)) where
    pub untouched : IsTouchedIn seats key → ⊥
    untouched (holder, meets) = elim (cases_eq holder t) [
      | inl e ↦ (let nothing : Meets seats.names (Del key.table key.key) [] = subst (λ (calls : Granted). Meets seats.names (Del key.table key.key) calls) (ap (calls_at seats) e ∙ idle) meets in
          both_ways (clash (touches seats.names (Del key.table key.key) nothing.0) (touched seats.names [] nothing.0)) (clash_none (touches seats.names (Del key.table key.key) nothing.0)) nothing.1)
      | inr ne ↦ free holder (ne, meets)
    ]

    pub all_unwritten : IsTrue tells → IsUnwritten index old key
    all_unwritten told u =
        ap (λ (l : Log). list_any (is_of key) l.writes) ((ready told).logs u) ∙ unwritten seats.names key (calls_at seats u) (λ meets. untouched (u, meets))

    module _ (entries : 8 ≤ old.store.shape.entries) where
      no_room : (g h n : ℕ) → IsLogFull old.store t g h n → ⊥
      no_room g h n full =
          let short = filter_short (is_page_on old.store.shape.loggers g) full.0 in
          let nothing : count_on old.store.shape g (listed (old.store.ranges t)) ≡ 0 = ap (count_on old.store.shape g) unheld in
          omega (arith, entries, short, full.1, full.2.full, full.2.held_is, full.2.needed_is, nothing)

      cause_so : (new : PagesView) (r : Result Bool TableFault) → Removes tells Opens index table t key.key old new r → ClearCause tells r
      cause_so new (Ok was) removes = tt
      cause_so new (Err Media) removes = tt
      cause_so new (Err Dead) removes = absurd (false≢true (sym alive ∙ removes.cause))
      cause_so new (Err (LogFull g h n)) removes = absurd (no_room g h n removes.cause.1)
      cause_so new (Err (Damaged page)) removes = removes.cause.1
      cause_so new (Err (SlotsFull n)) removes = absurd removes.cause
      cause_so new (Err (PagesFull n)) removes = absurd removes.cause
      cause_so new (Err SavesFull) removes = absurd removes.cause
      cause_so new (Err NoMemory) removes = absurd removes.cause

      -- a pair that is taken out is not kept
      unkept : (pages : List ℕ) → removal_in index table old.store.state.bytes key.key ≡ Some pages → IsKept index table old.store.state.bytes key.key → ⊥
      unkept pages takes kept = absurd (cc)

      tried_so : (new : PagesView) (r : Result Bool TableFault) → IsTrue tells → Removes tells Opens index table t key.key old new r → IfOk r (Tried index seats table key old.store.state.bytes new.store.state.bytes)
      tried_so new (Ok true) told removes = (untouched, unkept (removes.cause.1 told).0 (removes.cause.1 told).1, removes.lost told alive)
      tried_so new (Ok false) told removes = (removes.lost told alive, inr (table, called told, removes.cause.1 told))
      tried_so new (Err fault) told removes = tt

      pub removed_tries : (new : PagesView) (r : Result Bool TableFault) → Removes tells Opens index table t key.key old new r → Tries tells Opens index seats table key old new r
      removed_tries new r removes = record {
        spares = record {
          shape = removes.shape;
          depth = removes.depth;
          faults = removes.faults;
          dies = removes.dies;
          state = removes.state;
          ranges = removes.ranges;
          saves = λ _. removes.saves;
          sound = removes.sound;
          time = λ told. removes.named told alive;
          mirrors = removes.mirrors;
        };
        cause = cause_so new r removes;
        version = removes.version;
        tables = removes.tables;
        called = called;
        small = small;
        tried = λ told. tried_so new r told removes;
      }

-- A purge that has passed some keys, and has taken n keys out.
pub record Going (tells : Bool) (Opens : List ℕ → List ℕ → Type 0) (index : below.Index) (seats : Seats) (t : ℕ) (Passed : Key → Type 0) (n : ℕ) (old now : PagesView) : Type 0 where
  pub shape : now.store.shape ≡ old.store.shape
  pub depth : now.store.depth ≡ old.store.depth
  pub dead : now.store.is_dead ≡ old.store.is_dead
  pub faults : now.store.faults ≡ old.store.faults
  pub ranges : (u : ℕ) → listed (now.store.ranges u) ≡ listed (old.store.ranges u)
  pub saves : now.counts ≡ old.counts
  pub ready : IsTrue tells → IsReady index seats t now
  pub named : IsTrue tells → names_of now.store.state.bytes ≡ names_of old.store.state.bytes
  pub state : IsTrue tells → state_of index now ≡ state_of index old
  pub cleared : IsTrue tells → Cleared index seats Passed n old.store.state.bytes now.store.state.bytes
  pub time : IsTrue tells → LeavesOnly (λ image. OpensAs Opens index image old.store.state.bytes (state_of index old).table) old.store now.store
  pub mirrors : Mirrors tells old.store now.store

-- what it has spared
going_spares : (tells : Bool) (Opens : List ℕ → List ℕ → Type 0) (index : below.Index) (seats : Seats) (t : ℕ) (old : PagesView) (Passed : Key → Type 0) (n : ℕ) (mid : PagesView)
    → Going tells Opens index seats t Passed n old mid → Spares tells Opens index old mid false
going_spares tells Opens index seats t old Passed n mid going = record {
  shape = going.shape;
  depth = going.depth;
  faults = λ _. (going.dead, going.faults);
  dies = λ failed. absurd (false≢true failed);
  state = λ told _. going.state told;
  ranges = λ _. going.ranges;
  saves = λ _. going.saves;
  sound = λ told _. (going.ready told).sound;
  time = going.time;
  mirrors = going.mirrors;
}

-- and its caller may go on
pub still_may : (tells : Bool) (Opens : List ℕ → List ℕ → Type 0) (index : below.Index) (seats : Seats) (t : ℕ) (old : PagesView) (Passed : Key → Type 0) (n : ℕ) (mid : PagesView)
    → Going tells Opens index seats t Passed n old mid → MayPurge tells index seats t old → MayPurge tells index seats t mid
still_may tells Opens index seats t old Passed n mid going may = record {
  inside = subst (λ (s : Shape). t < s.numbers) (sym going.shape) may.inside;
  few = may.few;
  alive = going.dead ∙ may.alive;
  idle = may.idle;
  unheld = going.ranges t ∙ may.unheld;
  ready = going.ready;
}

-- a further refusal
abbrev refusal : TableFault → Result ℕ TableFault
refusal fault = Err fault

module _ (tells : Bool) (Opens : List ℕ → List ℕ → Type 0) (index : below.Index) (seats : Seats) (t : ℕ) (old : PagesView) (alive : IsAlive old.store) where
  pub going_first : (Passed : Key → Type 0) → ((key : Key) → Passed key → ⊥) → (IsTrue tells → IsReady index seats t old) → Going tells Opens index seats t Passed 0 old old
  going_first Passed none ready = record {
    shape = refl;
    depth = refl;
    mirrors = none_sent tells old.store old.store refl refl refl refl (λ fine. fine) (λ told mirrors fine. refl);
    dead = refl;
    faults = refl;
    ranges = λ u. refl;
    saves = refl;
    ready = ready;
    named = λ told. refl;
    state = λ told. refl;
    cleared = λ told. cleared_none index seats old.store.state.bytes Passed none;
    time = λ told. stays old.store.moment old.store.left_since _;
  }

  module _ (Passed : Key → Type 0) (n : ℕ) (mid : PagesView) (going : Going tells Opens index seats t Passed n old mid) where
    living : IsAlive mid.store
    living = going.dead ∙ alive

    same_table : IsTrue tells → table_of index mid.store.state.bytes ≡ table_of index old.store.state.bytes
    same_table told = ap (λ (s : TableState). s.table) (going.state told)

    look_time : (new : PagesView) (failed : Bool) → Looks tells Opens failed mid new → IsTrue tells → LeavesOnly (λ image. OpensAs Opens index image old.store.state.bytes (state_of index old).table) old.store new.store
    look_time new failed looks told = then (going.time told) (weaker (λ image opens. record {
      bytes = mid.store.state.bytes;
      opened = opens;
      sound = (going.ready told).sound;
      version = λ _. (going.ready told).version;
      named = going.named told;
      shows = same_table told;
    }) (looks.time told living))

    -- after a look for the next key
    pub going_look : (new : PagesView) → Looks tells Opens false mid new → Going tells Opens index seats t Passed n old new
    going_look new looks =
        let still = looks.still refl in
        let bytes = λ (told : IsTrue tells). ap (λ (s : State). s.bytes) (still.state told) in
        record {
          shape = looks.shape ∙ going.shape;
          depth = looks.depth ∙ going.depth;
          mirrors = sent_then tells old.store mid.store new.store going.mirrors looks.mirrors;
          dead = still.dead ∙ going.dead;
          faults = still.faults ∙ going.faults;
          ranges = λ u. ap (λ (f : ℕ → Option (List (ℕ × ℕ))). listed (f u)) looks.ranges ∙ going.ranges u;
          saves = looks.saves ∙ going.saves;
          ready = λ told. let was = going.ready told in record {
            sound = subst (λ (d : List ℕ). index.sound d) (sym (bytes told)) was.sound;
            version = ap version_of (bytes told) ∙ was.version;
            named = ap names_of (bytes told) ∙ was.named;
            logs = λ u. ap (λ (s : TableState). s.logs u) (shown_same index mid new (still.state told) looks.saves) ∙ was.logs u;
            slots = subst (λ (x : List ℕ × Shape). used_slots x.0 ≤ slots_of x.1) (λ i. (sym (bytes told) i, sym looks.shape i)) was.slots;
          };
          named = λ told. ap names_of (bytes told) ∙ going.named told;
          state = λ told. shown_same index mid new (still.state told) looks.saves ∙ going.state told;
          cleared = λ told. subst (λ (d : List ℕ). Cleared index seats Passed n old.store.state.bytes d) (sym (bytes told)) (going.cleared told);
          time = look_time new false looks;
        }

    -- the look was refused
    pub look_refused : (Wanted : Key → Type 0) (new : PagesView) (fault : TableFault) → (let r : Result (Option ℕ) TableFault = Err fault in Looks tells Opens (is_failed r) mid new × SearchCause tells mid r)
        → Clears tells Opens index seats t Wanted old new (Err fault)
    look_refused Wanted new Media both = record {
      spares = record {
        shape = both.0.shape ∙ going.shape;
        depth = both.0.depth ∙ going.depth;
        faults = λ well. absurd (false≢true (sym well));
        dies = λ _. let dies = both.0.dies refl in (dies.0, subst (λ (k : ℕ). Rose k new.store.faults) going.faults dies.1);
        state = λ told well. absurd (false≢true (sym well));
        ranges = λ well. absurd (false≢true (sym well));
        saves = λ well. absurd (false≢true (sym well));
        sound = λ told live. absurd (false≢true (sym live ∙ (both.0.dies refl).0));
        time = look_time new true both.0;
        mirrors = sent_then tells old.store mid.store new.store going.mirrors both.0.mirrors;
      };
      cause = tt;
      ready = λ told. tt;
      cleared = λ told. tt;
    }
    look_refused Wanted new (Damaged page) both = record {
      spares = going_spares tells Opens index seats t old Passed n new (going_look new both.0);
      cause = both.1.1;
      ready = λ told. tt;
      cleared = λ told. tt;
    }
    look_refused Wanted new Dead both = absurd (false≢true (sym living ∙ both.1))
    look_refused Wanted new (SlotsFull k) both = absurd both.1
    look_refused Wanted new (PagesFull k) both = absurd both.1
    look_refused Wanted new SavesFull both = absurd both.1
    look_refused Wanted new (LogFull g h k) both = absurd both.1
    look_refused Wanted new NoMemory both = absurd both.1

    -- all keys were tried
    pub all_tried : (Wanted : Key → Type 0) → (IsTrue tells → (key : Key) → Wanted key → IsAbsent index mid.store.state.bytes key → Passed key) → (IsTrue tells → (key : Key) → Passed key → Wanted key)
        → Clears tells Opens index seats t Wanted old mid (Ok n)
    all_tried Wanted passed among = record {
      spares = going_spares tells Opens index seats t old Passed n mid going;
      cause = tt;
      ready = λ told. going.ready told;
      cleared = λ told. cleared_as index seats old.store.state.bytes mid.store.state.bytes Passed n (going.cleared told) Wanted (passed told) (among told);
    }

    later_time : (new : PagesView) → (IsTrue tells → LeavesOnly (λ image. OpensAs Opens index image mid.store.state.bytes (state_of index mid).table) mid.store new.store) → IsTrue tells
        → LeavesOnly (λ image. OpensAs Opens index image old.store.state.bytes (state_of index old).table) old.store new.store
    later_time new time told = then (going.time told) (weaker (λ image opens. record {
      bytes = opens.bytes;
      opened = opens.opened;
      sound = opens.sound;
      version = λ _. opens.version (going.ready told).version;
      named = opens.named ∙ going.named told;
      shows = opens.shows ∙ same_table told;
    }) (time told))

    -- and what is spared still
    spares_then : (new : PagesView) (failed : Bool) → Spares tells Opens index mid new failed → Spares tells Opens index old new failed
    spares_then new failed spares = record {
      shape = spares.shape ∙ going.shape;
      depth = spares.depth ∙ going.depth;
      faults = λ well. let kept = spares.faults well in (kept.0 ∙ going.dead, kept.1 ∙ going.faults);
      dies = λ ill. let dies = spares.dies ill in (dies.0, subst (λ (k : ℕ). Rose k new.store.faults) going.faults dies.1);
      state = λ told well. spares.state told well ∙ going.state told;
      ranges = λ well u. spares.ranges well u ∙ going.ranges u;
      saves = λ well. spares.saves well ∙ going.saves;
      sound = spares.sound;
      time = later_time new spares.time;
      mirrors = sent_then tells old.store mid.store new.store going.mirrors spares.mirrors;
    }

    cause_of : (T : Type 0) (f : TableFault) → (let r : Result T TableFault = Err f in ClearCause tells r) → ClearCause tells (refusal f)
    cause_of T Media cause = tt
    cause_of T (Damaged page) cause = cause
    cause_of T Dead cause = absurd cause
    cause_of T (LogFull g h k) cause = absurd cause
    cause_of T (SlotsFull k) cause = absurd cause
    cause_of T (PagesFull k) cause = absurd cause
    cause_of T SavesFull cause = absurd cause
    cause_of T NoMemory cause = absurd cause

    module _ (table : ℕ) (key : Key) (new : PagesView) where
      -- a key was tried
      module _ (absent : IsTrue tells → IsAbsent index mid.store.state.bytes key) (was : Bool) (tries : Tries tells Opens index seats table key mid new (Ok was)) where
        fewer_slots : (w : Bool) → Tried index seats table key mid.store.state.bytes new.store.state.bytes w → used_slots new.store.state.bytes ≤ used_slots mid.store.state.bytes
        fewer_slots true tried = omega (arith, tried.2.keys.slots)
        fewer_slots false tried = omega (arith, ap used_slots tried.0)

        one_more : IsTrue tells → Cleared index seats (λ one. one ≡ key) (one_if was) mid.store.state.bytes new.store.state.bytes
        one_more told = tried_clears index seats mid.store.state.bytes new.store.state.bytes table key (going.ready told).sound (tries.called told) (ap names_in (tries.tables told refl)) (absent told) was (tries.tried told)

        table_still : IsTrue tells → table_of index new.store.state.bytes ≡ table_of index mid.store.state.bytes
        table_still told = ap (λ (s : TableState). s.table) (tries.spares.state told refl)

        -- a key that is absent then was so before
        pub was_absent : IsTrue tells → (one : Key) → IsAbsent index new.store.state.bytes one → IsAbsent index mid.store.state.bytes one
        was_absent told one is = (
          lost_still (index_of index mid.store.state.bytes) (index_of index new.store.state.bytes) (one_more told).keys (one_more told).lost one is.0,
          ap (λ (t : Table). get t one) (sym (table_still told)) ∙ is.1,
        )

        pub going_on : (IsTrue tells → (one : Key) → Passed one → ComesBefore seats.names one key) → Going tells Opens index seats t (λ one. Passed one ⊎ (one ≡ key)) (n + one_if was) old new
        going_on before =
            let well = tries.spares.faults refl in
            record {
              shape = tries.spares.shape ∙ going.shape;
              depth = tries.spares.depth ∙ going.depth;
              mirrors = sent_then tells old.store mid.store new.store going.mirrors tries.spares.mirrors;
              dead = well.0 ∙ going.dead;
              faults = well.1 ∙ going.faults;
              ranges = λ u. tries.spares.ranges refl u ∙ going.ranges u;
              saves = tries.spares.saves refl ∙ going.saves;
              ready = λ told. let r = going.ready told in record {
                sound = tries.spares.sound told (well.0 ∙ living);
                version = tries.version told refl ∙ r.version;
                named = ap names_in (tries.tables told refl) ∙ r.named;
                logs = λ u. ap (λ (s : TableState). s.logs u) (tries.spares.state told refl) ∙ r.logs u;
                slots = omega (arith, r.slots, fewer_slots was (tries.tried told), ap slots_of tries.spares.shape);
              };
              named = λ told. ap names_in (tries.tables told refl) ∙ going.named told;
              state = λ told. tries.spares.state told refl ∙ going.state told;
              cleared = λ told. cleared_then index seats old.store.state.bytes mid.store.state.bytes Passed n (going.cleared told) new.store.state.bytes (λ one. one ≡ key) (one_if was) (one_more told) (same_table told) (table_still told)
                  (λ one other passed is. subst (ComesBefore seats.names one) (sym is) (before told one passed));
              time = later_time new tries.spares.time;
            }

        -- the count has room for it
        pub counted : IsTrue tells → IsReady index seats t old → n + one_if was < 2 ^ 32
        counted told ready =
            let few = cleared_both index seats old.store.state.bytes mid.store.state.bytes Passed n (going.cleared told) new.store.state.bytes (λ one. one ≡ key) (one_if was) (one_more told) (same_table told) (table_still told)
            (slots_of old.store.shape) ready.slots in
            let most = few_slots old.store.shape in
            omega (arith, few, most)

      -- it was refused
      pub try_refused : (Wanted : Key → Type 0) (fault : TableFault) → Tries tells Opens index seats table key mid new (Err fault) → Clears tells Opens index seats t Wanted old new (Err fault)
      try_refused Wanted fault tries = record {
        spares = spares_then new _ tries.spares;
        cause = cause_of Bool fault tries.cause;
        ready = λ told. tt;
        cleared = λ told. tt;
      }

    -- a table was cleared
    module _ (new : PagesView) (More : Key → Type 0) where
      module _ (m : ℕ) (clears : Clears tells Opens index seats t More mid new (Ok m)) where
        table_after : IsTrue tells → table_of index new.store.state.bytes ≡ table_of index mid.store.state.bytes
        table_after told = ap (λ (s : TableState). s.table) (clears.spares.state told refl)

        pub going_more : (IsTrue tells → (one other : Key) → Passed one → More other → ComesBefore seats.names one other) → Going tells Opens index seats t (λ one. Passed one ⊎ More one) (n + m) old new
        going_more before = record {
          shape = clears.spares.shape ∙ going.shape;
          depth = clears.spares.depth ∙ going.depth;
          mirrors = sent_then tells old.store mid.store new.store going.mirrors clears.spares.mirrors;
          dead = (clears.spares.faults refl).0 ∙ going.dead;
          faults = (clears.spares.faults refl).1 ∙ going.faults;
          ranges = λ u. clears.spares.ranges refl u ∙ going.ranges u;
          saves = clears.spares.saves refl ∙ going.saves;
          ready = λ told. clears.ready told;
          named = λ told. (clears.ready told).named ∙ sym (going.ready told).named ∙ going.named told;
          state = λ told. clears.spares.state told refl ∙ going.state told;
          cleared = λ told. cleared_then index seats old.store.state.bytes mid.store.state.bytes Passed n (going.cleared told) new.store.state.bytes More m (clears.cleared told) (same_table told) (table_after told) (before told);
          time = later_time new clears.spares.time;
        }

        pub counted_more : IsTrue tells → IsReady index seats t old → n + m < 2 ^ 32
        counted_more told ready =
            let few = cleared_both index seats old.store.state.bytes mid.store.state.bytes Passed n (going.cleared told) new.store.state.bytes More m (clears.cleared told) (same_table told) (table_after told) (slots_of old.store.shape) ready.slots in
            let most = few_slots old.store.shape in
            omega (arith, few, most)

      pub more_refused : (Wanted : Key → Type 0) (fault : TableFault) → Clears tells Opens index seats t More mid new (Err fault) → Clears tells Opens index seats t Wanted old new (Err fault)
      more_refused Wanted fault clears = record {
        spares = spares_then new _ clears.spares;
        cause = clears.cause;
        ready = λ told. tt;
        cleared = λ told. tt;
      }

-- the same purge, told by another count that is equal and by keys of which none more was passed
pub going_to : (tells : Bool) (Opens : List ℕ → List ℕ → Type 0) (index : below.Index) (seats : Seats) (t n n' : ℕ) (Passed Other : Key → Type 0) (old now : PagesView) → (IsTrue tells → n' ≡ n)
    → (IsTrue tells → (key : Key) → Other key → IsAbsent index now.store.state.bytes key → Passed key) → (IsTrue tells → (key : Key) → Passed key → Other key)
    → Going tells Opens index seats t Passed n old now → Going tells Opens index seats t Other n' old now
going_to tells Opens index seats t n n' Passed Other old now count passed among going = record {
  shape = going.shape;
  depth = going.depth;
  mirrors = going.mirrors;
  dead = going.dead;
  faults = going.faults;
  ranges = going.ranges;
  saves = going.saves;
  ready = going.ready;
  named = going.named;
  state = going.state;
  cleared = λ told. subst (λ (k : ℕ). Cleared index seats Other k old.store.state.bytes now.store.state.bytes) (sym (count told))
      (cleared_as index seats old.store.state.bytes now.store.state.bytes Passed n (going.cleared told) Other (passed told) (among told));
  time = going.time;
}

-- a look leaves the next key
pub next_still : (tells : Bool) (Opens : List ℕ → List ℕ → Type 0) (index : below.Index) (mid new : PagesView) (name : List ℕ) (from : ℕ) (found : Option ℕ) → Looks tells Opens false mid new → IsTrue tells
    → IsNextAbsent index mid.store.state.bytes name from found → IsNextAbsent index new.store.state.bytes name from found
next_still tells Opens index mid new name from found looks told next = subst (λ (s : State). IsNextAbsent index s.bytes name from found) (sym ((looks.still refl).state told)) next
