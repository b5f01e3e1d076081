-- The making of a table: an upgrade, a look at the super page, a nested top action, and the end of its number.
use Rattle.std.proofs.Common.{◌≡◌, ◌≢◌, ℕ, suc, ◌+◌, ◌-◌, ◌*◌, ◌<◌, ◌≤◌, ◌⊎◌, Bool, true, false, cond, inl, inr, IsTrue, List, [], ◌∷◌, ◌++◌, length, map, Option, Some, None, Result, Ok, Err, refl, sym, ◌∙◌, ap, subst, arith, zero}
use Rattle.std.specs.Prelude.{IsFalse, filter, OnOk, OnErr, slice_get}
use Rattle.std.specs.Option.{option_map}
use Rattle.std.proofs.lemmas.Bool.{false≢true}
use Rattle.std.proofs.lemmas.List.{map-append}
use Rattle.mars_base.specs.Causes.{Rose}
use Rattle.mars_base.proofs.Going.{then, weaker}
use Rattle.array_shape.specs.Logged.{Part, applied}
use Rattle.array_shape.specs.Places.{data_len}
use Rattle.eaw_face.specs.State.{State, listed, count_on}
use Rattle.eaw_face.specs.StoreView.{LeavesOnly}
use Rattle.eaw_face.specs.Causes.{IsAlive}
use Rattle.history.specs.declared.call.Call.TheVariants.{Control}
use Rattle.history.specs.declared.call.Control.TheVariants.{Abort}
use Rattle.history.specs.declared.call.Reply.TheVariants.{Fine}
use Rattle.record_slots.specs.Fresh.{fresh_page}
use Rattle.record_slots.specs.Names.{names_in, with_last, with_entries}
use Rattle.record_slots.specs.Super.{IsWhole, SaysSuper, HasTables, super_bytes, tables_in, tables_used, tables_said}
use Rattle.record_slots.specs.Places.{page_bytes, next_page, version_of, tables_of, first_slot_page}
use Rattle.record_slots.specs.declared.super_page.Super.{Super}
use Rattle.record_slots.specs.declared.super_page.TableEntry.{TableEntry}
use Rattle.index_pages.specs.Acts.{Acts}
use Rattle.page_store.specs.Command as page
use Rattle.page_store.specs.Does as page_does
use Rattle.page_store.specs.Fits.{is_page_on}
use Rattle.page_store.specs.Index.{Index, IsTable, HasCounts, index_pages_of}
use Rattle.page_store.specs.Looks.{LookCause}
use Rattle.page_store.specs.Looks as look
use Rattle.page_store.specs.Outline.{Outline}
use Rattle.page_store.specs.Shown.{PagesView}
use Rattle.page_store.specs.declared.fault.PageFault.{PageFault}
use Rattle.page_store.specs.declared.fault.PageFault.TheVariants as fault
use Rattle.page_store.proofs.Numbers.{with_here, with_there}
use Rattle.record_table.specs.Calls as calls
use Rattle.record_table.specs.Faults.{told_as}
use Rattle.record_table.specs.Invariant.{AreSlotParts, Holds}
use Rattle.record_table.specs.Making.{as_make, IsFit, names_said, PlaceCause, MakeCause, Makes, OnlyUpgrades, is_make_failed, with_page}
use Rattle.record_table.specs.Names.{names_of, IsCalled, IsNew}
use Rattle.record_table.specs.Does.{OpensNamed}
use Rattle.record_table.specs.Shown.{state_of, keys_of, table_of}
use Rattle.record_table.specs.Sought.{LooksAs}
use Rattle.record_table.specs.State.{TableState, Keys}
use Rattle.record_table.specs.Upgrading.{Upgrades, upgraded}
use Rattle.record_table.specs.declared.fault.TableFault.{TableFault}
use Rattle.record_table.specs.declared.making.MakeFault.{MakeFault}
use Rattle.record_table.specs.declared.making.MakeFault.TheVariants as unmade
use Rattle.record_table.proofs.Ending.{ends, abort_is}
use Rattle.record_table.proofs.Extended.{Extended, extended}
use Rattle.record_table.proofs.Moving.{shown_same, moved_by_look, rests_moved}
use Rattle.record_table.proofs.Sharing.{Laws}
use Rattle.record_table.proofs.SlotParts.{parts_carry, log_carried}
use Rattle.eaw_face.specs.Mirroring.{Mirrors}
use Rattle.eaw_face.proofs.Mirroring.{none_sent, sent_then}

-- with a table more, each has the name that it had
first_name : (tables : List TableEntry) (last : TableEntry) (table : ℕ) (name : List ℕ) → slice_get (names_in tables) table ≡ Some name → slice_get (names_in (tables ++ last ∷ [])) table ≡ Some name
first_name [] last table name called = absurd (cc)
first_name (entry ∷ entries) last zero name called = called
first_name (entry ∷ entries) last (suc table) name called = first_name entries last table name called

-- a super page as it is read, that of version 2
module _ (d : List ℕ) (front : Super) (says : SaysSuper (page_bytes d 0) front) where
  two_said : version_of d ≡ 2 → front.version ≡ 2
  two_said two = says.version ∙ two

  names_are : version_of d ≡ 2 → names_said front ≡ names_of d
  unfolding tables_said
  names_are two = λ i. names_in (tables_in (sym two i) (says.entries i))

  is_fit : version_of d ≡ 2 → HasCounts d → IsFit front
  is_fit two counts = record {
    version = two_said two;
    some = omega (arith, says.next_page, counts.some);
    tables = subst (λ (x : ℕ × ℕ × List ℕ). HasTables x.0 x.1 x.2) (λ i. (two i, sym says.next_page i, sym says.entries i)) counts.tables;
  }

-- nothing but the upgrade was written
only_upgraded : (old new : List ℕ) (f : MakeFault) → new ≡ upgraded old → OnlyUpgrades old new (Err f)
only_upgraded old new unmade.Exists is = is
only_upgraded old new unmade.TablesFull is = is
only_upgraded old new (unmade.PagesFull n) is = is
only_upgraded old new (unmade.Damaged bad) is = tt
only_upgraded old new unmade.Media is = tt
only_upgraded old new unmade.Dead is = tt

module _ (tells : Bool) (Opens : List ℕ → List ℕ → Type 0) (index : Index) (name : List ℕ) where
  -- at each moment the records are left, under the names that there were
  abbrev Before : PagesView → PagesView → Type 0
  Before old new = LeavesOnly (λ image. OpensNamed Opens index image (names_of old.store.state.bytes) (state_of index old).table) old.store new.store

  -- or under those and the new one
  abbrev Either : PagesView → PagesView → Type 0
  Either old new = LeavesOnly (λ image. OpensNamed Opens index image (names_of old.store.state.bytes) (state_of index old).table
      ⊎ OpensNamed Opens index image (names_of old.store.state.bytes ++ name ∷ []) (state_of index old).table) old.store new.store

  either : (old new : PagesView) → Before old new → Either old new
  either old new time = weaker (λ image opens. inl opens) time

  -- at most the version has changed, and it is 2
  pub record Ready (old now : PagesView) : Type 0 where
    pub alive : IsAlive old.store
    pub shape : now.store.shape ≡ old.store.shape
    pub depth : now.store.depth ≡ old.store.depth
    pub dead : now.store.is_dead ≡ old.store.is_dead
    pub faults : now.store.faults ≡ old.store.faults
    pub counts : now.counts ≡ old.counts
    pub ranges : now.store.ranges 0 ≡ old.store.ranges 0
    pub others : (u : ℕ) → u ≢ 0 → now.store.ranges u ≡ old.store.ranges u
    pub holds : Holds tells index now
    pub version : IsTrue tells → version_of now.store.state.bytes ≡ 2
    pub tables : IsTrue tells → tables_of now.store.state.bytes ≡ tables_of old.store.state.bytes
    pub keys : IsTrue tells → keys_of index now.store.state.bytes ≡ keys_of index old.store.state.bytes
    pub indexes : IsTrue tells → (table root : ℕ) → IsTable old.store.state.bytes table root → index.pairs now.store.state.bytes root ≡ index.pairs old.store.state.bytes root
    pub state : IsTrue tells → state_of index now ≡ state_of index old
    pub bytes : IsTrue tells → now.store.state.bytes ≡ upgraded old.store.state.bytes
    pub quiet : IsTrue tells → version_of old.store.state.bytes ≡ 2 → now.store.state.bytes ≡ old.store.state.bytes
    pub time : IsTrue tells → Before old now
    pub mirrors : Mirrors tells old.store now.store

  holds_dead : (new : PagesView) → new.store.is_dead ≡ true → Holds tells index new
  holds_dead new dead = λ alive. absurd (false≢true (sym alive ∙ dead))

  -- the medium failed
  failed : (old new : PagesView) → IsAlive old.store → new.store.shape ≡ old.store.shape → Mirrors tells old.store new.store → (new.store.is_dead ≡ true) × Rose old.store.faults new.store.faults
      → ((u : ℕ) → u ≢ 0 → (new.store.ranges u ≡ old.store.ranges u) × (new.counts u ≡ old.counts u)) → (IsTrue tells → Either old new) → Makes tells Opens index name old new (Err unmade.Media)
  failed old new alive shape mirrors dies others time = record {
    shape = shape;
    depth = mirrors.depth;
    mirrors = mirrors;
    cause = alive;
    faults = λ well. absurd (false≢true (sym well));
    dies = λ _. dies;
    version = λ told. tt;
    tables = λ told. tt;
    empty = λ told. tt;
    indexes = λ told. tt;
    keys = λ told. tt;
    state = λ told. tt;
    free = tt;
    same_tables = λ told well. absurd (false≢true (sym well));
    same_keys = λ told well. absurd (false≢true (sym well));
    same_state = λ told well. absurd (false≢true (sym well));
    same_numbers = λ well. absurd (false≢true (sym well));
    upgrades = λ told. tt;
    quiet = λ told well. absurd (false≢true (sym well));
    others = others;
    time = λ told _. time told;
  }

  -- at most the version has changed
  refused_by : (old now : PagesView) (f : MakeFault) → (let r : Result ℕ MakeFault = Err f in IsFalse (is_make_failed r) × MakeCause tells name old.store r) → now.store.shape ≡ old.store.shape → Mirrors tells old.store now.store → now.store.is_dead ≡ old.store.is_dead
      → now.store.faults ≡ old.store.faults → now.counts ≡ old.counts → now.store.ranges 0 ≡ old.store.ranges 0 → ((u : ℕ) → u ≢ 0 → now.store.ranges u ≡ old.store.ranges u)
      → (IsTrue tells → tables_of now.store.state.bytes ≡ tables_of old.store.state.bytes) → (IsTrue tells → keys_of index now.store.state.bytes ≡ keys_of index old.store.state.bytes) → (IsTrue tells → state_of index now ≡ state_of index old)
      → (IsTrue tells → version_of old.store.state.bytes ≡ 2 → now.store.state.bytes ≡ old.store.state.bytes) → (IsTrue tells → IsAlive old.store → Before old now)
      → (IsTrue tells → OnlyUpgrades old.store.state.bytes now.store.state.bytes (Err f)) → Makes tells Opens index name old now (Err f)
  refused_by old now f well shape mirrors dead faults counts ranges others tables keys state quiet time only = record {
    shape = shape;
    depth = mirrors.depth;
    mirrors = mirrors;
    cause = well.1;
    faults = λ _. (dead, faults);
    dies = λ failed. absurd (false≢true (sym well.0 ∙ failed));
    version = λ told. tt;
    tables = λ told. tt;
    empty = λ told. tt;
    indexes = λ told. tt;
    keys = λ told. tt;
    state = λ told. tt;
    free = tt;
    same_tables = λ told _. tables told;
    same_keys = λ told _. keys told;
    same_state = λ told _. state told;
    same_numbers = λ _. (ranges, counts);
    upgrades = only;
    quiet = λ told _ two. quiet told two;
    others = λ u ne. (others u ne, ap (λ (f : ℕ → List ℕ). f u) counts);
    time = λ told alive. either old now (time told alive);
  }

  -- the store was dead
  was_dead : (old : PagesView) → old.store.is_dead ≡ true → Makes tells Opens index name old old (Err unmade.Dead)
  was_dead old dead =
      refused_by old old unmade.Dead (refl, dead) refl (none_sent tells old.store old.store refl refl refl refl (λ fine. fine) (λ told mirrors fine. refl)) refl refl refl refl (λ u ne. refl) (λ told. refl) (λ told. refl) (λ told. refl)
      (λ told two. refl) (λ told alive. absurd (false≢true (sym alive ∙ dead))) (λ told. tt)

  refused_ready : (old now : PagesView) (f : MakeFault) → Ready old now → (let r : Result ℕ MakeFault = Err f in IsFalse (is_make_failed r) × MakeCause tells name old.store r) → Makes tells Opens index name old now (Err f)
  refused_ready old now f ready well =
      refused_by old now f well ready.shape ready.mirrors ready.dead ready.faults ready.counts ready.ranges ready.others ready.tables ready.keys ready.state ready.quiet (λ told _. ready.time told) (λ told. only_upgraded old.store.state.bytes now.store.state.bytes f (ready.bytes told))

  -- the upgrade was refused
  pub not_upgraded : (old mid : PagesView) (f : PageFault) → (let r : Result (Unit {0}) PageFault = Err f in Upgrades tells Opens index old mid (told_as r)) → (f ≡ fault.Dead → mid ≡ old) → Makes tells Opens index name old mid (Err (as_make f))
  not_upgraded old mid fault.Media up same =
      failed old mid up.cause up.shape up.mirrors (up.dies refl) (λ u ne. (up.others u ne, ap (λ (f : ℕ → List ℕ). f u) up.saves)) (λ told. either old mid (up.named told up.cause))
  not_upgraded old mid fault.Dead up same = subst (λ (v : PagesView). Makes tells Opens index name old v (Err unmade.Dead)) (sym (same refl)) (was_dead old up.cause)
  not_upgraded old mid (fault.Damaged bad) up same =
      refused_by old mid (unmade.Damaged bad) (refl, up.cause) up.shape up.mirrors (up.faults refl).0 (up.faults refl).1 up.saves (up.ranges refl) up.others (λ told. up.tables told refl) (λ told. up.keys told refl) (λ told. up.state told refl)
      (λ told two. up.quiet told refl two) up.named (λ told. tt)
  not_upgraded old mid fault.SavesFull up same = absurd up.cause
  not_upgraded old mid (fault.LogFull g h n) up same = absurd up.cause

  -- the upgrade was done, and then the super page was looked at
  module _ (old mid now : PagesView) (up : (let r : Result (Unit {0}) TableFault = Ok tt in Upgrades tells Opens index old mid r)) (holds : Holds tells index mid) where
    mid_alive : IsAlive mid.store
    mid_alive = (up.faults refl).0 ∙ up.cause

    look_time : (b : Bool) → LooksAs tells Opens 0 b mid now → IsTrue tells → Before old now
    look_time b looks told =
        then (up.named told up.cause) (weaker (λ image opens. record {
          bytes = mid.store.state.bytes;
          opened = opens;
          sound = ((holds mid_alive).tied told).sound;
          named = ap names_in (up.tables told refl);
          shows = ap (λ (s : TableState). s.table) (up.state told refl);
        }) (looks.time told mid_alive))

    pub ready_of : LooksAs tells Opens 0 false mid now → Ready old now
    ready_of looks =
        let still = (looks.same refl).still in
        let same : IsTrue tells → now.store.state.bytes ≡ mid.store.state.bytes = λ told. ap (λ (s : State). s.bytes) ((looks.same refl).still.state told) in
        record {
          alive = up.cause;
          shape = looks.shape ∙ up.shape;
          depth = looks.depth ∙ up.depth;
          mirrors = sent_then tells old.store mid.store now.store up.mirrors looks.mirrors;
          dead = still.dead ∙ (up.faults refl).0;
          faults = still.faults ∙ (up.faults refl).1;
          counts = looks.saves ∙ up.saves;
          ranges = (λ i. (looks.same refl).ranges i 0) ∙ up.ranges refl;
          others = λ u ne. looks.others u ne ∙ up.others u ne;
          holds = λ living. rests_moved tells Opens index 0 mid now (holds mid_alive) (moved_by_look tells Opens index 0 mid now mid_alive (holds mid_alive) looks);
          version = λ told. ap version_of (same told) ∙ up.version told;
          tables = λ told. ap tables_of (same told) ∙ up.tables told refl;
          keys = λ told. ap (keys_of index) (same told) ∙ up.keys told refl;
          indexes = λ told table root is. ap (λ (b : List ℕ). index.pairs b root) (same told) ∙ up.indexes told refl table root is;
          state = λ told. shown_same index mid now (still.state told) looks.saves ∙ up.state told refl;
          bytes = λ told. same told ∙ up.bytes told;
          quiet = λ told two. same told ∙ up.quiet told refl two;
          time = look_time false looks;
        }

    pub not_read : (f : PageFault) → (let r : Result Super PageFault = Err f in LooksAs tells Opens 0 (look.is_failed r) mid now × LookCause tells mid.store r) → Makes tells Opens index name old now (Err (as_make f)) × Holds tells index now
    not_read fault.Media both = (
      failed old now up.cause (both.0.shape ∙ up.shape) (sent_then tells old.store mid.store now.store up.mirrors both.0.mirrors) ((both.0.dies refl).0, subst (λ (n : ℕ). Rose n now.store.faults) (up.faults refl).1 (both.0.dies refl).1)
          (λ u ne. (both.0.others u ne ∙ up.others u ne, ap (λ (f : ℕ → List ℕ). f u) (both.0.saves ∙ up.saves))) (λ told. either old now (look_time true both.0 told)),
      holds_dead now (both.0.dies refl).0,
    )
    not_read fault.Dead both = absurd (false≢true (sym mid_alive ∙ both.1))
    not_read (fault.Damaged bad) both = let ready = ready_of both.0 in (refused_ready old now (unmade.Damaged bad) ready (refl, (up.cause, both.1.1)), ready.holds)
    not_read fault.SavesFull both = absurd both.1
    not_read (fault.LogFull g h n) both = absurd both.1

  -- the super page has no room for the table
  module _ (laws : Laws index) (old now : PagesView) (ready : Ready old now) (front : Super) (half : ℕ) (says : IsTrue tells → SaysSuper (page_bytes now.store.state.bytes 0) front) (half_is : half ≡ index_pages_of now.store.shape)
      (long : IsTrue tells → length now.store.state.bytes ≡ data_len now.store.shape) where
    now_alive : IsAlive now.store
    now_alive = ready.dead ∙ ready.alive

    counted : IsTrue tells → HasCounts now.store.state.bytes
    counted told = laws.counts now.store.state.bytes ((ready.holds now_alive).tied told).sound

    names_then : IsTrue tells → names_said front ≡ names_of old.store.state.bytes
    names_then told = names_are now.store.state.bytes front (says told) (ready.version told) ∙ ap names_in (ready.tables told)

    is_new : IsTrue tells → IsNew name (names_said front) → IsNew name (names_of old.store.state.bytes)
    is_new told new = subst (IsNew name) (names_then told) new

    next_then : IsTrue tells → front.next_page ≡ next_page old.store.state.bytes
    next_then told = (says told).next_page ∙ ap (λ (k : Keys). k.next_page) (ready.keys told)

    half_then : half ≡ index_pages_of old.store.shape
    half_then = half_is ∙ ap index_pages_of ready.shape

    half_there : IsTrue tells → half ≡ first_slot_page now.store.state.bytes
    half_there told = omega (arith, half_is, long told)

    pub not_placed : (f : MakeFault) → PlaceCause name half front (Err f) → Makes tells Opens index name old now (Err f)
    not_placed unmade.Exists p = refused_ready old now unmade.Exists ready (refl, (ready.alive, λ told. (p.1, ap (λ (names : List (List ℕ)). slice_get names p.1) (sym (names_then told)) ∙ p.2)))
    not_placed unmade.TablesFull p = refused_ready old now unmade.TablesFull ready (refl, (ready.alive, λ told. (is_new told p.1, ap length (sym (names_then told)) ∙ p.2)))
    not_placed (unmade.PagesFull n) p = refused_ready old now (unmade.PagesFull n) ready (
      refl,
      (
        ready.alive,
        p.4 ∙ ap (λ (k : ℕ). k - 1) half_then,
        λ told. (
          is_new told p.1,
          subst (λ (names : List (List ℕ)). length names < 8) (names_then told) p.2,
          omega (arith, next_then told, half_then, half_there told, p.3, (says told).next_page, (counted told).pages),
        ),
      ),
    )
    not_placed (unmade.Damaged bad) p = refused_ready old now (unmade.Damaged bad) ready (refl, (ready.alive, λ told. p (is_fit now.store.state.bytes front (says told) (ready.version told) (counted told))))
    not_placed unmade.Media p = absurd p
    not_placed unmade.Dead p = absurd p

    -- it has room, and root and super page are written
    module _ (number : ℕ) (placed : PlaceCause name half front (Ok number)) (after : Super) (said : after ≡ with_entries front after.entries) (tables : tables_used after.entries ≡ with_last (tables_used front.entries) name front.next_page)
        (has : HasTables 2 after.next_page after.entries) (whole : IsWhole after) (far : PagesView) where
      abbrev parts : List Part
      parts = (512 * front.next_page + 0, fresh_page 1) ∷ (512 * 0 + 0, super_bytes after) ∷ []

      facts : IsTrue tells → Extended index name now.store.state.bytes (applied parts now.store.state.bytes)
      facts told =
          extended index laws now.store.state.bytes front after name ((ready.holds now_alive).tied told).sound (says told) placed.0 (omega (arith, placed.4, half_there told)) said tables has whole

      names_more : IsTrue tells → names_of (applied parts now.store.state.bytes) ≡ names_of old.store.state.bytes ++ name ∷ []
      names_more told =
          ap names_in (facts told).tables
          ∙ map-append (λ (t : TableEntry). t.name) (tables_of now.store.state.bytes) (record { name = name; root = next_page now.store.state.bytes } ∷ [])
          ∙ ap (λ (names : List (List ℕ)). names ++ name ∷ []) (ap names_in (ready.tables told))

      -- what an image of the data afterwards shows
      opens_more : (image : List ℕ) → IsTrue tells → Opens image (applied parts now.store.state.bytes) → OpensNamed Opens index image (names_of old.store.state.bytes ++ name ∷ []) (state_of index old).table
      opens_more image told opens = record {
        bytes = applied parts now.store.state.bytes;
        opened = opens;
        sound = (facts told).sound;
        named = names_more told;
        shows = (facts told).records ∙ ap (λ (s : TableState). s.table) (ready.state told);
      }

      act_time : (r : Result (Unit {0}) PageFault) → Acts tells Opens 0 (front.next_page ∷ 0 ∷ []) parts now far r → IsTrue tells → Either old far
      act_time r acts told = then (either old now (ready.time told)) (weaker (λ image left. elim left [
        | inl was ↦ inl (record {
          bytes = now.store.state.bytes;
          opened = was;
          sound = ((ready.holds now_alive).tied told).sound;
          named = ap names_in (ready.tables told);
          shows = ap (λ (s : TableState). s.table) (ready.state told);
        })
        | inr is ↦ inr (opens_more image told is)
      ]) (acts.time told now_alive))

      pub not_written : 8 ≤ now.store.shape.entries → old.store.ranges 0 ≡ None → (f : PageFault) → (let r : Result (Unit {0}) PageFault = Err f in Acts tells Opens 0 (front.next_page ∷ 0 ∷ []) parts now far r)
          → Makes tells Opens index name old far (Err (as_make f)) × Holds tells index far
      not_written entries free fault.Media acts = (
        failed old far ready.alive (acts.shape ∙ ready.shape) (sent_then tells old.store now.store far.store ready.mirrors acts.mirrors) ((acts.dies refl).0, subst (λ (n : ℕ). Rose n far.store.faults) ready.faults (acts.dies refl).1)
            (λ u ne. (acts.others u ne ∙ ready.others u ne, ap (λ (f : ℕ → List ℕ). f u) (acts.saves ∙ ready.counts))) (act_time (Err fault.Media) acts),
        holds_dead far (acts.dies refl).0,
      )
      not_written entries free fault.Dead acts = absurd (false≢true (sym now_alive ∙ acts.cause))
      not_written entries free (fault.LogFull g h n) acts =
          let full = acts.cause.1 in
          let none : count_on now.store.shape g (listed (now.store.ranges 0)) ≡ 0 = ap (λ (o : Option (List (ℕ × ℕ))). count_on now.store.shape g (listed o)) (ready.ranges ∙ free) in
          absurd (omega (arith, entries, full.full, full.held_is, full.needed_is, none, few (is_page_on now.store.shape.loggers g) (front.next_page ∷ 0 ∷ [])))
        where
          few : (p : ℕ → Bool) (xs : List ℕ) → length (filter p xs) ≤ length xs
          few p [] = omega arith
          few p (x ∷ xs) = go (p x) (few p xs)
            where
              go : (b : Bool) → length (filter p xs) ≤ length xs → length (cond b (x ∷ filter p xs) (filter p xs)) ≤ length (x ∷ xs)
              go true le = omega (arith, le)
              go false le = omega (arith, le)
      not_written entries free fault.SavesFull acts = absurd acts.cause
      not_written entries free (fault.Damaged bad) acts = absurd acts.cause

      module _ (acts : (let r : Result (Unit {0}) PageFault = Ok tt in Acts tells Opens 0 (front.next_page ∷ 0 ∷ []) parts now far r)) where
        far_is : IsTrue tells → far.store.state.bytes ≡ applied parts now.store.state.bytes
        far_is told = acts.made told now_alive

        far_alive : IsAlive far.store
        far_alive = (acts.kept refl).dead ∙ now_alive

        stays_called : IsTrue tells → (table : ℕ) (name : List ℕ) → IsCalled now.store.state.bytes table name → IsCalled (applied parts now.store.state.bytes) table name
        stays_called told table other called = ap (λ (ts : List TableEntry). slice_get (names_in ts) table) (facts told).tables ∙ first_name (tables_of now.store.state.bytes) (record { name = name; root = next_page now.store.state.bytes }) table other called

        pub far_holds : Holds tells index far
        far_holds living = record {
          closed = λ u. ap (λ (f : ℕ → Option ℕ). f u) (acts.kept refl).tops ∙ (ready.holds now_alive).closed u;
          tied = λ told. record {
            sound = subst index.sound (sym (far_is told)) (facts told).sound;
            parts = λ u. subst (λ (b : List ℕ). AreSlotParts index b (listed (far.store.state.logs u))) (sym (far_is told)) (subst (AreSlotParts index (applied parts now.store.state.bytes)) (sym ((acts.kept refl).logs told u))
                (parts_carry index laws now.store.state.bytes (applied parts now.store.state.bytes) (stays_called told) (facts told).pairs (facts told).size (listed (now.store.state.logs u)) (((ready.holds now_alive).tied told).parts u)));
          };
        }

        far_state : IsTrue tells → state_of index far ≡ state_of index now
        far_state told i = record {
          table = (ap (table_of index) (far_is told) ∙ (facts told).records) i;
          logs = λ u. log_carried index laws now.store.state.bytes (applied parts now.store.state.bytes) far.store.state.bytes (far_is told) (stays_called told)
              _ _ ((acts.kept refl).logs told u) (((ready.holds now_alive).tied told).parts u) _ _ (λ j. acts.saves j u) i;
        }

        pub written : (new : PagesView) → (let r : Result (Unit {0}) PageFault = Ok tt in page_does.Does tells Opens (page.end 0 false) far new r) → Makes tells Opens index name old new (Ok number) × Holds tells index new
        written new does =
            let r : Result (Unit {0}) PageFault = Ok tt in
            let out = does.done.outline in
            let both = ends tells Opens index (page.end 0 false) 0 0 (Control Abort) far new far_holds (λ alive. abort_is tells index laws far (far_holds alive) 0 0) (Unit {0}) (λ done. Fine) r does (λ f e ne. absurd (cc)) (λ told. refl) in
            let done = both.0 in
            let next : IsTrue tells → next_page now.store.state.bytes ≡ next_page old.store.state.bytes = λ told. ap (λ (k : Keys). k.next_page) (ready.keys told) in
            let bytes_are : IsTrue tells → new.store.state.bytes ≡ applied parts now.store.state.bytes = λ told. both.0.quiet told refl tt ∙ far_is told in (
              record {
                shape = does.shape ∙ acts.shape ∙ ready.shape;
                depth = does.depth ∙ acts.depth ∙ ready.depth;
                mirrors = sent_then tells old.store far.store new.store (sent_then tells old.store now.store far.store ready.mirrors acts.mirrors) does.mirrors;
                cause = (
                  ready.alive,
                  λ told. (
                    is_new told placed.1,
                    placed.2 ∙ ap length (names_then told),
                    placed.3,
                    omega (arith, placed.4, next_then told, half_then),
                  ),
                );
                faults = λ _. (does.done.alive ∙ sym ready.alive, (does.kept ∙ (acts.kept refl).faults) ∙ ready.faults);
                dies = λ failed. absurd (false≢true failed);
                version = λ told. ap version_of (bytes_are told) ∙ (facts told).version;
                tables = λ told. ap tables_of (bytes_are told) ∙ (facts told).tables ∙ (λ i. with_last (ready.tables told i) name (next told i));
                empty = λ told. ap (λ (b : List ℕ). index.pairs b (next_page old.store.state.bytes)) (bytes_are told) ∙ ap (index.pairs (applied parts now.store.state.bytes)) (sym (next told)) ∙ (facts told).empty;
                indexes = λ told table root is.
                    ap (λ (b : List ℕ). index.pairs b root) (bytes_are told)
                    ∙ (facts told).indexes table root (subst (λ (ts : List TableEntry). option_map (λ entry. entry.root) (slice_get ts table) ≡ Some root) (sym (ready.tables told)) is)
                    ∙ ready.indexes told table root is;
                keys = λ told. ap (keys_of index) (bytes_are told) ∙ (facts told).keys ∙ ap with_page (ready.keys told);
                state = λ told. done.done told ∙ ap (calls.after 0 (Control Abort) Fine) (far_state told ∙ ready.state told);
                free = (ap (λ (o : Outline). o.ranges 0) out ∙ with_here far.store.ranges 0 None, ap (λ (o : Outline). o.counts 0) out ∙ with_here far.counts 0 []);
                same_tables = λ told _. tt;
                same_keys = λ told _. tt;
                same_state = λ told _. tt;
                same_numbers = λ _. tt;
                upgrades = λ told. tt;
                quiet = λ told _ two. tt;
                others = λ u ne. (
                  does.others u (λ e. ne e) ∙ acts.others u ne ∙ ready.others u ne,
                  ap (λ (o : Outline). o.counts u) out ∙ with_there far.counts 0 [] u ne ∙ ap (λ (f : ℕ → List ℕ). f u) (acts.saves ∙ ready.counts),
                );
                time = λ told _. then (act_time r acts told) (weaker (λ image left. inr (opens_more image told (subst (Opens image) (far_is told) (elim left [ inl was ↦ was | inr is ↦ is ])))) (does.time told far_alive));
              },
              both.1,
            )
