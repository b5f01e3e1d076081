-- Calls that do not reach the records: refusals before them, and a begin.
use Rattle.std.proofs.Common.{◌≡◌, ◌≤◌, ◌<◌, ℕ, inl, inr, Bool, true, false, nat_eq, nat_lt, nat_le, List, [], length, IsTrue, Option, Some, None, unwrap_or, refl, sym, ap, subst, ◌∙◌, arith}
use Rattle.std.specs.Prelude.{is_some}
use Rattle.std.specs.Map.{update}
use Rattle.std.proofs.lemmas.Map.{update_here, update_apart}
use Rattle.std.proofs.lemmas.Bool.{cases_eq, false≢true, true≢false, false_from_ne_true, ltb-true, leb-true}
use Rattle.mars_base.proofs.Going.{stays}
use Rattle.array_shape.specs.declared.shape.Shape.{Shape}
use Rattle.eaw_face.specs.Causes.{IsAlive}
use Rattle.page_store.specs.Index as below
use Rattle.page_store.specs.Shown.{PagesView}
use Rattle.history.specs.Rows.{NamedRows}
use Rattle.history.specs.Table.{Granted, has_save}
use Rattle.history.specs.Locks.{Meets, has_table}
use Rattle.history.specs.Log.{log_of}
use Rattle.history.specs.declared.call.Call.{Call}
use Rattle.history.specs.declared.call.Call.TheVariants.{Begin, Table as OnTable}
use Rattle.history.specs.declared.call.TableCall.{TableCall}
use Rattle.history.specs.declared.call.TableCall.TheVariants.{Get, Put, Del, Scan, Save, Back}
use Rattle.history.specs.declared.call.Reply.{Reply}
use Rattle.history.specs.declared.call.Reply.TheVariants.{Fine, Busy, NoMemory, SavesFull, NoSave, NoTransaction, NoTable}
use Rattle.record_table.specs.Shown.{state_of}
use Rattle.caller_steps.proofs.Fates.{Acts}
use Rattle.caller_steps.specs.State.{State, unoffered, calls_of, commits_of, records_of, view_of, with_live}
use Rattle.caller_steps.specs.Offers.{may_do}
use Rattle.caller_steps.specs.Cause.{saves_of, save_refusal}
use Rattle.caller_steps.proofs.Able.{takes_within, free_outside}
use Rattle.caller_steps.proofs.Causing.{save_cause, table_cause, call_cause, plain_cause}
use Rattle.caller_steps.specs.Locked.{Blocks, IsFree, IsBusyWith}
use Rattle.caller_steps.specs.Step.{StepOf}
use Rattle.caller_steps.specs.Fate.{is_refusal, is_media, is_committed}
use Rattle.caller_steps.specs.Core.{IsSafe, Steps}
use Rattle.caller_steps.proofs.Sound.{acts_sound}
use Rattle.mars_core.specs.TableCall.{number_for}
use Rattle.mars_core.specs.Over.{limits_of}
use Rattle.mars_core.specs.Held.{core_over}
use Rattle.mars_core.specs.Kept.{IsTied, IsKept}
use Rattle.mars_core.specs.Works.{HasSaves, IsSaveRefusal, IsShown}
use Rattle.mars_core.proofs.Touching.{both}
use Rattle.mars_core.proofs.Mirroring.{calls_there, mirrors_at, saves_are, has_saves}
use Rattle.mars_core.proofs.Entering.{room_empty}
use Rattle.mars_core.proofs.Answering.{has_none}
use Rattle.mars_core.proofs.Saving.{saves_in, saves_one}
use Rattle.mars_core.proofs.Causes.{no_refusal, is_refused, absent_cause}
use Rattle.mars_core.proofs.Idle.{no_calls, idle_after}
use Rattle.mars_core.proofs.Prefixes.{StoreLaws, safe_alive}
use Rattle.mars_core.proofs.Stepping.{ShowsPages, or_false, step_of, shows_tied, asks_at, steps_same, steps_of, counts_is, saves_at}

-- an option that has a value
pub some_of : {A : Type 0} (o : Option A) → is_some o ≡ true → (x : A) × (o ≡ Some x)
some_of None e = absurd (false≢true e)
some_of (Some x) e = (x, refl)

pub none_of : {A : Type 0} (o : Option A) → is_some o ≡ false → o ≡ None
none_of None e = refl
none_of (Some x) e = absurd (false≢true (sym e))

module _ (live : ℕ → Option Granted) (t : ℕ) where
  -- an update to the value that was there changes nothing
  pub update_same : (x : Option Granted) → live t ≡ x → update nat_eq live t x ≡ live
  update_same x is = λ i q. each q i
    where
      each : (q : ℕ) → update nat_eq live t x q ≡ live q
      each q = elim (cases_eq q t) [
        | inl e ↦ ap (update nat_eq live t x) e ∙ update_here live t x ∙ sym is ∙ ap live (sym e)
        | inr ne ↦ update_apart live t x q ne
      ]

  -- of two updates the second counts
  pub update_twice : (x y : Option Granted) → update nat_eq (update nat_eq live t x) t y ≡ update nat_eq live t y
  update_twice x y = λ i q. each q i
    where
      each : (q : ℕ) → update nat_eq (update nat_eq live t x) t y q ≡ update nat_eq live t y q
      each q = elim (cases_eq q t) [
        | inl e ↦ ap (update nat_eq (update nat_eq live t x) t y) e ∙ update_here (update nat_eq live t x) t y ∙ sym (update_here live t y) ∙ ap (update nat_eq live t y) (sym e)
        | inr ne ↦ update_apart (update nat_eq live t x) t y q ne ∙ update_apart live t x q ne ∙ sym (update_apart live t y q ne)
      ]

  -- an update and its undoing
  pub changed_back : (x y : Option Granted) (mid new : ℕ → Option Granted) → mid ≡ update nat_eq live t x → new ≡ update nat_eq mid t y → live t ≡ y → new ≡ live
  changed_back x y mid new first second is = second ∙ ap (λ (f : ℕ → Option Granted). update nat_eq f t y) first ∙ update_twice x y ∙ update_same y is

  pub changed_twice : (x y : Option Granted) (mid new : ℕ → Option Granted) → mid ≡ update nat_eq live t x → new ≡ update nat_eq mid t y → new ≡ update nat_eq live t y
  changed_twice x y mid new first second = second ∙ ap (λ (f : ℕ → Option Granted). update nat_eq f t y) first ∙ update_twice x y

-- Which callers hold the keys of a call does not depend on what its own caller touched.
module _ (s mid : State) (t : ℕ) (x : Option Granted) (live : mid.live ≡ update nat_eq s.live t x) (names : mid.names ≡ s.names) (call : TableCall) where
  blocks_to : (holder : ℕ) → Blocks mid t call holder → Blocks s t call holder
  blocks_to holder (ne, meets) = (ne, subst (λ (y : List (List ℕ) × Granted). Meets y.0 call y.1) (λ i. (names i, calls_there s mid t x live holder ne i)) meets)

  blocks_from : (holder : ℕ) → Blocks s t call holder → Blocks mid t call holder
  blocks_from holder (ne, meets) = (ne, subst (λ (y : List (List ℕ) × Granted). Meets y.0 call y.1) (λ i. (sym names i, sym (calls_there s mid t x live holder ne) i)) meets)

  pub free_after : IsFree s t call → IsFree mid t call
  free_after free holder blocks = free holder (blocks_to holder blocks)

  pub free_before : IsFree mid t call → IsFree s t call
  free_before free holder blocks = free holder (blocks_from holder blocks)

  pub busy_before : (holder : ℕ) → IsBusyWith mid t call holder → IsBusyWith s t call holder
  busy_before holder busy = (blocks_to holder busy.0, λ lower lt blocks. busy.1 lower lt (blocks_from lower blocks))

no_saves : {A : Type 0} (saves : List A) (n : ℕ) → ((0 < n) × (n ≤ length saves) → ⊥) → has_save saves n ≡ false
no_saves saves n none = false_from_ne_true (has_save saves n) (λ there.
    let parts = both (nat_lt 0 n) (nat_le n (length saves)) there in none (ltb-true 0 n parts.0, leb-true n (length saves) parts.1))

module _ (tells : Bool) (Opens : Shape → List ℕ → List ℕ → Type 0) (index : below.Index) (p : PagesView) (s : State) (shows : ShowsPages index p s) (count : ℕ) (rows : List NamedRows)
    (kept : IsKept tells Opens index p count rows s) (alive : IsAlive p.store) (tells_writes : IsShown tells index p) (t : ℕ) (call : TableCall) (calls : Granted) (is : s.live t ≡ Some calls) (un : s.offers t ≡ unoffered) where
  module _ (told : IsTrue tells) where
    tied : IsTied index p s
    tied = kept.tied told alive

    saved_is : length ((state_of index p).logs t).saved ≡ length (view_of s t).saves
    saved_is = saves_are (state_of index p) s tied.mirrors t (tied.sound.right t)

    save_step : (c : TableCall) (answer : Reply) → IsSaveRefusal (length (p.counts t)) c answer → Acts (limits_of index p.store.shape p.store.depth) s t (OnTable c) answer s
    save_step Save answer refused = subst (λ (r : Reply). Acts (limits_of index p.store.shape p.store.depth) s t (OnTable Save) r s) (sym refused.1)
        (step_of (limits_of index p.store.shape p.store.depth) (Some calls) s s t (OnTable Save) SavesFull (shows.dead ∙ alive) is un (inl ((λ few. omega (arith, few, refused.0, counts_is index p t, saved_is), refl), refl)))
    save_step (Back n) answer refused = subst (λ (r : Reply). Acts (limits_of index p.store.shape p.store.depth) s t (OnTable (Back n)) r s) (sym refused.1)
        (step_of (limits_of index p.store.shape p.store.depth) (Some calls) s s t (OnTable (Back n)) (NoSave n) (shows.dead ∙ alive) is un (inl (
          (
            λ there. true≢false
                (sym there ∙ has_saves (state_of index p) s tied.mirrors t (tied.sound.right t) n
                ∙ no_saves (((state_of index p).logs t).saved) n (subst (λ (k : ℕ). (0 < n) × (n ≤ k) → ⊥) (sym (counts_is index p t)) refused.0)),
            refl,
          ),
          refl,
        )))
    save_step _ answer refused = absurd refused

  count_is : length (p.counts t) ≡ saves_of s t
  count_is = kept.saves alive t (records_of s)

  -- refused because of its saves
  pub save_refused : (answer : Reply) → IsSaveRefusal (length (p.counts t)) call answer → Steps tells t (OnTable call) (core_over Opens index p.store s) (core_over Opens index p.store s) answer
  save_refused answer refused =
      let kind = refusal call answer refused in
      steps_same tells Opens index p s s t (OnTable call) answer refl kept.safe kind.0 kind.1 kind.2 (save_cause (limits_of index p.store.shape p.store.depth) s t call (shows.dead ∙ alive) (takes_within s t calls un is) answer (is_refused (saves_of s t) call answer (subst (λ (n : ℕ). IsSaveRefusal n call answer) count_is refused))) (λ told. save_step told call answer refused)
    where
      refusal : (c : TableCall) (r : Reply) → IsSaveRefusal (length (p.counts t)) c r → (is_refusal r ≡ true) × (is_media r ≡ false) × (is_committed r ≡ false)
      refusal Save r refused = subst (λ (x : Reply). (is_refusal x ≡ true) × (is_media x ≡ false) × (is_committed x ≡ false)) (sym refused.1) (refl, refl, refl)
      refusal (Back n) r refused = subst (λ (x : Reply). (is_refusal x ≡ true) × (is_media x ≡ false) × (is_committed x ≡ false)) (sym refused.1) (refl, refl, refl)
      refusal _ r refused = absurd refused

  module _ (saves : HasSaves (length (p.counts t)) call) (new : State) (same : new ≡ s) where
    has : HasSaves (length ((state_of index p).logs t).saved) call
    has = subst (λ (n : ℕ). HasSaves n call) (sym (counts_is index p t)) saves

    may : may_do s t (OnTable call) ≡ true
    may = takes_within s t calls un is

    saved : save_refusal (saves_of s t) call ≡ None
    saved = no_refusal (saves_of s t) call (subst (λ (n : ℕ). HasSaves n call) count_is saves)

    -- since its table is not there
    pub table_refused : number_for s.names call ≡ None → Steps tells t (OnTable call) (core_over Opens index p.store s) (core_over Opens index p.store new) NoTable
    table_refused none = steps_same tells Opens index p s new t (OnTable call) NoTable same kept.safe refl refl refl (table_cause (limits_of index p.store.shape p.store.depth) s t call (shows.dead ∙ alive) may saved (has_none s.names call none)) (λ told.
        step_of (limits_of index p.store.shape p.store.depth) (Some calls) s s t (OnTable call) NoTable (shows.dead ∙ alive) is un (none_at call none))
      where
        none_at : (c : TableCall) → number_for s.names c ≡ None → StepOf (limits_of index p.store.shape p.store.depth) false unoffered (Some calls) s t (OnTable c) NoTable s
        none_at (Get name key) none = inl ((λ there. true≢false (sym there ∙ ap is_some none), refl), refl)
        none_at (Put name key value) none = inl ((λ there. true≢false (sym there ∙ ap is_some none), refl), refl)
        none_at (Del name key) none = inl ((λ there. true≢false (sym there ∙ ap is_some none), refl), refl)
        none_at (Scan name low high) none = inl ((λ there. true≢false (sym there ∙ ap is_some none), refl), refl)
        none_at Save none = absurd (cc)
        none_at (Back n) none = absurd (cc)

    -- for lack of memory
    pub memory_refused : has_table s.names call ≡ true → Steps tells t (OnTable call) (core_over Opens index p.store s) (core_over Opens index p.store new) NoMemory
    memory_refused there = steps_same tells Opens index p s new t (OnTable call) NoMemory same kept.safe refl refl refl (call_cause (limits_of index p.store.shape p.store.depth) s t call (shows.dead ∙ alive) may saved there NoMemory tt) (λ told.
        step_of (limits_of index p.store.shape p.store.depth) (Some calls) s s t (OnTable call) NoMemory (shows.dead ∙ alive) is un (asks_at (limits_of index p.store.shape p.store.depth) calls s s t call NoMemory there
        (saves_at index 0 p s shows (tied told).mirrors (tells_writes.held told alive) t ((tied told).sound.right t) call has) (inl (refl, refl))))

    -- because another caller holds its keys
    pub busy_refused : has_table s.names call ≡ true → (holder : ℕ) → IsBusyWith s t call holder → Steps tells t (OnTable call) (core_over Opens index p.store s) (core_over Opens index p.store new) (Busy holder)
    busy_refused there holder busy = steps_same tells Opens index p s new t (OnTable call) (Busy holder) same kept.safe refl refl refl (call_cause (limits_of index p.store.shape p.store.depth) s t call (shows.dead ∙ alive) may saved there (Busy holder) busy) (λ told.
        step_of (limits_of index p.store.shape p.store.depth) (Some calls) s s t (OnTable call) (Busy holder) (shows.dead ∙ alive) is un (asks_at (limits_of index p.store.shape p.store.depth) calls s s t call (Busy holder) there
        (saves_at index 0 p s shows (tied told).mirrors (tells_writes.held told alive) t ((tied told).sound.right t) call has) (inr (inl (holder, busy, (refl, refl))))))

-- the invariant holds after no change
pub kept_same : (tells : Bool) (Opens : Shape → List ℕ → List ℕ → Type 0) (index : below.Index) (p : PagesView) (s new : State) (count count' : ℕ) (rows : List NamedRows)
    → IsKept tells Opens index p count rows s → count' ≡ count → new ≡ s → IsKept tells Opens index p count' rows new
kept_same tells Opens index p s new count count' rows kept counts same =
    subst (λ (x : State). IsKept tells Opens index p count' rows x) (sym same) (subst (λ (n : ℕ). IsKept tells Opens index p n rows s) (sym counts) kept)

module _ (tells : Bool) (Opens : Shape → List ℕ → List ℕ → Type 0) (index : below.Index) (p : PagesView) (laws : StoreLaws tells Opens p.store) (s new : State) (shows : ShowsPages index p s) (count count' : ℕ)
    (same_count : count' ≡ count) (rows : List NamedRows) (kept : IsKept tells Opens index p count rows s) (alive : IsAlive p.store) (t : ℕ) (none : s.live t ≡ None) (un : s.offers t ≡ unoffered)
    (begins : new ≡ with_live s t (Some [])) where
  live_is : new.live ≡ update nat_eq s.live t (Some [])
  live_is = ap (λ (x : State). x.live) begins

  module _ (told : IsTrue tells) where
    step : Acts (limits_of index p.store.shape p.store.depth) s t Begin Fine new
    step = step_of (limits_of index p.store.shape p.store.depth) None s new t Begin Fine (shows.dead ∙ alive) none un (refl, begins)

    tied_new : IsTied index p new
    tied_new =
        let was = kept.tied told alive in
        let at : calls_of s t ≡ [] = ap (λ (o : Option Granted). unwrap_or o []) none in
        record {
          index_sound = was.index_sound;
          version = was.version;
          named = ap (λ (x : State). x.names) begins ∙ was.named;
          mirrors = mirrors_at (state_of index p) s was.mirrors (state_of index p) new t (Some []) live_is (was.mirrors.table ∙ sym (ap records_of begins))
              (was.mirrors.logs t ∙ ap (λ (cs : Granted). log_of cs) at) (λ u ne. refl);
          sound = acts_sound (limits_of index p.store.shape p.store.depth) s t Begin Fine new was.sound step;
          room = room_empty (limits_of index p.store.shape p.store.depth) s new t (Some []) refl was.room (ap (λ (x : State). x.index.keys.slot_of) begins) live_is;
        }

    safe_new : IsSafe (core_over Opens index p.store new) p.store.moment (length new.history)
    safe_new = safe_alive tells Opens index p laws new told alive tied_new

  -- a begin
  pub begun_keeps : IsKept tells Opens index p count' rows new
  begun_keeps = record {
    seats = same_count ∙ kept.seats;
    in_order = kept.in_order;
    idle = λ living. idle_after p.store.ranges p.store.ranges s.live new.live t (λ u ne. refl) (kept.idle living) (Some []) live_is (λ e. absurd (no_calls [] e));
    saves = λ living. saves_one p.counts p.counts s new t (Some []) (λ u ne. refl) live_is (λ table. kept.saves living t table ∙ ap (saves_in table) (ap (λ (o : Option Granted). unwrap_or o []) none)) (kept.saves living);
    tied = λ told _. tied_new told;
    safe = safe_new;
  }

  pub begun_steps : Steps tells t Begin (core_over Opens index p.store s) (core_over Opens index p.store new) Fine
  begun_steps = steps_of tells Opens index p p s new t Begin Fine refl refl (record {
    names = ap (λ (x : State). x.names) begins;
    base = ap (λ (x : State). x.base) begins;
    history = ap (λ (x : State). x.history) begins;
    dead = ap (λ (x : State). x.is_dead) begins ∙ sym (or_false s.is_dead);
    able = λ _. free_outside s t un none;
    own = λ _. (ap (λ (f : ℕ → Option Granted). f t) live_is ∙ update_here s.live t (Some []), ap (λ (x : State). x.offers t) begins ∙ un);
    others = λ other ne. inl (record {
      live = ap (λ (f : ℕ → Option Granted). f other) live_is ∙ update_apart s.live t (Some []) other ne;
      offer = ap (λ (x : State). x.offers other) begins;
      mine = ap (λ (x : State). commits_of other x.history) begins;
    });
    refused = λ refusal _. absurd (false≢true refusal);
  }) (plain_cause (limits_of index p.store.shape p.store.depth) s t Begin (shows.dead ∙ alive) (free_outside s t un none) refl Fine refl) (λ failed. absurd (false≢true failed)) (λ _. refl) step (λ told. stays p.store.moment p.store.left_since _) safe_new (inr (λ told _. shows_tied index p new (ap (λ (x : State). x.index) begins ∙ shows.indexed) (tied_new told)))

-- a call outside of a transaction
pub absent_steps : (tells : Bool) (Opens : Shape → List ℕ → List ℕ → Type 0) (index : below.Index) (p : PagesView) (s : State) → ShowsPages index p s → (count : ℕ) (rows : List NamedRows) → IsKept tells Opens index p count rows s
    → IsAlive p.store → (t : ℕ) (call : Call) → s.live t ≡ None → s.offers t ≡ unoffered → StepOf (limits_of index p.store.shape p.store.depth) false unoffered None s t call NoTransaction s → (new : State) → new ≡ s
    → Steps tells t call (core_over Opens index p.store s) (core_over Opens index p.store new) NoTransaction
absent_steps tells Opens index p s shows count rows kept alive t call none un at new same = steps_same tells Opens index p s new t call NoTransaction same kept.safe refl refl refl (absent_cause (limits_of index p.store.shape p.store.depth) s t call (shows.dead ∙ alive) none un s at) (λ told.
    step_of (limits_of index p.store.shape p.store.depth) None s s t call NoTransaction (shows.dead ∙ alive) none un at)
