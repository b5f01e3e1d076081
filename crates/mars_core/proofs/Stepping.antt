-- A step of the core, given what the records do.
use Rattle.std.proofs.Common.{◌≡◌, ◌<◌, ◌⊎◌, ℕ, inl, inr, Bool, true, false, ◌||◌, nat_eq, List, [], ◌∷◌, ◌++◌, length, filter, IsTrue, Option, Some, None, unwrap_or, refl, sym, ap, subst, ◌∙◌}
use Rattle.std.specs.Prelude.{IsFalse, is_some}
use Rattle.std.specs.FinMap.{get}
use Rattle.std.specs.Map.{update}
use Rattle.std.proofs.lemmas.Map.{update_here, update_apart}
use Rattle.std.proofs.lemmas.Bool.{false≢true, cond-false}
use Rattle.std.proofs.lemmas.List.{length-map}
use Rattle.mars_base.specs.Causes.{Rose}
use Rattle.mars_base.proofs.Going.{stays, weaker}
use Rattle.array_shape.specs.declared.shape.Shape.{Shape}
use Rattle.eaw_face.specs.StoreView.{LeavesOnly}
use Rattle.page_store.specs.Index as below
use Rattle.page_store.specs.Shown.{PagesView}
use Rattle.history.specs.Writes.{Table, Write}
use Rattle.history.specs.Key.{of_table}
use Rattle.history.specs.Table.{Granted, IsRight, has_save, removed}
use Rattle.history.specs.Locks.{has_table}
use Rattle.history.specs.Groups.{AreWhole}
use Rattle.history.specs.Legal.{records}
use Rattle.history.specs.Log.{Log, log_of}
use Rattle.history.specs.declared.call.Call.{Call}
use Rattle.history.specs.declared.call.Call.TheVariants.{Table as OnTable}
use Rattle.history.specs.declared.call.TableCall.{TableCall}
use Rattle.history.specs.declared.call.TableCall.TheVariants.{Put, Del, Save, Back}
use Rattle.history.specs.declared.call.Reply.{Reply}
use Rattle.history.specs.declared.call.Reply.TheVariants as reply
use Rattle.history.specs.declared.transaction.Done.{Done}
use Rattle.record_table.specs.State.{seen_by}
use Rattle.record_table.specs.Does.{OpensAs}
use Rattle.record_table.specs.Shown.{state_of, pairs_of, keys_of, held_on, is_write_on}
use Rattle.record_table.specs.Shown as shown
use Rattle.caller_steps.proofs.Fates.{Acts}
use Rattle.caller_steps.specs.State as state
use Rattle.caller_steps.specs.State.{State, Index, unoffered, calls_of, commits_of, records_of, view_of}
use Rattle.caller_steps.proofs.Able.{takes_within}
use Rattle.caller_steps.specs.Room.{Limits, IsShown, IndexesAt, Indexes}
use Rattle.caller_steps.specs.Step.{Asks, StepOf}
use Rattle.caller_steps.specs.Fate.{Moves, is_refusal, is_media, is_committed, committed_by, live_with}
use Rattle.caller_steps.specs.Prefix.{HasPrefix, HasPrefixOf}
use Rattle.caller_steps.specs.Core.{IsSafe, Steps}
use Rattle.caller_steps.specs.Cause.{ReplyCause}
use Rattle.mars_core.specs.Over.{limits_of, index_of, ShowsAll, OpensWithTables}
use Rattle.record_table.specs.Names.{names_of}
use Rattle.mars_core.specs.Held.{core_over}
use Rattle.mars_core.specs.Kept.{Mirrors, IsTied}
use Rattle.record_table.specs.Calls.{Replies}
use Rattle.mars_core.specs.Works.{HasSaves}
use Rattle.caller_steps.proofs.Sound.{history_whole}
use Rattle.mars_core.proofs.Indexing.{slot_after}
use Rattle.mars_core.proofs.Mirroring.{has_save_is, saves_are, has_saves}
use Rattle.mars_core.proofs.Rooming.{HasEntry, has_entry, entry_is}
use Rattle.mars_core.proofs.Entering.{Enters, Returns}
use Rattle.mars_core.proofs.Prefixes.{prefix_all, opens_tied}
use Rattle.record_table.specs.Causes as table_causes

-- the state shows these pages
pub record ShowsPages (index : below.Index) (p : PagesView) (s : State) : Type 0 where
  pub indexed : s.index ≡ index_of index p.store.state.bytes
  pub dead : s.is_dead ≡ p.store.is_dead

pub or_false : (b : Bool) → (b || false) ≡ b
or_false true = refl
or_false false = refl

pub or_true : (b : Bool) → (b || true) ≡ true
or_true true = refl
or_true false = refl

-- a refused call moves nothing
pub moves_refused : (callers : ℕ) (s new : State) (t : ℕ) (call : Call) (answer : Reply) → new.names ≡ s.names → new.base ≡ s.base → new.history ≡ s.history → new.live ≡ s.live → new.offers ≡ s.offers → new.is_dead ≡ (s.is_dead || is_media answer)
    → is_refusal answer ≡ true → is_committed answer ≡ false → Moves callers s t call answer new
moves_refused callers s new t call answer names base history live offers dead refusal plain = record {
  names = names;
  base = base;
  history = history ∙ sym (cond-false (is_committed answer) (s.history ++ committed_by callers s t call) s.history plain);
  dead = dead;
  able = λ granted. absurd (false≢true (sym granted ∙ refusal));
  own = λ granted. absurd (false≢true (sym granted ∙ refusal));
  others = λ other ne. inl (record { live = ap (λ (f : ℕ → Option Granted). f other) live; offer = ap (λ (f : ℕ → state.Offer). f other) offers; mine = ap (commits_of other) history });
  refused = λ _ _. (live, offers);
}

pub media_none : (r : Reply) → is_refusal r ≡ false → is_media r ≡ false
media_none reply.Media e = absurd (cc)
media_none _ e = refl

-- what a granted call moves
pub moves_granted : (callers : ℕ) (s new : State) (t : ℕ) (calls : Granted) (call : TableCall) (answer : Reply) → new.names ≡ s.names → new.base ≡ s.base → new.history ≡ s.history → new.is_dead ≡ s.is_dead
    → new.offers ≡ s.offers → s.offers t ≡ unoffered
    → s.live t ≡ Some calls → new.live ≡ update nat_eq s.live t (Some (calls ++ (call, answer) ∷ [])) → is_refusal answer ≡ false → is_committed answer ≡ false → Moves callers s t (OnTable call) answer new
moves_granted callers s new t calls call answer names base history dead offers un is live granted plain = record {
  names = names;
  base = base;
  history = history ∙ sym (cond-false (is_committed answer) (s.history ++ committed_by callers s t (OnTable call)) s.history plain);
  dead = dead ∙ sym (ap (λ (b : Bool). s.is_dead || b) (media_none answer granted) ∙ or_false s.is_dead);
  able = λ _. takes_within s t calls un is;
  own = λ _. (
    ap (λ (f : ℕ → Option Granted). f t) live ∙ update_here s.live t (Some (calls ++ (call, answer) ∷ []))
        ∙ sym (ap (λ (o : Option Granted). live_with (unwrap_or o []) (OnTable call) answer) is),
    ap (λ (f : ℕ → state.Offer). f t) offers ∙ un,
  );
  others = λ other ne. inl (record {
    live = ap (λ (f : ℕ → Option Granted). f other) live ∙ update_apart s.live t (Some (calls ++ (call, answer) ∷ [])) other ne;
    offer = ap (λ (f : ℕ → state.Offer). f other) offers;
    mine = ap (commits_of other) history;
  });
  refused = λ refusal _. absurd (false≢true (sym granted ∙ refusal));
}

-- a step of a core that is not dead, by a caller with these calls, which has offered nothing
pub step_of : (limits : Limits) (calls : Option Granted) (s new : State) (t : ℕ) (call : Call) (answer : Reply) → s.is_dead ≡ false → s.live t ≡ calls → s.offers t ≡ unoffered → StepOf limits false unoffered calls s t call answer new → Acts limits s t call answer new
step_of limits calls s new t call answer alive is un at =
    subst (λ (x : Bool × state.Offer × Option Granted). StepOf limits x.0 x.1 x.2 s t call answer new) (λ i. (sym alive i, sym un i, sym is i)) at

-- the caller sees the saves that its call needs
abbrev pub SavesAt : State → ℕ → TableCall → Type 0
SavesAt s t Save = length (view_of s t).saves < 32
SavesAt s t (Back n) = IsTrue (has_save (view_of s t).saves n)
SavesAt s t _ = Unit {0}

pub asks_at : (limits : Limits) (calls : Granted) (s new : State) (t : ℕ) (call : TableCall) (answer : Reply) → has_table s.names call ≡ true → SavesAt s t call → Asks limits calls s t call answer new → StepOf limits false unoffered (Some calls) s t (OnTable call) answer new
asks_at limits calls s new t Save answer there saves asks = inr (saves, asks)
asks_at limits calls s new t (Back n) answer there saves asks = inr (saves, asks)
asks_at limits calls s new t _ answer there saves asks = inr (there, asks)

-- while the store is not dead, its data shows the state
pub shows_tied : (index : below.Index) (q : PagesView) (new : State) → new.index ≡ index_of index q.store.state.bytes → IsTied index q new → ShowsAll index new
shows_tied index q new indexed tied =
    let bytes : new.index.bytes ≡ q.store.state.bytes = ap (λ (x : Index). x.bytes) indexed in
    record {
      sound = subst (λ (b : List ℕ). index.sound b) (sym bytes) tied.index_sound;
      names = ap names_of bytes ∙ sym tied.named;
      table = ap (shown.table_of index) bytes ∙ tied.mirrors.table;
      keys = indexed ∙ ap (index_of index) (sym bytes);
    }

-- what the data of a state says is what it shows
shown_by : (index : below.Index) (shape : Shape) (depth : ℕ) (s : State) → ShowsAll index s → IsShown (limits_of index shape depth) s
shown_by index shape depth s shows = λ i. (shows.names i, shows.table i, sym shows.keys i)

-- a call that leaves the state as it was, or one that its data shows
abbrev LeavesShown : Bool → below.Index → State → State → Type 0
LeavesShown tells index s new = (new ≡ s) ⊎ (IsTrue tells → IsFalse new.is_dead → ShowsAll index new)

module _ (tells : Bool) (index : below.Index) where
  stays_so : (s new : State) → IsTrue tells → LeavesShown tells index s new → IsFalse new.is_dead → (IsFalse s.is_dead → ShowsAll index s) → ShowsAll index new
  stays_so s new told (inl same) alive was = subst (ShowsAll index) (sym same) (was (ap (λ (x : State). x.is_dead) (sym same) ∙ alive))
  stays_so s new told (inr now) alive was = now told alive

  stays_shown : (shape : Shape) (depth : ℕ) (s new : State) → IsTrue tells → LeavesShown tells index s new → IsFalse new.is_dead → IsShown (limits_of index shape depth) s → IsShown (limits_of index shape depth) new
  stays_shown shape depth s new told (inl same) alive was = subst (IsShown (limits_of index shape depth)) (sym same) was
  stays_shown shape depth s new told (inr now) alive was = shown_by index shape depth new (now told alive)

module _ (tells : Bool) (Opens : Shape → List ℕ → List ℕ → Type 0) (index : below.Index) where
  pub steps_of : (p q : PagesView) (s new : State) (t : ℕ) (call : Call) (answer : Reply) → q.store.shape ≡ p.store.shape → q.store.depth ≡ p.store.depth → Moves p.store.shape.numbers s t call answer new → ReplyCause (limits_of index p.store.shape p.store.depth) s t call answer
      → (IsTrue (is_media answer) → Rose p.store.faults q.store.faults) → (IsFalse (is_media answer) → q.store.faults ≡ p.store.faults) → (IsTrue tells → Acts (limits_of index p.store.shape p.store.depth) s t call answer new)
      → (IsTrue tells → LeavesOnly (HasPrefixOf (OpensWithTables (Opens q.store.shape) index new.names) new (length s.history)) p.store q.store)
      → (IsTrue tells → IsSafe (core_over Opens index q.store new) q.store.moment (length new.history)) → LeavesShown tells index s new
      → Steps tells t call (core_over Opens index p.store s) (core_over Opens index q.store new) answer
  steps_of p q s new t call answer shape depth moves cause failed kept step time now shown = record {
    limits = λ i. limits_of index (shape i) (depth i);
    opens = λ image table opens. subst (λ (x : Shape × List (List ℕ)). OpensWithTables (Opens x.0) index x.1 image table) (λ i. (sym shape i, sym moves.names i)) opens;
    moves = moves;
    cause = cause;
    failed = failed;
    kept = kept;
    step = λ told. record { acts = step told; shown = λ alive was. stays_shown tells index p.store.shape p.store.depth s new told shown alive was };
    time = time;
    now = now;
    shows = λ state. (λ x. x, λ x. x);
    shown = λ told was alive. stays_so tells index s new told shown alive was;
  }

  -- a refusal that leaves everything as it was
  pub steps_same : (p : PagesView) (s new : State) (t : ℕ) (call : Call) (answer : Reply) → new ≡ s → (IsTrue tells → IsSafe (core_over Opens index p.store s) p.store.moment (length s.history))
      → is_refusal answer ≡ true → is_media answer ≡ false → is_committed answer ≡ false → ReplyCause (limits_of index p.store.shape p.store.depth) s t call answer → (IsTrue tells → Acts (limits_of index p.store.shape p.store.depth) s t call answer s)
      → Steps tells t call (core_over Opens index p.store s) (core_over Opens index p.store new) answer
  steps_same p s new t call answer same safe refusal no_media plain cause step =
      subst (λ (x : State). Steps tells t call (core_over Opens index p.store s) (core_over Opens index p.store x) answer) (sym same)
      (steps_of p p s s t call answer refl refl (moves_refused p.store.shape.numbers s s t call answer refl refl refl refl refl (sym (ap (λ (b : Bool). s.is_dead || b) no_media ∙ or_false s.is_dead)) refusal plain) cause
      (λ failed. absurd (false≢true (sym no_media ∙ failed))) (λ _. refl) step (λ told. stays p.store.moment p.store.left_since _) safe (inl refl))

  -- what a loss of power leaves within a call that does not change the table
  pub time_same : (p q : PagesView) (s new : State) (A B : Table) → IsTied index p s → q.store.shape ≡ p.store.shape → A ≡ records_of s → B ≡ records_of s → new.names ≡ s.names → new.base ≡ s.base → new.history ≡ s.history
      → LeavesOnly (λ image. OpensAs (Opens p.store.shape) index image p.store.state.bytes A ⊎ OpensAs (Opens p.store.shape) index image p.store.state.bytes B) p.store q.store
      → LeavesOnly (HasPrefixOf (OpensWithTables (Opens q.store.shape) index new.names) new (length s.history)) p.store q.store
  time_same p q s new A B tied shape a b names base history time = weaker go time
    where
      opened : (image : List ℕ) (C : Table) → C ≡ records_of s → OpensAs (Opens p.store.shape) index image p.store.state.bytes C → HasPrefixOf (OpensWithTables (Opens q.store.shape) index new.names) new (length s.history) image
      opened image C c o =
          let shows = subst (λ (table : Table). OpensWithTables (Opens q.store.shape) index new.names image table) (c ∙ (λ i. records (sym base i) (sym history i)))
          (opens_tied Opens index p s tied q.store.shape shape new.names names image C o) in
          subst (λ (hs : List Done). HasPrefix (OpensWithTables (Opens q.store.shape) index new.names) new.base (new.history ++ new.doubt) (length hs) image) history
          (prefix_all (OpensWithTables (Opens q.store.shape) index new.names) image new.base new.history new.doubt (subst (λ (hs : List Done). AreWhole (length hs) hs) (sym history) (history_whole s tied.sound)) shows)

      go : (image : List ℕ) → OpensAs (Opens p.store.shape) index image p.store.state.bytes A ⊎ OpensAs (Opens p.store.shape) index image p.store.state.bytes B
          → HasPrefixOf (OpensWithTables (Opens q.store.shape) index new.names) new (length s.history) image
      go image (inl o) = opened image A a o
      go image (inr o) = opened image B b o

-- there are as many saves as counts
pub counts_is : (index : below.Index) (p : PagesView) (t : ℕ) → length ((state_of index p).logs t).saved ≡ length (p.counts t)
counts_is index p t = length-map _ (shown.writes_of p.store.state.bytes) ∙ length-map (p.counts t) _

module _ (index : below.Index) (table : ℕ) (p : PagesView) (s : State) (shows : ShowsPages index p s) (mirrors : Mirrors (state_of index p) s)
    (held : (t g : ℕ) → held_on p t g ≡ length (filter (is_write_on p.store.shape (pairs_of index p.store.state.bytes) g) ((state_of index p).logs t).writes)) (t : ℕ) (right : IsRight (records_of s) (calls_of s t)) where
  -- the saves that a call finds are its caller's
  pub saves_at : (call : TableCall) → HasSaves (length ((state_of index p).logs t).saved) call → SavesAt s t call
  saves_at Save saves = subst (λ (n : ℕ). n < 32) (saves_are (state_of index p) s mirrors t right) saves
  saves_at (Back n) saves = has_saves (state_of index p) s mirrors t right n ∙ has_save_is ((state_of index p).logs t).saved n saves.0 saves.1
  saves_at _ saves = tt

  pub returns_at : (calls : Granted) → calls_of s t ≡ calls → (call : TableCall) → HasSaves (length ((state_of index p).logs t).saved) call → Returns (log_of calls).saved call
  returns_at calls at (Back n) saves =
      subst (λ (ls : List (List Write)). has_save ls n ≡ true) (ap (λ (l : Log). l.saved) (mirrors.logs t) ∙ ap (λ (cs : Granted). (log_of cs).saved) at) (has_save_is ((state_of index p).logs t).saved n saves.0 saves.1)
  returns_at calls at _ saves = tt

  -- if a call writes, it finds an entry
  pub enters_at : (call : TableCall) (answer : Reply) (ix : Index) → table_causes.Fits index table p t (OnTable call) → Replies (state_of index p) t (OnTable call) answer
      → Indexes (limits_of index p.store.shape p.store.depth) call answer s.index ix → Enters (limits_of index p.store.shape p.store.depth) s t ix call answer
  enters_at (Put name key value) answer ix fits replies indexes =
      let after = slot_after (limits_of index p.store.shape p.store.depth) (of_table name key) (s.index.keys.slot_of (of_table name key)) s.index ix refl (subst (λ (r : Reply). IndexesAt (limits_of index p.store.shape p.store.depth) (of_table name key) (s.index.keys.slot_of (of_table name key)) r s.index ix) replies indexes) in
      (after.0, after.1, subst (λ (slot : ℕ). HasEntry (limits_of index p.store.shape p.store.depth) s t (of_table name key) slot) (sym after.2) (entry_is index table p s shows.indexed mirrors held t right (Put name key value) fits))
  enters_at (Del name key) answer ix fits replies indexes = subst (Enters (limits_of index p.store.shape p.store.depth) s t ix (Del name key)) (sym replies) (go (get (seen_by (state_of index p) t) (of_table name key)) refl)
    where
      go : (o : Option (List ℕ)) → get (seen_by (state_of index p) t) (of_table name key) ≡ o → Enters (limits_of index p.store.shape p.store.depth) s t ix (Del name key) (removed o)
      go None none = tt
      go (Some value) some =
          let at = fits (ap is_some some) in
          (at.0, ap (λ (x : Index). x.keys.slot_of (of_table name key)) (indexes ∙ shows.indexed) ∙ at.1, has_entry index table p s shows.indexed mirrors held t (of_table name key) at.0 at.2)
  enters_at _ answer ix fits replies indexes = tt
