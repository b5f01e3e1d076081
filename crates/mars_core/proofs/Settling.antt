-- Offers, and the end of what was offered: a settle that commits a group, a fault of the medium in it, and one that is told its number.
use Rattle.std.proofs.Common.{◌≡◌, ◌<◌, ◌≤◌, ◌+◌, ◌⊎◌, ℕ, inl, inr, Bool, true, false, cond, List, [], ◌∷◌, ◌++◌, length, filter, IsTrue, Option, Some, None, unwrap_or, Result, Ok, Err, refl, sym, ap, subst, ◌∙◌, arith}
use Rattle.std.specs.Prelude.{is_some, not}
use Rattle.std.proofs.lemmas.Bool.{false≢true, or_right}
use Rattle.std.proofs.lemmas.List.{append-nil}
use Rattle.mars_base.proofs.Going.{weaker, stays}
use Rattle.array_shape.specs.declared.shape.Shape.{Shape}
use Rattle.eaw_face.specs.StoreView.{LeavesOnly}
use Rattle.eaw_face.specs.Causes.{IsAlive}
use Rattle.eaw_face.specs.State.{listed, is_one_of}
use Rattle.page_store.specs.Index as below
use Rattle.page_store.specs.Shown.{PagesView}
use Rattle.history.specs.Writes.{Table, Write, all_written}
use Rattle.history.specs.Rows.{NamedRows}
use Rattle.history.specs.Table.{Granted}
use Rattle.history.specs.Legal.{records}
use Rattle.history.specs.Log.{log_of}
use Rattle.history.specs.declared.call.Reply.{Reply}
use Rattle.history.specs.declared.call.Call.{Call}
use Rattle.history.specs.declared.call.Call.TheVariants as call
use Rattle.history.specs.declared.call.Control.TheVariants as control
use Rattle.history.specs.declared.call.Reply.TheVariants.{Fine, Committed}
use Rattle.history.specs.declared.call.Reply.TheVariants as reply
use Rattle.history.specs.declared.transaction.Done.{Done}
use Rattle.record_table.specs.State.{TableState}
use Rattle.record_table.specs.Does.{OpensAs}
use Rattle.record_table.specs.Groups as tables
use Rattle.record_table.specs.Groups.{after_group, CommitsGroup}
use Rattle.record_table.specs.Shown.{state_of}
use Rattle.record_table.specs.declared.fault.TableFault.{TableFault}
use Rattle.record_table.specs.declared.fault.TableFault.TheVariants as fault
use Rattle.record_slots.specs.Names.{names_in}
use Rattle.caller_steps.specs.State.{State, Index, Offer, unoffered, offered, unsettled, calls_of, with_live, with_offer}
use Rattle.caller_steps.specs.Offers.{may_do, is_unoffered, offerers, group_in, group_end, number_among, group_writes, without, committed_group, doubted_group}
use Rattle.caller_steps.specs.Room.{Limits, Settles, held_on}
use Rattle.caller_steps.specs.Step.{StepOf}
use Rattle.caller_steps.specs.Fate.{is_refusal, is_media, is_committed, Moves}
use Rattle.caller_steps.specs.Prefix.{HasPrefix, HasPrefixOf}
use Rattle.caller_steps.specs.Purging.{PurgeCause}
use Rattle.caller_steps.specs.Core.{IsSafe, Steps}
use Rattle.caller_steps.specs.Cause.{misplaced, ReplyCause}
use Rattle.caller_steps.proofs.Holding.{is_write_on}
use Rattle.caller_steps.proofs.Causing.{misplaced_cause, plain_cause}
use Rattle.caller_steps.proofs.Able.{takes_within}
use Rattle.caller_steps.proofs.Fates.{Acts, given, settled, unsure, told, fate_moves}
use Rattle.caller_steps.proofs.Sound.{acts_sound, history_whole}
use Rattle.caller_steps.proofs.Offering.{is_in, offerers_once, group_names, group_base, group_doubt, group_dead, group_history, group_apart, without_names, without_base, without_history}
use Rattle.caller_steps.proofs.Grouped.{group_whole}
use Rattle.caller_steps.proofs.Leaving.{group_records, calls_in_group, calls_apart}
use Rattle.mars_core.specs.Over.{limits_of, index_of, OpensWithTables}
use Rattle.mars_core.proofs.Named.{index_same}
use Rattle.mars_core.specs.Held.{core_over}
use Rattle.mars_core.proofs.Keeping.{dead_keeps, still_keeps}
use Rattle.mars_core.proofs.Saving.{saves_in, saves_same}
use Rattle.mars_core.proofs.Causes.{settle_cause, told_cause, closed_may, misplaced_is}
use Rattle.mars_core.specs.Kept.{Mirrors, HaveSaves, HasHeld, IsTied, IsKept}
use Rattle.mars_core.proofs.Prefixes.{StoreLaws, opens_tied, prefix_all, prefix_more, sound_after, safe_dead, safe_alive}
use Rattle.mars_core.proofs.Stepping.{shows_tied, ShowsPages, step_of, steps_of, steps_same}
use Rattle.mars_core.proofs.Staying.{update_same}

-- what numbers have written, and what their callers have
same_writes : (b : TableState) (s : State) → ((caller : ℕ) → b.logs caller ≡ log_of (calls_of s caller)) → (ts : List ℕ) → tables.group_writes b ts ≡ group_writes s ts
same_writes b s logs [] = refl
same_writes b s logs (t ∷ ts) = λ i. (logs t i).writes ++ same_writes b s logs ts i

-- a step of a core that is not dead, by a caller that has offered this
pub step_by : (limits : Limits) (offer : Offer) (s new : State) (t : ℕ) (call : Call) (answer : Reply) → s.is_dead ≡ false → s.offers t ≡ offer → StepOf limits false offer (s.live t) s t call answer new → Acts limits s t call answer new
step_by limits offer s new t call answer alive is by =
    subst (λ (x : Bool × Offer). StepOf limits x.0 x.1 (s.live t) s t call answer new) (λ i. (sym alive i, sym is i)) by

module _ (tells : Bool) (Opens : Shape → List ℕ → List ℕ → Type 0) (index : below.Index) (one : (shape : Shape) (image a b : List ℕ) → Opens shape image a → Opens shape image b → a ≡ b)
    (p q : PagesView) (old_laws : StoreLaws tells Opens p.store) (new_laws : StoreLaws tells Opens q.store) (s new : State) (shows : ShowsPages index p s) (shows_new : ShowsPages index q new)
    (names : new.names ≡ s.names) (base : new.base ≡ s.base) (count count' : ℕ) (same_count : count' ≡ count) (rows : List NamedRows) (kept : IsKept tells Opens index p count rows s) (alive : IsAlive p.store)
    (t : ℕ) (has : s.offers t ≡ offered) (inside : t < p.store.shape.numbers) where
  abbrev os : List ℕ
  os = offerers p.store.shape.numbers s

  abbrev end : ℕ
  end = group_end s os

  abbrev group : State
  group = committed_group s os

  abbrev dones : List Done
  dones = group_in s end os

  living_state : s.is_dead ≡ false
  living_state = shows.dead ∙ alive

  -- what a loss of power leaves within the commit: all of the group, or nothing of it
  module _ (result : Result (Unit {0}) TableFault) (does : CommitsGroup tells (Opens p.store.shape) index os p q result) where
    module _ (told : IsTrue tells) where
      tied : IsTied index p s
      tied = kept.tied told alive

      table_left : (after_group os (state_of index p)).table ≡ records s.base (s.history ++ dones)
      table_left = (λ i. all_written (tied.mirrors.table i) (same_writes (state_of index p) s tied.mirrors.logs os i))
          ∙ sym (group_records s end os (record { legal = tied.sound.legal; right = tied.sound.right; offers = tied.sound.offers; apart = tied.sound.apart }) (offerers_once p.store.shape.numbers s))
          ∙ (λ i. records (group_base s end os i) (group_history s end os i))

      time_group : new.history ++ new.doubt ≡ s.history ++ dones → LeavesOnly (HasPrefixOf (OpensWithTables (Opens q.store.shape) index new.names) new (length s.history)) p.store q.store
      time_group list = weaker go (does.named told alive)
        where
          opened : (image : List ℕ) (C : Table) → OpensAs (Opens p.store.shape) index image p.store.state.bytes C → OpensWithTables (Opens q.store.shape) index new.names image C
          opened = opens_tied Opens index p s tied q.store.shape does.shape new.names names

          turned : (image : List ℕ) → HasPrefix (OpensWithTables (Opens q.store.shape) index new.names) s.base (s.history ++ dones) (length s.history) image
              → HasPrefixOf (OpensWithTables (Opens q.store.shape) index new.names) new (length s.history) image
          turned image prefix = subst (λ (b : Table). HasPrefix (OpensWithTables (Opens q.store.shape) index new.names) b (new.history ++ new.doubt) (length s.history) image) (sym base)
              (subst (λ (hs : List Done). HasPrefix (OpensWithTables (Opens q.store.shape) index new.names) s.base hs (length s.history) image) (sym list) prefix)

          go : (image : List ℕ) → OpensAs (Opens p.store.shape) index image p.store.state.bytes (state_of index p).table ⊎ OpensAs (Opens p.store.shape) index image p.store.state.bytes (after_group os (state_of index p)).table
              → HasPrefixOf (OpensWithTables (Opens q.store.shape) index new.names) new (length s.history) image
          go image (inl o) = turned image (prefix_all (OpensWithTables (Opens q.store.shape) index new.names) image s.base s.history dones (history_whole s tied.sound)
              (subst (λ (table : Table). OpensWithTables (Opens q.store.shape) index new.names image table) tied.mirrors.table (opened image (state_of index p).table o)))
          go image (inr o) = turned image (prefix_more (OpensWithTables (Opens q.store.shape) index new.names) image s.base s.history dones (group_whole s tied.sound living_state os)
              (subst (λ (table : Table). OpensWithTables (Opens q.store.shape) index new.names image table) table_left (opened image (after_group os (state_of index p)).table o)))

  -- the group is committed
  module _ (does : CommitsGroup tells (Opens p.store.shape) index os p q (Ok tt)) (live : new.live ≡ group.live) (offers : new.offers ≡ (with_offer group t unoffered).offers)
      (history : new.history ≡ s.history ++ dones) (doubt : new.doubt ≡ s.doubt) where
    living : IsAlive q.store
    living = (does.faults refl).0 ∙ alive

    dead_same : new.is_dead ≡ s.is_dead
    dead_same = shows_new.dead ∙ (does.faults refl).0 ∙ sym shows.dead

    new_is : new ≡ record (with_offer group t unoffered) { index = new.index }
    new_is = λ i. record {
      names = (names ∙ sym (group_names s end os)) i;
      base = (base ∙ sym (group_base s end os)) i;
      history = (history ∙ sym (group_history s end os)) i;
      live = live i;
      offers = offers i;
      doubt = (doubt ∙ sym (group_doubt s end os)) i;
      is_dead = (dead_same ∙ sym (group_dead s end os)) i;
      index = new.index;
    }

    moves : Moves p.store.shape.numbers s t (call.Control control.Settle) (Committed (number_among (length s.history + 1) os t)) new
    moves = fate_moves p.store.shape.numbers s t (call.Control control.Settle) (Committed (number_among (length s.history + 1) os t)) new (settled inside has refl refl new.index new_is)

    -- a caller of the group has no calls, and another has its own
    calls_here : (u : ℕ) → is_in u os ≡ true → calls_of new u ≡ []
    calls_here u is = ap (λ (f : ℕ → Option Granted). unwrap_or (f u) []) live ∙ calls_in_group s end os u (offerers_once p.store.shape.numbers s) is

    calls_there : (u : ℕ) → is_in u os ≡ false → calls_of new u ≡ calls_of s u
    calls_there u out = ap (λ (f : ℕ → Option Granted). unwrap_or (f u) []) live ∙ calls_apart s end os u out

    module _ (told : IsTrue tells) where
      was : IsTied index p s
      was = kept.tied told alive

      keys_same : new.index ≡ record s.index { bytes = new.index.bytes }
      keys_same = shows_new.indexed ∙ index_same index p.store.state.bytes q.store.state.bytes (does.tables told refl) (does.indexed told refl) ∙ sym (λ i. record (shows.indexed i) { bytes = (shows_new.indexed i).bytes })

      settles : Settles (group_writes s os) s.index new.index
      settles = record {
        keys = keys_same;
        none = λ none. shows_new.indexed ∙ ap (index_of index) (does.quiet told refl (same_writes (state_of index p) s was.mirrors.logs os ∙ none)) ∙ sym shows.indexed;
      }

      step : Acts (limits_of index p.store.shape p.store.depth) s t (call.Control control.Settle) (Committed (number_among (length s.history + 1) os t)) new
      step = step_by (limits_of index p.store.shape p.store.depth) offered s new t (call.Control control.Settle) (Committed (number_among (length s.history + 1) os t)) living_state has (inr (inside, inl (refl, new.index, settles, new_is)))

      log_here : (u : ℕ) (b : Bool) → is_one_of os u ≡ b → cond b (record { writes = []; saved = [] }) ((state_of index p).logs u) ≡ log_of (calls_of new u)
      log_here u true is = ap log_of (sym (calls_here u is))
      log_here u false out = was.mirrors.logs u ∙ ap log_of (sym (calls_there u out))

      held_here : (u g : ℕ) (b : Bool) → is_one_of os u ≡ b → held_on (limits_of index p.store.shape p.store.depth) new u g ≤ (limits_of index p.store.shape p.store.depth).entries
      held_here u g true is = subst (λ (cs : Granted). length (filter (is_write_on (limits_of index p.store.shape p.store.depth) new.index g) (log_of cs).writes) ≤ (limits_of index p.store.shape p.store.depth).entries) (sym (calls_here u is)) (omega arith)
      held_here u g false out = subst (λ (x : Index × Granted). length (filter (is_write_on (limits_of index p.store.shape p.store.depth) x.0 g) (log_of x.1).writes) ≤ (limits_of index p.store.shape p.store.depth).entries)
          (λ i. (sym keys_same i, sym (calls_there u out) i)) (was.room u g)

      tied_new : IsTied index q new
      tied_new = record {
        index_sound = sound_after tells Opens index one p q old_laws new_laws told does.shape alive was.index_sound _ _ (does.time told alive) living;
        version = does.version told refl was.version;
        named = names ∙ was.named ∙ sym (ap names_in (does.tables told refl));
        mirrors = subst (λ (b : TableState). Mirrors b new) (sym (does.done told)) (record {
          table = table_left (Ok tt) does told ∙ (λ i. records (sym base i) (sym history i));
          logs = λ u. log_here u (is_one_of os u) refl;
        });
        sound = acts_sound (limits_of index p.store.shape p.store.depth) s t (call.Control control.Settle) (Committed (number_among (length s.history + 1) os t)) new was.sound step;
        room = subst (λ (x : Shape × ℕ). HasHeld (limits_of index x.0 x.1) new) (λ i. (sym does.shape i, sym does.depth i)) (λ u g. held_here u g (is_one_of os u) refl);
      }

      safe_new : IsSafe (core_over Opens index q.store new) q.store.moment (length new.history)
      safe_new = safe_alive tells Opens index q new_laws new told living tied_new

      no_doubt : new.history ++ new.doubt ≡ s.history ++ dones
      no_doubt = ap (λ (ds : List Done). new.history ++ ds) (doubt ∙ was.sound.certain living_state) ∙ append-nil new.history ∙ history

    -- nothing is logged of a caller without a live transaction
    idle_new : (u : ℕ) → new.live u ≡ None → listed (q.store.ranges u) ≡ []
    idle_new u none = go (is_one_of os u) refl
      where
        go : (b : Bool) → is_one_of os u ≡ b → listed (q.store.ranges u) ≡ []
        go true is = ap (λ (o : Option (List (ℕ × ℕ))). listed o) (does.free u is)
        go false out = ap (λ (o : Option (List (ℕ × ℕ))). listed o) (does.others u out).0
            ∙ kept.idle alive u (sym ((group_apart s end os u out).live) ∙ sym (ap (λ (f : ℕ → Option Granted). f u) live) ∙ none)

    saves_new : HaveSaves q.counts new
    saves_new u table = go (is_one_of os u) refl
      where
        go : (b : Bool) → is_one_of os u ≡ b → length (q.counts u) ≡ saves_in table (calls_of new u)
        go true is = ap (λ (counts : List ℕ). length counts) (does.saves u is) ∙ ap (saves_in table) (sym (calls_here u is))
        go false out = ap (λ (counts : List ℕ). length counts) (does.others u out).1 ∙ kept.saves alive u table ∙ ap (saves_in table) (sym (calls_there u out))

    pub settled_keeps : IsKept tells Opens index q count' rows new
    settled_keeps = still_keeps tells Opens index p q s new count count' same_count rows kept does.shape safe_new idle_new saves_new tied_new

    pub settled_steps : (n : ℕ) → n ≡ number_among (length s.history + 1) os t → Steps tells t (call.Control control.Settle) (core_over Opens index p.store s) (core_over Opens index q.store new) (Committed n)
    settled_steps n n_is = subst (λ (k : ℕ). Steps tells t (call.Control control.Settle) (core_over Opens index p.store s) (core_over Opens index q.store new) (Committed k)) (sym n_is)
        (steps_of tells Opens index p q s new t (call.Control control.Settle) (Committed (number_among (length s.history + 1) os t)) does.shape does.depth moves (settle_cause (limits_of index p.store.shape p.store.depth) s t living_state has (Committed (number_among (length s.history + 1) os t)) refl) (λ failed. absurd (false≢true failed)) (λ _. (does.faults refl).1) step
        (λ told. time_group (Ok tt) does told (no_doubt told)) safe_new (inr (λ told _. shows_tied index q new shows_new.indexed (tied_new told))))

  -- the medium failed in it
  module _ (does : CommitsGroup tells (Opens p.store.shape) index os p q (Err fault.Media)) (live : new.live ≡ (without s os).live) (offers : new.offers ≡ (without s os).offers)
      (history : new.history ≡ s.history) (doubt : new.doubt ≡ dones) (due : IsTrue tells → 0 < length (tables.group_writes (state_of index p) os)) where
    died : new.is_dead ≡ true
    died = shows_new.dead ∙ (does.dies refl).0

    lost_is : new ≡ record (doubted_group s os) { index = new.index }
    lost_is = λ i. record {
      names = (names ∙ sym (without_names s os)) i;
      base = (base ∙ sym (without_base s os)) i;
      history = (history ∙ sym (without_history s os)) i;
      live = live i;
      offers = offers i;
      doubt = doubt i;
      is_dead = died i;
      index = new.index;
    }

    step_lost : IsTrue tells → Acts (limits_of index p.store.shape p.store.depth) s t (call.Control control.Settle) reply.Media new
    step_lost so = step_by (limits_of index p.store.shape p.store.depth) offered s new t (call.Control control.Settle) reply.Media living_state has (inr (
      inside,
      inr (subst (λ (ws : List Write). 0 < length ws) (same_writes (state_of index p) s (kept.tied so alive).mirrors.logs os) (due so), refl, new.index, lost_is),
    ))

    doubtful : new.history ++ new.doubt ≡ s.history ++ dones
    doubtful = λ i. history i ++ doubt i

    time_lost : IsTrue tells → LeavesOnly (HasPrefixOf (OpensWithTables (Opens q.store.shape) index new.names) new (length s.history)) p.store q.store
    time_lost so = time_group (Err fault.Media) does so doubtful

    safe_lost : IsTrue tells → IsSafe (core_over Opens index q.store new) q.store.moment (length new.history)
    safe_lost so = let was = kept.tied so alive in
        safe_dead tells Opens index one p q old_laws new_laws so does.shape alive was.index_sound s new was names base history (time_lost so)

    pub lost_keeps : IsKept tells Opens index q count' rows new
    lost_keeps = dead_keeps tells Opens index p q s new count count' same_count rows kept does.shape safe_lost (does.dies refl).0

    pub lost_steps : Steps tells t (call.Control control.Settle) (core_over Opens index p.store s) (core_over Opens index q.store new) reply.Media
    lost_steps = steps_of tells Opens index p q s new t (call.Control control.Settle) reply.Media does.shape does.depth
        (fate_moves p.store.shape.numbers s t (call.Control control.Settle) reply.Media new (unsure inside has refl refl new.index lost_is)) (settle_cause (limits_of index p.store.shape p.store.depth) s t living_state has reply.Media tt)
        (λ _. (does.dies refl).1) (λ well. absurd (false≢true (sym well))) step_lost time_lost safe_lost (inr (λ told living. absurd (false≢true (sym living ∙ died))))

-- What only changes what a caller has offered, and ends no log.
module _ (tells : Bool) (Opens : Shape → List ℕ → List ℕ → Type 0) (index : below.Index) (p : PagesView) (laws : StoreLaws tells Opens p.store) (s new : State) (shows : ShowsPages index p s) (count count' : ℕ)
    (same_count : count' ≡ count) (rows : List NamedRows) (kept : IsKept tells Opens index p count rows s) (alive : IsAlive p.store) (t : ℕ) where
  module _ (call : Call) (answer : Reply) (live : new.live ≡ s.live) (base : new.base ≡ s.base) (names : new.names ≡ s.names) (history : new.history ≡ s.history) (slots : new.index ≡ s.index)
      (step : IsTrue tells → Acts (limits_of index p.store.shape p.store.depth) s t call answer new) where
    module _ (told : IsTrue tells) where
      tied_kept : IsTied index p new
      tied_kept =
          let was = kept.tied told alive in
          record {
            index_sound = was.index_sound;
            version = was.version;
            named = names ∙ was.named;
            mirrors = record {
              table = was.mirrors.table ∙ (λ i. records (sym base i) (sym history i));
              logs = λ u. was.mirrors.logs u ∙ ap (λ (f : ℕ → Option Granted). log_of (unwrap_or (f u) [])) (sym live);
            };
            sound = acts_sound (limits_of index p.store.shape p.store.depth) s t call answer new was.sound (step told);
            room = λ u g. subst (λ (x : Index × (ℕ → Option Granted)). length (filter (is_write_on (limits_of index p.store.shape p.store.depth) x.0 g) (log_of (unwrap_or (x.1 u) [])).writes) ≤ (limits_of index p.store.shape p.store.depth).entries)
                (λ i. (sym slots i, sym live i)) (was.room u g);
          }

      safe_kept : IsSafe (core_over Opens index p.store new) p.store.moment (length new.history)
      safe_kept = safe_alive tells Opens index p laws new told alive tied_kept

    pub offer_keeps : IsKept tells Opens index p count' rows new
    offer_keeps = record {
      seats = same_count ∙ kept.seats;
      in_order = kept.in_order;
      idle = λ living u none. kept.idle living u (sym (ap (λ (f : ℕ → Option Granted). f u) live) ∙ none);
      saves = λ living. saves_same p.counts p.counts s new (λ u. refl) live (kept.saves living);
      tied = λ told _. tied_kept told;
      safe = safe_kept;
    }

    pub offer_steps : Moves p.store.shape.numbers s t call answer new → ReplyCause (limits_of index p.store.shape p.store.depth) s t call answer → is_media answer ≡ false → Steps tells t call (core_over Opens index p.store s) (core_over Opens index p.store new) answer
    offer_steps moves cause sure = steps_of tells Opens index p p s new t call answer refl refl moves cause (λ failed. absurd (false≢true (sym sure ∙ failed))) (λ _. refl) step (λ told. stays p.store.moment p.store.left_since _) safe_kept (inr (λ told _. shows_tied index p new (slots ∙ shows.indexed) (tied_kept told)))

  -- a caller offers its transaction
  module _ (calls : Granted) (is : s.live t ≡ Some calls) (un : s.offers t ≡ unoffered) (new_is : new ≡ with_offer s t offered) where
    step_given : IsTrue tells → Acts (limits_of index p.store.shape p.store.depth) s t (call.Control control.Offer) Fine new
    step_given _ = step_of (limits_of index p.store.shape p.store.depth) (Some calls) s new t (call.Control control.Offer) Fine (shows.dead ∙ alive) is un (refl, new_is)

    pub given_keeps : IsKept tells Opens index p count' rows new
    given_keeps = offer_keeps (call.Control control.Offer) Fine (ap (λ (x : State). x.live) new_is) (ap (λ (x : State). x.base) new_is) (ap (λ (x : State). x.names) new_is) (ap (λ (x : State). x.history) new_is) (ap (λ (x : State). x.index) new_is) step_given

    pub given_steps : Steps tells t (call.Control control.Offer) (core_over Opens index p.store s) (core_over Opens index p.store new) Fine
    given_steps = offer_steps (call.Control control.Offer) Fine (ap (λ (x : State). x.live) new_is) (ap (λ (x : State). x.base) new_is) (ap (λ (x : State). x.names) new_is) (ap (λ (x : State). x.history) new_is) (ap (λ (x : State). x.index) new_is) step_given
        (fate_moves p.store.shape.numbers s t (call.Control control.Offer) Fine new (given calls un refl refl is new_is)) (plain_cause (limits_of index p.store.shape p.store.depth) s t (call.Control control.Offer) (shows.dead ∙ alive) (takes_within s t calls un is) refl Fine refl) refl

  -- a caller whose transaction a group has committed is told its number
  module _ (n : ℕ) (has : s.offers t ≡ unsettled n) (none : s.live t ≡ None) (settles : new ≡ with_offer s t unoffered) where
    ended_is : new ≡ with_offer (with_live s t None) t unoffered
    ended_is = settles ∙ (λ i. record (with_offer s t unoffered) { live = sym (update_same s.live t None none) i })

    step_told : IsTrue tells → Acts (limits_of index p.store.shape p.store.depth) s t (call.Control control.Settle) (Committed n) new
    step_told _ = step_by (limits_of index p.store.shape p.store.depth) (unsettled n) s new t (call.Control control.Settle) (Committed n) (shows.dead ∙ alive) has (refl, ended_is)

    pub told_keeps : IsKept tells Opens index p count' rows new
    told_keeps = offer_keeps (call.Control control.Settle) (Committed n) (ap (λ (x : State). x.live) settles) (ap (λ (x : State). x.base) settles) (ap (λ (x : State). x.names) settles) (ap (λ (x : State). x.history) settles) (ap (λ (x : State). x.index) settles) step_told

    pub told_steps : Steps tells t (call.Control control.Settle) (core_over Opens index p.store s) (core_over Opens index p.store new) (Committed n)
    told_steps = offer_steps (call.Control control.Settle) (Committed n) (ap (λ (x : State). x.live) settles) (ap (λ (x : State). x.base) settles) (ap (λ (x : State). x.names) settles) (ap (λ (x : State). x.history) settles) (ap (λ (x : State). x.index) settles) step_told
        (fate_moves p.store.shape.numbers s t (call.Control control.Settle) (Committed n) new (told n has refl refl ended_is)) (told_cause (limits_of index p.store.shape p.store.depth) s t (shows.dead ∙ alive) n has) refl

-- Calls that are refused because of what their callers have offered.
module _ (tells : Bool) (Opens : Shape → List ℕ → List ℕ → Type 0) (index : below.Index) (p : PagesView) (s : State) (shows : ShowsPages index p s) (safe : IsTrue tells → IsSafe (core_over Opens index p.store s) p.store.moment (length s.history)) (alive : IsAlive p.store)
    (t : ℕ) where
  closed_steps : (offer : Offer) (asked : Call) (answer : Reply) → s.offers t ≡ offer → StepOf (limits_of index p.store.shape p.store.depth) false offer (s.live t) s t asked answer s → is_refusal answer ≡ true → is_media answer ≡ false → is_committed answer ≡ false → may_do s t asked ≡ false → answer ≡ misplaced asked
      → Steps tells t asked (core_over Opens index p.store s) (core_over Opens index p.store s) answer
  closed_steps offer asked answer has by refusal sure plain may kind =
      steps_same tells Opens index p s s t asked answer refl safe refusal sure plain (misplaced_cause (limits_of index p.store.shape p.store.depth) s t asked (shows.dead ∙ alive) may answer kind) (λ told. step_by (limits_of index p.store.shape p.store.depth) offer s s t asked answer (shows.dead ∙ alive) has by)

  -- one that has offered its transaction begins no other and purges nothing, and its own takes no calls
  pub offered_begins : s.offers t ≡ offered → Steps tells t call.Begin (core_over Opens index p.store s) (core_over Opens index p.store s) reply.Already
  offered_begins has = closed_steps offered call.Begin reply.Already has (refl, refl) refl refl refl (closed_may s t offered has refl call.Begin (λ e. cc)) refl

  pub offered_purges : s.offers t ≡ offered → Steps tells t (call.Control control.Purge) (core_over Opens index p.store s) (core_over Opens index p.store s) reply.Already
  offered_purges has = closed_steps offered (call.Control control.Purge) reply.Already has (refl, refl) refl refl refl (closed_may s t offered has refl (call.Control control.Purge) (λ e. cc)) refl

  pub offered_cause : s.offers t ≡ offered → PurgeCause s t reply.Already
  offered_cause has = (shows.dead ∙ alive, or_right (is_some (s.live t)) (not (is_unoffered (s.offers t))) (ap (λ (o : Offer). not (is_unoffered o)) has))

  pub offered_asks : s.offers t ≡ offered → (asked : Call) → (asked ≡ call.Begin → ⊥) → (asked ≡ call.Control control.Settle → ⊥) → (asked ≡ call.Control control.Purge → ⊥) → Steps tells t asked (core_over Opens index p.store s) (core_over Opens index p.store s) reply.NoTransaction
  offered_asks has asked begin settle purge = closed_steps offered asked reply.NoTransaction has (by asked begin settle purge) refl refl refl (closed_may s t offered has refl asked settle) (misplaced_is asked begin purge)
    where
      by : (asked : Call) → (asked ≡ call.Begin → ⊥) → (asked ≡ call.Control control.Settle → ⊥) → (asked ≡ call.Control control.Purge → ⊥) → StepOf (limits_of index p.store.shape p.store.depth) false offered (s.live t) s t asked reply.NoTransaction s
      by call.Begin begin settle purge = absurd (begin refl)
      by (call.Control control.Settle) begin settle purge = absurd (settle refl)
      by (call.Control control.Purge) begin settle purge = absurd (purge refl)
      by _ begin settle purge = (refl, refl)

  -- neither does one that has not settled
  pub unsettled_begins : (n : ℕ) → s.offers t ≡ unsettled n → Steps tells t call.Begin (core_over Opens index p.store s) (core_over Opens index p.store s) reply.Already
  unsettled_begins n has = closed_steps (unsettled n) call.Begin reply.Already has (refl, refl) refl refl refl (closed_may s t (unsettled n) has refl call.Begin (λ e. cc)) refl

  pub unsettled_purges : (n : ℕ) → s.offers t ≡ unsettled n → Steps tells t (call.Control control.Purge) (core_over Opens index p.store s) (core_over Opens index p.store s) reply.Already
  unsettled_purges n has = closed_steps (unsettled n) (call.Control control.Purge) reply.Already has (refl, refl) refl refl refl (closed_may s t (unsettled n) has refl (call.Control control.Purge) (λ e. cc)) refl

  pub unsettled_cause : (n : ℕ) → s.offers t ≡ unsettled n → PurgeCause s t reply.Already
  unsettled_cause n has = (shows.dead ∙ alive, or_right (is_some (s.live t)) (not (is_unoffered (s.offers t))) (ap (λ (o : Offer). not (is_unoffered o)) has))

  pub unsettled_asks : (n : ℕ) → s.offers t ≡ unsettled n → (asked : Call) → (asked ≡ call.Begin → ⊥) → (asked ≡ call.Control control.Settle → ⊥) → (asked ≡ call.Control control.Purge → ⊥) → Steps tells t asked (core_over Opens index p.store s) (core_over Opens index p.store s) reply.NoTransaction
  unsettled_asks n has asked begin settle purge = closed_steps (unsettled n) asked reply.NoTransaction has (by asked begin settle purge) refl refl refl (closed_may s t (unsettled n) has refl asked settle) (misplaced_is asked begin purge)
    where
      by : (asked : Call) → (asked ≡ call.Begin → ⊥) → (asked ≡ call.Control control.Settle → ⊥) → (asked ≡ call.Control control.Purge → ⊥) → StepOf (limits_of index p.store.shape p.store.depth) false (unsettled n) (s.live t) s t asked reply.NoTransaction s
      by call.Begin begin settle purge = absurd (begin refl)
      by (call.Control control.Settle) begin settle purge = absurd (settle refl)
      by (call.Control control.Purge) begin settle purge = absurd (purge refl)
      by _ begin settle purge = (refl, refl)

  -- and one that has offered nothing has nothing to settle
  pub open_settles : s.offers t ≡ unoffered → Steps tells t (call.Control control.Settle) (core_over Opens index p.store s) (core_over Opens index p.store s) reply.NoTransaction
  open_settles un = closed_steps unoffered (call.Control control.Settle) reply.NoTransaction un (by (s.live t)) refl refl refl (ap (λ (o : Offer). not (is_unoffered o)) un) refl
    where
      by : (live : Option Granted) → StepOf (limits_of index p.store.shape p.store.depth) false unoffered live s t (call.Control control.Settle) reply.NoTransaction s
      by None = (refl, refl)
      by (Some calls) = (refl, refl)
