-- The end of a transaction: a commit, an abort, and a fault of the medium in either.
use Rattle.std.proofs.Common.{◌≡◌, ◌<◌, ◌+◌, ◌⊎◌, ℕ, inl, inr, Bool, true, false, nat_eq, List, [], ◌∷◌, ◌++◌, length, IsTrue, Option, Some, None, unwrap_or, Result, Ok, Err, refl, sym, ap, subst, ◌∙◌}
use Rattle.std.specs.Option.{option_to_list}
use Rattle.std.specs.Map.{update}
use Rattle.std.proofs.lemmas.List.{append-nil}
use Rattle.std.proofs.lemmas.Map.{update_here, update_apart}
use Rattle.std.proofs.lemmas.Bool.{false≢true}
use Rattle.mars_base.proofs.Going.{weaker}
use Rattle.array_shape.specs.declared.shape.Shape.{Shape}
use Rattle.eaw_face.specs.StoreView.{LeavesOnly}
use Rattle.eaw_face.specs.Causes.{IsAlive}
use Rattle.page_store.specs.Index as below
use Rattle.page_store.specs.Shown.{PagesView}
use Rattle.history.specs.Writes.{Table, Write, all_written}
use Rattle.history.specs.Rows.{NamedRows}
use Rattle.history.specs.Table.{Granted, IsRight}
use Rattle.history.specs.Legal.{records}
use Rattle.history.specs.Groups.{AreWhole}
use Rattle.history.specs.Log.{Log, log_of}
use Rattle.history.specs.declared.call.Reply.{Reply}
use Rattle.history.specs.declared.call.Call.TheVariants.{Control}
use Rattle.history.specs.declared.call.Control.TheVariants.{Commit, Abort}
use Rattle.history.specs.declared.call.Reply.TheVariants.{Fine, Committed, NoMemory}
use Rattle.history.specs.declared.call.Reply.TheVariants as reply
use Rattle.history.specs.declared.transaction.Done.{Done}
use Rattle.history.proofs.OneMore.{records-push}
use Rattle.history.proofs.Pending.{left_is_written}
use Rattle.record_table.specs.State.{TableState, seen_by}
use Rattle.record_table.specs.Causes.{Cause}
use Rattle.record_table.specs.Calls.{after}
use Rattle.record_table.specs.Does.{Does, OpensAs}
use Rattle.record_table.specs.Shown.{state_of}
use Rattle.record_table.specs.declared.fault.TableFault.{TableFault}
use Rattle.record_table.specs.declared.fault.TableFault.TheVariants as fault
use Rattle.caller_steps.proofs.Alone.{alone_commits, alone_doubts}
use Rattle.caller_steps.proofs.Fates.{Acts}
use Rattle.caller_steps.specs.State.{State, Index, Offer, unoffered, calls_of, commits_of, records_of, done_by}
use Rattle.caller_steps.proofs.Able.{takes_within}
use Rattle.caller_steps.proofs.Offering.{more_theirs}
use Rattle.caller_steps.specs.Room.{Settles}
use Rattle.caller_steps.specs.Prefix.{HasPrefix, HasPrefixOf}
use Rattle.caller_steps.specs.Core.{IsSafe, Steps}
use Rattle.caller_steps.proofs.Causing.{plain_cause}
use Rattle.caller_steps.proofs.Sound.{acts_sound, history_whole, one_more_whole}
use Rattle.record_slots.specs.Names.{names_in}
use Rattle.mars_core.specs.Over.{limits_of, index_of, OpensWithTables}
use Rattle.mars_core.proofs.Named.{index_same}
use Rattle.mars_core.specs.Held.{core_over}
use Rattle.mars_core.specs.Kept.{Mirrors, HasHeld, IsTied, IsKept}
use Rattle.mars_core.proofs.Mirroring.{with_one_here, mirrors_at, apart}
use Rattle.mars_core.proofs.Entering.{room_empty}
use Rattle.mars_core.proofs.Keeping.{dead_keeps, ended_keeps}
use Rattle.mars_core.proofs.Prefixes.{StoreLaws, opens_tied, prefix_all, prefix_more, sound_after, safe_dead, safe_alive}
use Rattle.mars_core.proofs.Stepping.{shows_tied, ShowsPages, or_false, or_true, step_of, steps_of, steps_same, time_same}

-- what was pushed last is what is removed
no_tail : {A : Type 0} (x : A) (xs : List A) → x ∷ xs ≡ [] → ⊥
no_tail x xs e = absurd (cc)

heads : {A : Type 0} (x y : A) (xs ys : List A) → x ∷ xs ≡ y ∷ ys → x ≡ y
heads x y xs ys e = cc

tails : {A : Type 0} (x y : A) (xs ys : List A) → x ∷ xs ≡ y ∷ ys → xs ≡ ys
tails x y xs ys e = cc

pub last_is : {A : Type 0} (xs ys : List A) (x : A) (o : Option A) → xs ++ x ∷ [] ≡ ys ++ option_to_list o → (o ≡ None → xs ++ x ∷ [] ≡ []) → (xs ≡ ys) × (o ≡ Some x)
last_is [] ys x None e none = absurd (no_tail x [] (none refl))
last_is (y ∷ xs) ys x None e none = absurd (no_tail y (xs ++ x ∷ []) (none refl))
last_is [] [] x (Some z) e none = (refl, ap (λ a. Some a) (sym (heads x z [] [] e)))
last_is [] (y ∷ ys) x (Some z) e none = absurd (one_more ys z (tails x y [] (ys ++ z ∷ []) e))
  where
    one_more : {A : Type 0} (ys : List A) (z : A) → [] ≡ ys ++ z ∷ [] → ⊥
    one_more [] z e = no_tail z [] (sym e)
    one_more (y ∷ ys) z e = no_tail y (ys ++ z ∷ []) (sym e)
last_is (y ∷ xs) [] x (Some z) e none = absurd (one_more xs x (tails y z (xs ++ x ∷ []) [] e))
  where
    one_more : {A : Type 0} (ys : List A) (z : A) → ys ++ z ∷ [] ≡ [] → ⊥
    one_more [] z e = no_tail z [] e
    one_more (y ∷ ys) z e = no_tail y (ys ++ z ∷ []) e
last_is (a ∷ xs) (b ∷ ys) x (Some z) e none =
    let rest = last_is xs ys x (Some z) (tails a b (xs ++ x ∷ []) (ys ++ z ∷ []) e) (λ never. absurd (cc)) in
    ((λ i. heads a b (xs ++ x ∷ []) (ys ++ z ∷ []) e i ∷ rest.0 i), rest.1)

-- only the medium refuses the end of a transaction
pub commit_fails : (tells : Bool) (index : below.Index) (p : PagesView) (t : ℕ) → IsAlive p.store → (f : TableFault) → (let r : Result Reply TableFault = Err f in Cause tells index 0 t (Control Commit) p r) → f ≡ fault.Media
commit_fails tells index p t alive fault.Media cause = refl
commit_fails tells index p t alive fault.Dead cause = absurd (false≢true (sym alive ∙ cause))
commit_fails tells index p t alive _ cause = absurd cause.1

pub abort_fails : (tells : Bool) (index : below.Index) (p : PagesView) (t : ℕ) → IsAlive p.store → (f : TableFault) → (let r : Result Reply TableFault = Err f in Cause tells index 0 t (Control Abort) p r) → f ≡ fault.Media
abort_fails tells index p t alive fault.Media cause = refl
abort_fails tells index p t alive fault.Dead cause = absurd (false≢true (sym alive ∙ cause))
abort_fails tells index p t alive _ cause = absurd cause.1

module _ (tells : Bool) (Opens : Shape → List ℕ → List ℕ → Type 0) (index : below.Index) (one : (shape : Shape) (image a b : List ℕ) → Opens shape image a → Opens shape image b → a ≡ b)
    (p q : PagesView) (old_laws : StoreLaws tells Opens p.store) (new_laws : StoreLaws tells Opens q.store) (s new : State) (shows : ShowsPages index p s) (shows_new : ShowsPages index q new)
    (names : new.names ≡ s.names) (offers : new.offers ≡ s.offers) (base : new.base ≡ s.base) (count count' : ℕ) (same_count : count' ≡ count) (rows : List NamedRows) (kept : IsKept tells Opens index p count rows s) (alive : IsAlive p.store)
    (t : ℕ) (calls : Granted) (is : s.live t ≡ Some calls) (un : s.offers t ≡ unoffered) where
  living_state : s.is_dead ≡ false
  living_state = shows.dead ∙ alive

  at : calls_of s t ≡ calls
  at = ap (λ (o : Option Granted). unwrap_or o []) is

  -- a commit
  module _ (done : Done) (done_is : done ≡ done_by s t calls) (result : Result Reply TableFault) (does : Does tells (Opens p.store.shape) index 0 t (Control Commit) p q result)
      (live : new.live ≡ update nat_eq s.live t None) where
    module _ (told : IsTrue tells) where
      tied : IsTied index p s
      tied = kept.tied told alive

      right : IsRight (records_of s) calls
      right = subst (λ (cs : Granted). IsRight (records_of s) cs) at (tied.sound.right t)

      -- the table that it leaves is that of the longer history
      seen_left : seen_by (state_of index p) t ≡ records s.base (s.history ++ done ∷ [])
      seen_left = (λ i. all_written (tied.mirrors.table i) ((ap (λ (l : Log). l.writes) (tied.mirrors.logs t) ∙ ap (λ (cs : Granted). (log_of cs).writes) at) i)) ∙ sym (left_is_written (records_of s) calls right)
          ∙ sym (records-push s.base s.history done ∙ ap (λ (d : Done). left_after s d) done_is)
        where
          left_after : State → Done → Table
          left_after s d = records (records_of s) (d ∷ [])

      whole_more : AreWhole (length (s.history ++ done ∷ [])) (s.history ++ done ∷ [])
      whole_more = subst (λ (d : Done). AreWhole (length (s.history ++ d ∷ [])) (s.history ++ d ∷ [])) (sym done_is) (one_more_whole s t tied.sound calls at)

      time_commit : new.history ++ new.doubt ≡ s.history ++ done ∷ [] → LeavesOnly (HasPrefixOf (OpensWithTables (Opens q.store.shape) index new.names) new (length s.history)) p.store q.store
      time_commit list = weaker go (does.named told alive)
        where
          opened : (image : List ℕ) (C : Table) → OpensAs (Opens p.store.shape) index image p.store.state.bytes C → OpensWithTables (Opens q.store.shape) index new.names image C
          opened = opens_tied Opens index p s tied q.store.shape does.shape new.names names

          turned : (image : List ℕ) → HasPrefix (OpensWithTables (Opens q.store.shape) index new.names) s.base (s.history ++ done ∷ []) (length s.history) image
              → HasPrefixOf (OpensWithTables (Opens q.store.shape) index new.names) new (length s.history) image
          turned image has = subst (λ (b : Table). HasPrefix (OpensWithTables (Opens q.store.shape) index new.names) b (new.history ++ new.doubt) (length s.history) image) (sym base)
              (subst (λ (hs : List Done). HasPrefix (OpensWithTables (Opens q.store.shape) index new.names) s.base hs (length s.history) image) (sym list) has)

          go : (image : List ℕ) → OpensAs (Opens p.store.shape) index image p.store.state.bytes (state_of index p).table ⊎ OpensAs (Opens p.store.shape) index image p.store.state.bytes (seen_by (state_of index p) t)
              → HasPrefixOf (OpensWithTables (Opens q.store.shape) index new.names) new (length s.history) image
          go image (inl o) = turned image (prefix_all (OpensWithTables (Opens q.store.shape) index new.names) image s.base s.history (done ∷ []) (history_whole s tied.sound)
              (subst (λ (table : Table). OpensWithTables (Opens q.store.shape) index new.names image table) tied.mirrors.table (opened image (state_of index p).table o)))
          go image (inr o) = turned image (prefix_more (OpensWithTables (Opens q.store.shape) index new.names) image s.base s.history (done ∷ []) whole_more
              (subst (λ (table : Table). OpensWithTables (Opens q.store.shape) index new.names image table) seen_left (opened image (seen_by (state_of index p) t) o)))

  module _ (done : Done) (done_is : done ≡ done_by s t calls) (k : ℕ) (does : Does tells (Opens p.store.shape) index 0 t (Control Commit) p q (Ok (Committed k)))
      (live : new.live ≡ update nat_eq s.live t None) (history : new.history ≡ s.history ++ done ∷ []) (doubt : new.doubt ≡ s.doubt) where
    living : IsAlive q.store
    living = (does.faults refl).0 ∙ alive

    dead_same : new.is_dead ≡ s.is_dead
    dead_same = shows_new.dead ∙ (does.faults refl).0 ∙ sym shows.dead

    longer : new.history ≡ s.history ++ done_by s t calls ∷ []
    longer = history ∙ ap (λ (d : Done). s.history ++ d ∷ []) done_is

    module _ (told : IsTrue tells) where
      keys_same : new.index ≡ record s.index { bytes = new.index.bytes }
      keys_same = shows_new.indexed ∙ index_same index p.store.state.bytes q.store.state.bytes (does.tables told refl) (does.indexed told alive refl) ∙ sym (λ i. record (shows.indexed i) { bytes = (shows_new.indexed i).bytes })

      writes_are : ((state_of index p).logs t).writes ≡ (log_of calls).writes
      writes_are = ap (λ (l : Log). l.writes) ((kept.tied told alive).mirrors.logs t) ∙ ap (λ (cs : Granted). (log_of cs).writes) at

      settles : Settles (log_of calls).writes s.index new.index
      settles = record {
        keys = keys_same;
        none = λ none. shows_new.indexed ∙ ap (index_of index) (does.quiet told refl (writes_are ∙ none)) ∙ sym shows.indexed;
      }

      step : Acts (limits_of index p.store.shape p.store.depth) s t (Control Commit) (Committed (length s.history + 1)) new
      step = step_of (limits_of index p.store.shape p.store.depth) (Some calls) s new t (Control Commit) (Committed (length s.history + 1)) living_state is un
          (inr (inl (alone_commits calls s t un is (Committed (length s.history + 1)) new
          (refl, new.index, settles, λ i. record { names = names i; base = base i; history = longer i; live = live i; offers = offers i; doubt = doubt i; is_dead = dead_same i; index = new.index }))))

      tied_new : IsTied index q new
      tied_new =
          let was = kept.tied told alive in
          record {
            index_sound = sound_after tells Opens index one p q old_laws new_laws told does.shape alive was.index_sound _ _ (does.time told alive) living;
            version = does.version told refl was.version;
            named = names ∙ was.named ∙ sym (ap names_in (does.tables told refl));
            mirrors = subst (λ (b : TableState). Mirrors b new) (sym (does.done told)) (mirrors_at (state_of index p) s was.mirrors (after t (Control Commit) (Committed k) (state_of index p)) new t None live
                (seen_left done done_is (Ok (Committed k)) does live told ∙ (λ i. records (sym base i) (sym history i)))
                (with_one_here (state_of index p).logs t (record { writes = []; saved = [] })) (apart (state_of index p) t (Control Commit) (Committed k)));
            sound = acts_sound (limits_of index p.store.shape p.store.depth) s t (Control Commit) (Committed (length s.history + 1)) new was.sound step;
            room = subst (λ (x : Shape × ℕ). HasHeld (limits_of index x.0 x.1) new) (λ i. (sym does.shape i, sym does.depth i)) (room_empty (limits_of index p.store.shape p.store.depth) s new t None refl was.room (ap (λ (x : Index). x.keys.slot_of) keys_same) live);
          }

      safe_new : IsSafe (core_over Opens index q.store new) q.store.moment (length new.history)
      safe_new = safe_alive tells Opens index q new_laws new told living tied_new

      no_doubt : new.history ++ new.doubt ≡ s.history ++ done ∷ []
      no_doubt = ap (λ (ds : List Done). new.history ++ ds) (doubt ∙ (kept.tied told alive).sound.certain living_state) ∙ append-nil new.history ∙ history

    pub committed_keeps : q.store.ranges t ≡ None → IsKept tells Opens index q count' rows new
    committed_keeps free = ended_keeps tells Opens index p q s new count count' same_count rows kept does.shape safe_new alive t live does.others does.saves free tied_new

    pub committed_steps : (n : ℕ) → n ≡ length s.history + 1 → Steps tells t (Control Commit) (core_over Opens index p.store s) (core_over Opens index q.store new) (Committed n)
    committed_steps n n_is = subst (λ (k : ℕ). Steps tells t (Control Commit) (core_over Opens index p.store s) (core_over Opens index q.store new) (Committed k)) (sym n_is)
        (steps_of tells Opens index p q s new t (Control Commit) (Committed (length s.history + 1)) does.shape does.depth (record {
          names = names;
          base = base;
          history = longer ∙ ap (λ (cs : Granted). s.history ++ done_by s t cs ∷ []) (sym at);
          dead = dead_same ∙ sym (or_false s.is_dead);
          able = λ _. takes_within s t calls un is;
          own = λ _. (ap (λ (f : ℕ → Option Granted). f t) live ∙ update_here s.live t None, ap (λ (f : ℕ → Offer). f t) offers ∙ un);
          others = λ other ne. inl (record {
            live = ap (λ (f : ℕ → Option Granted). f other) live ∙ update_apart s.live t None other ne;
            offer = ap (λ (f : ℕ → Offer). f other) offers;
            mine = ap (commits_of other) longer ∙ more_theirs other s.history (done_by s t calls) (λ e. ne (sym e));
          });
          refused = λ refusal _. absurd (false≢true refusal);
        }) (plain_cause (limits_of index p.store.shape p.store.depth) s t (Control Commit) living_state (takes_within s t calls un is) refl (Committed (length s.history + 1)) refl) (λ failed. absurd (false≢true failed)) (λ _. (does.faults refl).1) step
        (λ told. time_commit done done_is (Ok (Committed k)) does live told (no_doubt told)) safe_new (inr (λ told _. shows_tied index q new shows_new.indexed (tied_new told))))

  -- the medium failed in the commit
  module _ (done : Done) (done_is : done ≡ done_by s t calls) (does : Does tells (Opens p.store.shape) index 0 t (Control Commit) p q (Err fault.Media))
      (live : new.live ≡ update nat_eq s.live t None) (history : new.history ≡ s.history) (doubt : new.doubt ≡ done ∷ [])
      (due : IsTrue tells → 0 < length ((state_of index p).logs t).writes) where
    wrote : IsTrue tells → 0 < length (log_of calls).writes
    wrote told = subst (λ (ws : List Write). 0 < length ws) (ap (λ (l : Log). l.writes) ((kept.tied told alive).mirrors.logs t) ∙ ap (λ (cs : Granted). (log_of cs).writes) at) (due told)

    died : new.is_dead ≡ true
    died = shows_new.dead ∙ (does.dies refl).0

    doubtful : new.history ++ new.doubt ≡ s.history ++ done ∷ []
    doubtful = λ i. history i ++ doubt i

    step_doubt : IsTrue tells → Acts (limits_of index p.store.shape p.store.depth) s t (Control Commit) reply.Media new
    step_doubt told = step_of (limits_of index p.store.shape p.store.depth) (Some calls) s new t (Control Commit) reply.Media living_state is un (inr (inr (alone_doubts calls s t un is reply.Media new (
      wrote told,
      refl,
      new.index,
      λ i. record { names = names i; base = base i; history = history i; live = live i; offers = offers i; doubt = (doubt ∙ ap (λ (d : Done). d ∷ []) done_is) i; is_dead = died i; index = new.index },
    ))))

    time_doubt : IsTrue tells → LeavesOnly (HasPrefixOf (OpensWithTables (Opens q.store.shape) index new.names) new (length s.history)) p.store q.store
    time_doubt told = time_commit done done_is (Err fault.Media) does live told doubtful

    safe_doubt : IsTrue tells → IsSafe (core_over Opens index q.store new) q.store.moment (length new.history)
    safe_doubt told = let was = kept.tied told alive in safe_dead tells Opens index one p q old_laws new_laws told does.shape alive was.index_sound s new was names base history (time_doubt told)

    pub doubted_keeps : IsKept tells Opens index q count' rows new
    doubted_keeps = dead_keeps tells Opens index p q s new count count' same_count rows kept does.shape safe_doubt (does.dies refl).0

    pub doubted_steps : Steps tells t (Control Commit) (core_over Opens index p.store s) (core_over Opens index q.store new) reply.Media
    doubted_steps = steps_of tells Opens index p q s new t (Control Commit) reply.Media does.shape does.depth (record {
      names = names;
      base = base;
      history = history;
      dead = died ∙ sym (or_true s.is_dead);
      able = λ granted. absurd (false≢true (sym granted));
      own = λ granted. absurd (false≢true (sym granted));
      others = λ other ne. inl (record {
        live = ap (λ (f : ℕ → Option Granted). f other) live ∙ update_apart s.live t None other ne;
        offer = ap (λ (f : ℕ → Offer). f other) offers;
        mine = ap (commits_of other) history;
      });
      refused = λ _ well. absurd (false≢true (sym well));
    }) (plain_cause (limits_of index p.store.shape p.store.depth) s t (Control Commit) living_state (takes_within s t calls un is) refl reply.Media tt) (λ _. (does.dies refl).1) (λ well. absurd (false≢true (sym well))) step_doubt time_doubt safe_doubt (inr (λ told living. absurd (false≢true (sym living ∙ died))))

  -- an abort
  module _ (history : new.history ≡ s.history) (doubt : new.doubt ≡ s.doubt) where
    module _ (does : Does tells (Opens p.store.shape) index 0 t (Control Abort) p q (Ok Fine)) (live : new.live ≡ update nat_eq s.live t None) where
      lives : IsAlive q.store
      lives = (does.faults refl).0 ∙ alive

      dead_alike : new.is_dead ≡ s.is_dead
      dead_alike = shows_new.dead ∙ (does.faults refl).0 ∙ sym shows.dead

      module _ (told : IsTrue tells) where
        index_alike : new.index ≡ s.index
        index_alike = shows_new.indexed ∙ ap (index_of index) (does.quiet told refl tt) ∙ sym shows.indexed

        step_abort : Acts (limits_of index p.store.shape p.store.depth) s t (Control Abort) Fine new
        step_abort = step_of (limits_of index p.store.shape p.store.depth) (Some calls) s new t (Control Abort) Fine living_state is un
            (refl, λ i. record { names = names i; base = base i; history = history i; live = live i; offers = offers i; doubt = doubt i; is_dead = dead_alike i; index = index_alike i })

        tied_abort : IsTied index q new
        tied_abort =
            let was = kept.tied told alive in
            record {
              index_sound = sound_after tells Opens index one p q old_laws new_laws told does.shape alive was.index_sound _ _ (does.time told alive) lives;
              version = does.version told refl was.version;
              named = names ∙ was.named ∙ sym (ap names_in (does.tables told refl));
              mirrors = subst (λ (b : TableState). Mirrors b new) (sym (does.done told)) (mirrors_at (state_of index p) s was.mirrors (after t (Control Abort) Fine (state_of index p)) new t None live
                  (was.mirrors.table ∙ (λ i. records (sym base i) (sym history i)))
                  (with_one_here (state_of index p).logs t (record { writes = []; saved = [] })) (apart (state_of index p) t (Control Abort) Fine));
              sound = acts_sound (limits_of index p.store.shape p.store.depth) s t (Control Abort) Fine new was.sound step_abort;
              room = subst (λ (x : Shape × ℕ). HasHeld (limits_of index x.0 x.1) new) (λ i. (sym does.shape i, sym does.depth i)) (room_empty (limits_of index p.store.shape p.store.depth) s new t None refl was.room (ap (λ (x : Index). x.keys.slot_of) index_alike) live);
            }

        safe_abort : IsSafe (core_over Opens index q.store new) q.store.moment (length new.history)
        safe_abort = safe_alive tells Opens index q new_laws new told lives tied_abort

        time_abort : LeavesOnly (HasPrefixOf (OpensWithTables (Opens q.store.shape) index new.names) new (length s.history)) p.store q.store
        time_abort = let was = kept.tied told alive in
            time_same tells Opens index p q s new (state_of index p).table (state_of index p).table was does.shape was.mirrors.table was.mirrors.table names base history (does.named told alive)

      pub aborted_keeps : q.store.ranges t ≡ None → IsKept tells Opens index q count' rows new
      aborted_keeps free = ended_keeps tells Opens index p q s new count count' same_count rows kept does.shape safe_abort alive t live does.others does.saves free tied_abort

      pub aborted_steps : Steps tells t (Control Abort) (core_over Opens index p.store s) (core_over Opens index q.store new) Fine
      aborted_steps = steps_of tells Opens index p q s new t (Control Abort) Fine does.shape does.depth (record {
        names = names;
        base = base;
        history = history;
        dead = dead_alike ∙ sym (or_false s.is_dead);
        able = λ _. takes_within s t calls un is;
        own = λ _. (ap (λ (f : ℕ → Option Granted). f t) live ∙ update_here s.live t None, ap (λ (f : ℕ → Offer). f t) offers ∙ un);
        others = λ other ne. inl (record {
          live = ap (λ (f : ℕ → Option Granted). f other) live ∙ update_apart s.live t None other ne;
          offer = ap (λ (f : ℕ → Offer). f other) offers;
          mine = ap (commits_of other) history;
        });
        refused = λ refusal _. absurd (false≢true refusal);
      }) (plain_cause (limits_of index p.store.shape p.store.depth) s t (Control Abort) living_state (takes_within s t calls un is) refl Fine refl) (λ failed. absurd (false≢true failed)) (λ _. (does.faults refl).1) step_abort time_abort safe_abort (inr (λ told _. shows_tied index q new shows_new.indexed (tied_abort told)))

-- a commit for which the history has no memory
pub unkept : (tells : Bool) (Opens : Shape → List ℕ → List ℕ → Type 0) (index : below.Index) (p : PagesView) (s new : State) (shows : ShowsPages index p s) (count : ℕ) (rows : List NamedRows)
    → IsKept tells Opens index p count rows s → IsAlive p.store → (t : ℕ) (calls : Granted) → s.live t ≡ Some calls → s.offers t ≡ unoffered → new ≡ s → Steps tells t (Control Commit) (core_over Opens index p.store s) (core_over Opens index p.store new) NoMemory
unkept tells Opens index p s new shows count rows kept alive t calls is un same = steps_same tells Opens index p s new t (Control Commit) NoMemory same kept.safe refl refl refl (plain_cause (limits_of index p.store.shape p.store.depth) s t (Control Commit) (shows.dead ∙ alive) (takes_within s t calls un is) refl NoMemory tt) (λ told.
    step_of (limits_of index p.store.shape p.store.depth) (Some calls) s s t (Control Commit) NoMemory (shows.dead ∙ alive) is un (inl (refl, refl)))
