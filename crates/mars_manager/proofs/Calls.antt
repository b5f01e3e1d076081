-- What a whole turn guarantees, given what its steps guarantee and what the core's step does.
use Rattle.std.proofs.Common.{arith, ◌≡◌, ◌≢◌, ◌+◌, ◌<◌, ◌⊎◌, inl, inr, ⊎_elim, ℕ, List, Bool, true, false, [], ◌∷◌, ◌++◌, Option, Some, None, refl, sym, ap, ◌∙◌, subst, map, append_assoc}
use mathlib.Core.List.{append-nil}
use Rattle.std.specs.Prelude.{IsTrue, IsFalse, MatchBool}
use Rattle.std.proofs.lemmas.Bool.{true≢false}
use Rattle.history.specs.declared.call.Call.{Call}
use Rattle.history.specs.declared.call.Reply.{Reply}
use Rattle.history.specs.declared.call.Reply.TheVariants.{Dead}
use Rattle.history.specs.Legal.{IsLegal}
use Rattle.caller_steps.specs.State.{State}
use Rattle.caller_steps.specs.Offers.{takes_calls}
use Rattle.caller_steps.specs.Room.{Limits}
use Rattle.caller_steps.specs.Fate.{Moves, is_committed, is_refusal, is_busy}
use Rattle.history.specs.declared.call.Call.TheVariants.{Begin, Control}
use Rattle.history.specs.declared.call.Control.TheVariants.{Settle, Purge}
use Rattle.caller_steps.specs.Prefix.{Grows}
use Rattle.caller_steps.specs.Purging.{PurgeCause}
use Rattle.caller_steps.specs.Step.{Step}
use Rattle.caller_steps.specs.Core.{CoreView, Steps}
use Rattle.caller_steps.specs.Run.{Turn, Heard, Goes, AreOf, turns_of}
use Rattle.caller_steps.proofs.Able.{able_takes}
use Rattle.caller_steps.proofs.Continuing.{grows_on, after_grows}
use Rattle.caller_steps.proofs.Running.{last_here, turn_told, turn_grows}
use Rattle.atomic_table.specs.Table.{rest}
use Rattle.stripe_words.specs.declared.hold.Hold.{Hold}
use Rattle.mars_manager.specs.declared.view.Known.{Known}
use Rattle.mars_manager.specs.declared.view.Met.{Met}
use Rattle.mars_manager.specs.declared.setup.Setup.{Setup}
use Rattle.mars_manager.specs.Pass.{Fits, AllFit, names_of, own_by, waits_of, takes_of, finds, tried, told_of, times}
use Rattle.mars_manager.specs.Locks.{with_locks, IsAgain, HasAfter}
use Rattle.mars_manager.specs.Sharing.{CanShare, Since, Called, IsLegalIn, HasCommitted, HasSettled, SeesOwn, Commits}
use Rattle.mars_manager.specs.Seat.{SeatOf, first_of, shared_view, Makes}
use Rattle.caller_steps.specs.Locked.{finds_table}
use Rattle.mars_manager.specs.Rule.{Face, shown, Took, Told}
use Rattle.mars_manager.proofs.Past.{since_step}
use Rattle.mars_manager.proofs.Waiting.{takes_own}
use Rattle.mars_manager.proofs.Seats.{times_first}
use Rattle.mars_manager.proofs.Committing.{commits_on}
use Rattle.mars_manager.proofs.Turns.{out, top_of, some_same, fit_before, live_at, Moved}

module _ {C : Type 0} where
  -- a pass was told all of its caller's turns
  pub told_all : (tells : Bool) (show : C → CoreView) (setup : Setup C) (turns : List Turn) (state : State) (known : Known C) → Fits tells show setup turns state known → told_of known ≡ turns_of known.number turns
  told_all tells show setup turns state known fit = turn_told tells (show setup.first).limits known.number known.past known.seen (show setup.first).state state turns fit.last

module _ {C : Type 0} (tells : Bool) (show : C → CoreView) (was : Known C) (call : Call) (reply : Reply) (now : Known C) (c : Called tells show was call reply now) where
  -- before a call the pass was told all of its caller's turns,
  pub told_was : told_of was ≡ turns_of was.number c.turns
  told_was = turn_told tells (show c.setup.first).limits was.number was.past was.seen (show c.setup.first).state (show c.old).state c.turns c.last

  -- and after it one more
  pub told_on : told_of now ≡ told_of was ++ (call, reply) ∷ []
  told_on = ap told_of c.after ∙ last_here was.number call reply c.turns ∙ ap (λ (l : Heard). l ++ (call, reply) ∷ []) (sym told_was)

-- how often a pass has tried for the turn says nothing of its caller's transactions
pub commits_tried : {C : Type 0} (tells : Bool) (was now : Known C) (call : Call) (reply : Reply) (n : ℕ) → Commits tells was call reply now → Commits tells was call reply (tried n now)
commits_tried tells was now call reply n made = go (is_committed reply) (waits_of was) made
  where
    go : (b w : Bool) → MatchBool b (MatchBool w (HasSettled tells was reply now) (call ≢ Control Settle → HasCommitted tells was reply now)) (SeesOwn was now)
        → MatchBool b (MatchBool w (HasSettled tells was reply (tried n now)) (call ≢ Control Settle → HasCommitted tells was reply (tried n now))) (SeesOwn was (tried n now))
    go true true s = record { at = s.at; last = s.last; before = s.before; mine = s.mine; seen = s.seen; told = s.told }
    go true false s = λ apart. let h = s apart in record { before = h.before; seen = h.seen; mine = h.mine; told = h.told }
    go false w s = s

module _ {C : Type 0} (f : Face C) where
  goes_on : (setup : Setup C) (n : ℕ) (call : Call) (reply : Reply) (old new : C) → Steps f.tells n call (f.show old) (f.show new) reply → (IsTrue (f.show old).state.is_dead → (reply ≡ Dead) × (new ≡ old))
      → Since f.tells (f.show setup.first) (f.show old) → Goes f.tells (f.show setup.first).limits (f.show old).state n call reply (f.show new).state
  goes_on setup n call reply old new s dead since = record {
    moves = subst (λ (limits : Limits). Moves limits.callers (f.show old).state n call reply (f.show new).state) since.limits s.moves;
    dead = λ is. ((dead is).0, ap (λ (c : C). (f.show c).state) (dead is).1);
    step = λ told. subst (λ limits. Step limits (f.show old).state n call reply (f.show new).state) since.limits (s.step told);
  }

  pub moved : (setup : Setup C) (n : ℕ) (call : Call) (reply : Reply) (old new : C) → Steps f.tells n call (f.show old) (f.show new) reply → (IsTrue (f.show old).state.is_dead → (reply ≡ Dead) × (new ≡ old))
      → (IsFalse (is_refusal reply) → IsTrue (finds_table (f.show old).state.names call)) → Moved f setup n call reply old new
  moved setup n call reply old new s dead tabled = record {
    tabled = tabled;
    grows = subst (λ h. Grows (f.show old).state.history h) (sym s.moves.history) (after_grows (f.show old).limits.callers (f.show old).state n call reply);
    since = since_step f.tells n call reply (f.show setup.first) (f.show old) (f.show new) s;
    goes = goes_on setup n call reply old new s dead;
  }

  module _ (setup : Setup C) (turns : List Turn) (old new : C) (k : Known C) (call : Call) (reply : Reply) (fit : Fits f.tells f.show setup turns (f.show old).state k)
      (s : Steps f.tells k.number call (f.show old) (f.show new) reply) (dead : IsTrue (f.show old).state.is_dead → (reply ≡ Dead) × (new ≡ old)) where
    pub called : (call ≡ Control Purge → PurgeCause (f.show old).state k.number reply) → Since f.tells (f.show setup.first) (f.show old) → AreOf setup.callers turns → CanShare f.tells setup.callers (f.show setup.first)
        → Called f.tells f.show k call reply (shown f call reply turns new (finds 0 k))
    called purge since whose ready = record {
      setup = setup;
      turns = turns;
      old = old;
      new = new;
      setup_is = fit.setup_is;
      since = since;
      comes = since_step f.tells k.number call reply (f.show setup.first) (f.show old) (f.show new) s since;
      whose = whose;
      ready = ready;
      last = fit.last;
      steps = s;
      dead = dead;
      purge = purge;
      after = refl;
    }

    pub seen_grows : Grows k.seen (shown f call reply turns new (finds 0 k)).seen
    seen_grows = grows_on k.seen (f.show old).state.history (f.show new).state.history (turn_grows f.tells (f.show setup.first).limits k.number k.past k.seen (f.show setup.first).state (f.show old).state turns fit.last)
        (subst (λ h. Grows (f.show old).state.history h) (sym s.moves.history) (after_grows (f.show old).limits.callers (f.show old).state k.number call reply))

    pub legal_now : Since f.tells (f.show setup.first) (f.show old) → IsTrue f.tells → IsLegalIn f.show (shown f call reply turns new (finds 0 k))
    legal_now since told given is =
        let comes = since_step f.tells k.number call reply (f.show setup.first) (f.show old) (f.show new) s since in
        let same : setup ≡ given = some_same setup given (sym fit.setup_is ∙ is) in
        subst (λ (g : Setup C). IsLegal (f.show g.first).state.base (f.show new).state.history) same
        (subst (λ b. IsLegal b (f.show new).state.history) comes.base (comes.continues told).sound.legal)

    module _ (inside : k.number < (f.show old).limits.callers) (can : CanShare f.tells setup.callers (f.show setup.first)) where
      pub commits : Commits f.tells k call reply (shown f call reply turns new (finds 0 k))
      commits = commits_tried f.tells k (shown f call reply turns new k) call reply (k.tries + 1) (commits_on f setup turns old new k call reply fit s dead can inside)

  -- the core that the seat takes out of its slot
  pub core_is : (m0 m1 : SeatOf C) (core : C) (home : Option C) (took : Took f m0 m1) → m1.1 ≡ (0, home) ∷ rest m1.1 → home ≡ Some core → took.core ≡ core
  core_is m0 m1 core home took taken is = some_same took.core core (ap (λ (l : List (ℕ × Option C)). top_of l) (sym (ap (λ (m : SeatOf C). m.1) took.now) ∙ taken) ∙ is)

  module _ (m0 m1 m2 m3 : SeatOf C) (k : Known C) (core new : C) (home : Option C) (idle : m0 ≡ (shared_view (k ∷ []) None, [])) (took : Took f m0 m1)
      (taken : m1.1 ≡ (0, home) ∷ rest m1.1) (is : home ≡ Some core) (out_is : m2 ≡ (m1.0, (0, None) ∷ rest m1.1)) (back : m3 ≡ (m2.0, (0, Some new) ∷ rest m2.1)) where
    -- the seat once the core is back in its slot
    pub homed : m3 ≡ (shared_view (finds 0 k ∷ []) (Some core), out new)
    homed =
        let F : SeatOf C → SeatOf C = λ m. (m.0, (0, Some new) ∷ rest m.1) in
        let G : SeatOf C → SeatOf C = λ m. (m.0, (0, None) ∷ rest m.1) in
        let H : C → SeatOf C → SeatOf C = λ c m. (shared_view (map (finds 0) m.0.passes) (Some c), out c) in
        back ∙ ap F out_is ∙ ap (λ (m : SeatOf C). F (G m)) took.now ∙ (λ i. F (G (H (core_is m0 m1 core home took taken is i) (idle i))))

    module _ (n : ℕ) (call : Call) (reply : Reply) (number : k.number ≡ n) (steps : Steps f.tells n call (f.show core) (f.show new) reply) (dead : IsTrue (f.show core).state.is_dead → (reply ≡ Dead) × (new ≡ core))
        (tabled : IsFalse (is_refusal reply) → IsTrue (finds_table (f.show core).state.names call)) (sure : IsFalse (is_busy reply)) where
      steps_as : Steps f.tells k.number call (f.show core) (f.show new) reply
      steps_as = subst (λ n. Steps f.tells n call (f.show core) (f.show new) reply) (sym number) steps

      pub moves : (setup : Setup C) → Moved f setup k.number call reply core new
      moves setup = moved setup k.number call reply core new steps_as dead tabled

      tabled_at : IsFalse (is_refusal reply) → IsTrue (finds_table (names_of k) call)
      tabled_at granted = subst (λ (names : List (List ℕ)). finds_table names call ≡ true)
          (sym ((λ i. names_of (first_of (sym idle i).0.passes)) ∙ took.named ∙ ap (λ (c : C). (f.show c).state.names) (core_is m0 m1 core home took taken is))) (tabled granted)

      -- its caller is one of those of the core
      inside_at : k.number < (f.show core).limits.callers
      inside_at =
          let there : (m : SeatOf C) → m ≡ (shared_view (k ∷ []) None, []) → 0 < times k.number m.0.passes = (λ m e. subst (λ (m : SeatOf C). 0 < times k.number m.0.passes) (sym e) (times_first k [])) in
          subst (λ (c : C). k.number < (f.show c).limits.callers) (core_is m0 m1 core home took taken is) (took.few k.number (there m0 idle))

      begun_at : (setup : Setup C) (turns : List Turn) → Fits f.tells f.show setup turns (f.show core).state k → CanShare f.tells setup.callers (f.show setup.first) → (b : Bool) → (f.show core).state.is_dead ≡ b → IsFalse (is_refusal reply) → IsTrue (takes_of k) ⊎ ((call ≡ Begin) ⊎ ((call ≡ Control Settle) ⊎ (call ≡ Control Purge)))
      begun_at setup turns fit can true is granted = absurd (true≢false (sym (ap is_refusal (dead is).0) ∙ granted))
      begun_at setup turns fit can false is granted = ⊎_elim
          (λ (takes : IsTrue (takes_calls (f.show core).state n)). inl (takes_own k.number (own_by k) (f.show core).state (live_at f setup turns core k can fit is) (subst (λ (i : ℕ). takes_calls (f.show core).state i ≡ true) (sym number) takes)))
          inr (able_takes (f.show core).state n call (steps.moves.able granted))

      -- the step is recorded, and the turn is given back
      module _ (m4 : SeatOf C) (tells : (was now : C) → m3.0.held ≡ Some was → m3.1 ≡ out now → Told f call reply was now m3 m4) where
        pub record_of : Told f call reply core new m3 m4
        record_of = tells core new (ap (λ (m : SeatOf C). m.0.held) homed) (ap (λ (m : SeatOf C). m.1) homed)

        -- the seat once the length is published
        pub told_seat : m4 ≡ (shared_view (shown f call reply record_of.turns new (finds 0 k) ∷ []) (Some new), out new)
        told_seat = let F : SeatOf C → SeatOf C = λ m. (shared_view (map (shown f call reply record_of.turns new) m.0.passes) (Some new), m.1) in record_of.now ∙ ap F homed

        -- the seat once the turn is given back
        pub made : (call ≡ Control Purge → PurgeCause (f.show core).state n reply) → (m5 : SeatOf C) → m5 ≡ (shared_view m4.0.passes None, []) → Makes f.tells f.show k call reply m5
        made purge m5 give =
            let t = record_of in
            let all = subst (λ (ks : List (Known C)). AllFit f.tells f.show t.setup t.turns (f.show core).state ks) (ap (λ (m : SeatOf C). m.0.passes) homed) t.fit in
            let fit : Fits f.tells f.show t.setup t.turns (f.show core).state k = fit_before f t.setup t.turns core 0 k all.0 in
            let F : SeatOf C → SeatOf C = λ m. (shared_view m.0.passes None, []) in
            let cause : call ≡ Control Purge → PurgeCause (f.show core).state k.number reply = λ is. subst (λ (i : ℕ). PurgeCause (f.show core).state i reply) (sym number) (purge is) in
            let step = called t.setup t.turns core new k call reply fit steps_as dead cause t.since t.whose t.ready in record {
              now = shown f call reply t.turns new (finds 0 k);
              is = give ∙ ap F told_seat;
              made = record {
                number = refl;
                setup = refl;
                tabled = tabled_at;
                holds = refl;
                met = refl;
                tries = refl;
                sure = sure;
                begun = begun_at t.setup t.turns fit t.ready (f.show core).state.is_dead refl;
                called = step;
                told = told_on f.tells f.show k call reply (shown f call reply t.turns new (finds 0 k)) step;
                seen = seen_grows t.setup t.turns core new k call reply fit steps_as dead;
                legal = legal_now t.setup t.turns core new k call reply fit steps_as dead t.since;
                commits = commits t.setup t.turns core new k call reply fit steps_as dead inside_at t.ready;
              };
            }

-- A call is the same whatever its pass had of the stripes before it, and has after it, and whatever it found and however often it tried.
pub called_as : {C : Type 0} (tells : Bool) (show : C → CoreView) (was now later : Known C) (call : Call) (reply : Reply) (tries n : ℕ) (holds : List Hold) (met : List Met)
    → later ≡ tried later.tries (with_locks later.holds later.met now) → Called tells show (tried tries (finds n (with_locks holds met was))) call reply now → Called tells show was call reply later
called_as {C = C} tells show was now later call reply tries n holds met same c = record {
  setup = c.setup;
  turns = c.turns;
  old = c.old;
  new = c.new;
  setup_is = c.setup_is;
  since = c.since;
  comes = c.comes;
  whose = c.whose;
  ready = c.ready;
  last = c.last;
  steps = c.steps;
  dead = c.dead;
  purge = c.purge;
  after = same ∙ ap (λ (k : Known C). tried later.tries (with_locks later.holds later.met k)) c.after;
}

-- what a pass found, and what it has of the stripes, does not matter to its next call
module _ {C : Type 0} (tells : Bool) (show : C → CoreView) (was last now : Known C) (call : Call) (reply : Reply) (n : ℕ) (a : IsAgain n was last) where
  abbrev found : Known C
  found = tried (was.tries + a.tries) (finds n (with_locks was.holds (was.met ++ a.more) was))

  pub called_since : Called tells show last call reply now → Called tells show was call reply now
  called_since made = called_as tells show was now now call reply (was.tries + a.tries) n was.holds (was.met ++ a.more) refl
      (subst (λ (j : Known C). Called tells show j call reply now) a.is made)

  commits_if : (b waits : Bool) → MatchBool b (MatchBool waits (HasSettled tells found reply now) (call ≢ Control Settle → HasCommitted tells found reply now)) (SeesOwn found now)
      → MatchBool b (MatchBool waits (HasSettled tells was reply now) (call ≢ Control Settle → HasCommitted tells was reply now)) (SeesOwn was now)
  commits_if true true h = record { at = h.at; last = h.last; before = h.before; mine = h.mine; seen = h.seen; told = h.told }
  commits_if true false h = λ ne. (let c = h ne in record { before = c.before; seen = c.seen; mine = c.mine; told = c.told })
  commits_if false waits h = h

  pub commits_since : Commits tells last call reply now → Commits tells was call reply now
  commits_since made = commits_if (is_committed reply) (waits_of was) (subst (λ (j : Known C). Commits tells j call reply now) a.is made)

  pub after_since : HasAfter call reply last now → HasAfter call reply was now
  after_since h = subst (λ (j : Known C). HasAfter call reply j now) a.is h

module _ {C : Type 0} where
  -- no try, and one call's behind another's
  pub again_none : (was : Known C) → IsAgain was.found was was
  again_none was = record {
    more = [];
    tries = 0;
    is = let tries : was.tries ≡ was.tries + 0 = omega arith in λ i. tried (tries i) (with_locks was.holds (sym (append-nil was.met) i) was);
  }

  pub again_twice : (was last now : Known C) (m n : ℕ) → IsAgain m was last → IsAgain n last now → IsAgain n was now
  again_twice was last now m n a b = record {
    more = a.more ++ b.more;
    tries = a.tries + b.tries;
    is = b.is ∙ ap (λ (j : Known C). tried (j.tries + b.tries) (finds n (with_locks j.holds (j.met ++ b.more) j))) a.is
        ∙ (let tries : (was.tries + a.tries) + b.tries ≡ was.tries + (a.tries + b.tries) = omega arith in
        λ i. tried (tries i) (finds n (with_locks was.holds (append_assoc was.met a.more b.more i) was)));
  }
