-- What a step says of its caller's own transactions: those that its pass has seen, and what it commits.
use Rattle.std.proofs.Common.{◌≡◌, ◌≢◌, ◌<◌, inl, inr, ℕ, ◌+◌, Bool, true, false, List, [], ◌∷◌, ◌++◌, length, refl, sym, ap, ◌∙◌, subst, arith, length-append}
use Rattle.std.specs.Prelude.{IsTrue, MatchBool, if◌then◌else◌}
use mathlib.Core.List.{append-nil}
use Rattle.std.proofs.lemmas.Bool.{true≢false, cond-true, cond-false}
use Rattle.history.specs.declared.call.Call.{Call}
use Rattle.history.specs.declared.call.Call.TheVariants.{Control}
use Rattle.history.specs.declared.call.Control.TheVariants.{Settle}
use Rattle.history.specs.declared.call.Reply.{Reply}
use Rattle.history.specs.declared.call.Reply.TheVariants.{Committed, Dead}
use Rattle.history.specs.declared.transaction.Done.{Done}
use Rattle.caller_steps.specs.State.{State, Offer, unoffered, offered, unsettled, calls_of, commits_of, done_by}
use Rattle.caller_steps.specs.Offers.{is_offered, is_unoffered, offerers, group_in, group_end, group_done}
use Rattle.caller_steps.specs.Fate.{is_refusal, is_committed, committed_by}
use Rattle.caller_steps.specs.Core.{CoreView, Steps}
use Rattle.caller_steps.specs.Run.{Turn, LastTurn}
use Rattle.caller_steps.specs.Own.{nothing_own, own_of, KnowsLive}
use Rattle.caller_steps.proofs.Able.{able_closed}
use Rattle.caller_steps.proofs.Fates.{step_fate, refusal_none}
use Rattle.caller_steps.proofs.Offering.{offerers_once, offerer_is, more_mine, group_with, group_mine}
use Rattle.caller_steps.proofs.Owning.{turns_live, fresh_live}
use Rattle.caller_steps.proofs.Running.{turn_run, turn_told}
use Rattle.mars_manager.specs.declared.view.Known.{Known}
use Rattle.mars_manager.specs.declared.setup.Setup.{Setup}
use Rattle.mars_manager.specs.Pass.{Fits, own_by, waits_of}
use Rattle.mars_manager.specs.Sharing.{CanShare, settled_of, done_of, mine_of, HasCommitted, HasSettled, SeesOwn, Commits}
use Rattle.mars_manager.specs.Rule.{Face, shown}
use Rattle.mars_manager.proofs.Waiting.{offered_closed, calls_open, calls_offered, offered_waits, Between, stayed, ended, lost, between, HasLast, knows_last, number_by, number_told}
use Rattle.mars_manager.proofs.Turns.{live_at}

-- any call but a settle commits its caller's transaction alone
committed_alone : (callers : ℕ) (old : State) (caller : ℕ) (call : Call) → call ≢ Control Settle → committed_by callers old caller call ≡ done_by old caller (calls_of old caller) ∷ []
committed_alone callers old caller (Control Settle) ne = absurd (ne refl)
committed_alone callers old caller _ ne = refl

-- and a settle what was offered
committed_offered : (callers : ℕ) (old : State) (caller : ℕ) (call : Call) (offer : Offer) → call ≡ Control Settle → old.offers caller ≡ offer
    → committed_by callers old caller call ≡ (if is_offered offer then group_in old (group_end old (offerers callers old)) (offerers callers old) else [])
committed_offered callers old caller call offer is has = ap (committed_by callers old caller) is ∙ ap (λ (o : Offer). if is_offered o then group_in old (group_end old (offerers callers old)) (offerers callers old) else []) has

module _ {C : Type 0} (tells : Bool) (show : C → CoreView) (setup : Setup C) (turns : List Turn) (state : State) (k : Known C)
    (turn : LastTurn tells (show setup.first).limits k.number k.past k.seen (show setup.first).state turns state) (can : CanShare tells setup.callers (show setup.first)) where
  abbrev caller : ℕ
  caller = k.number

  -- the state at the last turn of the pass
  abbrev mid : State
  mid = turn.mid

  mid_mine : mine_of k ≡ commits_of caller mid.history
  mid_mine = ap (commits_of caller) turn.shown

  mid_knows : mid.is_dead ≡ false → KnowsLive caller (own_by k) mid
  mid_knows alive = turns_live tells (show setup.first).limits caller (show setup.first).state mid k.past nothing_own turn.until (inr alive)
      (fresh_live caller (show setup.first).state (can.live caller) (can.offers caller))

  -- Its caller's own transactions are those that it has seen; or it waits, and another's settle has committed one more.
  pub data Seen : Type 0 where
    all_seen : commits_of caller state.history ≡ mine_of k → Seen
    one_unseen : waits_of k ≡ true → (at last : ℕ) → state.offers caller ≡ unsettled at → commits_of caller state.history ≡ mine_of k ++ settled_of k at last ∷ [] → Seen

  pub seen_own : Seen
  seen_own = go (between tells (show setup.first).limits caller mid state turn.after turn.since turn.none)
    where
      go : Between mid state caller → Seen
      go (stayed s) = all_seen (s.mine ∙ sym mid_mine)
      go (ended alive has at last is mine) =
          let knows = mid_knows alive in
          one_unseen (offered_waits caller (own_by k) mid knows has) at last is
          (mine ∙ (λ i. sym mid_mine i ++ record { caller = caller; calls = calls_offered caller (own_by k) mid knows has i; at = at; last = last } ∷ []))
      go (lost is mine) = all_seen (mine ∙ sym mid_mine)

  -- what a pass then sees that comes to this history
  pub sees : (now : Known C) → now.number ≡ k.number → commits_of caller now.seen ≡ commits_of caller state.history → SeesOwn k now
  sees now number same = go seen_own
    where
      mine : mine_of now ≡ commits_of caller state.history
      mine = ap (λ (n : ℕ). commits_of n now.seen) number ∙ same

      go : Seen → SeesOwn k now
      go (all_seen e) = inl (mine ∙ e)
      go (one_unseen waits at last is e) = inr (waits, at, last, mine ∙ e)

  last_own : state.is_dead ≡ false → HasLast caller (own_by k) state
  last_own alive = subst (λ (told : _). HasLast caller (own_of caller told) state) (sym (turn_told tells (show setup.first).limits caller k.past k.seen (show setup.first).state state turns turn))
      (knows_last tells (show setup.first).limits caller (show setup.first).state state turns
      (turn_run tells (show setup.first).limits caller k.past k.seen (show setup.first).state state turns turn)
      (fresh_live caller (show setup.first).state (can.live caller) (can.offers caller))
      (λ n is. absurd (true≢false (ap is_unoffered (sym (can.offers caller) ∙ is)))) alive)

module _ {C : Type 0} (f : Face C) (setup : Setup C) (turns : List Turn) (old new : C) (k : Known C) (call : Call) (reply : Reply) (fit : Fits f.tells f.show setup turns (f.show old).state k)
    (s : Steps f.tells k.number call (f.show old) (f.show new) reply) (dead : IsTrue (f.show old).state.is_dead → (reply ≡ Dead) × (new ≡ old)) (can : CanShare f.tells setup.callers (f.show setup.first))
    (inside : k.number < (f.show old).limits.callers) where
  abbrev n : ℕ
  n = k.number

  abbrev was : State
  was = (f.show old).state

  abbrev now : Known C
  now = shown f call reply turns new k

  abbrev callers : ℕ
  callers = (f.show old).limits.callers

  -- a commit is answered only while the medium has not failed
  alive_if : (b : Bool) → was.is_dead ≡ b → is_committed reply ≡ true → was.is_dead ≡ false
  alive_if true is committed = absurd (true≢false (sym committed ∙ ap is_committed (dead is).0))
  alive_if false is committed = is

  module _ (is : is_committed reply ≡ true) where
    alive : was.is_dead ≡ false
    alive = alive_if was.is_dead refl is

    knows : KnowsLive n (own_by k) was
    knows = live_at f setup turns old k can fit alive

    history_is : now.seen ≡ was.history ++ committed_by callers was n call
    history_is = s.moves.history ∙ cond-true (is_committed reply) (was.history ++ committed_by callers was n call) was.history is

    number_is : IsTrue f.tells → (offer : Offer) → was.offers n ≡ offer → reply ≡ Committed (number_by callers was n offer)
    number_is told offer has = number_told callers was n call reply (f.show new).state is (step_fate (f.show old).limits was n (f.show new).state call reply (s.step told)) ∙ ap (λ (o : Offer). Committed (number_by callers was n o)) has

    -- a pass that waits has been answered to its settle
    settles : (offer : Offer) → was.offers n ≡ offer → waits_of k ≡ true → is_unoffered offer ≡ false → call ≡ Control Settle
    settles offer has waits closed = able_closed was n call (ap is_unoffered has ∙ closed) (s.moves.able (done_if (is_refusal reply) refl))
      where
        done_if : (b : Bool) → is_refusal reply ≡ b → is_refusal reply ≡ false
        done_if true refusal = absurd (true≢false (sym is ∙ refusal_none reply refusal))
        done_if false done = done

    abbrev os : List ℕ
    os = offerers callers was

    abbrev its : Done
    its = group_done was os n

    -- All that were offered are committed now: this is one of them.
    settled_now : was.offers n ≡ offered → waits_of k ≡ true → HasSettled f.tells k reply now
    settled_now has waits = go (seen_own f.tells f.show setup turns was k fit.last can)
      where
        more : now.seen ≡ was.history ++ group_in was (group_end was os) os
        more = history_is ∙ ap (λ (l : List Done). was.history ++ l) (committed_offered callers was n call offered (settles offered has waits refl) has)

        mine : mine_of now ≡ commits_of n was.history ++ settled_of k its.at its.last ∷ []
        mine =
            ap (commits_of n) more ∙ group_mine was (group_end was os) os n
            ∙ ap (λ (l : List Done). commits_of n was.history ++ l) (group_with was (group_end was os) os n (offerers_once callers was) (offerer_is callers was n inside has))
            ∙ (λ i. commits_of n was.history ++ record { caller = n; calls = calls_offered n (own_by k) was knows has i; at = its.at; last = its.last } ∷ [])

        go : Seen f.tells f.show setup turns was k fit.last can → HasSettled f.tells k reply now
        go (all_seen e) = record {
          at = its.at;
          last = its.last;
          before = mine_of k;
          mine = mine ∙ ap (λ (l : List Done). l ++ settled_of k its.at its.last ∷ []) e;
          seen = inl refl;
          told = λ told. number_is told offered has;
        }
        go (one_unseen w at last un e) = absurd (offered_closed at (sym has ∙ un))

    -- A group has committed it before.
    settled_before : (m : ℕ) → was.offers n ≡ unsettled m → waits_of k ≡ true → HasSettled f.tells k reply now
    settled_before m has waits = go (seen_own f.tells f.show setup turns was k fit.last can)
      where
        same : now.seen ≡ was.history
        same = history_is ∙ ap (λ (l : List Done). was.history ++ l) (committed_offered callers was n call (unsettled m) (settles (unsettled m) has waits refl) has) ∙ append-nil was.history

        go : Seen f.tells f.show setup turns was k fit.last can → HasSettled f.tells k reply now
        go (all_seen e) =
            let last = last_own f.tells f.show setup turns was k fit.last can alive m has in record {
              at = m;
              last = last.1;
              before = last.0;
              mine = ap (commits_of n) same ∙ last.2;
              seen = inr (sym e ∙ ap (commits_of n) (sym same));
              told = λ told. number_is told (unsettled m) has;
            }
        go (one_unseen w at last un e) = record {
          at = at;
          last = last;
          before = mine_of k;
          mine = ap (commits_of n) same ∙ e;
          seen = inl refl;
          told = λ told. number_is told (unsettled at) un;
        }

    settled : waits_of k ≡ true → HasSettled f.tells k reply now
    settled waits = go (was.offers n) refl
      where
        go : (offer : Offer) → was.offers n ≡ offer → HasSettled f.tells k reply now
        go unoffered has = absurd (knows.some waits alive has)
        go offered has = settled_now has waits
        go (unsettled m) has = settled_before m has waits

    abbrev log : List Done
    log = was.history

    abbrev done : Done
    done = done_by was n (calls_of was n)

    committed : waits_of k ≡ false → call ≢ Control Settle → HasCommitted f.tells k reply now
    committed idle ne = go (seen_own f.tells f.show setup turns was k fit.last can)
      where
        seen : now.seen ≡ log ++ done ∷ []
        seen = history_is ∙ ap (λ (l : List Done). log ++ l) (committed_alone callers was n call ne)

        long : length log + 1 ≡ length now.seen
        long = omega (arith, ap length seen, length-append log (done ∷ []))

        same : done ≡ done_of k (length now.seen)
        same = (λ i. record { caller = n; calls = calls_open n (own_by k) was knows idle i; at = long i; last = long i })

        go : Seen f.tells f.show setup turns was k fit.last can → HasCommitted f.tells k reply now
        go (all_seen e) = record {
          before = log;
          seen = seen ∙ ap (λ (d : Done). log ++ d ∷ []) same;
          mine = ap (commits_of n) seen ∙ more_mine n log done refl ∙ (λ i. e i ++ same i ∷ []);
          told = λ told. number_is told unoffered (knows.none idle) ∙ ap Committed long;
        }
        go (one_unseen waits at last un e) = absurd (true≢false (sym waits ∙ idle))

    commits_if : (waits : Bool) → waits_of k ≡ waits → MatchBool waits (HasSettled f.tells k reply now) (call ≢ Control Settle → HasCommitted f.tells k reply now)
    commits_if true waits = settled waits
    commits_if false idle = committed idle

  commits_at : (b : Bool) → is_committed reply ≡ b → MatchBool b (MatchBool (waits_of k) (HasSettled f.tells k reply now) (call ≢ Control Settle → HasCommitted f.tells k reply now)) (SeesOwn k now)
  commits_at true is = commits_if is (waits_of k) refl
  commits_at false none = sees f.tells f.show setup turns was k fit.last can now refl (ap (commits_of n) (s.moves.history ∙ cond-false (is_committed reply) (was.history ++ committed_by callers was n call) was.history none))

  pub commits_on : Commits f.tells k call reply now
  commits_on = commits_at (is_committed reply) refl
