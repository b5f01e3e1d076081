-- What a caller's own turns say of its transactions is true at the end of the run.
use Rattle.std.proofs.Common.{◌≡◌, ◌≢◌, ◌⊎◌, ◌||◌, ℕ, ◌+◌, ◌<◌, ◌≤◌, inl, inr, Bool, true, false, List, [], ◌∷◌, ◌++◌, length, map, Option, Some, None, refl, sym, ap, ◌∙◌, subst, arith, eq-eqb}
use Rattle.std.specs.Prelude.{IsTrue, All, nat_eq, unwrap_or, if◌then◌else◌}
use Rattle.std.specs.List.{fold}
use Rattle.std.specs.Option.{option_to_list}
use mathlib.Core.Logic.{dite}
use native.Mathlib.Decide.{ℕ_discrete, dec_le}
use Rattle.std.proofs.lemmas.Bool.{true≢false, cases_Bool, or_parts, or_right, cond-true, cond-false}
use Rattle.std.proofs.lemmas.Map.{update_here}
use Rattle.std.proofs.lemmas.List.{map-append}
use Rattle.std.proofs.lemmas.List.Elements.{All-nil, All-cons}
use Rattle.history.specs.Table.{Granted}
use Rattle.history.specs.declared.call.Call.{Call}
use Rattle.history.specs.declared.call.Call.TheVariants as call
use Rattle.history.specs.declared.call.Control.TheVariants as control
use Rattle.history.specs.declared.call.Reply.{Reply}
use Rattle.history.specs.declared.call.Reply.TheVariants.{Committed}
use Rattle.history.specs.declared.transaction.Done.{Done}
use Rattle.caller_steps.specs.State.{State, Offer, unoffered, offered, unsettled, calls_of, commits_of, view_of, done_by}
use Rattle.caller_steps.specs.Offers.{is_offered, is_unoffered, offerers, group_end, group_done, committed_group}
use Rattle.caller_steps.specs.Room.{Limits}
use Rattle.caller_steps.specs.Step.{Step}
use Rattle.caller_steps.specs.Fate.{is_refusal, is_media, is_committed, live_with, offer_with, Stays, EndsWith, Moves}
use Rattle.caller_steps.specs.Run.{Turn, Heard, Goes, GoesAlong, AreOf, turns_of}
use Rattle.caller_steps.specs.Own.{is_commit, number_of, Own, nothing_own, own_after, as_told, told_of, calls_among, live_in, mine_in, doubt_in, KnowsLive}
use Rattle.caller_steps.proofs.Offering.{offers_here, is_in, offerers_once, offerer_has, offerer_is, more_mine, more_theirs, group_history, group_mine, group_with, group_without, group_doubt, without_history, without_apart, without_ends}
use Rattle.caller_steps.proofs.Able.{able_closed}
use Rattle.caller_steps.proofs.Fates.{Fate, refused, failed, began, granted, committed, doubted, aborted, given, settled, unsure, told, purged, step_fate, refusal_none, answer_plain}
use Rattle.caller_steps.proofs.Running.{line_here, line_apart, none_beyond, turns_dead}

offered_none : offered ≡ unoffered → ⊥
offered_none e = true≢false (ap is_offered e)

unsettled_none : (n : ℕ) → unsettled n ≡ unoffered → ⊥
unsettled_none n e = true≢false (sym (ap is_unoffered e))

unsettled_open : (n : ℕ) → unsettled n ≡ offered → ⊥
unsettled_open n e = true≢false (sym (ap is_offered e))

is_none : (offer : Offer) → is_unoffered offer ≡ true → offer ≡ unoffered
is_none unoffered is = refl
is_none _ is = absurd (true≢false (sym is))

-- an offer that one call leaves
with_waits : (call : Call) → (is_offered (offer_with call) ≡ true) × (offer_with call ≡ offered) ⊎ (is_offered (offer_with call) ≡ false) × (offer_with call ≡ unoffered)
with_waits (call.Control control.Offer) = inl (refl, refl)
with_waits _ = inr (refl, refl)

module _ (caller : ℕ) (own : Own) (call : Call) (reply : Reply) where
  abbrev next : Own
  next = own_after caller own (call, reply)

  -- a refusal says nothing of the caller's transactions, and so does a fault in a call that commits nothing
  own_refused : is_refusal reply ≡ true → is_media reply ≡ false → next ≡ own
  own_refused refusal sure = λ i. record {
    live = (cond-false (is_media reply) (if is_commit call then None else own.live) (if is_refusal reply then own.live else live_with (unwrap_or own.live []) call reply) sure
        ∙ cond-true (is_refusal reply) own.live (live_with (unwrap_or own.live []) call reply) refusal) i;
    waits = (cond-false (is_media reply) (if is_commit call then false else own.waits) (if is_refusal reply then own.waits else is_offered (offer_with call)) sure
        ∙ cond-true (is_refusal reply) own.waits (is_offered (offer_with call)) refusal) i;
    mine = cond-false (is_committed reply) (own.mine ++ record { caller = caller; calls = unwrap_or own.live []; at = number_of reply; last = number_of reply } ∷ []) own.mine (refusal_none reply refusal) i;
    doubt = cond-false (is_media reply) (if is_commit call then Some (unwrap_or own.live []) else own.doubt) own.doubt sure i;
  }

  own_failed : is_media reply ≡ true → is_committed reply ≡ false → is_commit call ≡ false → next ≡ own
  own_failed media none apart = λ i. record {
    live = (cond-true (is_media reply) (if is_commit call then None else own.live) (if is_refusal reply then own.live else live_with (unwrap_or own.live []) call reply) media
        ∙ cond-false (is_commit call) None own.live apart) i;
    waits = (cond-true (is_media reply) (if is_commit call then false else own.waits) (if is_refusal reply then own.waits else is_offered (offer_with call)) media
        ∙ cond-false (is_commit call) false own.waits apart) i;
    mine = cond-false (is_committed reply) (own.mine ++ record { caller = caller; calls = unwrap_or own.live []; at = number_of reply; last = number_of reply } ∷ []) own.mine none i;
    doubt = (cond-true (is_media reply) (if is_commit call then Some (unwrap_or own.live []) else own.doubt) own.doubt media
        ∙ cond-false (is_commit call) (Some (unwrap_or own.live [])) own.doubt apart) i;
  }

  -- what a call that was done leaves
  done_live : is_media reply ≡ false → is_refusal reply ≡ false → next.live ≡ live_with (unwrap_or own.live []) call reply
  done_live sure done = cond-false (is_media reply) (if is_commit call then None else own.live) (if is_refusal reply then own.live else live_with (unwrap_or own.live []) call reply) sure
      ∙ cond-false (is_refusal reply) own.live (live_with (unwrap_or own.live []) call reply) done

  done_waits : is_media reply ≡ false → is_refusal reply ≡ false → next.waits ≡ is_offered (offer_with call)
  done_waits sure done = cond-false (is_media reply) (if is_commit call then false else own.waits) (if is_refusal reply then own.waits else is_offered (offer_with call)) sure
      ∙ cond-false (is_refusal reply) own.waits (is_offered (offer_with call)) done

  same_mine : is_committed reply ≡ false → next.mine ≡ own.mine
  same_mine none = cond-false (is_committed reply) (own.mine ++ record { caller = caller; calls = unwrap_or own.live []; at = number_of reply; last = number_of reply } ∷ []) own.mine none

  more_own : is_committed reply ≡ true → next.mine ≡ own.mine ++ record { caller = caller; calls = unwrap_or own.live []; at = number_of reply; last = number_of reply } ∷ []
  more_own is = cond-true (is_committed reply) (own.mine ++ record { caller = caller; calls = unwrap_or own.live []; at = number_of reply; last = number_of reply } ∷ []) own.mine is

  same_doubt : is_media reply ≡ false → next.doubt ≡ own.doubt
  same_doubt sure = cond-false (is_media reply) (if is_commit call then Some (unwrap_or own.live []) else own.doubt) own.doubt sure

  -- what a fault of the medium leaves in a commit or a settle
  lost_live : is_media reply ≡ true → is_commit call ≡ true → next.live ≡ None
  lost_live media is = cond-true (is_media reply) (if is_commit call then None else own.live) (if is_refusal reply then own.live else live_with (unwrap_or own.live []) call reply) media
      ∙ cond-true (is_commit call) None own.live is

  lost_waits : is_media reply ≡ true → is_commit call ≡ true → next.waits ≡ false
  lost_waits media is = cond-true (is_media reply) (if is_commit call then false else own.waits) (if is_refusal reply then own.waits else is_offered (offer_with call)) media
      ∙ cond-true (is_commit call) false own.waits is

  lost_doubt : is_media reply ≡ true → is_commit call ≡ true → next.doubt ≡ Some (unwrap_or own.live [])
  lost_doubt media is = cond-true (is_media reply) (if is_commit call then Some (unwrap_or own.live []) else own.doubt) own.doubt media
      ∙ cond-true (is_commit call) (Some (unwrap_or own.live [])) own.doubt is

-- ---- what is live

-- one that does not wait
live_open : (own : Own) (offer : Offer) → own.waits ≡ false → offer ≡ unoffered → live_in own offer ≡ own.live
live_open own offer waits is = ap (live_in own) is ∙ cond-false own.waits None own.live waits

module _ (limits : Limits) (old : State) (caller : ℕ) (new : State) (own : Own) where
  -- while the medium has not failed, one that has offered nothing does not wait, and one that has offered does
  not_waiting : old.is_dead ≡ false → KnowsLive caller own old → old.offers caller ≡ unoffered → own.waits ≡ false
  not_waiting alive was un = elim (cases_Bool own.waits) [
    | inl waits ↦ absurd (was.some waits alive un)
    | inr idle ↦ idle
  ]

  waiting : KnowsLive caller own old → is_unoffered (old.offers caller) ≡ false → own.waits ≡ true
  waiting was has = elim (cases_Bool own.waits) [
    | inl waits ↦ waits
    | inr idle ↦ absurd (true≢false (sym (ap is_unoffered (was.none idle)) ∙ has))
  ]

  live_stays : new.live caller ≡ old.live caller → new.offers caller ≡ old.offers caller → (own.waits ≡ true → new.is_dead ≡ false → old.is_dead ≡ false) → KnowsLive caller own old → KnowsLive caller own new
  live_stays l o alive was = record {
    live = l ∙ was.live ∙ ap (live_in own) (sym o);
    none = λ idle. o ∙ was.none idle;
    some = λ waits living un. was.some waits (alive waits living) (sym o ∙ un);
  }

  -- its transaction has ended, and it has offered nothing
  live_ended : new.live caller ≡ None → new.offers caller ≡ unoffered → own.live ≡ None → own.waits ≡ false → KnowsLive caller own new
  live_ended l o none idle = record {
    live = l ∙ sym (live_open own (new.offers caller) idle o ∙ none);
    none = λ _. o;
    some = λ waits. absurd (true≢false (sym waits ∙ idle));
  }

module _ (limits : Limits) (old : State) (caller : ℕ) (new : State) (own : Own) (call : Call) (reply : Reply) where
  abbrev upon : Own
  upon = own_after caller own (call, reply)

  -- a call that was done
  live_done : old.is_dead ≡ false → Moves limits.callers old caller call reply new → is_media reply ≡ false → is_refusal reply ≡ false → KnowsLive caller own old → KnowsLive caller upon new
  live_done alive moves sure done was = go (with_waits call)
    where
      calls_alike : live_with (calls_of old caller) call reply ≡ live_with (unwrap_or own.live []) call reply
      calls_alike = elim (cases_Bool (is_unoffered (old.offers caller))) [
        | inl un ↦ (
            let none = is_none (old.offers caller) un in
            ap (λ (o : Option Granted). live_with (unwrap_or o []) call reply) (was.live ∙ live_open own (old.offers caller) (not_waiting limits old caller new own alive was none) none))
        | inr gate ↦ (let settles = able_closed old caller call gate (moves.able done) in
            ap (λ (c : Call). live_with (calls_of old caller) c reply) settles ∙ sym (ap (λ (c : Call). live_with (unwrap_or own.live []) c reply) settles))
      ]

      live_is : new.live caller ≡ upon.live
      live_is = (moves.own done).0 ∙ calls_alike ∙ sym (done_live caller own call reply sure done)

      go : (is_offered (offer_with call) ≡ true) × (offer_with call ≡ offered) ⊎ (is_offered (offer_with call) ≡ false) × (offer_with call ≡ unoffered) → KnowsLive caller upon new
      go (inl has) =
          let waits : upon.waits ≡ true = done_waits caller own call reply sure done ∙ has.0 in
          let offer : new.offers caller ≡ offered = (moves.own done).1 ∙ has.1 in
          record {
            live = live_is ∙ sym (ap (live_in upon) offer);
            none = λ idle. absurd (true≢false (sym waits ∙ idle));
            some = λ _ _ un. offered_none (sym offer ∙ un);
          }
      go (inr un) =
          let idle : upon.waits ≡ false = done_waits caller own call reply sure done ∙ un.0 in
          let offer : new.offers caller ≡ unoffered = (moves.own done).1 ∙ un.1 in
          record {
            live = live_is ∙ sym (live_open upon (new.offers caller) idle offer);
            none = λ _. offer;
            some = λ waits. absurd (true≢false (sym waits ∙ idle));
          }

  -- a fault of the medium, in a core that tells its records
  live_faulted : is_media reply ≡ true → Fate limits.callers old caller call reply new → KnowsLive caller own old → KnowsLive caller upon new
  live_faulted media (refused refusal sure index e) was = absurd (true≢false (sym media ∙ sure))
  live_faulted media (failed apart r index e) was = subst (λ (o : Own). KnowsLive caller o new) (sym (own_failed caller own call reply media (ap is_committed r) apart))
      (live_stays limits old caller new own (ap (λ (s : State). s.live caller) e) (ap (λ (s : State). s.offers caller) e) (λ _ living. absurd (true≢false (sym (ap (λ (s : State). s.is_dead) e) ∙ living))) was)
  live_faulted media (began un l c r e) was = absurd (true≢false (sym media ∙ ap is_media r))
  live_faulted media (granted asked calls un c l free answers index e) was = absurd (true≢false (sym media ∙ (answer_plain _ asked reply answers).sure))
  live_faulted media (committed calls un c r l index e) was = absurd (true≢false (sym media ∙ ap is_media r))
  live_faulted media (doubted calls un c r l index e) was = live_ended limits old caller new upon
      (ap (λ (s : State). s.live caller) e ∙ update_here old.live caller None) (ap (λ (s : State). s.offers caller) e ∙ un)
      (lost_live caller own call reply media (ap is_commit c)) (lost_waits caller own call reply media (ap is_commit c))
  live_faulted media (aborted calls un c r l e) was = absurd (true≢false (sym media ∙ ap is_media r))
  live_faulted media (given calls un c r l e) was = absurd (true≢false (sym media ∙ ap is_media r))
  live_faulted media (settled inside has c r index e) was = absurd (true≢false (sym media ∙ ap is_media r))
  live_faulted media (unsure inside has c r index e) was =
      let at = without_ends old (offerers limits.callers old) caller (offerers_once limits.callers old) (offerer_is limits.callers old caller inside has) in
      live_ended limits old caller new upon (ap (λ (s : State). s.live caller) e ∙ at.live) (ap (λ (s : State). s.offers caller) e ∙ at.offer)
      (lost_live caller own call reply media (ap is_commit c)) (lost_waits caller own call reply media (ap is_commit c))
  live_faulted media (told n has c r e) was = absurd (true≢false (sym media ∙ ap is_media r))
  live_faulted media (purged n un l c r index e) was = absurd (true≢false (sym media ∙ ap is_media r))

  live_alive : (tells : Bool) (b r : Bool) → is_media reply ≡ b → is_refusal reply ≡ r → old.is_dead ≡ false → Goes tells limits old caller call reply new → IsTrue tells ⊎ (new.is_dead ≡ false) → KnowsLive caller own old → KnowsLive caller upon new
  live_alive tells true r media refusal alive goes (inl so) was = live_faulted media (step_fate limits old caller new call reply (goes.step so)) was
  live_alive tells true r media refusal alive goes (inr living) was = absurd (true≢false (sym media ∙ (or_parts old.is_dead (is_media reply) (sym goes.moves.dead ∙ living)).1))
  live_alive tells false true sure refusal alive goes _ was =
      let same = goes.moves.refused refusal sure in
      subst (λ (o : Own). KnowsLive caller o new) (sym (own_refused caller own call reply refusal sure))
      (live_stays limits old caller new own (ap (λ (f : ℕ → Option Granted). f caller) same.0) (ap (λ (f : ℕ → Offer). f caller) same.1) (λ _ _. alive) was)
  live_alive tells false false sure done alive goes _ was = live_done alive goes.moves sure done was

  -- What a call makes of its caller's live transaction: in a core that tells its records, or if the medium has not failed.
  pub live_goes : (tells : Bool) → Goes tells limits old caller call reply new → IsTrue tells ⊎ (new.is_dead ≡ false) → KnowsLive caller own old → KnowsLive caller upon new
  live_goes tells goes sure was = elim (cases_Bool old.is_dead) [
    | inl dead ↦ (
        let still = goes.dead dead in
        subst (λ (o : Own). KnowsLive caller o new) (sym (own_refused caller own call reply (ap is_refusal still.0) (ap is_media still.0))) (subst (λ (s : State). KnowsLive caller own s) (sym still.1) was))
    | inr alive ↦ live_alive tells (is_media reply) (is_refusal reply) refl refl alive goes sure was
  ]

-- what another's call makes of it
module _ (limits : Limits) (old : State) (caller : ℕ) (new : State) (own : Own) (turn : Turn) (apart : caller ≢ turn.0) where
  live_others : old.is_dead ≡ false → Moves limits.callers old turn.0 turn.1 turn.2 new → KnowsLive caller own old
      → Stays old new caller ⊎ EndsWith limits.callers old turn.0 turn.1 turn.2 new caller → KnowsLive caller own new
  live_others alive moves was (inl stays) = live_stays limits old caller new own stays.live stays.offer (λ _ _. alive) was
  live_others alive moves was (inr ends) = elim (cases_Bool (is_media turn.2)) [
    | inl media ↦ (
        let offer : new.offers caller ≡ unoffered = ends.offer ∙ cond-true (is_media turn.2) unoffered (unsettled (group_done old (offerers limits.callers old) caller).at) media in
        record {
          live = ends.live ∙ sym (ap (live_in own) offer ∙ cond-true own.waits None own.live waits);
          none = λ idle. absurd (true≢false (sym waits ∙ idle));
          some = λ _ living. absurd (true≢false (sym (moves.dead ∙ or_right old.is_dead (is_media turn.2) media) ∙ living));
        })
    | inr sure ↦ (
        let offer : new.offers caller ≡ unsettled (group_done old (offerers limits.callers old) caller).at = ends.offer ∙ cond-false (is_media turn.2) unoffered (unsettled (group_done old (offerers limits.callers old) caller).at) sure in
        record {
          live = ends.live ∙ sym (ap (live_in own) offer);
          none = λ idle. absurd (true≢false (sym waits ∙ idle));
          some = λ _ _ un. unsettled_none (group_done old (offerers limits.callers old) caller).at (sym offer ∙ un);
        })
  ]
    where
      waits : own.waits ≡ true
      waits = waiting limits old caller new own was (ap is_unoffered ends.its)

  pub live_other : (tells : Bool) → Goes tells limits old turn.0 turn.1 turn.2 new → KnowsLive caller own old → KnowsLive caller own new
  live_other tells goes was = elim (cases_Bool old.is_dead) [
    | inl dead ↦ subst (λ (s : State). KnowsLive caller own s) (sym (goes.dead dead).1) was
    | inr alive ↦ live_others alive goes.moves was (goes.moves.others caller apart)
  ]

-- ---- what is committed

-- what is told of a caller's transactions, where there is one more
told_mine : (caller : ℕ) (history : List Done) (done : Done) → done.caller ≡ caller → told_of caller (history ++ done ∷ []) ≡ told_of caller history ++ as_told done ∷ []
told_mine caller history done is = ap (map as_told) (more_mine caller history done is) ∙ map-append as_told (commits_of caller history) (done ∷ [])

module _ (limits : Limits) (old : State) (caller : ℕ) (new : State) (own : Own) (call : Call) (reply : Reply) (alive : old.is_dead ≡ false) (was : KnowsLive caller own old) where
  abbrev after : Own
  after = own_after caller own (call, reply)

  abbrev os : List ℕ
  os = offerers limits.callers old

  -- its calls, while it has offered nothing, and once it has
  own_calls : old.offers caller ≡ unoffered → calls_of old caller ≡ unwrap_or own.live []
  own_calls un = ap (λ (o : Option Granted). unwrap_or o []) (was.live ∙ live_open own (old.offers caller) (not_waiting limits old caller new own alive was un) un)

  offered_calls : old.offers caller ≡ offered → calls_of old caller ≡ unwrap_or own.live []
  offered_calls has = ap (λ (o : Option Granted). unwrap_or o []) (was.live ∙ ap (live_in own) has)

  -- nothing more was committed
  mine_same : new.history ≡ old.history → is_committed reply ≡ false → told_of caller old.history ≡ own.mine → mine_in caller after (new.offers caller) ≡ after.mine → told_of caller new.history ≡ mine_in caller after (new.offers caller)
  mine_same h none mine closed = ap (told_of caller) h ∙ mine ∙ sym (same_mine caller own call reply none) ∙ sym closed

  -- What its own call makes of those that a caller has committed.
  mine_own : (fate : Fate limits.callers old caller call reply new) → told_of caller old.history ≡ mine_in caller own (old.offers caller) → told_of caller new.history ≡ mine_in caller after (new.offers caller)
  mine_own (refused refusal sure index e) mine = ap (λ (s : State). told_of caller s.history) e ∙ mine ∙ (λ i. mine_in caller (sym (own_refused caller own call reply refusal sure) i) (sym (ap (λ (s : State). s.offers caller) e) i))
  mine_own (failed apart r index e) mine = ap (λ (s : State). told_of caller s.history) e ∙ mine ∙ (λ i. mine_in caller (sym (own_failed caller own call reply (ap is_media r) (ap is_committed r) apart) i) (sym (ap (λ (s : State). s.offers caller) e) i))
  mine_own (began un l c r e) mine = mine_same (ap (λ (s : State). s.history) e) (ap is_committed r) (mine ∙ ap (mine_in caller own) un) (ap (mine_in caller after) (ap (λ (s : State). s.offers caller) e ∙ un))
  mine_own (granted asked calls un c l free answers index e) mine =
      mine_same (ap (λ (s : State). s.history) e) (answer_plain _ asked reply answers).uncommitted (mine ∙ ap (mine_in caller own) un) (ap (mine_in caller after) (ap (λ (s : State). s.offers caller) e ∙ un))
  mine_own (committed calls un c r l index e) mine =
      ap (λ (s : State). told_of caller s.history) e ∙ told_mine caller old.history (done_by old caller calls) refl
      ∙ (λ i. (mine ∙ ap (mine_in caller own) un) i ++ record { caller = caller; calls = (ap (λ (o : Option Granted). unwrap_or o []) (sym l) ∙ own_calls un) i; at = sym (ap number_of r) i; last = sym (ap number_of r) i } ∷ [])
      ∙ sym (more_own caller own call reply (ap is_committed r)) ∙ sym (ap (mine_in caller after) (ap (λ (s : State). s.offers caller) e ∙ un))
  mine_own (doubted calls un c r l index e) mine = mine_same (ap (λ (s : State). s.history) e) (ap is_committed r) (mine ∙ ap (mine_in caller own) un) (ap (mine_in caller after) (ap (λ (s : State). s.offers caller) e ∙ un))
  mine_own (aborted calls un c r l e) mine = mine_same (ap (λ (s : State). s.history) e) (ap is_committed r) (mine ∙ ap (mine_in caller own) un) (ap (mine_in caller after) (ap (λ (s : State). s.offers caller) e ∙ un))
  mine_own (given calls un c r l e) mine =
      mine_same (ap (λ (s : State). s.history) e) (ap is_committed r) (mine ∙ ap (mine_in caller own) un) (ap (mine_in caller after) (ap (λ (s : State). s.offers caller) e ∙ offers_here old.offers caller offered))
  mine_own (settled inside has c r index e) mine =
      ap (λ (s : State). told_of caller s.history) e ∙ ap (told_of caller) (group_history old (group_end old os) os)
      ∙ ap (map as_told) (group_mine old (group_end old os) os caller
      ∙ ap (λ (l : List Done). commits_of caller old.history ++ l) (group_with old (group_end old os) os caller (offerers_once limits.callers old) (offerer_is limits.callers old caller inside has)))
      ∙ map-append as_told (commits_of caller old.history) (group_done old os caller ∷ [])
      ∙ (λ i. (mine ∙ ap (mine_in caller own) has) i ++ record { caller = caller; calls = offered_calls has i; at = sym (ap number_of r) i; last = sym (ap number_of r) i } ∷ [])
      ∙ sym (more_own caller own call reply (ap is_committed r)) ∙ sym (ap (mine_in caller after) (ap (λ (s : State). s.offers caller) e ∙ offers_here (committed_group old os).offers caller unoffered))
  mine_own (unsure inside has c r index e) mine =
      let at = without_ends old os caller (offerers_once limits.callers old) (offerer_is limits.callers old caller inside has) in
      mine_same (ap (λ (s : State). s.history) e ∙ without_history old os) (ap is_committed r) (mine ∙ ap (mine_in caller own) has) (ap (mine_in caller after) (ap (λ (s : State). s.offers caller) e ∙ at.offer))
  mine_own (told n has c r e) mine =
      ap (λ (s : State). told_of caller s.history) e ∙ mine ∙ ap (mine_in caller own) has
      ∙ (λ i. own.mine ++ record { caller = caller; calls = unwrap_or own.live []; at = sym (ap number_of r) i; last = sym (ap number_of r) i } ∷ [])
      ∙ sym (more_own caller own call reply (ap is_committed r)) ∙ sym (ap (mine_in caller after) (ap (λ (s : State). s.offers caller) e ∙ offers_here old.offers caller unoffered))
  mine_own (purged n un l c r index e) mine = mine_same (ap (λ (s : State). s.history) e) (ap is_committed r) (mine ∙ ap (mine_in caller own) un) (ap (mine_in caller after) (ap (λ (s : State). s.offers caller) e ∙ un))

-- and what another's call makes of them
mine_other : (limits : Limits) (old : State) (caller : ℕ) (new : State) (own : Own) (turn : Turn) → KnowsLive caller own old
    → Stays old new caller ⊎ EndsWith limits.callers old turn.0 turn.1 turn.2 new caller
    → told_of caller old.history ≡ mine_in caller own (old.offers caller) → told_of caller new.history ≡ mine_in caller own (new.offers caller)
mine_other limits old caller new own turn was (inl stays) mine = ap (map as_told) stays.mine ∙ mine ∙ ap (mine_in caller own) (sym stays.offer)
mine_other limits old caller new own turn was (inr ends) mine = go (is_media turn.2) refl
  where
    go : (b : Bool) → is_media turn.2 ≡ b → told_of caller new.history ≡ mine_in caller own (new.offers caller)
    go true media = ap (map as_told) (ends.mine ∙ cond-true (is_media turn.2) (commits_of caller old.history) (commits_of caller old.history ++ (group_done old (offerers limits.callers old) caller) ∷ []) media) ∙ mine
        ∙ ap (mine_in caller own) ends.its ∙ sym (ap (mine_in caller own) (ends.offer ∙ cond-true (is_media turn.2) unoffered (unsettled (group_done old (offerers limits.callers old) caller).at) media))
    go false sure =
        ap (map as_told) (ends.mine ∙ cond-false (is_media turn.2) (commits_of caller old.history) (commits_of caller old.history ++ (group_done old (offerers limits.callers old) caller) ∷ []) sure)
        ∙ map-append as_told (commits_of caller old.history) ((group_done old (offerers limits.callers old) caller) ∷ [])
        ∙ (λ i. (mine ∙ ap (mine_in caller own) ends.its) i ++ record { caller = caller; calls = unwrap_or ((was.live ∙ ap (live_in own) ends.its) i) []; at = (group_done old (offerers limits.callers old) caller).at; last = (group_done old (offerers limits.callers old) caller).at } ∷ [])
        ∙ sym (ap (mine_in caller own) (ends.offer ∙ cond-false (is_media turn.2) unoffered (unsettled (group_done old (offerers limits.callers old) caller).at) sure))

-- ---- what is in doubt

-- while the medium has not failed it is what the caller's own turns say
doubt_open : (caller : ℕ) (own : Own) (state : State) → state.is_dead ≡ false → KnowsLive caller own state → doubt_in own (state.offers caller) ≡ option_to_list own.doubt
doubt_open caller own state alive knows = go (state.offers caller) refl
  where
    go : (offer : Offer) → state.offers caller ≡ offer → doubt_in own offer ≡ option_to_list own.doubt
    go unoffered un = elim (cases_Bool own.waits) [
      | inl waits ↦ absurd (knows.some waits alive un)
      | inr idle ↦ cond-false own.waits (unwrap_or own.live [] ∷ []) (option_to_list own.doubt) idle
    ]
    go offered has = refl
    go (unsettled n) has = refl

-- it does not wait, and has offered nothing
doubt_idle : (own : Own) (offer : Offer) → own.waits ≡ false → offer ≡ unoffered → doubt_in own offer ≡ option_to_list own.doubt
doubt_idle own offer idle un = ap (doubt_in own) un ∙ cond-false own.waits (unwrap_or own.live [] ∷ []) (option_to_list own.doubt) idle

one_calls : (caller : ℕ) (done : Done) → done.caller ≡ caller → calls_among caller (done ∷ []) ≡ done.calls ∷ []
one_calls caller done is = ap (map (λ (done : Done). done.calls)) (more_mine caller [] done is)

none_calls : (caller : ℕ) (done : Done) → done.caller ≢ caller → calls_among caller (done ∷ []) ≡ []
none_calls caller done ne = ap (map (λ (done : Done). done.calls)) (more_theirs caller [] done ne)

-- without a fault nothing more is in doubt
sure_same : (limits : Limits) (old : State) (caller : ℕ) (new : State) (call : Call) (reply : Reply) → is_media reply ≡ false → Fate limits.callers old caller call reply new → new.doubt ≡ old.doubt
sure_same limits old caller new call reply sure (refused refusal none index e) = ap (λ (s : State). s.doubt) e
sure_same limits old caller new call reply sure (failed apart r index e) = ap (λ (s : State). s.doubt) e
sure_same limits old caller new call reply sure (began un l c r e) = ap (λ (s : State). s.doubt) e
sure_same limits old caller new call reply sure (granted asked calls un c l free answers index e) = ap (λ (s : State). s.doubt) e
sure_same limits old caller new call reply sure (committed calls un c r l index e) = ap (λ (s : State). s.doubt) e
sure_same limits old caller new call reply sure (doubted calls un c r l index e) = absurd (true≢false (sym (ap is_media r) ∙ sure))
sure_same limits old caller new call reply sure (aborted calls un c r l e) = ap (λ (s : State). s.doubt) e
sure_same limits old caller new call reply sure (given calls un c r l e) = ap (λ (s : State). s.doubt) e
sure_same limits old caller new call reply sure (settled inside has c r index e) = ap (λ (s : State). s.doubt) e ∙ group_doubt old (group_end old (offerers limits.callers old)) (offerers limits.callers old)
sure_same limits old caller new call reply sure (unsure inside has c r index e) = absurd (true≢false (sym (ap is_media r) ∙ sure))
sure_same limits old caller new call reply sure (told n has c r e) = ap (λ (s : State). s.doubt) e
sure_same limits old caller new call reply sure (purged n un l c r index e) = ap (λ (s : State). s.doubt) e

module _ (limits : Limits) (old : State) (caller : ℕ) (new : State) (own : Own) (alive : old.is_dead ≡ false) (certain : old.doubt ≡ []) (was : KnowsLive caller own old) (doubt : calls_among caller old.doubt ≡ doubt_in own (old.offers caller)) where
  nothing : option_to_list own.doubt ≡ []
  nothing = sym (doubt_open caller own old alive was) ∙ sym doubt ∙ ap (calls_among caller) certain

  -- its own call
  doubt_own : (call : Call) (reply : Reply) → is_media reply ≡ true → Fate limits.callers old caller call reply new → calls_among caller new.doubt ≡ doubt_in (own_after caller own (call, reply)) (new.offers caller)
  doubt_own call reply media (refused refusal sure index e) = absurd (true≢false (sym media ∙ sure))
  doubt_own call reply media (failed apart r index e) =
      ap (λ (s : State). calls_among caller s.doubt) e ∙ doubt ∙ (λ i. doubt_in (sym (own_failed caller own call reply media (ap is_committed r) apart) i) (sym (ap (λ (s : State). s.offers caller) e) i))
  doubt_own call reply media (began un l c r e) = absurd (true≢false (sym media ∙ ap is_media r))
  doubt_own call reply media (granted asked calls un c l free answers index e) = absurd (true≢false (sym media ∙ (answer_plain _ asked reply answers).sure))
  doubt_own call reply media (committed calls un c r l index e) = absurd (true≢false (sym media ∙ ap is_media r))
  doubt_own call reply media (doubted calls un c r l index e) =
      ap (λ (s : State). calls_among caller s.doubt) e ∙ one_calls caller (done_by old caller calls) refl
      ∙ (λ i. (ap (λ (o : Option Granted). unwrap_or o []) (sym l) ∙ own_calls limits old caller new own call reply alive was un) i ∷ [])
      ∙ ap option_to_list (sym (lost_doubt caller own call reply media (ap is_commit c)))
      ∙ sym (doubt_idle (own_after caller own (call, reply)) (new.offers caller) (lost_waits caller own call reply media (ap is_commit c)) (ap (λ (s : State). s.offers caller) e ∙ un))
  doubt_own call reply media (aborted calls un c r l e) = absurd (true≢false (sym media ∙ ap is_media r))
  doubt_own call reply media (given calls un c r l e) = absurd (true≢false (sym media ∙ ap is_media r))
  doubt_own call reply media (settled inside has c r index e) = absurd (true≢false (sym media ∙ ap is_media r))
  doubt_own call reply media (unsure inside has c r index e) =
      let group = offerers limits.callers old in
      let is = offerer_is limits.callers old caller inside has in
      let at = without_ends old group caller (offerers_once limits.callers old) is in
      ap (λ (s : State). calls_among caller s.doubt) e ∙ ap (map (λ (done : Done). done.calls)) (group_with old (group_end old group) group caller (offerers_once limits.callers old) is)
      ∙ (λ i. offered_calls limits old caller new own call reply alive was has i ∷ [])
      ∙ ap option_to_list (sym (lost_doubt caller own call reply media (ap is_commit c)))
      ∙ sym (doubt_idle (own_after caller own (call, reply)) (new.offers caller) (lost_waits caller own call reply media (ap is_commit c)) (ap (λ (s : State). s.offers caller) e ∙ at.offer))
  doubt_own call reply media (told n has c r e) = absurd (true≢false (sym media ∙ ap is_media r))
  doubt_own call reply media (purged n un l c r index e) = absurd (true≢false (sym media ∙ ap is_media r))

  -- its offer stays, and what is in doubt is none of its
  theirs : calls_among caller new.doubt ≡ [] → new.offers caller ≡ old.offers caller → calls_among caller new.doubt ≡ doubt_in own (new.offers caller)
  theirs none o = none ∙ sym nothing ∙ sym (doubt_open caller own old alive was) ∙ ap (doubt_in own) (sym o)

  -- another's call
  doubt_other : (turn : Turn) → caller ≢ turn.0 → is_media turn.2 ≡ true → Fate limits.callers old turn.0 turn.1 turn.2 new → calls_among caller new.doubt ≡ doubt_in own (new.offers caller)
  doubt_other turn ne media (refused refusal sure index e) = absurd (true≢false (sym media ∙ sure))
  doubt_other turn ne media (failed apart r index e) = ap (λ (s : State). calls_among caller s.doubt) e ∙ doubt ∙ ap (doubt_in own) (sym (ap (λ (s : State). s.offers caller) e))
  doubt_other turn ne media (began un l c r e) = absurd (true≢false (sym media ∙ ap is_media r))
  doubt_other turn ne media (granted asked calls un c l free answers index e) = absurd (true≢false (sym media ∙ (answer_plain _ asked turn.2 answers).sure))
  doubt_other turn ne media (committed calls un c r l index e) = absurd (true≢false (sym media ∙ ap is_media r))
  doubt_other turn ne media (doubted calls un c r l index e) =
      theirs (ap (λ (s : State). calls_among caller s.doubt) e ∙ none_calls caller (done_by old turn.0 calls) (λ same. ne (sym same))) (ap (λ (s : State). s.offers caller) e)
  doubt_other turn ne media (aborted calls un c r l e) = absurd (true≢false (sym media ∙ ap is_media r))
  doubt_other turn ne media (given calls un c r l e) = absurd (true≢false (sym media ∙ ap is_media r))
  doubt_other turn ne media (settled inside has c r index e) = absurd (true≢false (sym media ∙ ap is_media r))
  doubt_other turn ne media (unsure inside has c r index e) = elim (cases_Bool (is_in caller (offerers limits.callers old))) [
    | inl is ↦ (
        let group = offerers limits.callers old in
        let its = offerer_has limits.callers old caller is in
        let at = without_ends old group caller (offerers_once limits.callers old) is in
        ap (λ (s : State). calls_among caller s.doubt) e ∙ ap (map (λ (done : Done). done.calls)) (group_with old (group_end old group) group caller (offerers_once limits.callers old) is)
        ∙ (λ i. unwrap_or ((was.live ∙ ap (live_in own) its) i) [] ∷ [])
        ∙ sym (ap (doubt_in own) (ap (λ (s : State). s.offers caller) e ∙ at.offer)
        ∙ cond-true own.waits (unwrap_or own.live [] ∷ []) (option_to_list own.doubt) (waiting limits old caller new own was (ap is_unoffered its))))
    | inr out ↦ (
        let group = offerers limits.callers old in
        let at = without_apart old group caller out in
        theirs (ap (λ (s : State). calls_among caller s.doubt) e ∙ ap (map (λ (done : Done). done.calls)) (group_without old (group_end old group) group caller out))
        (ap (λ (s : State). s.offers caller) e ∙ at.offer))
  ]
  doubt_other turn ne media (told n has c r e) = absurd (true≢false (sym media ∙ ap is_media r))
  doubt_other turn ne media (purged n un l c r index e) = absurd (true≢false (sym media ∙ ap is_media r))

-- ---- along a run

-- what a caller's own turns say of what it has committed, in a core that tells its records
pub record KnowsMine (caller : ℕ) (own : Own) (state : State) : Type 0 where
  pub live : KnowsLive caller own state
  pub mine : told_of caller state.history ≡ mine_in caller own (state.offers caller)

-- and of what is in doubt
pub record KnowsDoubt (caller : ℕ) (own : Own) (state : State) : Type 0 where
  pub certain : state.is_dead ≡ false → state.doubt ≡ []
  pub live : KnowsLive caller own state
  pub doubt : calls_among caller state.doubt ≡ doubt_in own (state.offers caller)

module _ (limits : Limits) (old : State) (caller : ℕ) (new : State) (own : Own) where
  -- a dead core stays as it is, and its replies say nothing of a transaction
  dead_own : (P : Own → State → Type 0) (call : Call) (reply : Reply) → Goes true limits old caller call reply new → old.is_dead ≡ true → P own old → P (own_after caller own (call, reply)) new
  dead_own P call reply goes dead was =
      let still = goes.dead dead in
      subst (λ (o : Own). P o new) (sym (own_refused caller own call reply (ap is_refusal still.0) (ap is_media still.0))) (subst (λ (s : State). P own s) (sym still.1) was)

  mine_goes : (call : Call) (reply : Reply) → Goes true limits old caller call reply new → KnowsMine caller own old → KnowsMine caller (own_after caller own (call, reply)) new
  mine_goes call reply goes was = elim (cases_Bool old.is_dead) [
    | inl dead ↦ dead_own (KnowsMine caller) call reply goes dead was
    | inr alive ↦ record {
      live = live_goes limits old caller new own call reply true goes (inl refl) was.live;
      mine = mine_own limits old caller new own call reply alive was.live (step_fate limits old caller new call reply (goes.step refl)) was.mine;
    }
  ]

  mine_others : (turn : Turn) → caller ≢ turn.0 → Goes true limits old turn.0 turn.1 turn.2 new → KnowsMine caller own old → KnowsMine caller own new
  mine_others turn ne goes was = record {
    live = live_other limits old caller new own turn ne true goes was.live;
    mine = mine_other limits old caller new own turn was.live (goes.moves.others caller ne) was.mine;
  }

  alive_after : (turn : Turn) → Goes true limits old turn.0 turn.1 turn.2 new → old.is_dead ≡ false → is_media turn.2 ≡ false → new.is_dead ≡ false
  alive_after turn goes alive sure = goes.moves.dead ∙ (λ i. alive i || sure i)

  certain_goes : (turn : Turn) → Goes true limits old turn.0 turn.1 turn.2 new → (old.is_dead ≡ false → old.doubt ≡ []) → new.is_dead ≡ false → new.doubt ≡ []
  certain_goes turn goes certain living =
      let both = or_parts old.is_dead (is_media turn.2) (sym goes.moves.dead ∙ living) in
      sure_same limits old turn.0 new turn.1 turn.2 both.1 (step_fate limits old turn.0 new turn.1 turn.2 (goes.step refl)) ∙ certain both.0

  doubt_goes : (call : Call) (reply : Reply) → Goes true limits old caller call reply new → KnowsDoubt caller own old → KnowsDoubt caller (own_after caller own (call, reply)) new
  doubt_goes call reply goes was = elim (cases_Bool old.is_dead) [
    | inl dead ↦ dead_own (KnowsDoubt caller) call reply goes dead was
    | inr alive ↦ (
        let fate = step_fate limits old caller new call reply (goes.step refl) in
        let live = live_goes limits old caller new own call reply true goes (inl refl) was.live in
        record {
          certain = certain_goes (caller, call, reply) goes was.certain;
          live = live;
          doubt = elim (cases_Bool (is_media reply)) [
            | inl media ↦ doubt_own limits old caller new own alive (was.certain alive) was.live was.doubt call reply media fate
            | inr sure ↦ (
                ap (calls_among caller) (sure_same limits old caller new call reply sure fate) ∙ was.doubt ∙ doubt_open caller own old alive was.live
                ∙ ap option_to_list (sym (same_doubt caller own call reply sure))
                ∙ sym (doubt_open caller (own_after caller own (call, reply)) new (alive_after (caller, call, reply) goes alive sure) live))
          ];
        })
  ]

  doubt_others : (turn : Turn) → caller ≢ turn.0 → Goes true limits old turn.0 turn.1 turn.2 new → KnowsDoubt caller own old → KnowsDoubt caller own new
  doubt_others turn ne goes was = elim (cases_Bool old.is_dead) [
    | inl dead ↦ subst (λ (s : State). KnowsDoubt caller own s) (sym (goes.dead dead).1) was
    | inr alive ↦ (
        let fate = step_fate limits old turn.0 new turn.1 turn.2 (goes.step refl) in
        let live = live_other limits old caller new own turn ne true goes was.live in
        record {
          certain = certain_goes turn goes was.certain;
          live = live;
          doubt = elim (cases_Bool (is_media turn.2)) [
            | inl media ↦ doubt_other limits old caller new own alive (was.certain alive) was.live was.doubt turn ne media fate
            | inr sure ↦ (
                ap (calls_among caller) (sure_same limits old turn.0 new turn.1 turn.2 sure fate) ∙ was.doubt ∙ doubt_open caller own old alive was.live
                ∙ sym (doubt_open caller own new (alive_after turn goes alive sure) live))
          ];
        })
  ]

module _ (tells : Bool) (limits : Limits) (caller : ℕ) where
  abbrev own_from : Own → List Turn → Own
  own_from own turns = fold (own_after caller) own (turns_of caller turns)

  same_line : (own : Own) (turn : Turn) (turns : List Turn) → turn.0 ≡ caller → own_from own (turn ∷ turns) ≡ own_from (own_after caller own (turn.1, turn.2)) turns
  same_line own turn turns is =
      ap (λ (l : Heard). fold (own_after caller) own l) (subst (λ (n : ℕ). turns_of n (turn ∷ turns) ≡ (turn.1, turn.2) ∷ turns_of n turns) is (line_here turn.0 turn.1 turn.2 turns))

  other_line : (own : Own) (turn : Turn) (turns : List Turn) → turn.0 ≢ caller → own_from own (turn ∷ turns) ≡ own_from own turns
  other_line own turn turns ne = ap (λ (l : Heard). fold (own_after caller) own l) (line_apart caller turn turns ne)

  alive_before : (first now : State) (turns : List Turn) → GoesAlong tells limits first turns now → now.is_dead ≡ false → first.is_dead ≡ false
  alive_before first now turns a alive = (or_parts first.is_dead _ (sym (turns_dead tells limits first now turns a) ∙ alive)).0

  sure_before : (first now : State) (turns : List Turn) → GoesAlong tells limits first turns now → IsTrue tells ⊎ (now.is_dead ≡ false) → IsTrue tells ⊎ (first.is_dead ≡ false)
  sure_before first now turns a (inl so) = inl so
  sure_before first now turns a (inr alive) = inr (alive_before first now turns a alive)

  -- The caller's live transaction: for a core that tells its records, or if the medium has not failed.
  pub turns_live : (first now : State) (turns : List Turn) (own : Own) → GoesAlong tells limits first turns now → IsTrue tells ⊎ (now.is_dead ≡ false) → KnowsLive caller own first → KnowsLive caller (own_from own turns) now
  turns_live first now [] own a sure was = subst (λ (s : State). KnowsLive caller own s) (sym a) was
  turns_live first now (turn ∷ turns) own a sure was = dite (ℕ_discrete turn.0 caller)
      (λ (same : turn.0 ≡ caller).
      let goes = subst (λ (n : ℕ). Goes tells limits first n turn.1 turn.2 a.0) same a.1 in
      let next = live_goes limits first caller a.0 own turn.1 turn.2 tells goes (sure_before a.0 now turns a.2 sure) was in
      subst (λ (o : Own). KnowsLive caller o now) (sym (same_line own turn turns same)) (turns_live a.0 now turns (own_after caller own (turn.1, turn.2)) a.2 sure next))
      (λ (ne : turn.0 ≢ caller).
      let next = live_other limits first caller a.0 own turn (λ e. ne (sym e)) tells a.1 was in
      subst (λ (o : Own). KnowsLive caller o now) (sym (other_line own turn turns ne)) (turns_live a.0 now turns own a.2 sure next))

-- What holds of what its own turns say, and stays so at each turn of its own and of others, holds at the end.
turns_hold : (P : Own → State → Type 0) (limits : Limits) (caller : ℕ)
    → ((old new : State) (own : Own) (call : Call) (reply : Reply) → Goes true limits old caller call reply new → P own old → P (own_after caller own (call, reply)) new)
    → ((old new : State) (own : Own) (turn : Turn) → caller ≢ turn.0 → Goes true limits old turn.0 turn.1 turn.2 new → P own old → P own new)
    → (first now : State) (turns : List Turn) (own : Own) → GoesAlong true limits first turns now → P own first → P (own_from true limits caller own turns) now
turns_hold P limits caller mine others first now [] own a was = subst (λ (s : State). P own s) (sym a) was
turns_hold P limits caller mine others first now (turn ∷ turns) own a was = dite (ℕ_discrete turn.0 caller)
    (λ (same : turn.0 ≡ caller).
    let goes = subst (λ (n : ℕ). Goes true limits first n turn.1 turn.2 a.0) same a.1 in
    subst (λ (o : Own). P o now) (sym (same_line true limits caller own turn turns same))
    (turns_hold P limits caller mine others a.0 now turns (own_after caller own (turn.1, turn.2)) a.2 (mine first a.0 own turn.1 turn.2 goes was)))
    (λ (ne : turn.0 ≢ caller).
    subst (λ (o : Own). P o now) (sym (other_line true limits caller own turn turns ne)) (turns_hold P limits caller mine others a.0 now turns own a.2 (others first a.0 own turn (λ e. ne (sym e)) a.1 was)))

-- Those that it has committed, for a core that tells its records,
pub turns_mine : (limits : Limits) (caller : ℕ) (first now : State) (turns : List Turn) (own : Own) → GoesAlong true limits first turns now → KnowsMine caller own first → KnowsMine caller (own_from true limits caller own turns) now
turns_mine limits caller first now turns own a was =
    turns_hold (KnowsMine caller) limits caller (λ old new own call reply goes was. mine_goes limits old caller new own call reply goes was) (λ old new own turn ne goes was. mine_others limits old caller new own turn ne goes was) first now turns own a was

-- and what is in doubt.
pub turns_doubt : (limits : Limits) (caller : ℕ) (first now : State) (turns : List Turn) (own : Own) → GoesAlong true limits first turns now → KnowsDoubt caller own first → KnowsDoubt caller (own_from true limits caller own turns) now
turns_doubt limits caller first now turns own a was =
    turns_hold (KnowsDoubt caller) limits caller (λ old new own call reply goes was. doubt_goes limits old caller new own call reply goes was) (λ old new own turn ne goes was. doubt_others limits old caller new own turn ne goes was) first now turns own a was

-- a caller without transactions
pub fresh_live : (caller : ℕ) (first : State) → first.live caller ≡ None → first.offers caller ≡ unoffered → KnowsLive caller nothing_own first
fresh_live caller first live offer = record {
  live = live ∙ sym (ap (live_in nothing_own) offer);
  none = λ _. offer;
  some = λ waits. absurd (true≢false (sym waits));
}

pub fresh_mine : (caller : ℕ) (first : State) → first.live caller ≡ None → first.offers caller ≡ unoffered → commits_of caller first.history ≡ [] → KnowsMine caller nothing_own first
fresh_mine caller first live offer mine = record { live = fresh_live caller first live offer; mine = ap (map as_told) mine ∙ sym (ap (mine_in caller nothing_own) offer) }

pub fresh_doubt : (caller : ℕ) (first : State) → first.live caller ≡ None → first.offers caller ≡ unoffered → first.doubt ≡ [] → KnowsDoubt caller nothing_own first
fresh_doubt caller first live offer certain = record { certain = λ _. certain; live = fresh_live caller first live offer; doubt = ap (calls_among caller) certain ∙ sym (ap (doubt_in nothing_own) offer) }

rest_none : (caller : ℕ) (done : Done) (doubt : List Done) → commits_of caller (done ∷ doubt) ≡ [] → commits_of caller doubt ≡ []
rest_none caller done doubt none = go (nat_eq done.caller caller) none
  where
    go : (b : Bool) → (if b then done ∷ commits_of caller doubt else commits_of caller doubt) ≡ [] → commits_of caller doubt ≡ []
    go true e = absurd (cc)
    go false e = e

some_mine : {X : Type 0} (done : Done) (doubt : List Done) → commits_of done.caller (done ∷ doubt) ≡ [] → X
some_mine done doubt none = (let e : done ∷ commits_of done.caller doubt ≡ [] =
    sym (ap (λ (b : Bool). if b then done ∷ commits_of done.caller doubt else commits_of done.caller doubt) (eq-eqb done.caller done.caller refl)) ∙ none in absurd (cc))

-- transactions of which no other caller has one are all of these callers
owners : (callers : ℕ) (doubt : List Done) → ((caller : ℕ) → callers ≤ caller → commits_of caller doubt ≡ []) → All (λ (done : Done). done.caller < callers) doubt
owners callers [] none = All-nil (λ (done : Done). done.caller < callers)
owners callers (done ∷ doubt) none = All-cons (λ (done : Done). done.caller < callers) done doubt
    (dite (dec_le callers done.caller) (λ (le : callers ≤ done.caller). some_mine done doubt (none done.caller le)) (λ (ge : ¬ (callers ≤ done.caller)). omega arith))
    (owners callers doubt (λ caller le. rest_none caller done doubt (none caller le)))

no_calls : (dones : List Done) → map (λ (done : Done). done.calls) dones ≡ [] → dones ≡ []
no_calls [] e = refl
no_calls (done ∷ dones) e = absurd (cc)

-- What is in doubt is of these callers.
pub turns_owner : (limits : Limits) (callers : ℕ) (first now : State) (turns : List Turn) → GoesAlong true limits first turns now → AreOf callers turns → ((caller : ℕ) → (first.live caller ≡ None) × (first.offers caller ≡ unoffered)) → first.doubt ≡ []
    → All (λ (done : Done). done.caller < callers) now.doubt
turns_owner limits callers first now turns a all free certain = owners callers now.doubt (λ caller le.
    let known = turns_doubt limits caller first now turns nothing_own a (fresh_doubt caller first (free caller).0 (free caller).1 certain) in
    let own : own_from true limits caller nothing_own turns ≡ nothing_own = ap (λ (l : Heard). fold (own_after caller) nothing_own l) (none_beyond callers caller turns all le) in
    let idle = subst (λ (o : Own). KnowsLive caller o now) own known.live in
    no_calls (commits_of caller now.doubt) (known.doubt ∙ ap (λ (o : Own). doubt_in o (now.offers caller)) own ∙ ap (doubt_in nothing_own) (idle.none refl)))

-- the reply to a commit has the next number
pub number_of_commit : (limits : Limits) (old : State) (caller : ℕ) (what : Call) (new : State) (reply : Reply) → (what ≡ call.Control control.Settle → ⊥) → Step limits old caller what reply new → is_committed reply ≡ true → reply ≡ Committed (length old.history + 1)
number_of_commit limits old caller what new reply plain step is = go (step_fate limits old caller new what reply step)
  where
    go : Fate limits.callers old caller what reply new → reply ≡ Committed (length old.history + 1)
    go (refused refusal sure index e) = absurd (true≢false (sym is ∙ refusal_none reply refusal))
    go (failed apart r index e) = absurd (true≢false (sym is ∙ ap is_committed r))
    go (began un l c r e) = absurd (true≢false (sym is ∙ ap is_committed r))
    go (granted asked calls un c l free answers index e) = absurd (true≢false (sym is ∙ (answer_plain (view_of old caller) asked reply answers).uncommitted))
    go (committed calls un c r l index e) = r
    go (doubted calls un c r l index e) = absurd (true≢false (sym is ∙ ap is_committed r))
    go (aborted calls un c r l e) = absurd (true≢false (sym is ∙ ap is_committed r))
    go (given calls un c r l e) = absurd (true≢false (sym is ∙ ap is_committed r))
    go (settled inside has c r index e) = absurd (plain c)
    go (unsure inside has c r index e) = absurd (plain c)
    go (told n has c r e) = absurd (plain c)
    go (purged n un l c r index e) = absurd (true≢false (sym is ∙ ap is_committed r))
