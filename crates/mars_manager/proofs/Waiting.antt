-- What becomes of a caller's transaction between its turns: one that waits for its settle may be ended by another's.
use Rattle.std.proofs.Common.{◌≡◌, ◌≢◌, ◌⊎◌, inl, inr, ℕ, ◌+◌, Bool, true, false, ◌&&◌, not, List, [], ◌∷◌, ◌++◌, length, Option, None, unwrap_or, refl, sym, ap, ◌∙◌, subst}
use Rattle.std.specs.Prelude.{is_some, if◌then◌else◌}
use Rattle.std.specs.List.{fold}
use mathlib.Core.Logic.{dite}
use native.Mathlib.Decide.{ℕ_discrete}
use Rattle.std.proofs.lemmas.Bool.{true≢false, false≢true, cases_Bool, and_parts, or_parts, cond-true, cond-false}
use Rattle.history.specs.Table.{Granted}
use Rattle.history.specs.declared.call.Call.{Call}
use Rattle.history.specs.declared.call.Call.TheVariants.{Control}
use Rattle.history.specs.declared.call.Control.TheVariants as control
use Rattle.history.specs.declared.call.Reply.{Reply}
use Rattle.history.specs.declared.call.Reply.TheVariants.{Committed}
use Rattle.history.specs.declared.transaction.Done.{Done}
use Rattle.caller_steps.specs.State.{State, Offer, unoffered, offered, unsettled, calls_of, commits_of}
use Rattle.caller_steps.specs.Offers.{is_offered, is_unoffered, offerers, number_among, group_done, takes_calls}
use Rattle.caller_steps.specs.Room.{Limits}
use Rattle.caller_steps.specs.Fate.{is_refusal, is_media, is_committed, live_with, offer_with, committed_by, Stays, EndsWith}
use Rattle.caller_steps.specs.Run.{Turn, Goes, GoesAlong, turns_of}
use Rattle.caller_steps.specs.Own.{Own, nothing_own, own_after, own_of, is_commit, live_in, KnowsLive}
use Rattle.caller_steps.proofs.Fates.{Fate, refused, failed, began, granted, committed, doubted, aborted, given, settled, unsure, told, purged, answer_plain, refusal_none}
use Rattle.caller_steps.proofs.Running.{last_here, last_apart, none_first, turns_keep}
use Rattle.caller_steps.proofs.Owning.{live_goes, live_other}

pub offered_none : offered ≡ unoffered → ⊥
offered_none e = true≢false (ap is_offered e)

pub offered_closed : (n : ℕ) → offered ≡ unsettled n → ⊥
offered_closed n e = true≢false (ap is_offered e)

pub unsettled_same : (m n : ℕ) → unsettled m ≡ unsettled n → m ≡ n
unsettled_same m n e = cc

pub is_none : (offer : Offer) → is_unoffered offer ≡ true → offer ≡ unoffered
is_none unoffered is = refl
is_none _ is = absurd (false≢true is)

-- no call of its own leaves a caller one that a group has committed
never_unsettled : (call : Call) (n : ℕ) → offer_with call ≡ unsettled n → ⊥
never_unsettled (Control control.Offer) n e = offered_closed n e
never_unsettled _ n e = true≢false (ap is_unoffered e)

pub fold-push : {A X : Type 0} (f : A → X → A) → (a : A) (xs : List X) (x : X) → fold f a (xs ++ x ∷ []) ≡ f (fold f a xs) x
fold-push f a [] x = refl
fold-push f a (y ∷ xs) x = fold-push f (f a y) xs x

module _ (caller : ℕ) (own : Own) (state : State) (knows : KnowsLive caller own state) where
  live_as : (offer : Offer) → state.offers caller ≡ offer → state.live caller ≡ live_in own offer
  live_as offer is = knows.live ∙ ap (live_in own) is

  -- what is live of a caller is what its turns say, or it has ended
  pub live_either : (state.live caller ≡ own.live) ⊎ (state.live caller ≡ None)
  live_either = go (state.offers caller) refl
    where
      closed_or : (waits : Bool) → state.live caller ≡ (if waits then None else own.live) → (state.live caller ≡ own.live) ⊎ (state.live caller ≡ None)
      closed_or true e = inr e
      closed_or false e = inl e

      go : (offer : Offer) → state.offers caller ≡ offer → (state.live caller ≡ own.live) ⊎ (state.live caller ≡ None)
      go unoffered is = closed_or own.waits (live_as unoffered is)
      go offered is = inl (live_as offered is)
      go (unsettled n) is = inr (live_as (unsettled n) is)

  -- what takes calls does so by its turns too
  pub takes_own : takes_calls state caller ≡ true → (not own.waits && is_some own.live) ≡ true
  takes_own takes =
      let parts = and_parts (is_unoffered (state.offers caller)) (is_some (state.live caller)) takes in
      go own.waits (sym (ap (λ (o : Option Granted). is_some o) (live_as unoffered (is_none (state.offers caller) parts.0))) ∙ parts.1)
    where
      go : (waits : Bool) → is_some (if waits then None else own.live) ≡ true → (not waits && is_some own.live) ≡ true
      go true e = absurd (false≢true e)
      go false e = e

  -- the calls of one that does not wait, and of one that is offered
  pub calls_open : own.waits ≡ false → calls_of state caller ≡ unwrap_or own.live []
  calls_open idle = ap (λ (o : Option Granted). unwrap_or o []) (live_as unoffered (knows.none idle) ∙ cond-false own.waits None own.live idle)

  pub calls_offered : state.offers caller ≡ offered → calls_of state caller ≡ unwrap_or own.live []
  calls_offered has = ap (λ (o : Option Granted). unwrap_or o []) (live_as offered has)

  -- what is offered waits
  pub offered_waits : state.offers caller ≡ offered → own.waits ≡ true
  offered_waits has = elim (cases_Bool own.waits) [
    | inl waits ↦ waits
    | inr idle ↦ absurd (offered_none (sym has ∙ knows.none idle))
  ]

-- ---- between two turns of a caller

-- Its transaction stays, or it had offered it: another's settle has committed it, or the medium has failed in one.
pub data Between (mid now : State) (caller : ℕ) : Type 0 where
  stayed : Stays mid now caller → Between mid now caller
  ended : mid.is_dead ≡ false → mid.offers caller ≡ offered → (at last : ℕ) → now.offers caller ≡ unsettled at
      → commits_of caller now.history ≡ commits_of caller mid.history ++ record { caller = caller; calls = calls_of mid caller; at = at; last = last } ∷ [] → Between mid now caller
  lost : now.offers caller ≡ unoffered → commits_of caller now.history ≡ commits_of caller mid.history → Between mid now caller

module _ (limits : Limits) (caller : ℕ) (mid old new : State) (turn : Turn) where
  abbrev its : Done
  its = group_done old (offerers limits.callers old) caller

  same_on : Stays old new caller → Between mid old caller → Between mid new caller
  same_on stays (stayed s) = stayed (record { live = stays.live ∙ s.live; offer = stays.offer ∙ s.offer; mine = stays.mine ∙ s.mine })
  same_on stays (ended alive was at last is mine) = ended alive was at last (stays.offer ∙ is) (stays.mine ∙ mine)
  same_on stays (lost is mine) = lost (stays.offer ∙ is) (stays.mine ∙ mine)

  ends_on : mid.is_dead ≡ false → EndsWith limits.callers old turn.0 turn.1 turn.2 new caller → Between mid old caller → Between mid new caller
  ends_on alive ends (stayed s) = elim (cases_Bool (is_media turn.2)) [
    | inl media ↦ lost (ends.offer ∙ cond-true (is_media turn.2) unoffered (unsettled its.at) media)
        (ends.mine ∙ cond-true (is_media turn.2) (commits_of caller old.history) (commits_of caller old.history ++ its ∷ []) media ∙ s.mine)
    | inr sure ↦ ended alive (sym s.offer ∙ ends.its) its.at its.last (ends.offer ∙ cond-false (is_media turn.2) unoffered (unsettled its.at) sure)
        (ends.mine ∙ cond-false (is_media turn.2) (commits_of caller old.history) (commits_of caller old.history ++ its ∷ []) sure
        ∙ (λ i. s.mine i ++ record { caller = caller; calls = unwrap_or (s.live i) []; at = its.at; last = its.last } ∷ []))
  ]
  ends_on alive ends (ended was has at last is mine) = absurd (offered_closed at (sym ends.its ∙ is))
  ends_on alive ends (lost is mine) = absurd (offered_none (sym ends.its ∙ is))

  between_on : (tells : Bool) → caller ≢ turn.0 → Goes tells limits old turn.0 turn.1 turn.2 new → (old.is_dead ≡ false → mid.is_dead ≡ false) → Between mid old caller → Between mid new caller
  between_on tells apart goes alive was = elim (cases_Bool old.is_dead) [
    | inl dead ↦ subst (λ (s : State). Between mid s caller) (sym (goes.dead dead).1) was
    | inr living ↦ go (goes.moves.others caller apart)
  ]
    where
      go : Stays old new caller ⊎ EndsWith limits.callers old turn.0 turn.1 turn.2 new caller → Between mid new caller
      go (inl stays) = same_on stays was
      go (inr ends) = elim (cases_Bool old.is_dead) [
        | inl dead ↦ subst (λ (s : State). Between mid s caller) (sym (goes.dead dead).1) was
        | inr living ↦ ends_on (alive living) ends was
      ]

between_all : (tells : Bool) (limits : Limits) (caller : ℕ) (mid old now : State) (turns : List Turn) → (old.is_dead ≡ false → mid.is_dead ≡ false) → GoesAlong tells limits old turns now → turns_of caller turns ≡ [] → Between mid old caller → Between mid now caller
between_all tells limits caller mid old now [] alive a none was = subst (λ (s : State). Between mid s caller) (sym a) was
between_all tells limits caller mid old now (turn ∷ turns) alive a none was =
    let parts = none_first caller turn turns none in
    between_all tells limits caller mid a.0 now turns (λ living. alive (or_parts old.is_dead (is_media turn.2) (sym a.1.moves.dead ∙ living)).0) a.2 parts.1
    (between_on limits caller mid old a.0 turn tells (λ e. parts.0 (sym e)) a.1 alive was)

pub between : (tells : Bool) (limits : Limits) (caller : ℕ) (mid now : State) (turns : List Turn) → GoesAlong tells limits mid turns now → turns_of caller turns ≡ [] → Between mid now caller
between tells limits caller mid now turns a none = between_all tells limits caller mid mid now turns (λ alive. alive) a none (stayed (record { live = refl; offer = refl; mine = refl }))

-- ---- what a group has committed of a caller's

-- It is the last of its own, with just its calls.
abbrev pub HasLast : ℕ → Own → State → Type 0
HasLast caller own state = (n : ℕ) → state.offers caller ≡ unsettled n
    → (before : List Done) × (last : ℕ) × (commits_of caller state.history ≡ before ++ record { caller = caller; calls = unwrap_or own.live []; at = n; last = last } ∷ [])

abbrev KnowsLast : ℕ → Own → State → Type 0
KnowsLast caller own state = state.is_dead ≡ false → KnowsLive caller own state × HasLast caller own state

last_same : (caller : ℕ) (own next : Own) (old new : State) → new.offers caller ≡ old.offers caller → commits_of caller new.history ≡ commits_of caller old.history → next.live ≡ own.live → HasLast caller own old → HasLast caller next new
last_same caller own next old new offer mine live was n is =
    let h = was n (sym offer ∙ is) in
    (h.0, h.1, mine ∙ h.2 ∙ (λ i. h.0 ++ record { caller = caller; calls = unwrap_or (sym live i) []; at = n; last = h.1 } ∷ []))

module _ (tells : Bool) (limits : Limits) (caller : ℕ) (own : Own) (old new : State) (alive : new.is_dead ≡ false) where
  -- after a call of its own
  last_own : (call : Call) (reply : Reply) → Goes tells limits old caller call reply new → HasLast caller own old → HasLast caller (own_after caller own (call, reply)) new
  last_own call reply goes was = elim (cases_Bool (is_refusal reply)) [
    | inl refusal ↦ (let same = goes.moves.refused refusal sure in
        last_same caller own (own_after caller own (call, reply)) old new (ap (λ (f : ℕ → Offer). f caller) same.1)
        (ap (commits_of caller) (goes.moves.history ∙ cond-false (is_committed reply) (old.history ++ committed_by limits.callers old caller call) old.history (refusal_none reply refusal)))
        (cond-false (is_media reply) (if is_commit call then None else own.live) (if is_refusal reply then own.live else live_with (unwrap_or own.live []) call reply) sure
        ∙ cond-true (is_refusal reply) own.live (live_with (unwrap_or own.live []) call reply) refusal) was)
    | inr done ↦ (λ n is. absurd (never_unsettled call n (sym (goes.moves.own done).1 ∙ is)))
  ]
    where
      sure : is_media reply ≡ false
      sure = (or_parts old.is_dead (is_media reply) (sym goes.moves.dead ∙ alive)).1

  -- what a group commits of it
  abbrev its_done : Done
  its_done = group_done old (offerers limits.callers old) caller

  -- after another's
  last_other : (turn : Turn) → caller ≢ turn.0 → Goes tells limits old turn.0 turn.1 turn.2 new → KnowsLive caller own old → HasLast caller own old → HasLast caller own new
  last_other turn apart goes knows was = go (goes.moves.others caller apart)
    where
      sure : is_media turn.2 ≡ false
      sure = (or_parts old.is_dead (is_media turn.2) (sym goes.moves.dead ∙ alive)).1

      go : Stays old new caller ⊎ EndsWith limits.callers old turn.0 turn.1 turn.2 new caller → HasLast caller own new
      go (inl stays) n is = last_same caller own own old new stays.offer stays.mine refl was n is
      go (inr ends) n is =
          let number : its_done.at ≡ n = unsettled_same its_done.at n (sym (ends.offer ∙ cond-false (is_media turn.2) unoffered (unsettled its_done.at) sure) ∙ is) in (
            commits_of caller old.history,
            its_done.last,
            ends.mine ∙ cond-false (is_media turn.2) (commits_of caller old.history) (commits_of caller old.history ++ its_done ∷ []) sure
                ∙ (λ i. commits_of caller old.history ++ record { caller = caller; calls = calls_offered caller own old knows ends.its i; at = number i; last = its_done.last } ∷ []),
          )

-- So it is along a run.
pub knows_last : (tells : Bool) (limits : Limits) (caller : ℕ) (first now : State) (turns : List Turn) → GoesAlong tells limits first turns now → KnowsLive caller nothing_own first → HasLast caller nothing_own first
    → now.is_dead ≡ false → HasLast caller (own_of caller (turns_of caller turns)) now
knows_last tells limits caller first now turns a knows has alive = (turns_keep tells limits P step [] turns first now (λ _. (knows, has)) a alive).1
  where
    P : List Turn → State → Type 0
    P before state = KnowsLast caller (own_of caller (turns_of caller before)) state

    step : (before : List Turn) (turn : Turn) (old new : State) → P before old → Goes tells limits old turn.0 turn.1 turn.2 new → P (before ++ turn ∷ []) new
    step before turn old new was goes living =
        let k = was (or_parts old.is_dead (is_media turn.2) (sym goes.moves.dead ∙ living)).0 in
        let own : Own = own_of caller (turns_of caller before) in
        dite (ℕ_discrete turn.0 caller)
        (λ (same : turn.0 ≡ caller).
        let mine = subst (λ (n : ℕ). Goes tells limits old n turn.1 turn.2 new) same goes in
        let told : turns_of caller (before ++ turn ∷ []) ≡ turns_of caller before ++ (turn.1, turn.2) ∷ [] =
        subst (λ (n : ℕ). turns_of caller (before ++ (n, turn.1, turn.2) ∷ []) ≡ turns_of caller before ++ (turn.1, turn.2) ∷ []) (sym same) (last_here caller turn.1 turn.2 before) in
        let next : own_of caller (turns_of caller (before ++ turn ∷ [])) ≡ own_after caller own (turn.1, turn.2) =
        ap (own_of caller) told ∙ fold-push (own_after caller) nothing_own (turns_of caller before) (turn.1, turn.2) in
        subst (λ (o : Own). KnowsLive caller o new × HasLast caller o new) (sym next)
        (live_goes limits old caller new own turn.1 turn.2 tells mine (inr living) k.0, last_own tells limits caller own old new living turn.1 turn.2 mine k.1))
        (λ (ne : turn.0 ≢ caller).
        subst (λ (o : Own). KnowsLive caller o new × HasLast caller o new) (sym (ap (own_of caller) (last_apart caller turn before ne)))
        (live_other limits old caller new own turn (λ e. ne (sym e)) tells goes k.0, last_other tells limits caller own old new living turn (λ e. ne (sym e)) goes k.0 k.1))

-- ---- what the reply to a commit tells

-- the number that a transaction gets, or has, by what its caller has offered
abbrev pub number_by : ℕ → State → ℕ → Offer → ℕ
number_by callers old caller unoffered = length old.history + 1
number_by callers old caller offered = number_among (length old.history + 1) (offerers callers old) caller
number_by callers old caller (unsettled n) = n

module _ (callers : ℕ) (old : State) (caller : ℕ) (call : Call) (reply : Reply) (new : State) (is : is_committed reply ≡ true) where
  pub number_told : Fate callers old caller call reply new → reply ≡ Committed (number_by callers old caller (old.offers caller))
  number_told (refused refusal sure index e) = absurd (true≢false (sym is ∙ refusal_none reply refusal))
  number_told (failed apart r index e) = absurd (true≢false (sym is ∙ ap is_committed r))
  number_told (began un l c r e) = absurd (true≢false (sym is ∙ ap is_committed r))
  number_told (granted asked calls un c l free answers index e) = absurd (true≢false (sym is ∙ (answer_plain _ asked reply answers).uncommitted))
  number_told (committed calls un c r l index e) = r ∙ ap Committed (sym (ap (number_by callers old caller) un))
  number_told (doubted calls un c r l index e) = absurd (true≢false (sym is ∙ ap is_committed r))
  number_told (aborted calls un c r l e) = absurd (true≢false (sym is ∙ ap is_committed r))
  number_told (given calls un c r l e) = absurd (true≢false (sym is ∙ ap is_committed r))
  number_told (settled inside has c r index e) = r ∙ ap Committed (sym (ap (number_by callers old caller) has))
  number_told (unsure inside has c r index e) = absurd (true≢false (sym is ∙ ap is_committed r))
  number_told (told n has c r e) = r ∙ ap Committed (sym (ap (number_by callers old caller) has))
  number_told (purged n un l c r index e) = absurd (true≢false (sym is ∙ ap is_committed r))
