-- What a caller's own calls and replies say of its transactions.
use Rattle.std.specs.Prelude.{ℕ, ◌≡◌, Bool, true, false, if◌then◌else◌, IsTrue, IsFalse, map, List, [], ◌∷◌, ◌++◌, Option, Some, None, unwrap_or}
use Rattle.std.specs.List.{fold, list_any}
use Rattle.std.specs.Option.{option_to_list}
use Rattle.history.specs.Table.{Granted}
use Rattle.history.specs.declared.call.Call.{Call}
use Rattle.history.specs.declared.call.Call.TheVariants.{Control}
use Rattle.history.specs.declared.call.Control.TheVariants.{Commit, Settle}
use Rattle.history.specs.declared.call.Reply.{Reply}
use Rattle.history.specs.declared.call.Reply.TheVariants.{Committed}
use Rattle.history.specs.declared.transaction.Done.{Done}
use Rattle.caller_steps.specs.State.{State, Offer, unoffered, offered, unsettled, commits_of}
use Rattle.caller_steps.specs.Offers.{is_offered}
use Rattle.caller_steps.specs.Run.{Heard}
use Rattle.caller_steps.specs.Fate.{is_refusal, is_media, is_committed, live_with, offer_with}

-- the call asks to commit the caller's transaction
abbrev pub is_commit : Call → Bool
is_commit (Control Commit) = true
is_commit (Control Settle) = true
is_commit call = false

-- one of these replies reports a fault of the medium
abbrev pub has_media : Heard → Bool
has_media told = list_any (λ (entry : Call × Reply). is_media entry.1) told

abbrev pub number_of : Reply → ℕ
number_of (Committed n) = n
number_of reply = 0

-- a caller's live transaction, and whether it is offered and waits for its settle; its committed ones in order, and the calls of the one in doubt
pub record Own : Type 0 where
  pub live : Option Granted
  pub waits : Bool
  pub mine : List Done
  pub doubt : Option Granted

abbrev pub nothing_own : Own
nothing_own = record { live = None; waits = false; mine = []; doubt = None }

-- the live transaction after one more turn; a commit or a settle that meets a fault of the medium ends it
abbrev pub live_after : Option Granted → Call → Reply → Option Granted
live_after live call reply = if is_media reply then (if is_commit call then None else live) else (if is_refusal reply then live else live_with (unwrap_or live []) call reply)

-- whether it waits for its settle
abbrev pub waits_after : Bool → Call → Reply → Bool
waits_after waits call reply = if is_media reply then (if is_commit call then false else waits) else (if is_refusal reply then waits else is_offered (offer_with call))

abbrev pub mine_after : ℕ → Option Granted → List Done → Reply → List Done
mine_after caller live mine reply = if is_committed reply then mine ++ record { caller = caller; calls = unwrap_or live []; at = number_of reply; last = number_of reply } ∷ [] else mine

abbrev pub doubt_after : Option Granted → Option Granted → Call → Reply → Option Granted
doubt_after live doubt call reply = if is_media reply then (if is_commit call then Some (unwrap_or live []) else doubt) else doubt

abbrev pub own_after : ℕ → Own → Call × Reply → Own
own_after caller own entry = record {
  live = live_after own.live entry.0 entry.1;
  waits = waits_after own.waits entry.0 entry.1;
  mine = mine_after caller own.live own.mine entry.1;
  doubt = doubt_after own.live own.doubt entry.0 entry.1;
}

-- what all of a caller's turns say
abbrev pub own_of : ℕ → Heard → Own
own_of caller told = fold (own_after caller) nothing_own told

abbrev pub live_by : ℕ → Heard → Option Granted
live_by caller told = (own_of caller told).live

-- a transaction as its caller is told of it: by its number, and not where its group ends
abbrev pub as_told : Done → Done
as_told done = record done { last = done.at }

-- a caller's transactions in a history, so
abbrev pub told_of : ℕ → List Done → List Done
told_of caller history = map as_told (commits_of caller history)

abbrev pub calls_among : ℕ → List Done → List Granted
calls_among caller dones = map (λ (done : Done). done.calls) (commits_of caller dones)

-- What is live of a caller, by its own turns and by what the state says of its offer: the settle of another may have ended the one that waits.
abbrev pub live_in : Own → Offer → Option Granted
live_in own unoffered = if own.waits then None else own.live
live_in own offered = own.live
live_in own (unsettled n) = None

-- What it has committed, so: the one that another's settle committed comes behind its others, under a number that it has not been told.
abbrev pub mine_in : ℕ → Own → Offer → List Done
mine_in caller own (unsettled n) = own.mine ++ record { caller = caller; calls = unwrap_or own.live []; at = n; last = n } ∷ []
mine_in caller own _ = own.mine

-- And what is in doubt: the one that waits, if the medium has failed in another's settle.
abbrev pub doubt_in : Own → Offer → List Granted
doubt_in own unoffered = if own.waits then unwrap_or own.live [] ∷ [] else option_to_list own.doubt
doubt_in own _ = option_to_list own.doubt

-- What is live of a caller and what it has offered is what its own turns say. One that waits may have been ended by another's settle; unless the medium
-- has failed it was then committed.
pub record KnowsLive (caller : ℕ) (own : Own) (state : State) : Type 0 where
  pub live : state.live caller ≡ live_in own (state.offers caller)
  pub none : IsFalse own.waits → state.offers caller ≡ unoffered
  pub some : IsTrue own.waits → IsFalse state.is_dead → state.offers caller ≡ unoffered → ⊥
