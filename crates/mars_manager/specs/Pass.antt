-- What a pass knows.
use Rattle.std.specs.Prelude.{ℕ, zero, suc, ◌≡◌, ◌≢◌, ◌+◌, ◌<◌, ◌≤◌, ◌==◌, if◌then◌else◌, Bool, ◌&&◌, not, is_some, List, [], ◌∷◌, ◌++◌, map, length, replicate, Option, Some, None}
use Rattle.atomic_table.specs.Seated.{TableId}
use Rattle.history.specs.Table.{Granted}
use Rattle.history.specs.declared.call.Call.{Call}
use Rattle.history.specs.declared.call.Reply.{Reply}
use Rattle.caller_steps.specs.State.{State}
use Rattle.caller_steps.specs.Core.{CoreView}
use Rattle.caller_steps.specs.Run.{Turn, Heard, turns_of, LastTurn}
use Rattle.caller_steps.specs.Own.{Own, own_of, live_by}
use Rattle.stripe_words.specs.declared.hold.Hold.TheVariants.{Free}
use Rattle.mars_manager.specs.declared.setup.Setup.{Setup}
use Rattle.mars_manager.specs.declared.view.Known.{Known}

-- the names of the tables of a core that is shared so
abbrev pub names_in : {C : Type 0} → Option (Setup C) → List (List ℕ)
names_in None = []
names_in (Some setup) = setup.names

module _ {C : Type 0} where
  -- the names of the tables, as a pass knows them
  abbrev pub names_of : Known C → List (List ℕ)
  names_of known = names_in known.setup

  -- What a pass knows is true of a run that the shared core has made: its past is the run up to its caller's last turn, it has seen the
  -- history then, and the history is no shorter than it heard.
  pub record Fits (tells : Bool) (show : C → CoreView) (setup : Setup C) (turns : List Turn) (state : State) (known : Known C) : Type 0 where
    pub setup_is : known.setup ≡ Some setup
    pub last : LastTurn tells (show setup.first).limits known.number known.past known.seen (show setup.first).state turns state
    pub heard : known.heard ≤ length state.history

  -- what a pass was told: its caller's own calls and their replies, in order
  abbrev pub told_of : Known C → Heard
  told_of known = turns_of known.number known.past

  -- what these say of its caller's transactions
  abbrev pub own_by : Known C → Own
  own_by known = own_of known.number (told_of known)

  -- the live transaction of its caller, as its turns say
  abbrev pub live_of : Known C → Option Granted
  live_of known = live_by known.number (told_of known)

  -- whether its caller has offered one that waits for its settle
  abbrev pub waits_of : Known C → Bool
  waits_of known = (own_by known).waits

  -- whether its caller has a live one that takes calls
  abbrev pub takes_of : Known C → Bool
  takes_of known = not (waits_of known) && is_some (live_of known)

  -- what each of these passes knows is true
  abbrev pub AllFit : Bool → (C → CoreView) → Setup C → List Turn → State → List (Known C) → Type 0
  AllFit tells show setup turns state [] = Unit {0}
  AllFit tells show setup turns state (known ∷ others) = Fits tells show setup turns state known × AllFit tells show setup turns state others

  -- the number of another pass of the same shared core
  abbrev pub IsOther : Known C → ℕ → Type 0
  IsOther known holder = (holder ≢ known.number) × ((setup : Setup C) → known.setup ≡ Some setup → holder < setup.callers)

  -- a pass that was told nothing
  abbrev pub newcomer : Setup C → ℕ → Known C
  newcomer setup caller = record { number = caller; setup = Some setup; past = []; seen = []; heard = 0; found = 0; tries = 0; holds = replicate 64 Free; met = [] }

  -- what a pass knows after a step of its caller that came after these turns and left this state
  abbrev pub known_after : Known C → List Turn → State → Call → Reply → Known C
  known_after was turns state call reply = record was { past = turns ++ (was.number, call, reply) ∷ []; seen = state.history; found = 0 }

  -- what a pass knows once it has read the history of a core that came to this state by these turns
  abbrev pub known_at : Known C → List Turn → State → Known C
  known_at was turns state = record was { past = turns; seen = state.history; found = 0 }

  -- what a pass knows once it has tried for the turn, once more, and found this number
  abbrev pub finds : ℕ → Known C → Known C
  finds n known = record known { found = n; tries = known.tries + 1 }

  -- a pass that has tried for the turn so often
  abbrev pub tried : ℕ → Known C → Known C
  tried n known = record known { tries = n }

  -- what a pass knows once it has looked
  abbrev pub hears : ℕ → Known C → Known C
  hears n known = record known { heard = n }

  -- how many of the passes are this caller's
  abbrev pub times : ℕ → List (Known C) → ℕ
  times caller [] = 0
  times caller (known ∷ others) = (if known.number == caller then 1 else 0) + times caller others

-- what contracts see of a pass: its table and what it knows
pub record PassView (C : Type 0) : Type 0 where
  pub table : TableId
  pub known : Known C

-- what contracts see of the passes at hand: their table, what each one is, and for how many there is room
pub record PassesView (C : Type 0) : Type 0 where
  pub table : TableId
  pub list : List (PassView C)
  pub room : ℕ

module _ {C : Type 0} where
  abbrev pub known_of : PassView C → Known C
  known_of pass = pass.known

  -- the passes all belong to one table
  abbrev pub AllOf : TableId → List (PassView C) → Type 0
  AllOf table [] = Unit {0}
  AllOf table (pass ∷ passes) = (pass.table ≡ table) × AllOf table passes

  -- the passes of the first so many callers, counted from 0
  abbrev pub dealt : TableId → Setup C → ℕ → List (PassView C)
  dealt table setup zero = []
  dealt table setup (suc n) = dealt table setup n ++ record { table = table; known = newcomer setup n } ∷ []

  -- each caller's pass is among these
  abbrev pub HasEach : ℕ → List (PassView C) → Type 0
  HasEach callers passes = (caller : ℕ) → caller < callers → 0 < times caller (map known_of passes)

  -- what each of the passes knows is true of a run
  abbrev pub AreSo : Bool → (C → CoreView) → Setup C → List Turn → State → List (PassView C) → Type 0
  AreSo tells show setup turns state [] = Unit {0}
  AreSo tells show setup turns state (pass ∷ passes) = Fits tells show setup turns state pass.known × AreSo tells show setup turns state passes
