-- Calls that a core made, one after another.
use Rattle.std.specs.Prelude.{ℕ, ◌≡◌, List, [], ◌∷◌, ◌++◌, length, map, take, Bool, IsTrue, IsFalse}
use Rattle.std.specs.List.{All}
use Rattle.history.specs.Key.{main_name}
use Rattle.history.specs.Writes.{rows_of}
use Rattle.history.specs.declared.call.Call.{Call}
use Rattle.history.specs.declared.call.Reply.TheVariants as reply
use Rattle.command_words.specs.declared.words.DrillNumbers.{DrillNumbers}
use Rattle.caller_steps.specs.State.{records_of}
use Rattle.caller_steps.specs.Core.{CoreView, IsSafe, Continues}
use Rattle.caller_steps.specs.Sound.{IsSound}
use Rattle.caller_steps.specs.Run.{Turn, has_fault}
use Rattle.caller_steps.specs.Step.{Runs}
use Rattle.script_run.specs.declared.responder.Stop.{Stop}
use Rattle.script_run.specs.declared.responder.Stop.TheVariants.{Media, NoMemory}
use Rattle.mars_shell.specs.Lines.{goes_on}
use Rattle.mars_shell.specs.Tally.{tally_of, tally_text}
use Rattle.mars_shell.specs.declared.tally.Tally.{Tally}

-- a caller and its call
abbrev pub without_reply : Turn → ℕ × Call
without_reply turn = (turn.0, turn.1)

-- after each of these replies the script goes on
abbrev pub GoOn : List Turn → Type 0
GoOn turns = All (λ turn. IsTrue (goes_on turn.2)) turns

-- the medium failed at the last call
abbrev pub FailsAtLast : List Turn → Type 0
FailsAtLast turns = (made : List Turn) × (caller : ℕ) × (call : Call) × (turns ≡ made ++ (caller, call, reply.Media) ∷ []) × GoOn made

-- The first calls of a script were made, with these replies, from one core to a later one.
pub record Made (tells : Bool) (old : CoreView) (script : List (ℕ × Call)) (turns : List Turn) (new : CoreView) : Type 0 where
  pub limits : new.limits ≡ old.limits
  pub drawn : map without_reply turns ≡ take (length turns) script
  pub runs : IsTrue tells → Runs old.limits old.state turns new.state
  pub shown : IsTrue tells → (IsFalse old.state.is_dead → old.shows old.state) → IsFalse new.state.is_dead → new.shows new.state
  pub comes : IsTrue tells → IsSound old.state → IsSafe old old.moment (length old.state.history) → Continues old new

-- the medium failed at the last call made, or there was no memory to go on
abbrev pub EndsEarly : Bool → CoreView → List (ℕ × Call) → Stop → CoreView → Type 0
EndsEarly tells old script (Media number) new = (turns : List Turn) × Made tells old script turns new × FailsAtLast turns
EndsEarly tells old script NoMemory new = (turns : List Turn) × Made tells old script turns new × IsFalse (has_fault turns)

-- all of them were made, and this is the tally of their replies
abbrev pub MadeAll : Bool → CoreView → List (ℕ × Call) → Tally → CoreView → Type 0
MadeAll tells old script tally new = (turns : List Turn) × Made tells old script turns new × (map without_reply turns ≡ script) × GoOn turns × (tally ≡ tally_of turns)

-- the same, with the text of the summary
abbrev pub SummedUp : Bool → DrillNumbers → CoreView → List (ℕ × Call) → List ℕ → CoreView → Type 0
SummedUp tells numbers old script text new = (turns : List Turn) × Made tells old script turns new × (map without_reply turns ≡ script) × GoOn turns
    × (IsTrue tells → text ≡ tally_text numbers (tally_of turns) (reply.Listed (rows_of main_name (records_of new.state))))
