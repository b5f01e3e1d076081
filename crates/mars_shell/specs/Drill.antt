-- What a drill does and writes.
use Rattle.std.specs.Prelude.{ℕ, ◌≡◌, ◌-◌, ◌%◌, ◌^◌, List, [], ◌∷◌, ◌++◌, length, map, take, count_by, flat_map, bytes_eq, codes, nat_le, if◌then◌else◌, Bool, IsTrue}
use Rattle.history.specs.Key.{main_name}
use Rattle.history.specs.Writes.{rows_of}
use Rattle.std.specs.Fmt.{decimal}
use Rattle.std.specs.List.{All, sum_by}
use Rattle.history.specs.declared.call.Call.{Call}
use Rattle.history.specs.declared.call.Call.TheVariants.{Begin, Table, Control}
use Rattle.history.specs.declared.call.TableCall.TheVariants.{Scan}
use Rattle.history.specs.declared.call.Control.TheVariants.{Abort}
use Rattle.history.specs.declared.call.Reply.{Reply}
use Rattle.history.specs.declared.call.Reply.TheVariants.{Fine, Committed, Busy, Media}
use Rattle.caller_steps.specs.State.{State, records_of}
use Rattle.caller_steps.specs.Room.{Limits}
use Rattle.caller_steps.specs.Run.{Turn}
use Rattle.caller_work.specs.Fated.{is_final}
use Rattle.drill_gen.specs.Drill.{in_turn}
use Rattle.command_words.specs.declared.words.DrillNumbers.{DrillNumbers}
use Rattle.texts.specs.MediaFault.{media_line}
use Rattle.script_run.specs.declared.ended.Ended.{Ended}
use Rattle.script_run.specs.declared.ended.Ended.TheVariants.{MediaFault, NoMemory}
use Rattle.history_text.specs.Text.{number_line}
use Rattle.mars_shell.specs.Lines.{goes_on}
use Rattle.mars_shell.specs.Told.{TellsEnd}

-- the word under which the summary counts a reply to a call: a commit or an abort that was done, a locked key, or a refusal for good, as of a full
-- array
abbrev pub word_of : Reply → Call → List ℕ
word_of (Committed n) call = codes "committed"
word_of Fine (Control Abort) = codes "aborted"
word_of (Busy holder) call = codes "busy"
word_of reply call = if is_final reply then codes "refused" else []

-- the seed and the count, how many replies count under each word, and the records at the end: how many, and the sum of their keys modulo
-- 2^64
abbrev pub summary_text : DrillNumbers → List Turn → List (ℕ × List ℕ) → List ℕ
summary_text numbers turns rows = number_line (codes "drill " ++ decimal numbers.seed) numbers.count
    ++ (flat_map (λ word. number_line word (count_by (λ (turn : Turn). bytes_eq (word_of turn.2 turn.1) word) turns))
    (codes "committed" ∷ codes "aborted" ∷ codes "busy" ∷ codes "refused" ∷ [])
    ++ (number_line (codes "records") (length rows) ++ number_line (codes "sum") (sum_by (λ row. row.0) rows % 2 ^ 64)))

-- The calls of a drill: those that are drawn from the seed, in pairs if there are two callers, and behind them caller 0 begins and scans `main`. By
-- then no caller has a transaction that stands in its way.
abbrev pub drill_calls : ℕ → ℕ → ℕ → List (ℕ × Call)
drill_calls seed count callers = in_turn (nat_le 2 callers) seed count ++ (0, Begin) ∷ (0, Table (Scan main_name 0 (2 ^ 64 - 1))) ∷ []

-- By how the script ended: all its calls were made, and after each reply it went on. If the medium failed, it was at the last call made.
abbrev pub AreMade : Ended → List (ℕ × Call) → List Turn → Type 0
AreMade MediaFault script turns = (made : List Turn) × (caller : ℕ) × (call : Call)
    × (turns ≡ made ++ (caller, call, Media) ∷ []) × All (λ turn. IsTrue (goes_on turn.2)) made
AreMade NoMemory script turns = Unit {0}
AreMade ended script turns = (length turns ≡ length script) × All (λ turn. IsTrue (goes_on turn.2)) turns

-- The turns are the calls of the drill, or the first so many of them. If all were made the summary is written, and if the medium
-- failed the line that says so.
pub record Drills (numbers : DrillNumbers) (ended : Ended) (cut : Bool) (text : List ℕ) (limits : Limits) (turns : List Turn) (final : State) : Type 0 where
  pub drawn : map (λ (turn : Turn). (turn.0, turn.1)) turns ≡ take (length turns) (drill_calls numbers.seed numbers.count limits.callers)
  pub made : AreMade ended (drill_calls numbers.seed numbers.count limits.callers) turns
  pub told : TellsEnd ended cut text (summary_text numbers turns (rows_of main_name (records_of final))) media_line
