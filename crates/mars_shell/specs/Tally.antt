-- The tally of the replies to a script, and the summary that is made of it.
use Rattle.std.specs.Prelude.{ℕ, ◌≡◌, ◌+◌, ◌-◌, ◌%◌, ◌^◌, Bool, if◌then◌else◌, List, ◌++◌, length, count_by, bytes_eq, codes, IsTrue, Result, Ok, Err}
use Rattle.std.specs.Fmt.{decimal}
use Rattle.std.specs.List.{sum_by}
use Rattle.history.specs.declared.call.Call.{Call}
use Rattle.history.specs.declared.call.Reply.{Reply}
use Rattle.history.specs.declared.call.Reply.TheVariants.{Listed, Media, NoMemory}
use Rattle.caller_steps.specs.Run.{Turn}
use Rattle.script_run.specs.declared.responder.Stop.{Stop}
use Rattle.script_run.specs.declared.responder.Stop.TheVariants as stop
use Rattle.command_words.specs.declared.words.DrillNumbers.{DrillNumbers}
use Rattle.script_text.specs.Replies.{reply_line}
use Rattle.mars_shell.specs.Drill.{word_of}
use Rattle.history_text.specs.Text.{number_line}
use Rattle.mars_shell.specs.Lines.{goes_on}
use Rattle.mars_shell.specs.declared.tally.Tally.{Tally}

-- the reply to a call counts under this word of the summary
abbrev pub counts : List ℕ → Reply → Call → Bool
counts word reply call = bytes_eq (word_of reply call) word

-- of calls and their replies: how many count under each word
abbrev pub tally_of : List Turn → Tally
tally_of turns = record {
  committed = count_by (λ (turn : Turn). counts (codes "committed") turn.2 turn.1) turns;
  aborted = count_by (λ (turn : Turn). counts (codes "aborted") turn.2 turn.1) turns;
  busy = count_by (λ (turn : Turn). counts (codes "busy") turn.2 turn.1) turns;
  refused = count_by (λ (turn : Turn). counts (codes "refused") turn.2 turn.1) turns;
}

-- the last key that a table can have
abbrev pub last_key : ℕ
last_key = 2 ^ 64 - 1

-- the sum of the keys of rows, modulo 2^64
abbrev pub key_sum : List (ℕ × List ℕ) → ℕ
key_sum rows = sum_by (λ row. row.0) rows % 2 ^ 64

-- what a look at the records at the end is told as: how many there are and the sum of their keys, or the reply in their place
abbrev pub look_text : Reply → List ℕ
look_text (Listed rows) = number_line (codes "records") (length rows) ++ number_line (codes "sum") (key_sum rows)
look_text reply = reply_line 0 reply

-- the text of the summary with this tally and this reply to the look
abbrev pub tally_text : DrillNumbers → Tally → Reply → List ℕ
tally_text numbers tally look = number_line (codes "drill " ++ decimal numbers.seed) numbers.count
    ++ (number_line (codes "committed") tally.committed ++ (number_line (codes "aborted") tally.aborted
    ++ (number_line (codes "busy") tally.busy ++ (number_line (codes "refused") tally.refused ++ look_text look))))

abbrev pub total : Tally → ℕ
total tally = tally.committed + (tally.aborted + (tally.busy + tally.refused))

-- one more if so
abbrev pub more_if : Bool → ℕ → ℕ
more_if so n = if so then n + 1 else n

-- the tally with a further call and its reply
abbrev pub counted : Tally → Call → Reply → Tally
counted tally call reply = record {
  committed = more_if (counts (codes "committed") reply call) tally.committed;
  aborted = more_if (counts (codes "aborted") reply call) tally.aborted;
  busy = more_if (counts (codes "busy") reply call) tally.busy;
  refused = more_if (counts (codes "refused") reply call) tally.refused;
}

-- the script goes on after the reply, or it ends there
abbrev pub Goes : ℕ → Reply → Result (Unit {0}) Stop → Type 0
Goes caller reply (Ok x) = IsTrue (goes_on reply)
Goes caller reply (Err (stop.Media number)) = (number ≡ caller) × (reply ≡ Media)
Goes caller reply (Err stop.NoMemory) = reply ≡ NoMemory
