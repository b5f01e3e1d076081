-- What a number's raw command is answered and leaves.
use Rattle.std.specs.Prelude.{ℕ, ◌≡◌, ◌⊎◌, ◌++◌, List, [], length, slice_index_or, Option, Some, None, unwrap_or}
use Rattle.mars_base.specs.Bytes.{range}
use Rattle.array_shape.specs.declared.shape.Shape.{Shape}
use Rattle.eaw_face.specs.State.{State, count_on}
use Rattle.eaw_face.specs.Command.{log_write, read, after}
use Rattle.script_text.specs.Eaw.{Raw, does, read_log, log_len, held}
use Rattle.script_text.specs.declared.answer.Answer.{Answer}
use Rattle.script_text.specs.declared.answer.Answer.TheVariants.{Logged, Fine, Part, Data, Len, Held}
use Rattle.eaw_script.specs.Tests.{asks, checks}

-- the state after a command that was done; a question changes nothing
abbrev pub state_after : Raw → State → State
state_after (does command) old = after command old
state_after _ old = old

-- the answer to a command that was done: the length of the log after a write, the bytes that were asked for, or a count
abbrev pub answer_to : Shape → Option (List (ℕ × ℕ)) → State → ℕ → Raw → Answer
answer_to shape log old t (does (log_write u at bytes)) = Logged (length (unwrap_or log [] ++ (asks shape log (does (log_write u at bytes))).needed))
answer_to shape log old t (does (read addr len)) = Data (range old.bytes addr len)
answer_to shape log old t (read_log n) = Part (slice_index_or (unwrap_or log []) n (0, 0)).0 (slice_index_or (unwrap_or (old.logs t) []) n (0, [])).1
answer_to shape log old t log_len = Len (length (unwrap_or log []))
answer_to shape log old t (held logger) = Held (count_on shape logger (unwrap_or log []))
answer_to shape log old t _ = Fine

-- Number t, with this log, gets this answer: that of the first test that fails, which changes nothing, or else what was done.
abbrev pub AnswersWith : Shape → Option (List (ℕ × ℕ)) → State → ℕ → Raw → Answer → State → Type 0
AnswersWith shape log old t raw answer new = (checks shape (asks shape log raw) (Some answer) × (new ≡ old))
    ⊎ (checks shape (asks shape log raw) None × (answer ≡ answer_to shape log old t raw) × (new ≡ state_after raw old))
