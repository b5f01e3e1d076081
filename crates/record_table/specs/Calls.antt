-- What a caller's call, made as a number, makes of the records, and how it is answered.
use Rattle.std.specs.Prelude.{ℕ, ◌≡◌, ◌+◌, []}
use Rattle.page_store.specs.State.{with_one}
use Rattle.history.specs.Writes.{Table}
use Rattle.history.specs.Table.{Answers}
use Rattle.history.specs.Log.{Log, log_after}
use Rattle.history.specs.declared.call.Call.{Call}
use Rattle.history.specs.declared.call.Call.TheVariants.{Table as OnTable, Control}
use Rattle.history.specs.declared.call.TableCall.TheVariants.{Save, Back}
use Rattle.history.specs.declared.call.Control.TheVariants.{Commit, Abort}
use Rattle.history.specs.declared.call.Reply.{Reply}
use Rattle.history.specs.declared.call.Reply.TheVariants.{Fine, Committed}
use Rattle.record_table.specs.State.{TableState, seen_by, work_of}

-- The reply to a call of the table is the one-thread table's to what the number sees. An abort is done, and a commit is told with a number
-- that its caller chooses. No other call is made as a number.
abbrev pub Replies : TableState → ℕ → Call → Reply → Type 0
Replies s t (OnTable asked) reply = Answers (work_of s t) asked reply
Replies s t (Control Commit) (Committed n) = Unit {0}
Replies s t (Control Abort) reply = reply ≡ Fine
Replies s t _ _ = ⊥

-- the table after a call that was done: only a commit changes it
abbrev pub table_after : ℕ → Call → TableState → Table
table_after t (Control Commit) s = seen_by s t
table_after t call s = s.table

-- the number's log after it: that of the history, and none once it has ended
abbrev pub own_after : Log → Call → Reply → Log
own_after log (OnTable asked) reply = log_after log asked reply
own_after log _ reply = record { writes = []; saved = [] }

-- the state after it: other numbers keep their logs
abbrev pub after : ℕ → Call → Reply → TableState → TableState
after t call reply s = record { table = table_after t call s; logs = with_one s.logs t (own_after (s.logs t) call reply) }

-- how many saves the number has after it
abbrev pub saves_after : Call → ℕ → ℕ
saves_after (OnTable Save) n = n + 1
saves_after (OnTable (Back n)) m = n
saves_after (OnTable asked) n = n
saves_after _ n = 0
