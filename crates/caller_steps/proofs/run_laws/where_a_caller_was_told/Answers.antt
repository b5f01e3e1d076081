use Rattle.caller_steps.proofs.Telling.{told_at, told_by_some, some_line}
use Rattle.caller_steps.proofs.run_laws.where_a_caller_was_told.Goals as goal

pub returns : goal.returns
returns g = record { place = told_at; some = told_by_some; each = some_line }
