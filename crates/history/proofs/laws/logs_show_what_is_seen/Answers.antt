use Rattle.history.proofs.Pending.{left_is_written}
use Rattle.history.proofs.laws.logs_show_what_is_seen.Goals as goal

pub returns : goal.returns
returns c = left_is_written
