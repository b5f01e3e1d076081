-- Each window is nearer to the last key.
use Rattle.std.proofs.Common.{◌-◌}
use Rattle.taped_records.proofs.cursor.+first_from.Given as goal

abbrev pub decreases-first_from : goal.decreases-first_from
decreases-first_from g l = l.to - l.from
