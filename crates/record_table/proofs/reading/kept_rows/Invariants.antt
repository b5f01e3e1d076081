use Rattle.std.proofs.Common.{◌≡◌}
use Rattle.record_table.proofs.reading.kept_rows.Given as goal

-- those that were seen
abbrev pub invariant-loop-name : goal.invariant-loop-name
invariant-loop-name l = l.all.items ≡ l.yielded
