use Rattle.std.proofs.Common.{◌≡◌, ◌++◌}
use Rattle.dump_text.proofs.keyed_rows.rows_of.Given as goal

abbrev pub invariant-loop-key : goal.invariant-loop-key
invariant-loop-key l = l.rows ++ l.key-iterator ≡ l.map.entries
