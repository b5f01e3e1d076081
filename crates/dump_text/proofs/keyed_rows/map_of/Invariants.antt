use Rattle.std.proofs.Common.{◌≡◌, take}
use Rattle.dump_text.proofs.keyed_rows.map_of.Given as goal

-- the rows so far
abbrev pub invariant-loop-row : goal.invariant-loop-row
invariant-loop-row l = l.map.entries ≡ take l.row-index l.rows
