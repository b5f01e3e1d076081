use Rattle.std.proofs.Common.{◌≡◌, ◌++◌, take}
use Rattle.std.specs.List.{flat_map}
use Rattle.history_text.proofs.TableLines.{row_line}
use Rattle.history_text.proofs.tables.write_table.Given as goal

-- the lines so far come after what was there
abbrev pub invariant-loop-row : goal.invariant-loop-row
invariant-loop-row l = l.text.items ≡ l.fn.text.items ++ flat_map (row_line l.fn.name) (take l.row-index l.rows)
