use Rattle.std.proofs.Common.{◌≡◌, ◌++◌, take}
use Rattle.std.specs.List.{flat_map}
use Rattle.history_text.proofs.TableLines.{table_lines}
use Rattle.history_text.proofs.tables.write_tables.Given as goal

-- the lines so far come after what was there
abbrev pub invariant-loop-table : goal.invariant-loop-table
invariant-loop-table l = l.text.items ≡ l.fn.text.items ++ flat_map table_lines (take l.table-index l.tables)
