use Rattle.std.proofs.Common.{◌≡◌, ◌++◌, ◌∷◌, length, take}
use Rattle.std.specs.List.{All, flat_map}
use Rattle.history.specs.Packed.{word, row_bytes, CanRow}
use Rattle.history.proofs.packing.append_rows.Given as goal

abbrev pub invariant-loop-i : goal.invariant-loop-i
invariant-loop-i l = record {
  items : l.bytes.items ≡ l.fn.bytes.items ++ (3 ∷ word (length l.rows) ++ flat_map row_bytes (take l.i l.rows));
  able : All CanRow (take l.i l.rows);
}
