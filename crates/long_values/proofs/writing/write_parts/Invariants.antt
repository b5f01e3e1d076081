use Rattle.std.proofs.Common.{◌≡◌, ◌<◌, ◌+◌, ℕ, suc, Some}
use Rattle.std.specs.Prelude.{IsTrue}
use Rattle.std.specs.FinMap.{get}
use Rattle.history.specs.Key.{of_table}
use Rattle.transactions.specs.Adds.{Stays}
use Rattle.long_values.specs.Values.{text_at}
use Rattle.long_values.specs.Changing.{seen_by, Changes}
use Rattle.long_values.proofs.writing.write_parts.Given as goal

-- the parts so far have their records, and no other record changed
abbrev pub invariant-loop-n : goal.invariant-loop-n
invariant-loop-n g l = record {
  limits : (g.C.Core.view l.core).limits ≡ (g.C.Core.view l.fn.core).limits;
  changes : IsTrue g.C.Core.tells → Changes l.caller l.at.table (l.at.first + 1) (l.at.first + 1 + l.n) (g.C.Core.view l.fn.core) (g.C.Core.view l.core);
  stays : (start : g.row.C.Denot) → IsTrue g.C.Core.tells → Stays l.caller (g.C.Core.view start) (g.C.Core.view l.fn.core) → Stays l.caller (g.C.Core.view start) (g.C.Core.view l.core);
  written : IsTrue g.C.Core.tells → (k : ℕ) → k < l.n → get (seen_by l.caller (g.C.Core.view l.core)) (of_table l.at.table (l.at.first + 1 + k)) ≡ Some (text_at l.bytes (suc k));
}
