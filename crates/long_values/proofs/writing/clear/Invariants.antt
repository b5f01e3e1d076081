use Rattle.std.proofs.Common.{◌≡◌, ◌<◌, ◌≤◌, ◌+◌, ℕ, None}
use Rattle.std.specs.Prelude.{IsTrue}
use Rattle.std.specs.FinMap.{get}
use Rattle.history.specs.Key.{of_table}
use Rattle.transactions.specs.Adds.{Stays}
use Rattle.long_values.specs.Changing.{seen_by, Changes}
use Rattle.long_values.proofs.writing.clear.Given as goal

-- those so far are gone, and no other record changed
abbrev pub invariant-loop-n : goal.invariant-loop-n
invariant-loop-n g l = record {
  limits : (g.C.Core.view l.core).limits ≡ (g.C.Core.view l.fn.core).limits;
  changes : IsTrue g.C.Core.tells → Changes l.caller l.at.table (l.at.first + l.from) (l.at.first + l.n) (g.C.Core.view l.fn.core) (g.C.Core.view l.core);
  stays : (start : g.row.C.Denot) → IsTrue g.C.Core.tells → Stays l.caller (g.C.Core.view start) (g.C.Core.view l.fn.core) → Stays l.caller (g.C.Core.view start) (g.C.Core.view l.core);
  gone : IsTrue g.C.Core.tells → (k : ℕ) → l.from ≤ k → k < l.n → get (seen_by l.caller (g.C.Core.view l.core)) (of_table l.at.table (l.at.first + k)) ≡ None;
}
