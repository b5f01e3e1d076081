use Rattle.std.proofs.Common.{sym, subst, arith, List, ℕ, ◌<◌, ◌-◌}
use Rattle.std.specs.List.{All}
use Rattle.history.specs.Writes.{Row}
use Rattle.history.specs.Packed.{CanRow, row_at, rows_at}
use Rattle.std.proofs.lemmas.List.Elements.{All-tail}
use Rattle.history.proofs.ReadAgain.{rows_some}
use Rattle.history.proofs.unpacking.KeptRows.next.Goals as goal

pub invariant_of-result : goal.invariant_of-result
invariant_of-result c =
    let bytes = c.self.inside.bytes.now in
    let n = c.self.inside.count in
    let some : 0 < n = omega (arith, c.if-self-eq0.false) in
    let behind = All-tail CanRow (row_at bytes).0 (rows_at (n - 1) (row_at bytes).1).0 (subst (λ (rows : List Row). All CanRow rows) (rows_some n bytes some) c.self.invariant) in
    subst (λ (b : List ℕ). All CanRow (rows_at (n - 1) b).0) (sym c.read_row-key.ensures.rest) behind
