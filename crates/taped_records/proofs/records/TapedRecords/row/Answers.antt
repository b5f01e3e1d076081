use Rattle.std.proofs.Common.{◌≡◌, ℕ, List, Some, subst}
use Rattle.std.specs.Prelude.{slice_get}
use Rattle.taped_records.proofs.Answering.{row_told}
use Rattle.taped_records.proofs.records.TapedRecords.row.Goals as goal

pub returns-in-Some : goal.returns-in-Some
returns-in-Some c =
    row_told c.args.self.now.rows c.args.at c.in-Some.row.now c.as_bytes.result.now _ _ _ _ _
    (subst (λ (rows : List (ℕ × List ℕ)). slice_get rows c.args.at ≡ Some c.in-Some.row.now) c.as_slice.ensures c.in-Some.ensures) c.as_bytes.ensures.text c.put_out.ensures
