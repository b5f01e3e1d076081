-- How many calls of the medium the steps of a queue make.
use Rattle.std.specs.Prelude.{ℕ, ◌+◌, nat_eq, if◌then◌else◌, List, [], ◌∷◌, take}
use Rattle.array_shape.specs.declared.shape.Shape.{Shape}
use Rattle.row_bytes.specs.declared.ballot.Ballot.{Ballot}
use Rattle.coordinator.specs.declared.cells.Cells.{Cells}
use Rattle.coordinator.specs.Costs.{commit_calls, decide_calls, write_back_calls}
use Rattle.write_back.specs.Orders.{due_for_place}

-- to write commits back, one after another
abbrev pub calls_back : Shape → List Cells → List Ballot → ℕ
calls_back shape cells [] = 0
calls_back shape cells (b ∷ bs) = write_back_calls shape b cells + calls_back shape cells bs

-- One more commit: its decision and its write-back, if none may wait; else what makes place for it, and its decision.
abbrev pub late_calls : Shape → ℕ → List Ballot → Ballot → List Cells → ℕ
late_calls shape depth bs ballot cells = if nat_eq depth 0 then commit_calls shape ballot cells else calls_back shape cells (take (due_for_place depth bs) bs) + decide_calls shape ballot
