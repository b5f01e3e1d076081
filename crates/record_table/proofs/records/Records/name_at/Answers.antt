use Rattle.std.proofs.Common.{ℕ, ◌∙◌, ap}
use Rattle.std.specs.Prelude.{slice_get}
use Rattle.record_table.proofs.records.Records.name_at.Goals as goal

pub returns-clause-main : goal.returns-clause-main
returns-clause-main g c = λ zero. c.name.ensures ∙ ap (λ (j : ℕ). slice_get c.self.inside.names j) zero ∙ c.self.invariant.1.0.1
