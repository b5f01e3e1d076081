use Rattle.std.proofs.Common.{◌≡◌, ◌≢◌, ◌<◌, ℕ, List, ◌∙◌, ap, arith}
use Rattle.std.specs.Prelude.{codes}
use Rattle.record_slots.specs.Names.{number_of}
use Rattle.record_slots.proofs.Numbering.{first_is}
use Rattle.record_table.proofs.records.Records.table_of.Goals as goal

pub returns-clause-main : goal.returns-clause-main
returns-clause-main g c = λ main.
    c.number.ensures.number ∙ ap (number_of c.self.inside.names) main ∙ first_is c.self.inside.names (codes "main") 0 c.self.invariant.1.0.1 (λ k lt. absurd (omega (arith, lt)))
