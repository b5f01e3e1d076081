use Rattle.std.proofs.Common.{ap, ◌∙◌, arith}
use Rattle.std.proofs.lemmas.Grind.{common_steps}
use Rattle.row_bytes.specs.Said.{row_said}
use Rattle.row_bytes.proofs.Saying.{row_said-bytes}
use Rattle.row_bytes.proofs.row.write_row.Goals as goal

pub returns-clause-written : goal.returns-clause-written
returns-clause-written c = grind (arith, common_steps)

pub returns-clause-reads_back : goal.returns-clause-reads_back
returns-clause-reads_back c = ap row_said (returns-clause-written c) ∙ row_said-bytes c.args.row.now (record { first = omega arith; count = omega arith; group = omega arith; order = omega arith })
