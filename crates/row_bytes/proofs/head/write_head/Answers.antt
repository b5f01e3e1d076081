use Rattle.std.proofs.Common.{ap, ◌∙◌, arith}
use Rattle.std.proofs.lemmas.Grind.{common_steps}
use Rattle.row_bytes.specs.Said.{head_said}
use Rattle.row_bytes.proofs.Saying.{head_said-bytes}
use Rattle.row_bytes.proofs.head.write_head.Goals as goal

pub returns-clause-written : goal.returns-clause-written
returns-clause-written c = grind (arith, common_steps)

pub returns-clause-reads_back : goal.returns-clause-reads_back
returns-clause-reads_back c = ap head_said (returns-clause-written c) ∙ head_said-bytes c.args.head.now (omega arith) (omega arith)
