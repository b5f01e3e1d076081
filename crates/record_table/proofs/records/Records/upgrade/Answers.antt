use Rattle.record_table.proofs.Blaming.{front_here}
use Rattle.record_table.proofs.records.Records.upgrade.Goals as goal

pub returns-clause-blames : goal.returns-clause-blames
returns-clause-blames g c = rw c.told.ensures (front_here c.upgrade.result c.upgrade.ensures.blames)
