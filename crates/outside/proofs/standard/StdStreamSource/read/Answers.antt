use Rattle.outside.proofs.Again.{counted_cause}
use Rattle.outside.proofs.standard.StdStreamSource.read.Goals as goal

pub returns-clause-cause : goal.returns-clause-cause
returns-clause-cause g c = rw (← c.self.view_is) (counted_cause c.self.inside.faults c.read_again.new.faults c.read_again.result c.read_again.ensures.later c.read_again.ensures.counted)
