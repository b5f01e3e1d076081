use Rattle.outside.proofs.Again.{counted_cause}
use Rattle.outside.proofs.standard.StdStreamSink.write.Goals as goal

pub returns-clause-cause : goal.returns-clause-cause
returns-clause-cause g c = rw (← c.self.view_is) (counted_cause c.self.inside.faults c.write_again.new.faults c.write_again.result c.write_again.ensures.later c.write_again.ensures.counted)
