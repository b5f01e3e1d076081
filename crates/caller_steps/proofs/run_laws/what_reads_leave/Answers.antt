use Rattle.caller_steps.proofs.Reading.{reads_leave}
use Rattle.caller_steps.proofs.run_laws.what_reads_leave.Goals as goal

pub returns : goal.returns
returns g = reads_leave
