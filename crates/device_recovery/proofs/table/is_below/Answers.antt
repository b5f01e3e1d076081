use Rattle.device_recovery.proofs.Tests.{shift_test}
use Rattle.device_recovery.proofs.table.is_below.Goals as goal

pub returns : goal.returns
returns c = shift_test c.args.bits c.args.n
