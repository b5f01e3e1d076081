use Rattle.snapshot_readers.proofs.Joining.{joined_prefix}
use Rattle.snapshot_readers.proofs.laws.prefixes_join.Goals as goal

pub returns : goal.returns
returns c = joined_prefix
