use Rattle.commit_queue.proofs.Resting.{recovered}
use Rattle.commit_queue.proofs.laws.nothing_waits_after_recovery.Goals as goal

pub returns : goal.returns
returns c bytes now recovering quiet = recovered c.args.shape.now bytes now recovering quiet
