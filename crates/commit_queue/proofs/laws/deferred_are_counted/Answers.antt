use Rattle.commit_queue.proofs.Counting.{deferred_are}
use Rattle.commit_queue.proofs.laws.deferred_are_counted.Goals as goal

pub returns : goal.returns
returns c queue bytes image holds rise some = deferred_are c.args.shape.now queue bytes image holds rise some
