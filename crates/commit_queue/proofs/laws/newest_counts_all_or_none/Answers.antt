use Rattle.commit_queue.proofs.WriteBack.{newest_torn}
use Rattle.commit_queue.proofs.laws.newest_counts_all_or_none.Goals as goal

pub returns : goal.returns
returns c queue newest bytes old image queued voted same = newest_torn c.args.shape.now queue newest bytes old image queued voted same
