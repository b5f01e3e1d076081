use Rattle.commit_queue.proofs.WriteBack.{oldest_torn}
use Rattle.commit_queue.proofs.laws.oldest_parts_change_nothing.Goals as goal

pub returns : goal.returns
returns c queue oldest bytes old image queued voted same = oldest_torn c.args.shape.now queue oldest bytes old image queued voted same
