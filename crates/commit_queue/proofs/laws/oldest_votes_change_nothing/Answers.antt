use Rattle.commit_queue.proofs.WriteBack.{leaving_torn}
use Rattle.commit_queue.proofs.laws.oldest_votes_change_nothing.Goals as goal

pub returns : goal.returns
returns c queue oldest bytes old image queued voted already same = leaving_torn c.args.shape.now queue oldest bytes old image queued voted same already
