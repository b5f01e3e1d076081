use Rattle.commit_queue.proofs.Between.{clearing_left, clearing_after}
use Rattle.commit_queue.proofs.laws.votes_leave_the_queue.Goals as goal

pub returns-clause-during : goal.returns-clause-during
returns-clause-during c queue oldest bytes old image leaving left = clearing_left c.args.shape.now queue oldest bytes old leaving image left

pub returns-clause-after : goal.returns-clause-after
returns-clause-after c queue oldest bytes old new leaving touched none unvoted = clearing_after c.args.shape.now queue oldest bytes old leaving new touched none unvoted
