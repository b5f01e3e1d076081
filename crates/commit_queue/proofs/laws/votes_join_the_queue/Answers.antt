use Rattle.commit_queue.proofs.Between.{votes_left, votes_after}
use Rattle.commit_queue.proofs.laws.votes_join_the_queue.Goals as goal

pub returns-clause-during : goal.returns-clause-during
returns-clause-during c queue newest bytes old image joining left = votes_left c.args.shape.now queue newest bytes old joining image left

pub returns-clause-after : goal.returns-clause-after
returns-clause-after c queue newest bytes old new joining touched none voted = votes_after c.args.shape.now queue newest bytes old joining new touched none voted
