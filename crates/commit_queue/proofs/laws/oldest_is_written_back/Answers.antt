use Rattle.commit_queue.proofs.Between.{parts_left, parts_after}
use Rattle.commit_queue.proofs.laws.oldest_is_written_back.Goals as goal

pub returns-clause-during : goal.returns-clause-during
returns-clause-during c queue oldest bytes old image held left = parts_left c.args.shape.now queue oldest bytes old held image left

pub returns-clause-after : goal.returns-clause-after
returns-clause-after c queue oldest bytes old new held touched none written = parts_after c.args.shape.now queue oldest bytes old held new touched none written
