use Rattle.commit_queue.proofs.Alike.{parts_alike, rests_alike}
use Rattle.commit_queue.proofs.laws.alike_commits_wait_alike.Goals as goal

pub returns-clause-rest : goal.returns-clause-rest
returns-clause-rest c queue other bytes now alike rest image left = rests_alike c.args.shape.now image queue other bytes alike (rest image left)

pub returns-clause-parts : goal.returns-clause-parts
returns-clause-parts c queue other alike = parts_alike c.args.shape.now queue other alike
