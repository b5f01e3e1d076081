use Rattle.commit_queue.proofs.Between.{holds_stands}
use Rattle.commit_queue.proofs.laws.held_stands.Goals as goal

pub returns : goal.returns
returns c queue bytes image holds = holds_stands c.args.shape.now queue bytes image holds
