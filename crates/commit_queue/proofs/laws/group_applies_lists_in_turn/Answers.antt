use Rattle.commit_queue.proofs.Groups.{lists_in_turn}
use Rattle.commit_queue.proofs.laws.group_applies_lists_in_turn.Goals as goal

pub returns : goal.returns
returns c image commit lists bytes long written d_long placed same = lists_in_turn c.args.shape.now image commit lists bytes long written d_long placed same
