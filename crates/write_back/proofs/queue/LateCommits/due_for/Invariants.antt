use Rattle.std.proofs.Common.{◌≡◌, take}
use Rattle.write_back.specs.Orders.{due_for}
use Rattle.write_back.proofs.queue.LateCommits.due_for.Given as goal

abbrev pub invariant-loop-at : goal.invariant-loop-at
invariant-loop-at l = l.due ≡ due_for l.group (take l.at l.self.ballots.items)
