use Rattle.history.proofs.Locking.{right_after, same_after, agrees_after}
use Rattle.history.proofs.laws.others_stay_right.Goals as goal

pub returns : goal.returns
returns c = record { right = right_after; same = same_after; unchanged = agrees_after }
