use Rattle.history.proofs.Locking.{locked_right, locked_same, unwritten_kept}
use Rattle.history.proofs.laws.strict_locking.Goals as goal

pub returns : goal.returns
returns c = record { right = locked_right; same = locked_same; unwritten = unwritten_kept }
