use Rattle.std.proofs.Common.{length}
use Rattle.restore.proofs.image_file.fill.Given as goal

abbrev pub decreases-loop-piece : goal.decreases-loop-piece
decreases-loop-piece l = length l.image.left
