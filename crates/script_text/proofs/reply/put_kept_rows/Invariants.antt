use Rattle.std.proofs.Common.{length}
use Rattle.script_text.proofs.LeftPieces.{Left}
use Rattle.script_text.proofs.ReplyLemmas.{row_line}
use Rattle.script_text.proofs.reply.put_kept_rows.Given as goal

abbrev pub invariant-loop-key : goal.invariant-loop-key
invariant-loop-key g l = Left (row_line l.caller) g.T.TextOut.tells (g.T.TextOut.view l.fn.out) (g.T.TextOut.view l.out) l.fn.rows l.left

abbrev pub decreases-loop-key : goal.decreases-loop-key
decreases-loop-key g l = length l.left
