use Rattle.std.proofs.Common.{length}
use Rattle.script_text.proofs.LeftPieces.{Left}
use Rattle.history_text.proofs.HistoryLines.{kept_lines}
use Rattle.history_text.proofs.transactions.put_replies.Given as goal

-- the lines of the calls that are left are still to come
abbrev pub invariant-loop-told : goal.invariant-loop-told
invariant-loop-told g l = Left (kept_lines l.caller) g.T.TextOut.tells (g.T.TextOut.view l.fn.out) (g.T.TextOut.view l.out) l.calls l.left

abbrev pub decreases-loop-told : goal.decreases-loop-told
decreases-loop-told g l = length l.left
