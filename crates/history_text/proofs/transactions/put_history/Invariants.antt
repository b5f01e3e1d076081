use Rattle.std.proofs.Common.{take}
use Rattle.std.specs.List.{flat_map}
use Rattle.texts.proofs.Appending.{AppendsAll}
use Rattle.history_text.specs.Text.{done_lines}
use Rattle.history_text.proofs.transactions.put_history.Given as goal

-- the lines so far were appended
abbrev pub invariant-loop-done : goal.invariant-loop-done
invariant-loop-done g l = AppendsAll g.T.TextOut.tells (g.T.TextOut.view l.fn.out) (g.T.TextOut.view l.out) (flat_map done_lines (take l.done-index l.history))
