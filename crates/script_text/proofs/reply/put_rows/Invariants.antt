use Rattle.std.proofs.Common.{take}
use Rattle.std.specs.List.{flat_map}
use Rattle.texts.proofs.Appending.{AppendsAll}
use Rattle.script_text.proofs.ReplyLemmas.{row_line}
use Rattle.script_text.proofs.reply.put_rows.Given as goal

-- the lines so far were appended
abbrev pub invariant-loop-row : goal.invariant-loop-row
invariant-loop-row g l = AppendsAll g.T.TextOut.tells (g.T.TextOut.view l.fn.out) (g.T.TextOut.view l.out) (flat_map (row_line l.caller) (take l.row-index l.rows))
