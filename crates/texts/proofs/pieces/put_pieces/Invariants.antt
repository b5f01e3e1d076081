use Rattle.std.proofs.Common.{take}
use Rattle.texts.specs.Pieces.{text_of}
use Rattle.texts.proofs.Appending.{AppendsAll}
use Rattle.texts.proofs.pieces.put_pieces.Given as goal

-- the pieces so far were appended
abbrev pub invariant-loop-piece : goal.invariant-loop-piece
invariant-loop-piece g l = AppendsAll g.T.TextOut.tells (g.T.TextOut.view l.fn.out) (g.T.TextOut.view l.out) (text_of (take l.piece-index l.pieces))
