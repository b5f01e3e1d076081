use Rattle.std.proofs.Common.{refl}
use Rattle.texts.specs.Pieces.{piece_text}
use Rattle.texts.proofs.Appending.{cut_at}
use Rattle.texts.proofs.pieces.put_pieces.Goals as goal

pub returns-in_err-put_piece : goal.returns-in_err-put_piece
returns-in_err-put_piece g c =
    cut_at piece_text c.args.pieces.now c.loop-piece.piece-index _ c.from_residual.result c.loop-piece-test.true refl c.from_residual.ensures.0 c.loop-piece.invariant c.in_err-put_piece.ensures
