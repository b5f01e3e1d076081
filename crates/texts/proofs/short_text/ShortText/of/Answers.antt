use Rattle.texts.specs.Pieces.{piece_text, most_bytes}
use Rattle.texts.proofs.Rooms.{room_at, room_behind, text_more}
use Rattle.texts.proofs.short_text.ShortText.of.Goals as goal

pub add-requires : goal.add-requires
add-requires c = room_at most_bytes c.args.pieces.now c.loop-piece.piece-index _ _ c.loop-piece-test.true c.loop-piece.invariant.room c.requires

pub loop-piece-preserved : goal.loop-piece-preserved
loop-piece-preserved c = record {
  text = text_more piece_text c.args.pieces.now c.loop-piece.piece-index _ _ _ c.loop-piece-test.true c.loop-piece.invariant.text c.add.ensures.text;
  room = room_behind most_bytes c.args.pieces.now c.loop-piece.piece-index _ _ _ c.loop-piece-test.true c.loop-piece.invariant.room c.add.ensures.room;
}
