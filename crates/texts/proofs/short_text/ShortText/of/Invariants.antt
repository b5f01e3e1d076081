use Rattle.std.proofs.Common.{◌≡◌, ◌+◌, ◌≤◌, length, take, drop}
use Rattle.std.specs.List.{sum_by}
use Rattle.texts.specs.Pieces.{text_of, most_bytes}
use Rattle.texts.proofs.short_text.ShortText.of.Given as goal

-- the pieces so far, and room for the others
abbrev pub invariant-loop-piece : goal.invariant-loop-piece
invariant-loop-piece l = record {
  text : l.text ≡ text_of (take l.piece-index l.pieces);
  room : length l.text + sum_by most_bytes (drop l.piece-index l.pieces) ≤ sum_by most_bytes l.pieces;
}
