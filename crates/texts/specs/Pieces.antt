-- Texts in pieces.
use Rattle.std.specs.Prelude.{ℕ, List, length}
use Rattle.std.specs.List.{flat_map}
use Rattle.std.specs.Fmt.{decimal}
use Rattle.texts.specs.declared.pieces.Piece.{Piece}
use Rattle.texts.specs.declared.pieces.Piece.TheVariants.{Words, Number}

-- the words, or the number in decimal
abbrev pub piece_text : Piece → List ℕ
piece_text (Words words) = words.now
piece_text (Number n) = decimal n

-- the pieces one after another
abbrev pub text_of : List Piece → List ℕ
text_of pieces = flat_map piece_text pieces

-- the most bytes that a piece may have: a number of 64 bits has at most 20 digits
abbrev pub most_bytes : Piece → ℕ
most_bytes (Words words) = length words.now
most_bytes (Number n) = 20
