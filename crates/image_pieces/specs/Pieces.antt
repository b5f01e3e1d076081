-- An image that is taken piece by piece.
use Rattle.std.specs.Prelude.{ℕ, ◌≡◌, ◌+◌, ◌≤◌, ◌<◌, List, ◌++◌, length, take, replicate}
use Rattle.image_pieces.specs.declared.piece.Piece.{Piece}
use Rattle.image_pieces.specs.declared.piece.Piece.TheVariants.{Bytes, Zeros}

-- the bytes that are left, and where they begin
pub record Rest : Type 0 where
  pub at : ℕ
  pub left : List ℕ

-- the bytes of a piece, which stand at the front of these if they are not all zero
abbrev pub bytes_of : Piece → List ℕ → List ℕ
bytes_of (Bytes at len) out = take len out
bytes_of (Zeros len) out = replicate len 0

-- it says that it lies at this place, and its bytes are all there
abbrev pub IsPlaced : ℕ → Piece → Type 0
IsPlaced place (Bytes at len) = (at ≡ place) × (len ≤ 65536)
IsPlaced place (Zeros len) = Unit {0}

-- the piece comes first of what is left, and the new rest behind it
pub record IsNext (old : Rest) (piece : Piece) (out : List ℕ) (new : Rest) : Type 0 where
  pub bytes : old.left ≡ bytes_of piece out ++ new.left
  pub place : new.at ≡ old.at + length (bytes_of piece out)
  pub placed : IsPlaced old.at piece
  pub shorter : length new.left < length old.left
