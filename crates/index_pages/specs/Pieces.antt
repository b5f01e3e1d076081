-- A list of pairs in pieces, each under its low key: what the children of an inner page hold, or the pages of a chain.
use Rattle.std.specs.Prelude.{ℕ, zero, suc, ◌≡◌, ◌≤◌, ◌<◌, List, [], ◌∷◌, length, drop}
use Rattle.std.specs.List.{flat_map}
use Rattle.page_store.specs.Pairs.{Pair, Rise}

-- a low key, and the pairs from there on
abbrev pub Piece : Type 0
Piece = ℕ × List Pair

-- all pairs, from left to right
abbrev pub joined : List Piece → List Pair
joined pieces = flat_map (λ piece. piece.1) pieces

-- where the next piece begins: at its low key, or at the upper bound if there is none
abbrev pub low_of : List Piece → ℕ → ℕ
low_of [] high = high
low_of (p ∷ ps) high = p.0

-- The pieces tile the keys from the lower bound to below the upper one: the first begins at the lower bound, each ends where the next
-- begins, low keys rise strictly, and each piece's keys rise within its range.
abbrev pub Tile : ℕ → ℕ → List Piece → Type 0
Tile low high [] = low ≡ high
Tile low high (p ∷ ps) = (p.0 ≡ low) × (low < low_of ps high) × Rise low (low_of ps high) p.1 × Tile (low_of ps high) high ps

-- the pairs of piece i, none if there is no such piece
abbrev pub piece_at : List Piece → ℕ → List Pair
piece_at [] i = []
piece_at (p ∷ ps) zero = p.1
piece_at (p ∷ ps) (suc i) = piece_at ps i

-- where piece i begins
abbrev pub low_at : List Piece → ℕ → ℕ → ℕ
low_at pieces high i = low_of (drop i pieces) high

-- the key lies in the range of piece i
pub record IsIn (pieces : List Piece) (high i key : ℕ) : Type 0 where
  pub is_piece : i < length pieces
  pub from : low_at pieces high i ≤ key
  pub below : key < low_at pieces high (suc i)

-- the pieces, with other pairs in piece i
abbrev pub with_piece : List Piece → ℕ → List Pair → List Piece
with_piece [] i pairs = []
with_piece (p ∷ ps) zero pairs = (p.0, pairs) ∷ ps
with_piece (p ∷ ps) (suc i) pairs = p ∷ with_piece ps i pairs

-- the pieces, with piece i in two, of which the second begins at this low key
abbrev pub cut_at : List Piece → ℕ → List Pair → ℕ → List Pair → List Piece
cut_at [] i left low right = []
cut_at (p ∷ ps) zero left low right = (p.0, left) ∷ (low, right) ∷ ps
cut_at (p ∷ ps) (suc i) left low right = p ∷ cut_at ps i left low right
