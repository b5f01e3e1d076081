-- Parts of writes with their bytes, as they stand in a log. No part crosses a page.
use Rattle.std.specs.Prelude.{ℕ, ◌≡◌, ◌+◌, ◌≤◌, nat_eq, if◌then◌else◌, List, [], ◌∷◌, length, map, fold}
use Rattle.mars_base.specs.Bytes.{put}
use Rattle.array_shape.specs.declared.shape.Shape.{Shape}
use Rattle.array_shape.specs.Places.{IsPlaced, logger_of, place_of}

-- an address, and the bytes that are to stand there
abbrev pub Part : Type 0
Part = ℕ × List ℕ

-- the bytes once the parts are written into them in order
abbrev pub applied : List Part → List ℕ → List ℕ
applied parts bytes = fold (λ (old : List ℕ) (part : Part). put old part.0 part.1) bytes parts

-- each lies within the first `size` bytes
abbrev pub AllFit : ℕ → List Part → Type 0
AllFit size [] = Unit {0}
AllFit size (p ∷ ps) = (p.0 + length p.1 ≤ size) × AllFit size ps

-- where they lie in the data
abbrev pub ranges_of : List Part → List (ℕ × ℕ)
ranges_of parts = map (λ (part : Part). (part.0, length part.1)) parts

-- where they lie on the medium
abbrev pub places_of : Shape → List Part → List (ℕ × ℕ)
places_of shape [] = []
places_of shape (p ∷ ps) = (place_of shape p.0, length p.1) ∷ places_of shape ps

-- each lies within one page of the data
abbrev pub AllPlaced : Shape → List Part → Type 0
AllPlaced shape [] = Unit {0}
AllPlaced shape (p ∷ ps) = IsPlaced shape p.0 (length p.1) × AllPlaced shape ps

-- a range within one page of logger g
pub record IsOwned (shape : Shape) (g addr len : ℕ) : Type 0 where
  pub placed : IsPlaced shape addr len
  pub logger : logger_of shape addr ≡ g

-- each lies in one page of logger g
abbrev pub AllOwned : Shape → ℕ → List Part → Type 0
AllOwned shape g [] = Unit {0}
AllOwned shape g (p ∷ ps) = IsOwned shape g p.0 (length p.1) × AllOwned shape g ps

-- those of logger g
abbrev pub parts_at : Shape → ℕ → List Part → List Part
parts_at shape g [] = []
parts_at shape g (p ∷ ps) = if nat_eq (logger_of shape p.0) g then p ∷ parts_at shape g ps else parts_at shape g ps
