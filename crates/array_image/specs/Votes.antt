-- Where votes lie on the medium.
use Rattle.std.specs.Prelude.{ℕ, Bool, not, ◌&&◌, if◌then◌else◌, List, [], ◌∷◌}
use Rattle.array_shape.specs.declared.shape.Shape.{Shape}
use Rattle.array_shape.specs.Places.{row_at}
use Rattle.array_image.specs.Joined.{joined}
use Rattle.array_image.specs.Image.{row_of}
use Rattle.array_image.specs.Decided.{decided}

-- the votes of the rows that a test takes, by number and logger
abbrev pub votes_of : Shape → (ℕ → ℕ → Bool) → List (ℕ × ℕ)
votes_of shape test = joined (λ t. joined (λ g. if test g t then (row_at shape g t, 1) ∷ [] else []) 0 shape.loggers) 0 shape.numbers

-- a row is voted and not decided
abbrev pub dropped : Shape → List ℕ → ℕ → ℕ → Bool
dropped shape image g t = (row_of shape image g t).voted && not (decided shape image g t)
