-- The line of a status.
use Rattle.std.proofs.Common.{◌≡◌, ℕ, ◌<◌, List, [], ◌∷◌, ◌++◌, length, arith, codes, refl}
use Rattle.mars.specs.Ending.{line_of}

-- the line of a text that is not empty
pub line_is : (text : List ℕ) → 0 < length text → line_of text ≡ codes "mars: " ++ (text ++ 10 ∷ [])
line_is [] some = absurd (omega (arith, some))
line_is (byte ∷ bytes) some = refl
