-- What is said of a fault of the medium.
use Rattle.std.specs.Prelude.{ℕ, List, [], ◌∷◌, ◌++◌, codes}
use Rattle.std.specs.Fmt.{decimal}

-- a line of the words for a fault of the medium alone
abbrev pub media_line : List ℕ
media_line = codes "media fault" ++ 10 ∷ []

-- the line that says so in answer to a caller or a number
abbrev pub numbered_media_line : ℕ → List ℕ
numbered_media_line number = decimal number ++ 32 ∷ media_line
