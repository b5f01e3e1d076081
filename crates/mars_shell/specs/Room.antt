-- The length of the medium that words need.
use Rattle.std.specs.Prelude.{ℕ, ◌≡◌, List}
use Rattle.array_shape.specs.declared.shape.Shape.{Shape}
use Rattle.array_shape.specs.Places.{media_len}
use Rattle.command_words.specs.Asked.{AsksFor}
use Rattle.command_words.specs.declared.words.FormatNumbers.{FormatNumbers}
use Rattle.command_words.specs.declared.words.Words.TheVariants.{Format}
use Rattle.mars_shell.specs.Formats.{HasAsked}

-- the words ask for a fresh array of this shape
abbrev pub AskToMake : List (List ℕ) → Shape → Type 0
AskToMake words shape = (numbers : FormatNumbers) × AsksFor words (Format numbers) × HasAsked numbers shape

-- the length of the medium for the array that the words ask to make, or 0 if they ask for none
pub record IsRoom (words : List (List ℕ)) (room : ℕ) : Type 0 where
  pub made : (shape : Shape) → AskToMake words shape → room ≡ media_len shape
  pub none : ((shape : Shape) → AskToMake words shape → ⊥) → room ≡ 0
