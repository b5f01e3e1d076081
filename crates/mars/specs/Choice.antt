-- Which image a command line names.
use Rattle.std.specs.Prelude.{ℕ, ◌≡◌, ◌∷◌, List, codes}
use Rattle.command_words.specs.Asked.{AsksFor}
use Rattle.command_words.specs.declared.words.Words.{Words}
use Rattle.mars_shell.specs.Room.{IsRoom}
use Rattle.mars.specs.declared.choice.Image.{Image}
use Rattle.mars.specs.declared.choice.Image.TheVariants.{Memory, File}

-- the program's name, the image's name, and words that ask for something
pub record IsCommand (line : List (List ℕ)) (image : List ℕ) (words : List (List ℕ)) : Type 0 where
  pub program : List ℕ
  pub says : line ≡ program ∷ image ∷ words
  pub asked : Words
  pub asks : AsksFor words asked

-- `-` is an array in memory, and any other name is the path of a file of at least the length that the words need
abbrev pub IsImage : List ℕ → List (List ℕ) → Image → Type 0
IsImage name words Memory = name ≡ codes "-"
IsImage name words (File path least) = (name ≡ codes "-" → ⊥) × (path.now ≡ name) × IsRoom words least
