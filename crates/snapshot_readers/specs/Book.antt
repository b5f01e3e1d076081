-- The rule of the book, and what its step tells.
use Rattle.std.specs.Prelude.{ℕ, ◌≡◌, ◌==◌, true, List, [], ◌∷◌, ◌++◌, length, MatchBool}
use Rattle.logbook.specs.Pages.{Cell, Step, View, Book, Named}
use Rattle.snapshot_readers.specs.Batches.{Batch}

-- The first word is the length of the list. A book has two words, of which this one leaves the second at 0.
abbrev pub IsKept : List Cell → List Batch → Type 0
IsKept cells list = cells ≡ (length list, true) ∷ (0, true) ∷ []

-- the word that is the length of the book's list
abbrev pub word_of : Book → Named
word_of book = record { tracked = true; key = 0; book = book }

-- the batch was added to all that had been seen; or the list was longer
abbrev pub Adds : Step Batch → View Batch ℕ → ℕ → View Batch ℕ → Type 0
Adds s v found w = MatchBool (found == s.old) (w.0 ≡ v.0 ++ s.ask ∷ []) (length w.0 ≡ found)
