-- The work of a reader.
use Rattle.std.specs.Prelude.{ℕ, ◌≡◌, ◌≤◌, ◌+◌, List, [], ◌∷◌, ◌++◌, length, vec_capacity}
use Rattle.history.specs.declared.key.Key.{Key}
use Rattle.snapshot_readers.specs.Batches.{joined}
use Rattle.snapshot_readers.specs.Feeds.{read, read_book, read_base}
use Rattle.history.specs.Answers.{AreAnswers}
use Rattle.caller_work.specs.declared.gate.Place.{Place}
use Rattle.caller_work.specs.declared.gate.Place.TheVariants.{ReadBegan}
use Rattle.reader_work.specs.declared.reading.ReadWorker.{ReadWorker}

-- a reader is about to ask for each of these keys, counted from one on
abbrev pub read_places : (reader nth : ℕ) → List Key → List Place
read_places reader nth [] = []
read_places reader nth (key ∷ keys) = ReadBegan reader nth ∷ read_places reader (nth + 1) keys

-- nothing was asked yet, and there is room for each answer
pub record CanRead (worker : ReadWorker) : Type 0 where
  pub none : worker.answers.items ≡ []
  pub room : length worker.keys ≤ vec_capacity worker.answers

-- Each key was answered, from what the reader has now read or from the front of it, and the gate was told of each before.
pub record HasRead (was now : ReadWorker) : Type 0 where
  pub keys : now.keys ≡ was.keys
  pub names : now.names ≡ was.names
  pub book : read_book now.reader ≡ read_book was.reader
  pub base : read_base now.reader ≡ read_base was.reader
  pub answers : AreAnswers was.names (read_base was.reader) (joined (read now.reader)) 0 was.keys now.answers.items
  pub told : now.told.said ≡ was.told.said ++ read_places was.number 1 was.keys
