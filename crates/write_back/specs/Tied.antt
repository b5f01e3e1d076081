-- What ties the entries in memory to the commits that wait.
use Rattle.std.specs.Prelude.{ℕ, ◌≡◌, ◌<◌, Bool, true, false, if◌then◌else◌, IsTrue, List, [], ◌∷◌}
use Rattle.std.specs.List.{range_with_len}
use Rattle.pcm_media.specs.View.{View}
use Rattle.array_shape.specs.declared.shape.Shape.{Shape}
use Rattle.array_shape.specs.NumberSet.{has}
use Rattle.row_bytes.specs.declared.ballot.Ballot.{Ballot}
use Rattle.row_bytes.specs.Ballots.{has_row}
use Rattle.coordinator.specs.declared.cells.Cells.{Cells}
use Rattle.coordinator.specs.Commits.{cells_in}
use Rattle.write_back.specs.declared.entry.Entry.{Entry}
use Rattle.write_back.specs.Entries.{AreHeld, cells_on}
use Rattle.write_back.specs.Shown.{HasPlaces, entries_of, shape_of}
use Rattle.write_back.specs.Turns.{has_some}
use Rattle.write_back.specs.Waiting.{IsFit}
use Rattle.write_back.specs.declared.commits.LateData.{LateData}

-- at each logger the entries of a ballot's numbers have just the cells that the table names for its rows, in their order
abbrev pub HasNamed : Shape → List Cells → (ℕ → List Entry) → Ballot → Type 0
HasNamed shape cells entries b = (g t : ℕ) → g < shape.loggers → t < shape.numbers → has b.group t ≡ true
    → cells_on shape g (entries t) ≡ (if has_row b g t then range_with_len (cells_in cells g t).first (cells_in cells g t).count else [])

abbrev pub HaveNamed : Shape → List Cells → (ℕ → List Entry) → List Ballot → Type 0
HaveNamed shape cells entries [] = Unit {0}
HaveNamed shape cells entries (b ∷ bs) = HasNamed shape cells entries b × HaveNamed shape cells entries bs

-- no number is in two of these ballots
abbrev pub AreApart : List Ballot → Type 0
AreApart [] = Unit {0}
AreApart (b ∷ bs) = ((t : ℕ) → has b.group t ≡ true → has_some bs t ≡ false) × AreApart bs

-- Each commit that waits has the entries of its cells, no number is in two of them, and a number that is in none, and is not set aside for
-- the next one, has no entry.
pub record AreTied (shape : Shape) (cells : List Cells) (entries : ℕ → List Entry) (ballots : List Ballot) (aside : ℕ → Bool) : Type 0 where
  pub named : HaveNamed shape cells entries ballots
  pub apart : AreApart ballots
  pub none : (t : ℕ) → t < shape.numbers → aside t ≡ false → has_some ballots t ≡ false → entries t ≡ []

-- the entries of the numbers of some ballots went, and all others are as they were
pub record Forgets (shape : Shape) (ballots : List Ballot) (old new : ℕ → List Entry) : Type 0 where
  pub gone : (t : ℕ) → t < shape.numbers → has_some ballots t ≡ true → new t ≡ []
  pub others : (t : ℕ) → t < shape.numbers → has_some ballots t ≡ false → new t ≡ old t

-- so it is in memory
abbrev pub IsTied : Shape → LateData → (ℕ → Bool) → Type 0
IsTied shape kept aside = AreTied shape kept.queue.cells (entries_of kept.parts) kept.queue.ballots.items aside

-- the queue fits the array, and there is memory for the entries of all commits that may wait
pub record IsReady (shape : Shape) (kept : LateData) : Type 0 where
  pub fit : IsFit shape kept.queue
  pub shape_is : shape_of kept.parts ≡ shape
  pub places : 0 < kept.queue.depth → HasPlaces kept.parts

-- it is ready still, and what the entries say of the cells is so still
pub record Stays (tells : Bool) (shape : Shape) (old : LateData) (before : View) (new : LateData) (now : View) : Type 0 where
  pub ready : IsReady shape new
  pub held : IsTrue tells → AreHeld shape before.content.bytes (entries_of old.parts) → AreHeld shape now.content.bytes (entries_of new.parts)
