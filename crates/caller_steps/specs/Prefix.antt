-- What a loss of power leaves of a history.
use Rattle.std.specs.Prelude.{ℕ, ◌≡◌, ◌≤◌, List, ◌++◌, All, length, take}
use Rattle.history.specs.Writes.{Table}
use Rattle.history.specs.Legal.{records}
use Rattle.history.specs.declared.transaction.Done.{Done}
use Rattle.caller_steps.specs.State.{State}

-- The image opens with the records of the first transactions of a history, at least so many. A loss of power never falls inside a group: of
-- each group all transactions are among them, or none.
pub record HasPrefix (Opens : List ℕ → Table → Type 0) (base : Table) (history : List Done) (least : ℕ) (image : List ℕ) : Type 0 where
  pub count : ℕ
  pub at_least : least ≤ count
  pub at_most : count ≤ length history
  pub whole : All (λ done. done.last ≤ count) (take count history)
  pub opens : Opens image (records base (take count history))

-- the same for a state, whose transactions in doubt come last, as a group that may be there or not
abbrev pub HasPrefixOf : (List ℕ → Table → Type 0) → State → ℕ → List ℕ → Type 0
HasPrefixOf Opens state least image = HasPrefix Opens state.base (state.history ++ state.doubt) least image

-- the new history extends the old one
pub record Grows (old new : List Done) : Type 0 where
  pub more : List Done
  pub is : new ≡ old ++ more
