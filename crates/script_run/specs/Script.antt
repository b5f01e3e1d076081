-- How the lines of a script act on a state.
use Rattle.std.specs.Prelude.{ℕ, List}

-- From one state to another: the n-th line, of these bytes, is answered by this text; or the medium fails in what the bytes ask for under
-- this number; or memory runs out for the n-th line.
pub record Script (State : Type 0) : Type 1 where
  pub gives : State → ℕ → List ℕ → List ℕ → State → Type 0
  pub breaks : State → List ℕ → ℕ → State → Type 0
  pub stops : State → ℕ → List ℕ → State → Type 0
