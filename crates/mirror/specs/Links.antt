-- What a link in memory holds.
use Rattle.std.specs.Prelude.{ℕ, List}

-- its frames, the oldest first, and how often a send has failed
pub record Kept : Type 0 where
  pub frames : List (List ℕ)
  pub faults : ℕ
