-- What is kept of one number besides its log.
use Rattle.std.specs.Prelude.{ℕ, ◌-◌, max, List, length, slice_index_or, Option}
use Rattle.std.specs.Option.{unwrap_or}

-- how many parts it had at each of its saves, and how many when an open top action began
pub record Marked : Type 0 where
  pub counts : List ℕ
  pub top : Option ℕ

-- the floor: how many parts no write edits
abbrev pub floor_at : Marked → ℕ
floor_at m = max (slice_index_or m.counts (length m.counts - 1) 0) (unwrap_or m.top 0)
