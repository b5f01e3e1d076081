-- How many commits may wait on a device, and what its type says of it.
use Rattle.std.specs.Prelude.{ℕ, ◌≤◌}

-- so many may wait on a device of a type that says this
abbrev pub IsOfDepth : (least most : ℕ) → ℕ → Type 0
IsOfDepth least most depth = (least ≤ depth) × (depth ≤ most) × (depth ≤ 64)
