-- A number of which some bytes have come.
use Rattle.std.specs.Prelude.{ℕ, ◌*◌, ◌^◌, ◌<◌, ◌≤◌}

-- what has come is below the weight of the next byte, and the whole number fits into eight bytes
abbrev pub IsPartial : (left value weight : ℕ) → Type 0
IsPartial left value weight = 0 < left → (value < weight) × (weight * 256 ^ left ≤ 256 ^ 8)
