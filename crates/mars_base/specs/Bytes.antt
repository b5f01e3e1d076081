-- Bytes at a place.
use Rattle.std.specs.Prelude.{ℕ, ◌+◌, List, ◌++◌, length, take, drop}

-- the `count` bytes from the place `at` on
abbrev pub range : List ℕ → ℕ → ℕ → List ℕ
range bytes at count = take count (drop at bytes)

-- the old bytes with these at the place `at`
abbrev pub put : List ℕ → ℕ → List ℕ → List ℕ
put old at bytes = take at old ++ bytes ++ drop (at + length bytes) old
