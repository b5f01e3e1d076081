-- Lists that are indexed by numbers, joined.
use Rattle.std.specs.Prelude.{ℕ, List}
use Rattle.std.specs.List.{flat_map, range_with_len}

-- the lists of the n numbers from k on, joined
abbrev pub joined : {A : Type 0} → (ℕ → List A) → ℕ → ℕ → List A
joined lists k n = flat_map lists (range_with_len k n)
