-- Keys that the tests of a chain have come to.
use Rattle.std.specs.Prelude.{ℕ, suc, Option, Some, None}

-- the least key that may follow this one
abbrev pub low_of : Option ℕ → ℕ
low_of None = 0
low_of (Some key) = suc key
