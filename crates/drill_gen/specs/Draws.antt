-- Numbers that are drawn from a seed.
use Rattle.std.specs.Prelude.{ℕ, zero, suc, ◌+◌, ◌*◌, ◌%◌, ◌^◌}

-- The state of the generator after n draws. The number that is drawn is the state / 65536.
abbrev pub drawn_on : ℕ → ℕ → ℕ
drawn_on seed zero = seed
drawn_on seed (suc n) = (drawn_on seed n * 1103515245 + 12345) % 2 ^ 31
