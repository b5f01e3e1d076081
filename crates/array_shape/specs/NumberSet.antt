-- Sets of transaction numbers.
use Rattle.std.specs.Prelude.{ℕ, Bool, nat_eq, List, filter}
use Rattle.std.specs.Int.{bit_at}
use Rattle.std.specs.List.{range_with_len}
use Rattle.array_shape.specs.declared.number_set.NumberSet.{NumberSet}

-- number t is in a set of these bits, of transaction numbers or of loggers
abbrev pub has : ℕ → ℕ → Bool
has bits t = nat_eq (bit_at bits t) 1

-- those of the n numbers from t on that are in it, rising
unfoldable pub numbers_from : ℕ → ℕ → ℕ → List ℕ
numbers_from bits t n = filter (has bits) (range_with_len t n)

-- all of them: there are 64 numbers at most
abbrev pub numbers_in : ℕ → List ℕ
numbers_in bits = numbers_from bits 0 64

-- the numbers of a set, rising
abbrev pub members : NumberSet → List ℕ
members set = numbers_in set.bits
