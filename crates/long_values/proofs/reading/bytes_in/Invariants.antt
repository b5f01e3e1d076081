use Rattle.std.proofs.Common.{◌≡◌, ℕ, ◌*◌, ◌-◌, List, take}
use Rattle.base64.specs.GeneralPurpose.{IsBytes}
use Rattle.long_values.specs.Values.{rows_of}
use Rattle.long_values.proofs.reading.bytes_in.Given as goal

-- the bytes of the parts so far
abbrev pub invariant-loop-n : goal.invariant-loop-n
invariant-loop-n l = (first : ℕ) (bytes : List ℕ) → IsBytes bytes → l.rows ≡ rows_of first bytes → l.spelled.items ≡ take (l.n * 40 - 40) bytes
