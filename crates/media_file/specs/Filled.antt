-- The zeros of a file that is made longer.
use Rattle.std.specs.Prelude.{ℕ, ◌+◌, ◌/◌}

-- how many pieces of 4,096 bytes these bytes take, the last perhaps shorter
abbrev pub pieces : ℕ → ℕ
pieces len = (len + 4095) / 4096
