-- What a read costs.
use Rattle.std.specs.Prelude.{ℕ, ◌+◌, Bool, nat_lt, min, max, List, length, count_by}
use Rattle.array_shape.specs.declared.shape.Shape.{Shape}
use Rattle.array_shape.specs.Parts.{parts_of}
use Rattle.row_bytes.specs.declared.ballot.Ballot.{Ballot}
use Rattle.write_back.specs.declared.entry.Entry.{Entry}
use Rattle.write_back.specs.Turns.{in_turn}

-- the part of an entry and the `len` bytes from `addr` on share a byte
abbrev pub meets : ℕ → ℕ → Entry → Bool
meets addr len e = nat_lt (max e.addr addr) (min (e.addr + e.len) (addr + len))

-- The calls of the medium for a read: one for each page of its range, and one for each deferred part that has a byte of it.
abbrev pub read_calls : Shape → (ℕ → List Entry) → List Ballot → ℕ → ℕ → ℕ
read_calls shape entries queue addr len = length (parts_of shape addr len) + count_by (meets addr len) (in_turn shape entries queue)
