-- What a source and a sink in memory show.
use Rattle.std.specs.Prelude.{ℕ, ◌+◌, ◌≡◌, ◌⊎◌, ◌==◌, ◌&&◌, nat_le, Bool, true, List, length}
use Rattle.mars_base.specs.Causes.{MetListed}

-- the bytes that are left, the calls that are to fail, how many calls were made, and how many of them failed
pub record Reading : Type 0 where
  pub left : List ℕ
  pub listed : List ℕ
  pub calls : ℕ
  pub faults : ℕ

-- What was written, how many bytes there is room for, the calls that are to fail, how many calls were made, whether memory ran out beyond
-- the room, and how many calls failed.
pub record Writing : Type 0 where
  pub text : List ℕ
  pub room : ℕ
  pub listed : List ℕ
  pub calls : ℕ
  pub ran_out : Bool
  pub faults : ℕ

-- no call is to fail, and there is room for `more` more bytes
abbrev pub has_room : Writing → ℕ → Bool
has_room sink more = (length sink.listed == 0) && nat_le (length sink.text + more) sink.room

-- a call that was made is listed, or memory ran out beyond the room
abbrev pub IsSpent : Writing → Type 0
IsSpent sink = MetListed sink.listed sink.calls ⊎ (sink.ran_out ≡ true)
