-- What a raw command asks for, given only its number's log: None if the number holds none, else where its parts lie.
use Rattle.std.specs.Prelude.{ℕ, ◌≡◌, ◌+◌, ◌<◌, ◌≤◌, List, [], length, slice_index_or, Option, None, IsSome, unwrap_or, ⊤}
use Rattle.mars_base.specs.Check.{Check, test, both}
use Rattle.mars_base.specs.Room.{room}
use Rattle.array_shape.specs.declared.shape.Shape.{Shape}
use Rattle.array_shape.specs.Places.{data_len}
use Rattle.array_shape.specs.Parts.{parts_of_write}
use Rattle.array_shape.specs.Logged.{ranges_of}
use Rattle.eaw_face.specs.State.{count_on}
use Rattle.eaw_face.specs.Command.{log_write, log_edit, commit, abort, nested_top, partial_abort, atomic_write, read}
use Rattle.script_text.specs.declared.answer.Answer.{Answer}
use Rattle.script_text.specs.declared.answer.Answer.TheVariants.{Unknown, BadRange, Live, LogFull}
use Rattle.script_text.specs.Eaw.{Raw, does, read_log, log_len, held}

-- The tests of a command in their order: the number holds a log, what is named exists, the number holds no log, and each logger has room
-- for what is needed on top of what it holds. And whether the medium is used.
pub record Tests : Type 1 where
  pub known : Type 0
  pub there : Type 0
  pub free : Type 0
  pub held : List (ℕ × ℕ)
  pub needed : List (ℕ × ℕ)
  pub media : Type 0

-- no tests, and the medium is used
abbrev pub untested : Tests
untested = record { known = ⊤; there = ⊤; free = ⊤; held = []; needed = []; media = ⊤ }

-- A range lies in the data; an offset is at most the log's length; a position is below that, and an edit lies within its part; a logger is
-- one of the array's. Discarding or counting parts does not use the medium, nor does committing none.
abbrev pub asks : Shape → Option (List (ℕ × ℕ)) → Raw → Tests
asks shape log (does (log_write t addr bytes)) =
    record untested { there = addr + length bytes ≤ data_len shape; held = unwrap_or log []; needed = ranges_of (parts_of_write addr bytes) }
asks shape log (does (log_edit t pos at bytes)) =
    record untested { known = IsSome log; there = (pos < length (unwrap_or log [])) × (at + length bytes ≤ (slice_index_or (unwrap_or log []) pos (0, 0)).1) }
asks shape log (does (commit t)) = record untested { known = IsSome log; media = 0 < length (unwrap_or log []) }
asks shape log (does (abort t)) = record untested { known = IsSome log; media = ⊥ }
asks shape log (does (nested_top t o)) = record untested { known = IsSome log; there = o ≤ length (unwrap_or log []); media = o < length (unwrap_or log []) }
asks shape log (does (partial_abort t o)) = record untested { known = IsSome log; there = o ≤ length (unwrap_or log []); media = ⊥ }
asks shape log (does (atomic_write t addr bytes)) =
    record untested { there = addr + length bytes ≤ data_len shape; free = log ≡ None; needed = ranges_of (parts_of_write addr bytes) }
asks shape log (does (read addr len)) = record untested { there = addr + len ≤ data_len shape }
asks shape log (read_log pos) = record untested { known = IsSome log; there = pos < length (unwrap_or log []) }
asks shape log log_len = record untested { media = ⊥ }
asks shape log (held logger) = record untested { there = logger < shape.loggers; media = ⊥ }
asks shape log _ = untested

-- the verdict of these tests in their order: the answer for the first that fails
abbrev pub checks : Shape → Tests → Check Answer
checks shape asked = both (test asked.known Unknown) (both (test asked.there BadRange) (both (test asked.free Live)
    (room LogFull shape.loggers shape.entries (λ k. count_on shape k asked.held) (λ k. count_on shape k asked.needed))))
