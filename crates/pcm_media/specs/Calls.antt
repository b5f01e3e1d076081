-- The calls that a medium in memory keeps, and the marks and places by which it keeps them.
use Rattle.std.specs.Prelude.{ℕ, ◌+◌, Bool, true, false, List, [], ◌∷◌, ◌++◌, length, take, drop, replicate}
use Rattle.pcm_media.specs.declared.call.Call.{Call}
use Rattle.pcm_media.specs.declared.call.Call.TheVariants.{Read, Write, Barrier}
use Rattle.pcm_media.specs.declared.call.Place.{Place}
use Rattle.pcm_media.specs.declared.call.End.{End}
use Rattle.pcm_media.specs.declared.call.End.TheVariants.{Open, Settled, FailedRead, FailedWrite, FailedBarrier}
use Rattle.pcm_media.specs.declared.call.Mark.{Mark}

-- A call that was made: the moment to which it raised the medium, which is its number, counted from 1; the call; and whether
-- it answered Ok.
pub record Record : Type 0 where
  pub moment : ℕ
  pub call : Call
  pub is_done : Bool

-- writes at these places
abbrev pub writes_at : List Place → Bool → List (Call × Bool)
writes_at [] is_done = []
writes_at (p ∷ ps) is_done = (Write p.at p.len, is_done) ∷ writes_at ps is_done

-- how many failed writes are an end
abbrev pub failed_writes : End → ℕ
failed_writes Open = 0
failed_writes Settled = 0
failed_writes FailedRead = 0
failed_writes FailedWrite = 1
failed_writes FailedBarrier = 0

-- the call that is an end, if any, when the places begin with that of its write
abbrev pub calls_at : End → List Place → List (Call × Bool)
calls_at Open places = []
calls_at Settled places = (Barrier, true) ∷ []
calls_at FailedRead places = (Read, false) ∷ []
calls_at FailedWrite places = writes_at (take 1 places) false
calls_at FailedBarrier places = (Barrier, false) ∷ []

-- how many of the places belong to a mark
abbrev pub places_under : Mark → ℕ
places_under mark = mark.writes + failed_writes mark.end

abbrev pub all_under : List Mark → ℕ
all_under [] = 0
all_under (mark ∷ marks) = places_under mark + all_under marks

-- the calls of a mark, when the places begin with its own
abbrev pub calls_of : Mark → List Place → List (Call × Bool)
calls_of mark places = replicate mark.reads (Read, true) ++ (writes_at (take mark.writes places) true ++ calls_at mark.end (drop mark.writes places))

-- the calls, each with whether it was done, the oldest first
abbrev pub calls_in : List Mark → List Place → List (Call × Bool)
calls_in [] places = []
calls_in (mark ∷ marks) places = calls_of mark places ++ calls_in marks (drop (places_under mark) places)

-- the calls behind a moment, each with the moment to which it raised the medium
abbrev pub numbered : ℕ → List (Call × Bool) → List Record
numbered moment [] = []
numbered moment (c ∷ cs) = record { moment = moment + 1; call = c.0; is_done = c.1 } ∷ numbered (moment + 1) cs

abbrev pub records_in : List Mark → List Place → List Record
records_in marks places = numbered 0 (calls_in marks places)

-- the ranges of these places, the last first
abbrev pub ranges_in : List Place → List (ℕ × ℕ)
ranges_in [] = []
ranges_in (p ∷ ps) = ranges_in ps ++ (p.at, p.len) ∷ []

-- the records with one more call appended
abbrev pub with_call : List Record → Call → Bool → List Record
with_call records call is_done = records ++ record { moment = length records + 1; call = call; is_done = is_done } ∷ []
