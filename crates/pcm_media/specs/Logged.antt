-- What the record of a medium's calls shows, and what is counted beside it.
use Rattle.std.specs.Prelude.{ℕ, ◌≡◌, ◌+◌, ◌-◌, List, [], ◌∷◌, ◌++◌, ◌≤◌, length, drop, min, max}
use Rattle.pcm_media.specs.declared.call.Place.{Place}
use Rattle.pcm_media.specs.declared.call.End.TheVariants.{Open}
use Rattle.pcm_media.specs.declared.call.Mark.{Mark}
use Rattle.pcm_media.specs.Calls.{Record, all_under, records_in, ranges_in}
use Rattle.pcm_media.specs.Replay.{unsettled_after}

-- the calls, the oldest first, how many more there is room for in any case, and for how many at most
pub record Logged : Type 0 where
  pub records : List Record
  pub room : ℕ
  pub most_room : ℕ

-- how many more elements two vectors have room for, each with its capacity and its length
abbrev pub least_room : ℕ → ℕ → ℕ → ℕ → ℕ
least_room capacity len capacity' len' = min (capacity - len) (capacity' - len')

abbrev pub most_room : ℕ → ℕ → ℕ → ℕ → ℕ
most_room capacity len capacity' len' = max (capacity - len) (capacity' - len')

-- The places are those of the marks, the last among them, which has no end yet. So many come before the last barrier that was done: those
-- behind it are unsettled.
pub record AreCounted (marks : List Mark) (last : Mark) (places : List Place) (settled : ℕ) : Type 0 where
  pub under : all_under marks + last.writes ≡ length places
  pub ended : last.end ≡ Open
  pub past : settled ≤ length places
  pub unsettled : unsettled_after (records_in (marks ++ last ∷ []) places) [] ≡ ranges_in (drop settled places)
