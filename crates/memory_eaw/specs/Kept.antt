-- What a store in memory keeps of its calls.
use Rattle.std.specs.Prelude.{ℕ, ◌≡◌, ◌+◌, ◌-◌, ◌*◌, ◌^◌, ◌≤◌, ◌⊎◌, List, [], ◌∷◌, ◌++◌, length, take, drop, Contains}
use Rattle.mars_base.specs.Causes.{next_count}

-- the data as it was until a call raised the moment to `until`
pub record Version : Type 0 where
  pub until : ℕ
  pub bytes : List ℕ

-- The calls that are to fail; the moment; how many calls failed; the data before each change, the oldest first; how many more
-- changes there is room for; and how many bytes the data has.
pub record Kept : Type 0 where
  pub listed : List ℕ
  pub moment : ℕ
  pub faults : ℕ
  pub past : List Version
  pub room : ℕ
  pub size : ℕ

-- no call yet
abbrev pub fresh_kept : ℕ → ℕ → Kept
fresh_kept size room = record { listed = []; moment = 0; faults = 0; past = []; room = room; size = size }

-- the next call fails whatever it is: it is listed, or the moment is at its last value
abbrev pub MustFail : Kept → Type 0
MustFail kept = (kept.moment ≡ 2 ^ 64 - 1) ⊎ Contains kept.listed (kept.moment + 1)

-- the next change of the data fails: the next call would fail anyway, or no room is left
abbrev pub MustFailChange : Kept → Type 0
MustFailChange kept = MustFail kept ⊎ (kept.room ≡ 0)

-- after a call that failed
abbrev pub failed : Kept → Kept
failed kept = record kept { moment = next_count kept.moment; faults = next_count kept.faults }

-- after a call that changed no data
abbrev pub called : Kept → Kept
called kept = record kept { moment = kept.moment + 1 }

-- after a call that changed the data, which was `bytes` before it
abbrev pub changed : List ℕ → Kept → Kept
changed bytes kept = record kept { moment = kept.moment + 1; past = kept.past ++ record { until = kept.moment + 1; bytes = bytes } ∷ []; room = kept.room - 1 }

-- the versions with these moments, and with these bytes, one version after another
abbrev pub versions : ℕ → List ℕ → List ℕ → List Version
versions size [] past = []
versions size (until ∷ untils) past = record { until = until; bytes = take size past } ∷ versions size untils (drop size past)

-- Each moment has a version of the data's size, and there is room for `room` more changes. No more was taken for them at first.
pub record HoldsPast (size room : ℕ) (untils past : List ℕ) (untils_room past_room : ℕ) : Type 0 where
  pub whole : length past ≡ length untils * size
  pub moments : length untils + room ≡ untils_room
  pub bytes : length past + room * size ≤ past_room
  pub first : length untils ≡ 0 → past_room ≡ room * size
