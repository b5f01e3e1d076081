-- What the steps of a medium make of its first bytes, and what a loss of power may leave on a device on which they are done in order.
use Rattle.std.specs.Prelude.{ℕ, ◌+◌, ◌<◌, ◌≤◌, ◌⊎◌, List, [], ◌∷◌, ◌++◌, length, take, drop}
use Rattle.pcm_media.specs.Images.{Content, MayLeave, written, settled, partly}
use Rattle.pcm_media.specs.Replay.{at_rest}

-- these bytes are written at a place; all that was written is made durable
pub data Step : Type 0 where
  writes : (at : ℕ) (bytes : List ℕ) → Step
  barrier : Step

-- a step, and the moment to which the call that made it raised the medium
pub record Made : Type 0 where
  pub moment : ℕ
  pub step : Step

-- the first bytes; the steps that were done on the device; and those that are still ahead: the oldest first
pub record Past : Type 0 where
  pub start : List ℕ
  pub done : List Made
  pub ahead : List Made

-- these steps, all made at this moment
abbrev pub made_at : ℕ → List Step → List Made
made_at moment [] = []
made_at moment (step ∷ steps) = record { moment = moment; step = step } ∷ made_at moment steps

-- these steps were put behind those ahead, at this moment
abbrev pub with_steps : Past → ℕ → List Step → Past
with_steps past moment steps = record past { ahead = past.ahead ++ made_at moment steps }

-- one step was
abbrev pub with_step : Past → ℕ → Step → Past
with_step past moment step = with_steps past moment (step ∷ [])

-- the first step ahead was done
abbrev pub with_first_done : Past → Past
with_first_done past = record { start = past.start; done = past.done ++ take 1 past.ahead; ahead = drop 1 past.ahead }

-- all steps, those that were done and those ahead
abbrev pub all_of : Past → List Made
all_of past = past.done ++ past.ahead

-- what a step makes of the content
abbrev pub next_content : Step → Content → Content
next_content (writes at bytes) content = written at bytes content
next_content barrier content = settled content

-- the content after these steps
abbrev pub content_after : List Made → Content → Content
content_after [] content = content
content_after (made ∷ later) content = content_after later (next_content made.step content)

-- what the medium holds: all steps are made of its first bytes
abbrev pub content_of : Past → Content
content_of past = content_after (all_of past) (at_rest past.start)

-- what the device holds: the steps that were done are made of the same bytes
abbrev pub device_of : Past → Content
device_of past = content_after past.done (at_rest past.start)

-- the range that a step writes
abbrev pub range_of : Step → List (ℕ × ℕ)
range_of (writes at bytes) = (at, length bytes) ∷ []
range_of barrier = []

-- the range that the next step writes
abbrev pub next_range : List Made → List (ℕ × ℕ)
next_range [] = []
next_range (made ∷ later) = range_of made.step

-- a loss of power now, with the next step not begun or under way, may leave this image on the device
abbrev pub DeviceMayLeave : Past → List ℕ → Type 0
DeviceMayLeave past image = MayLeave (partly (next_range past.ahead) (device_of past)) image

-- the range of a write, before these; none before a barrier
abbrev pub ranges_with : Step → List (ℕ × ℕ) → List (ℕ × ℕ)
ranges_with (writes at bytes) later = (at, length bytes) ∷ later
ranges_with barrier later = []

-- the ranges of the writes up to the next barrier
abbrev pub batch_ranges : List Made → List (ℕ × ℕ)
batch_ranges [] = []
batch_ranges (made ∷ later) = ranges_with made.step (batch_ranges later)

-- the same with all writes up to the next barrier begun, in any order
abbrev pub BatchMayLeave : Past → List ℕ → Type 0
BatchMayLeave past image = MayLeave (partly (batch_ranges past.ahead) (device_of past)) image

-- a loss of power just before one of these steps, one that was made after `t`, might have left the image
abbrev pub LeftBefore : List Made → Content → ℕ → List ℕ → Type 0
LeftBefore [] content t image = ⊥
LeftBefore (made ∷ later) content t image = ((t < made.moment) × MayLeave content image) ⊎ LeftBefore later (next_content made.step content) t image

-- each of these was made after `t`
abbrev pub AreAfter : ℕ → List Made → Type 0
AreAfter t [] = Unit {0}
AreAfter t (made ∷ later) = (t < made.moment) × AreAfter t later

-- each was made after those before it
abbrev pub AreRising : List Made → Type 0
AreRising [] = Unit {0}
AreRising (made ∷ later) = AreAfter made.moment later × AreRising later

-- a step stays within so many bytes
abbrev pub IsWithin : ℕ → Step → Type 0
IsWithin size (writes at bytes) = at + length bytes ≤ size
IsWithin size barrier = Unit {0}

-- each of these was made at a moment up to now, which is never 0, and stays within so many bytes
abbrev pub AreMade : ℕ → ℕ → List Made → Type 0
AreMade now size [] = Unit {0}
AreMade now size (made ∷ later) = (0 < made.moment) × (made.moment ≤ now) × IsWithin size made.step × AreMade now size later
