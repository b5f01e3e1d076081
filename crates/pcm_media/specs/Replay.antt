-- What a medium holds after the calls that it kept, and what it held before each of them.
use Rattle.std.specs.Prelude.{ℕ, ◌+◌, ◌<◌, ◌≤◌, ◌⊎◌, Bool, true, false, List, [], ◌∷◌, take, drop}
use Rattle.pcm_media.specs.declared.call.Call.{Call}
use Rattle.pcm_media.specs.declared.call.Call.TheVariants.{Read, Write, Barrier}
use Rattle.pcm_media.specs.Calls.{Record}
use Rattle.mars_base.specs.Bytes.{put}
use Rattle.pcm_media.specs.Images.{Content, MayLeave, partly, settled}

-- these bytes, all settled
abbrev pub at_rest : List ℕ → Content
at_rest bytes = record { bytes = bytes; unsettled = [] }

-- the range that a call writes
abbrev pub range_of : Call → List (ℕ × ℕ)
range_of Read = []
range_of (Write at len) = (at, len) ∷ []
range_of Barrier = []

-- how many of the written bytes belong to this call, which was done or not
abbrev pub byte_count_of : Call → Bool → ℕ
byte_count_of Read is_done = 0
byte_count_of (Write at len) true = len
byte_count_of (Write at len) false = 0
byte_count_of Barrier is_done = 0

-- what one call makes of the content, when the written bytes begin with its own
abbrev pub next_content_by : Call → Bool → List ℕ → Content → Content
next_content_by Read is_done written content = content
next_content_by (Write at len) true written content = record { bytes = put content.bytes at (take len written); unsettled = (at, len) ∷ content.unsettled }
next_content_by (Write at len) false written content = partly ((at, len) ∷ []) content
next_content_by Barrier true written content = settled content
next_content_by Barrier false written content = content

-- how many of the written bytes belong to a kept call
abbrev pub byte_count : Record → ℕ
byte_count made = byte_count_of made.call made.is_done

-- what a kept call makes of the content
abbrev pub next_content : Record → List ℕ → Content → Content
next_content made written content = next_content_by made.call made.is_done written content

-- how many of the written bytes belong to these calls
abbrev pub total_bytes : List Record → ℕ
total_bytes [] = 0
total_bytes (made ∷ later) = byte_count made + total_bytes later

-- how many bytes these calls were to write, those that failed too
abbrev pub asked_bytes : List Record → ℕ
asked_bytes [] = 0
asked_bytes (made ∷ later) = byte_count_of made.call true + asked_bytes later

-- no stamp is above this moment
abbrev pub IsStamped : ℕ → List Record → Type 0
IsStamped now [] = Unit {0}
IsStamped now (made ∷ later) = (made.moment ≤ now) × IsStamped now later

-- the ranges that are not settled after a call, given those before it
abbrev pub next_unsettled : Call → Bool → List (ℕ × ℕ) → List (ℕ × ℕ)
next_unsettled Read is_done ranges = ranges
next_unsettled (Write at len) is_done ranges = (at, len) ∷ ranges
next_unsettled Barrier true ranges = []
next_unsettled Barrier false ranges = ranges

-- the same after all of these calls
abbrev pub unsettled_after : List Record → List (ℕ × ℕ) → List (ℕ × ℕ)
unsettled_after [] ranges = ranges
unsettled_after (made ∷ later) ranges = unsettled_after later (next_unsettled made.call made.is_done ranges)

-- the content after these calls, the oldest first
abbrev pub content_after : List Record → List ℕ → Content → Content
content_after [] written content = content
content_after (made ∷ later) written content = content_after later (drop (byte_count made) written) (next_content made written content)

-- a loss of power just before one of these calls, one that raised the moment above `t`, might have left the image
abbrev pub LeftBefore : List Record → List ℕ → Content → ℕ → List ℕ → Type 0
LeftBefore [] written content t image = ⊥
LeftBefore (made ∷ later) written content t image = ((t < made.moment) × MayLeave content image) ⊎ LeftBefore later (drop (byte_count made) written) (next_content made written content) t image
