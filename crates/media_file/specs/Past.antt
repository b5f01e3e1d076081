-- The calls of a file with their answers, what they make of its bytes, and what an honest file answers.
use Rattle.std.specs.Prelude.{ℕ, ◌+◌, ◌-◌, ◌<◌, ◌≡◌, ◌==◌, ◌⊎◌, min, max, Bool, true, false, List, [], ◌∷◌, ◌++◌, length, take, replicate}
use Rattle.std.specs.List.{All}
use Rattle.std.proofs.Common.{⊎_elim, arith}
use Rattle.std.proofs.lemmas.List.Elements.{All-head, All-tail}
use Rattle.mars_base.specs.Bytes.{put, range}
use Rattle.pcm_media.specs.Images.{Content, MayLeave, settled}

-- A call that was made: the length was told; these bytes came from a place on; these bytes stand at a place after a write, which
-- took them, or failed and left them there; the length was set; all that was written was made durable.
pub data Event : Type 0 where
  measured : (len : ℕ) → Event
  came : (at : ℕ) (bytes : List ℕ) → Event
  stands : (at : ℕ) (bytes : List ℕ) → Event
  resized : (len : ℕ) → Event
  synced : Event

-- a call, and the moment of the medium's call for which it was made
pub record Made : Type 0 where
  pub moment : ℕ
  pub event : Event

-- what the file held at first, with what of that was not settled, and its calls since, the newest first
pub record Past : Type 0 where
  pub first : Content
  pub calls : List Made

abbrev pub noted : ℕ → Event → Past → Past
noted moment event past = record { first = past.first; calls = record { moment = moment; event = event } ∷ past.calls }

-- bytes cut to a length, or extended to it with zeros
abbrev pub padded : ℕ → List ℕ → List ℕ
padded len bytes = take len bytes ++ replicate (len - length bytes) 0

-- the smallest range that contains both
abbrev pub hull : ℕ × ℕ → ℕ × ℕ → ℕ × ℕ
hull a b = (min a.0 b.0, max (a.0 + a.1) (b.0 + b.1) - min a.0 b.0)

-- One more range. The parts of one write count as one range.
abbrev pub joined : Bool → ℕ × ℕ → List (ℕ × ℕ) → List (ℕ × ℕ)
joined false range others = range ∷ others
joined true range [] = range ∷ []
joined true range (last ∷ others) = hull range last ∷ others

-- whether the last call was made at this moment too
abbrev pub goes_on : ℕ → List Made → Bool
goes_on moment [] = false
goes_on moment (last ∷ earlier) = last.moment == moment

-- What a call makes of the content. Writes are taken not to reach past the end.
abbrev pub next_content : Event → Bool → Content → Content
next_content (measured len) is_more held = held
next_content (came at bytes) is_more held = held
next_content (stands at bytes) is_more held = record { bytes = put held.bytes at bytes; unsettled = joined is_more (at, length bytes) held.unsettled }
next_content (resized len) is_more held = record { bytes = padded len held.bytes; unsettled = (length held.bytes, len - length held.bytes) ∷ held.unsettled }
next_content synced is_more held = settled held

abbrev pub content_after : Content → List Made → Content
content_after first [] = first
content_after first (made ∷ earlier) = next_content made.event (goes_on made.moment earlier) (content_after first earlier)

-- what a file with this past holds
abbrev pub held : Past → Content
held past = content_after past.first past.calls

-- a loss of power just before one of these calls, one that was made later than `t`, might have left the image
abbrev pub LeftBefore : ℕ → Content → List Made → List ℕ → Type 0
LeftBefore t first [] image = ⊥
LeftBefore t first (made ∷ earlier) image = ((t < made.moment) × MayLeave (content_after first earlier) image) ⊎ LeftBefore t first earlier image

-- a loss of power at moment `t` or later might have left the image
abbrev pub LeftSince : Past → ℕ → List ℕ → Type 0
LeftSince past t image = MayLeave (held past) image ⊎ LeftBefore t past.first past.calls image

-- each of these calls was made before this moment
abbrev pub AreBefore : ℕ → List Made → Type 0
AreBefore now calls = All (λ made. made.moment < now) calls

-- no call was made after now, so no loss of power came before such a call
past_only : (now : ℕ) (image : List ℕ) (first : Content) (calls : List Made) → AreBefore (now + 1) calls → LeftBefore now first calls image → ⊥
past_only now image first [] before left = left
past_only now image first (made ∷ earlier) before left = ⊎_elim (λ here. omega (arith, here.0, All-head (λ made. made.moment < now + 1) made earlier before)) (λ there. past_only now image first earlier (All-tail (λ made. made.moment < now + 1) made earlier before) there) left

-- since now, nothing is left but what may be left now
pub only_now : (past : Past) (now : ℕ) (image : List ℕ) → AreBefore (now + 1) past.calls → LeftSince past now image → MayLeave (held past) image
only_now past now image before left = ⊎_elim (λ here. here) (λ there. absurd (past_only now image past.first past.calls before there)) left

-- a file with this content may give this answer
abbrev pub Answers : Event → Content → Type 0
Answers (measured len) held = len ≡ length held.bytes
Answers (came at bytes) held = bytes ≡ range held.bytes at (length bytes)
Answers (stands at bytes) held = Unit {0}
Answers (resized len) held = Unit {0}
Answers synced held = Unit {0}

-- each call was answered from what the calls before it made of the first content
abbrev pub IsHonest : Content → List Made → Type 0
IsHonest first [] = Unit {0}
IsHonest first (made ∷ earlier) = Answers made.event (content_after first earlier) × IsHonest first earlier
