-- What a medium in memory shows.
use Rattle.std.specs.Prelude.{ℕ, ◌-◌, ◌^◌, ◌<◌, ◌≤◌, ◌≡◌, ◌⊎◌, Bool, List, length}
use Rattle.std.proofs.Common.{inl, ⊎_elim, arith}
use Rattle.mars_base.specs.Causes.{MetListed}
use Rattle.pcm_media.specs.Images.{Content, MayLeave, no_content}
use Rattle.pcm_media.specs.View.{View}
use Rattle.pcm_media.specs.Kept.{Kept, fresh_kept, has_room_for}
use Rattle.pcm_media.specs.Replay.{at_rest, total_bytes, asked_bytes, IsStamped, content_after, LeftBefore}

-- the bytes with which it was made, and what it keeps of its calls
pub record Memory : Type 0 where
  pub start : List ℕ
  pub kept : Kept

-- its content
abbrev pub content_of : Memory → Content
content_of memory = content_after memory.kept.records memory.kept.written (at_rest memory.start)

-- What a loss of power at moment `t` or later might have left: what it may leave now, and, if `t` is past, what it might have
-- left before some call that came after `t`.
abbrev pub LeftSince : Memory → ℕ → List ℕ → Type 0
LeftSince memory t image =
    MayLeave (content_of memory) image
    ⊎ ((t < memory.kept.moment) × LeftBefore memory.kept.records memory.kept.written (at_rest memory.start) t image)

-- its view as a medium
abbrev pub view_of : Memory → View
view_of memory = record {
  size = length (content_of memory).bytes;
  content = content_of memory;
  moment = memory.kept.moment;
  left_since = LeftSince memory;
  faults = memory.kept.faults;
  device = no_content;
}

-- its next calls will not fail: this many, which write this many bytes in all
abbrev pub is_steady : Memory → ℕ → ℕ → Bool
is_steady memory calls bytes = has_room_for memory.kept calls bytes

-- A call that was made is listed, more calls were made or more bytes were to be written than there is room for, or the moment is at its last
-- value.
abbrev pub IsSpent : Kept → Type 0
IsSpent kept = MetListed kept.listed kept.moment ⊎ ((kept.calls_room < kept.moment) ⊎ ((kept.bytes_room < asked_bytes kept.records) ⊎ (2 ^ 64 - 1 ≤ kept.moment)))

-- a new one, with these bytes and room for this many calls and written bytes
abbrev pub fresh_memory : List ℕ → ℕ → ℕ → Memory
fresh_memory start calls bytes = record { start = start; kept = fresh_kept calls bytes }

-- What it holds follows from the kept calls: no stamp is above the moment, each written byte belongs to one of them, and a read
-- gives what they made of the first bytes. Not more of them were kept than were made, and one failed only where it is spent.
pub record Tells (memory : Memory) (read : List ℕ) : Type 0 where
  pub stamped : IsStamped memory.kept.moment memory.kept.records
  pub whole : total_bytes memory.kept.records ≡ length memory.kept.written
  pub bytes : (content_of memory).bytes ≡ read
  pub most : length memory.kept.records ≤ memory.kept.moment
  pub spent : 0 < memory.kept.faults → IsSpent memory.kept

-- what may be left now counts as left since each moment
pub counts_now : (memory : Memory) (t : ℕ) (image : List ℕ) → MayLeave (content_of memory) image → LeftSince memory t image
counts_now memory t image left = inl left

-- since now, nothing else is left
pub only_now : (memory : Memory) (image : List ℕ) → LeftSince memory memory.kept.moment image → MayLeave (content_of memory) image
only_now memory image left = ⊎_elim (λ now. now) (λ before. absurd (omega (arith, before.0))) left
