-- What is noted of the calls of a medium that serves reads from memory, and what might have been left by that.
use Rattle.std.specs.Prelude.{ℕ, zero, suc, ◌+◌, ◌<◌, ◌⊎◌, List, [], ◌∷◌, ◌++◌, get_or}
use Rattle.pcm_media.specs.Images.{Content, MayLeave, IsOutside}
use Rattle.pcm_media.specs.View.{View}

-- Which moment of the medium below stood at each moment before this one, and which content was shown then; which ranges are unsettled in what
-- is shown now; and how many bytes the spared writes had.
pub record Past : Type 0 where
  pub stood : List ℕ
  pub seen : List Content
  pub unsettled : List (ℕ × ℕ)
  pub spared : ℕ

-- what was noted last, which stands first
abbrev pub newest : List Past → Past
newest [] = record { stood = []; seen = []; unsettled = []; spared = 0 }
newest (past ∷ older) = past

-- what is shown: the bytes of the medium below, and the unsettled ranges of its own
abbrev pub content_of : View → Past → Content
content_of inner past = record { bytes = inner.content.bytes; unsettled = past.unsettled }

-- a moment has passed
abbrev pub with_moment : View → Past → Past
with_moment inner past = record { stood = past.stood ++ inner.moment ∷ []; seen = past.seen ++ content_of inner past ∷ []; unsettled = past.unsettled; spared = past.spared }

-- so many bytes were written at a place
abbrev pub with_write : ℕ → ℕ → Past → Past
with_write at count past = record past { unsettled = (at, count) ∷ past.unsettled }

-- the same, without a call below
abbrev pub with_spared : ℕ → ℕ → Past → Past
with_spared at count past = record past { unsettled = (at, count) ∷ past.unsettled; spared = past.spared + count }

-- a barrier succeeded
abbrev pub with_barrier : Past → Past
with_barrier past = record past { unsettled = [] }

-- at moment `t` or later, before this one, what was shown might have left the image
abbrev pub HasSeen : List Content → ℕ → List ℕ → Type 0
HasSeen [] t image = ⊥
HasSeen (content ∷ later) zero image = MayLeave content image ⊎ HasSeen later zero image
HasSeen (content ∷ later) (suc t) image = HasSeen later t image

-- What might have been left at moment `t` or later: what is shown now may leave it; or, if `t` is past, it might have been left below since the
-- moment that stood there, or by what was shown since.
abbrev pub LeftSince : View → Past → ℕ → ℕ → List ℕ → Type 0
LeftSince inner past moment t image = ((t < moment) × (inner.left_since (get_or past.stood t 0) image ⊎ HasSeen past.seen t image)) ⊎ MayLeave (content_of inner past) image

-- what is unsettled below is unsettled in what is shown
abbrev pub IsWide : Past → View → Type 0
IsWide past inner = (i : ℕ) → IsOutside past.unsettled i → IsOutside inner.content.unsettled i
