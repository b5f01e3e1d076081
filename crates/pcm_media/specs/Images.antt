-- What a medium holds, and what a loss of power may leave of it.
use Rattle.std.specs.Prelude.{ℕ, ◌+◌, ◌<◌, ◌≤◌, ◌≡◌, List, [], ◌∷◌, ◌++◌, length, slice_index}
use Rattle.mars_base.specs.Bytes.{put}

-- the bytes that a read gives, and each range (place and length) that was written since the last barrier that succeeded
pub record Content : Type 0 where
  pub bytes : List ℕ
  pub unsettled : List (ℕ × ℕ)

-- nothing
abbrev pub no_content : Content
no_content = record { bytes = []; unsettled = [] }

-- the place lies in none of the ranges
abbrev pub IsOutside : List (ℕ × ℕ) → ℕ → Type 0
IsOutside [] i = Unit {0}
IsOutside (r ∷ rs) i = (r.0 ≤ i → i < r.0 + r.1 → ⊥) × IsOutside rs i

-- the same length, and the same bytes outside the ranges
pub record SameOutside (ranges : List (ℕ × ℕ)) (old new : List ℕ) : Type 0 where
  pub long : length new ≡ length old
  pub same : (i : ℕ) → IsOutside ranges i → slice_index new i ≡ slice_index old i

-- a loss of power now may leave this image
abbrev pub MayLeave : Content → List ℕ → Type 0
MayLeave content image = SameOutside content.unsettled content.bytes image

-- the content after a write
abbrev pub written : ℕ → List ℕ → Content → Content
written at bytes old = record { bytes = put old.bytes at bytes; unsettled = (at, length bytes) ∷ old.unsettled }

-- the content after a barrier that succeeded
abbrev pub settled : Content → Content
settled old = record { bytes = old.bytes; unsettled = [] }

-- From the old content to the new one at most these ranges were written, in whole or in part: the other bytes are
-- the same, and no place outside the ranges became unsettled.
pub record Touched (ranges : List (ℕ × ℕ)) (old new : Content) : Type 0 where
  pub bytes : SameOutside ranges old.bytes new.bytes
  pub unsettled : (i : ℕ) → IsOutside ranges i → IsOutside old.unsettled i → IsOutside new.unsettled i

-- the same bytes, with these ranges unsettled too
abbrev pub partly : List (ℕ × ℕ) → Content → Content
partly ranges content = record { bytes = content.bytes; unsettled = ranges ++ content.unsettled }
