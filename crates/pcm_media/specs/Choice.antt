-- The image that a choice of bytes leaves where nothing is settled.
use Rattle.std.specs.Prelude.{ℕ, ◌+◌, ◌%◌, ◌<◌, ◌≤◌, ◌≡◌, ◌⊎◌, ◌==◌, if◌then◌else◌, List, [], ◌∷◌, length, slice_index}
use Rattle.pcm_media.specs.Images.{Content, MayLeave, SameOutside}

-- the place lies in one of the ranges
abbrev pub IsInside : List (ℕ × ℕ) → ℕ → Type 0
IsInside [] i = ⊥
IsInside (r ∷ rs) i = ((r.0 ≤ i) × (i < r.0 + r.1)) ⊎ IsInside rs i

-- the byte that a choice, repeated, has for a place; an empty choice keeps the byte that is there
abbrev pub chosen_byte : List ℕ → ℕ → ℕ → ℕ
chosen_byte choice i there = if length choice == 0 then there else slice_index choice (i % length choice)

-- A loss of power may leave this image, and at each place that is not settled it has the byte of the choice.
pub record IsLeftBy (choice : List ℕ) (content : Content) (image : List ℕ) : Type 0 where
  pub left : MayLeave content image
  pub chosen : (i : ℕ) → i < length image → IsInside content.unsettled i → slice_index image i ≡ chosen_byte choice i (slice_index content.bytes i)

-- the bytes of a nonempty choice, repeated, at each place of these ranges, and the old bytes elsewhere
pub record IsChosen (choice : List ℕ) (ranges : List (ℕ × ℕ)) (old new : List ℕ) : Type 0 where
  pub outside : SameOutside ranges old new
  pub inside : (i : ℕ) → i < length new → IsInside ranges i → slice_index new i ≡ slice_index choice (i % length choice)
