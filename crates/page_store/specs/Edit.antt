-- Where a write goes in a log: onto a part that is there already, or after all of them.
use Rattle.std.specs.Prelude.{ℕ, zero, suc, ◌≡◌, ◌<◌, ◌≤◌, ◌+◌, false, is_some, nat_eq, nat_lt, ◌&&◌, not, Bool, true, if◌then◌else◌, List, [], ◌∷◌, ◌++◌, length, Option, Some, None, ◌⊎◌}
use Rattle.std.specs.Option.{option_map}
use Rattle.pcm_media.specs.Images.{IsOutside}
use Rattle.array_shape.specs.Logged.{Part, ranges_of}
use Rattle.eaw_face.specs.State.{edited, range_at}

-- whether two ranges share a byte
abbrev pub meet : ℕ × ℕ → ℕ × ℕ → Bool
meet r q = nat_lt r.0 (q.0 + q.1) && nat_lt q.0 (r.0 + r.1)

-- whether no range of the list shares a byte with r
abbrev pub meets_none : ℕ × ℕ → List (ℕ × ℕ) → Bool
meets_none r [] = true
meets_none r (q ∷ qs) = not (meet r q) && meets_none r qs

-- no byte lies in a range of both lists
abbrev pub AreApart : List (ℕ × ℕ) → List (ℕ × ℕ) → Type 0
AreApart rs qs = (i : ℕ) → IsOutside rs i ⊎ IsOutside qs i

-- whether two ranges are the same
abbrev pub is_same : ℕ × ℕ → ℕ × ℕ → Bool
is_same r q = nat_eq r.0 q.0 && nat_eq r.1 q.1

-- the position of the part that a write of range r edits: from the floor on, of just this range, and met by no later one
abbrev pub edit_pos : ℕ → ℕ × ℕ → List (ℕ × ℕ) → Option ℕ
edit_pos floor r [] = None
edit_pos zero r (q ∷ qs) = if is_same r q && meets_none r qs then Some 0 else option_map suc (edit_pos zero r qs)
edit_pos (suc floor) r (q ∷ qs) = option_map suc (edit_pos floor r qs)

-- the same as a property of a position
pub record IsEdited (floor : ℕ) (r : ℕ × ℕ) (ranges : List (ℕ × ℕ)) (pos : ℕ) : Type 0 where
  pub from : floor ≤ pos
  pub there : pos < length ranges
  pub same : range_at ranges pos ≡ r
  pub last : (k : ℕ) → pos < k → k < length ranges → meet r (range_at ranges k) ≡ false

-- the bytes replace those of the part at this position, or are one more part
abbrev pub written_at : Option ℕ → ℕ → List ℕ → List Part → List Part
written_at None addr bytes log = log ++ (addr, bytes) ∷ []
written_at (Some pos) addr bytes log = edited pos 0 bytes log

-- a log after a write that leaves the parts before the floor alone
abbrev pub with_write : ℕ → ℕ → List ℕ → List Part → List Part
with_write floor addr bytes log = written_at (edit_pos floor (addr, length bytes) (ranges_of log)) addr bytes log

-- the ranges of a log after it
abbrev pub with_range : ℕ → ℕ × ℕ → List (ℕ × ℕ) → List (ℕ × ℕ)
with_range floor r ranges = if is_some (edit_pos floor r ranges) then ranges else ranges ++ r ∷ []
