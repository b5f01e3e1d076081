-- Where the phases of a commit write.
use Rattle.std.proofs.Common.{ℕ, ◌+◌, ◌<◌, ◌≤◌, Bool, true, false, cond, List, [], ◌∷◌, arith}
use Rattle.pcm_media.specs.Images.{IsOutside}
use Rattle.pcm_media.proofs.Left.{outside-append}
use Rattle.array_shape.specs.declared.shape.Shape.{Shape}
use Rattle.array_shape.specs.Places.{row_at}
use Rattle.array_shape.specs.Logged.{places_of}
use Rattle.row_bytes.specs.declared.ballot.Ballot.{Ballot}
use Rattle.row_bytes.specs.Ballots.{has_row}
use Rattle.array_image.specs.Joined.{joined}
use Rattle.array_image.specs.Votes.{votes_of}
use Rattle.array_image.proofs.Headers.{AreBehind, places_behind, behind-append}
use Rattle.array_image.proofs.Joined.{outside_at, outside_joined}
use Rattle.commit_queue.specs.Between.{bodies_of}
use Rattle.coordinator.specs.declared.cells.Cells.{Cells}
use Rattle.coordinator.specs.Commits.{parts_named}
use Rattle.coordinator.specs.Places.{commit_places, row_places}

module _ (shape : Shape) (ballot : Ballot) where
  -- ranges in the rows of a commit
  in_rows : (at len : ℕ → ℕ → ℕ) → ((g t i : ℕ) → at g t ≤ i → i < at g t + len g t → (row_at shape g t ≤ i) × (i < row_at shape g t + 16)) → (i : ℕ) → IsOutside (row_places shape ballot) i
      → IsOutside (joined (λ t. joined (λ g. cond (has_row ballot g t) ((at g t, len g t) ∷ []) []) 0 shape.loggers) 0 shape.numbers) i
  in_rows at len inside i out =
      outside_joined (λ t. joined (λ g. cond (has_row ballot g t) ((at g t, len g t) ∷ []) []) 0 shape.loggers) i 0 shape.numbers (λ t le' lt'.
      let its = outside_at (λ u. joined (λ g. cond (has_row ballot g u) ((row_at shape g u, 16) ∷ []) []) 0 shape.loggers) i 0 shape.numbers out t le' lt' in
      outside_joined (λ g. cond (has_row ballot g t) ((at g t, len g t) ∷ []) []) i 0 shape.loggers (λ g le lt.
      one g t (has_row ballot g t) (outside_at (λ h. cond (has_row ballot h t) ((row_at shape h t, 16) ∷ []) []) i 0 shape.loggers its g le lt)))
    where
      one : (g t : ℕ) (b : Bool) → IsOutside (cond b ((row_at shape g t, 16) ∷ []) []) i → IsOutside (cond b ((at g t, len g t) ∷ []) []) i
      one g t true away = ((λ from below. let both = inside g t i from below in away.0 both.0 both.1), tt)
      one g t false away = tt

  pub bodies_within : (i : ℕ) → IsOutside (row_places shape ballot) i → IsOutside (bodies_of shape (has_row ballot)) i
  bodies_within = in_rows (λ g t. row_at shape g t + 1) (λ g t. 15) (λ g t i from below. (omega arith, omega arith))

  pub votes_within : (i : ℕ) → IsOutside (row_places shape ballot) i → IsOutside (votes_of shape (has_row ballot)) i
  votes_within = in_rows (λ g t. row_at shape g t) (λ g t. 1) (λ g t i from below. (omega arith, omega arith))

  -- all of them lie behind the header
  pub rows_behind : AreBehind (row_places shape ballot)
  rows_behind i lt = outside_joined (λ t. joined (λ g. cond (has_row ballot g t) ((row_at shape g t, 16) ∷ []) []) 0 shape.loggers) i 0 shape.numbers (λ t le' lt'.
      outside_joined (λ g. cond (has_row ballot g t) ((row_at shape g t, 16) ∷ []) []) i 0 shape.loggers (λ g le below. one (has_row ballot g t) (row_at shape g t) (omega arith)))
    where
      one : (b : Bool) (at : ℕ) → 512 ≤ at → IsOutside (cond b ((at, 16) ∷ []) []) i
      one true at le = ((λ from below. omega arith), tt)
      one false at le = tt

  module _ (image : List ℕ) (cells : List Cells) where
    both : (i : ℕ) → IsOutside (commit_places shape image ballot cells) i → IsOutside (row_places shape ballot) i × IsOutside (places_of shape (parts_named shape image ballot cells)) i
    both i out = outside-append (row_places shape ballot) (places_of shape (parts_named shape image ballot cells)) i out

    pub rows_in_all_places : (i : ℕ) → IsOutside (commit_places shape image ballot cells) i → IsOutside (row_places shape ballot) i
    rows_in_all_places i out = (both i out).0

    pub parts_in_all_places : (i : ℕ) → IsOutside (commit_places shape image ballot cells) i → IsOutside (places_of shape (parts_named shape image ballot cells)) i
    parts_in_all_places i out = (both i out).1

    pub commit_behind : AreBehind (commit_places shape image ballot cells)
    commit_behind = behind-append (row_places shape ballot) (places_of shape (parts_named shape image ballot cells)) rows_behind (places_behind shape (parts_named shape image ballot cells))
