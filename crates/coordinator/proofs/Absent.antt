-- A number that the ballot does not have: it has no row and no part, and costs nothing.
use Rattle.std.proofs.Common.{◌≡◌, ℕ, zero, suc, ◌+◌, Bool, false, cond, List, [], refl, ◌∙◌, ap, arith}
use Rattle.array_shape.specs.declared.shape.Shape.{Shape}
use Rattle.std.proofs.lemmas.Bool.{and_right}
use Rattle.row_bytes.specs.declared.ballot.Ballot.{Ballot}
use Rattle.array_shape.specs.NumberSet.{has}
use Rattle.row_bytes.specs.Ballots.{has_row}
use Rattle.array_image.specs.Image.{parts_from}
use Rattle.array_image.proofs.Joined.{joined_none}
use Rattle.commit_queue.specs.Queue.{named_at}
use Rattle.coordinator.specs.declared.cells.Cells.{Cells}
use Rattle.coordinator.specs.Commits.{cells_in, commit_with, number_parts}
use Rattle.coordinator.specs.Costs.{parts_at, rows_at, total}
use Rattle.coordinator.proofs.Costing.{not_counted, total_more}

total_none : (f : ℕ → ℕ) → ((k : ℕ) → f k ≡ 0) → (n : ℕ) → total f n ≡ 0
total_none f none zero = refl
total_none f none (suc n) = let next : suc n ≡ n + 1 = omega arith in ap (total f) next ∙ omega (arith, total_more f n, none n, total_none f none n)

module _ (shape : Shape) (ballot : Ballot) (t : ℕ) (absent : has ballot.group t ≡ false) where
  pub no_row : (g : ℕ) → has_row ballot g t ≡ false
  no_row g = and_right (has ballot.mask g) (has ballot.group t) absent

  pub no_rows : rows_at shape ballot t ≡ 0
  no_rows = total_none _ (λ g. not_counted (has_row ballot g t) 1 (no_row g)) shape.loggers

  pub no_counts : (cells : List Cells) → parts_at shape ballot cells t ≡ 0
  no_counts cells = total_none _ (λ g. not_counted (has_row ballot g t) (cells_in cells g t).count (no_row g)) shape.loggers

  pub no_parts : (cells : List Cells) (image : List ℕ) → number_parts shape image ballot cells t ≡ []
  no_parts cells image = joined_none (named_at shape image (commit_with ballot cells []) t) 0 shape.loggers (λ g from below.
      ap (λ (b : Bool). cond b (parts_from shape image g t (cells_in cells g t).first (cells_in cells g t).count) []) (no_row g))
