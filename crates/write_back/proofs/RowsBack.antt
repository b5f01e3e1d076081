-- Rows whose votes are cleared, one commit after another, and those of one more.
use Rattle.std.proofs.Common.{◌≡◌, ℕ, ◌<◌, Bool, true, false, cond, ◌||◌, List, [], ◌∷◌, ◌++◌, drop, take, refl, sym, ◌∙◌, ap}
use Rattle.array_shape.specs.declared.shape.Shape.{Shape}
use Rattle.row_bytes.specs.declared.ballot.Ballot.{Ballot}
use Rattle.row_bytes.specs.Ballots.{has_row}
use Rattle.row_bytes.specs.Written.{row_bytes, vote_byte}
use Rattle.commit_queue.specs.Rows.{HasRowBytes, bytes_of, with_votes}
use Rattle.coordinator.specs.declared.cells.Cells.{Cells}
use Rattle.coordinator.specs.Rows.{row_with, with_rows}
use Rattle.write_back.specs.Orders.{some_row}

or_none : (b : Bool) → b ≡ (b || false)
or_none true = refl
or_none false = refl

or_more : (a b c : Bool) → (a || (b || c)) ≡ ((a || b) || c)
or_more true b c = refl
or_more false b c = refl

some_row-append : (xs ys : List Ballot) (g t : ℕ) → some_row (xs ++ ys) g t ≡ (some_row xs g t || some_row ys g t)
some_row-append [] ys g t = refl
some_row-append (b ∷ xs) ys g t = ap (λ (x : Bool). has_row b g t || x) (some_row-append xs ys g t) ∙ or_more (has_row b g t) (some_row xs g t) (some_row ys g t)

module _ (shape : Shape) where
  pub none_cleared : (image : List ℕ) (bs : List Ballot) → bs ≡ [] → HasRowBytes shape image (with_votes (some_row bs) false (bytes_of shape image))
  none_cleared image bs is g t lt lt' = sym (ap (λ (xs : List Ballot). with_votes (some_row xs) false (bytes_of shape image) g t) is)

  pub one_cleared : (old new : List ℕ) (b : Ballot) (bs xs : List Ballot) → xs ≡ b ∷ bs → HasRowBytes shape new (with_votes (has_row b) false (bytes_of shape old)) → HasRowBytes shape new (with_votes (some_row (take 1 xs)) false (bytes_of shape old))
  one_cleared old new b bs xs whole cleared g t lt lt' =
      cleared g t lt lt'
      ∙ ap (λ (x : Bool). cond x (vote_byte false ∷ drop 1 (bytes_of shape old g t)) (bytes_of shape old g t)) (or_none (has_row b g t))
      ∙ sym (ap (λ (ys : List Ballot). with_votes (some_row (take 1 ys)) false (bytes_of shape old) g t) whole)

  pub more_cleared : (old mid new : List ℕ) (xs ys all : List Ballot) → all ≡ xs ++ ys → HasRowBytes shape mid (with_votes (some_row xs) false (bytes_of shape old)) → HasRowBytes shape new (with_votes (some_row ys) false (bytes_of shape mid))
      → HasRowBytes shape new (with_votes (some_row all) false (bytes_of shape old))
  more_cleared old mid new xs ys all all_are first more g t lt lt' =
      by (some_row xs g t) (some_row ys g t) (first g t lt lt') (more g t lt lt')
      ∙ sym (ap (λ (x : Bool). cond x (vote_byte false ∷ drop 1 (bytes_of shape old g t)) (bytes_of shape old g t)) (ap (λ (bs : List Ballot). some_row bs g t) all_are ∙ some_row-append xs ys g t))
    where
      by : (a b : Bool) → bytes_of shape mid g t ≡ cond a (vote_byte false ∷ drop 1 (bytes_of shape old g t)) (bytes_of shape old g t) → bytes_of shape new g t ≡ cond b (vote_byte false ∷ drop 1 (bytes_of shape mid g t)) (bytes_of shape mid g t)
          → bytes_of shape new g t ≡ cond (a || b) (vote_byte false ∷ drop 1 (bytes_of shape old g t)) (bytes_of shape old g t)
      by true true was is = is ∙ ap (λ (bytes : List ℕ). vote_byte false ∷ drop 1 bytes) was
      by true false was is = is ∙ was
      by false true was is = is ∙ ap (λ (bytes : List ℕ). vote_byte false ∷ drop 1 bytes) was
      by false false was is = is ∙ was

  -- place was made for one more, whose rows are written
  pub rows_placed : (cells cells' : List Cells) (its said : Ballot) (voted : Bool) (back placing : List Ballot) (old mid new : List ℕ) → cells' ≡ cells → its ≡ said → true ≡ voted → back ≡ placing
      → HasRowBytes shape mid (with_votes (some_row back) false (bytes_of shape old)) → HasRowBytes shape new (with_rows its cells' true (bytes_of shape mid)) → HasRowBytes shape new (with_rows said cells voted (with_votes (some_row placing) false (bytes_of shape old)))
  rows_placed cells cells' its said voted back placing old mid new table its_are voted_is back_is cleared written g t lt lt' =
      written g t lt lt'
      ∙ ap (λ (bytes : List ℕ). cond (has_row its g t) (row_bytes (row_with its cells' true g t)) bytes) (cleared g t lt lt')
      ∙ (λ i. with_rows (its_are i) (table i) (voted_is i) (with_votes (some_row (back_is i)) false (bytes_of shape old)) g t)
