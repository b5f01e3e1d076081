-- Calls at one row after another: where they write, and what the rows say then.
use Rattle.std.proofs.Common.{◌≡◌, ◌≢◌, ℕ, ◌+◌, ◌<◌, ◌≤◌, Bool, true, false, cond, ⊎_elim, List, [], ◌∷◌, sym, ◌∙◌, subst, arith}
use Rattle.std.proofs.lemmas.Bool.{cases_eq, false≢true}
use Rattle.pcm_media.specs.Images.{SameOutside, IsOutside}
use Rattle.pcm_media.proofs.Ranges.{range_away}
use Rattle.array_shape.specs.declared.shape.Shape.{Shape}
use Rattle.array_shape.specs.Places.{row_at}
use Rattle.row_bytes.specs.declared.ballot.Ballot.{Ballot}
use Rattle.row_bytes.specs.Ballots.{has_row}
use Rattle.array_image.specs.Joined.{joined}
use Rattle.array_image.proofs.Joined.{outside_at, outside_joined}
use Rattle.array_image.proofs.Places.{same_row}
use Rattle.commit_queue.specs.Rows.{bytes_of}
use Rattle.coordinator.specs.Places.{votes_at, bodies_at}

-- ranges that are chosen by a test
chosen_at : (test : ℕ → Bool) (place : ℕ → ℕ × ℕ) (n g : ℕ) → g < n → test g ≡ true → (i : ℕ) → IsOutside (joined (λ h. cond (test h) (place h ∷ []) []) 0 n) i → IsOutside (place g ∷ []) i
chosen_at test place n g lt so i out =
    let here = outside_at (λ h. cond (test h) (place h ∷ []) []) i 0 n out g (omega arith) (omega arith) in
    subst (λ b. IsOutside (cond b (place g ∷ []) []) i) so here

none_chosen : (test : ℕ → Bool) (place : ℕ → ℕ × ℕ) (n i : ℕ) → ((g : ℕ) → g < n → test g ≡ true → IsOutside (place g ∷ []) i) → IsOutside (joined (λ h. cond (test h) (place h ∷ []) []) 0 n) i
none_chosen test place n i away = outside_joined (λ h. cond (test h) (place h ∷ []) []) i 0 n (λ g le lt. one (test g) (place g) (λ so. away g (omega arith) so))
  where
    one : (b : Bool) (r : ℕ × ℕ) → (b ≡ true → IsOutside (r ∷ []) i) → IsOutside (cond b (r ∷ []) []) i
    one true r f = f (λ j. true)
    one false r f = tt

module _ (shape : Shape) (ballot : Ballot) (g t : ℕ) (lt : g < shape.loggers) (has : has_row ballot g t ≡ true) (i : ℕ) where
  pub vote_within : IsOutside (votes_at shape ballot t) i → IsOutside ((row_at shape g t, 1) ∷ []) i
  vote_within = chosen_at (λ h. has_row ballot h t) (λ h. (row_at shape h t, 1)) shape.loggers g lt has i

  pub body_within : IsOutside (bodies_at shape ballot t) i → IsOutside ((row_at shape g t + 1, 15) ∷ []) i
  body_within = chosen_at (λ h. has_row ballot h t) (λ h. (row_at shape h t + 1, 15)) shape.loggers g lt has i

-- no place in a row of number t
abbrev pub IsInNoRow : Shape → ℕ → ℕ → Type 0
IsInNoRow shape t i = (g : ℕ) → g < shape.loggers → row_at shape g t ≤ i → i < row_at shape g t + 16 → ⊥

pub votes_in_rows : (shape : Shape) (ballot : Ballot) (t i : ℕ) → IsInNoRow shape t i → IsOutside (votes_at shape ballot t) i
votes_in_rows shape ballot t i none = none_chosen (λ h. has_row ballot h t) (λ h. (row_at shape h t, 1)) shape.loggers i (λ g lt so. ((λ from below. none g lt (omega arith) (omega arith)), tt))

pub bodies_in_rows : (shape : Shape) (ballot : Ballot) (t i : ℕ) → IsInNoRow shape t i → IsOutside (bodies_at shape ballot t) i
bodies_in_rows shape ballot t i none = none_chosen (λ h. has_row ballot h t) (λ h. (row_at shape h t + 1, 15)) shape.loggers i (λ g lt so. ((λ from below. none g lt (omega arith) (omega arith)), tt))

-- a row that the test does not take
pub one_skipped : (test : ℕ → Bool) (P : ℕ → Type 0) (n : ℕ) → test n ≡ false → ((g : ℕ) → g < n → test g ≡ true → P g) → (g : ℕ) → g < n + 1 → test g ≡ true → P g
one_skipped test P n lacks before g lt so = ⊎_elim (λ is. absurd (false≢true (sym lacks ∙ subst (λ k. test k ≡ true) is so))) (λ ne. before g (omega arith) so) (cases_eq g n)

-- what holds of the rows of number t at the loggers below n still holds once that of logger n has been written
module _ (shape : Shape) (t : ℕ) (small : t < shape.numbers) (test : ℕ → Bool) (Q : ℕ → List ℕ → Type 0) (n at len : ℕ) (within : (i : ℕ) → at ≤ i → i < at + len → (row_at shape n t ≤ i) × (i < row_at shape n t + 16)) (old new : List ℕ) (same : SameOutside ((at, len) ∷ []) old new) where
  other_row : (g : ℕ) → g ≢ n → bytes_of shape new g t ≡ bytes_of shape old g t
  other_row g ne = range_away ((at, len) ∷ []) old new (row_at shape g t) 16 same (λ i from below. (
    (λ from' below'.
        let in_row = within i from' below' in ne (same_row shape g n t t i small small from below in_row.0 in_row.1).0),
    tt,
  ))

  pub rows_more : ((g : ℕ) → g < n → test g ≡ true → Q g (bytes_of shape old g t)) → Q n (bytes_of shape new n t) → (g : ℕ) → g < n + 1 → test g ≡ true → Q g (bytes_of shape new g t)
  rows_more before here g lt so = ⊎_elim
      (λ is. subst (λ k. Q k (bytes_of shape new k t)) (sym is) here)
      (λ ne. subst (λ (r : List ℕ). Q g r) (sym (other_row g ne)) (before g (omega arith) so))
      (cases_eq g n)

-- what holds of the rows of the numbers below n still holds once those of number n have been written
module _ (shape : Shape) (test : ℕ → ℕ → Bool) (Q : ℕ → ℕ → List ℕ → Type 0) (n : ℕ) (small : n < shape.numbers) (ranges : List (ℕ × ℕ)) (in_rows : (i : ℕ) → IsInNoRow shape n i → IsOutside ranges i) (old new : List ℕ) (same : SameOutside ranges old new) where
  other_number : (g t : ℕ) → t < shape.numbers → t ≢ n → bytes_of shape new g t ≡ bytes_of shape old g t
  other_number g t lt ne = range_away ranges old new (row_at shape g t) 16 same (λ i from below. in_rows i (λ h lt' from' below'. ne (same_row shape g h t n i lt small from below from' below').1))

  pub numbers_more : ((g t : ℕ) → g < shape.loggers → t < n → test g t ≡ true → Q g t (bytes_of shape old g t)) → ((g : ℕ) → g < shape.loggers → test g n ≡ true → Q g n (bytes_of shape new g n))
      → (g t : ℕ) → g < shape.loggers → t < n + 1 → test g t ≡ true → Q g t (bytes_of shape new g t)
  numbers_more before here g t lt lt' so = ⊎_elim
      (λ is. subst (λ k. Q g k (bytes_of shape new g k)) (sym is) (here g lt (subst (λ k. test g k ≡ true) is so)))
      (λ ne. subst (λ (r : List ℕ). Q g t r) (sym (other_number g t (omega arith) ne)) (before g t lt (omega arith) so))
      (cases_eq t n)
