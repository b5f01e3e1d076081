-- As many wait as order numbers are found.
use Rattle.std.proofs.Common.{◌≡◌, ℕ, zero, suc, ◌^◌, ◌<◌, ◌⊎◌, inl, inr, ⊎_elim, Bool, true, false, List, [], ◌∷◌, length, refl, ◌∙◌, ap, arith}
use Rattle.std.specs.Prelude.{All}
use Rattle.std.specs.Int.{bit_at}
use Rattle.std.proofs.lemmas.Bool.{and_from, cases_Bool, cases_eq, eqb-false}
use Rattle.std.proofs.lemmas.List.Elements.{All-head, All-tail}
use Rattle.std.proofs.lemmas.Nat.{pow_pos}
use Rattle.std.proofs.lemmas.Nat.Bits.{bit_at-lt, bit_at-zero, same_from_bits_below}
use Rattle.array_shape.specs.declared.shape.Shape.{Shape}
use Rattle.row_bytes.specs.declared.ballot.Ballot.{Ballot}
use Rattle.array_shape.specs.NumberSet.{has}
use Rattle.row_bytes.specs.Ballots.{has_row}
use Rattle.commit_queue.specs.Queue.{Commit, Each}
use Rattle.coordinator.specs.declared.cells.Cells.{Cells}
use Rattle.coordinator.specs.Commits.{AreThere}
use Rattle.write_back.specs.Waiting.{commits_of}

-- some number below k passes, or none does
sought : (k : ℕ) (test : ℕ → Bool) → ((i : ℕ) × (i < k) × (test i ≡ true)) ⊎ ((i : ℕ) → i < k → test i ≡ false)
sought zero test = inr (λ i lt. absurd (omega arith))
sought (suc k) test = ⊎_elim
    (λ found. inl (found.0, omega (arith, found.1), found.2))
    (λ none. ⊎_elim
    (λ so. inl (k, omega arith, so))
    (λ not_so. inr (λ i lt. ⊎_elim (λ same. ap test same ∙ not_so) (λ ne. none i (omega arith)) (cases_eq i k)))
    (cases_Bool (test k)))
    (sought k test)

some_bit : (k n : ℕ) → 0 < n → n < 2 ^ k → (i : ℕ) × (i < k) × (has n i ≡ true)
some_bit k n some small = ⊎_elim (λ found. found)
    (λ none. absurd (let zero_is = same_from_bits_below k n 0 small (pow_pos k) (λ i lt. let off = eqb-false (bit_at n i) 1 (none i lt) in omega (arith, off, bit_at-lt n i, bit_at-zero i)) in omega (arith, zero_is, some)))
    (sought k (has n))

pub have_rows : (shape : Shape) (cells : List Cells) (image : List ℕ) (bs : List Ballot) → All (λ (b : Ballot). AreThere shape b cells) bs → All (λ (b : Ballot). (0 < b.mask) × (0 < b.group)) bs
    → Each (λ (c : Commit). (g : ℕ) × (t : ℕ) × (g < shape.loggers) × (t < shape.numbers) × (has_row c.ballot g t ≡ true)) (commits_of shape image cells bs)
have_rows shape cells image [] there some = tt
have_rows shape cells image (b ∷ bs) there some =
    let its = All-head (λ (k : Ballot). AreThere shape k cells) b bs there in
    let here = All-head (λ (k : Ballot). (0 < k.mask) × (0 < k.group)) b bs some in
    let logger = some_bit shape.loggers b.mask here.0 its.small_mask in
    let number = some_bit shape.numbers b.group here.1 its.small_group in (
      (logger.0, number.0, logger.1, number.1, and_from (has b.mask logger.0) (has b.group number.0) logger.2 number.2),
      have_rows shape cells image bs (All-tail (λ (k : Ballot). AreThere shape k cells) b bs there) (All-tail (λ (k : Ballot). (0 < k.mask) × (0 < k.group)) b bs some),
    )

pub many : (shape : Shape) (cells : List Cells) (image : List ℕ) (bs : List Ballot) → length (commits_of shape image cells bs) ≡ length bs
many shape cells image [] = refl
many shape cells image (b ∷ bs) = ap suc (many shape cells image bs)
