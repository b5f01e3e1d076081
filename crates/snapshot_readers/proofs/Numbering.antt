-- Transactions that are numbered one after another.
use Rattle.std.proofs.Common.{◌≡◌, ℕ, zero, suc, ◌+◌, ◌-◌, ◌<◌, ◌++◌, List, [], ◌∷◌, length, get_or, refl, ap, ◌∙◌, arith, length-append}
use Rattle.history.specs.declared.transaction.Done.{Done}
use Rattle.history.specs.Legal.{AreNumberedFrom}
use Rattle.snapshot_readers.specs.Batches.{Batch, joined, with_batch}
use Rattle.snapshot_readers.proofs.Joining.{joined-append}

number_at : (n : ℕ) (dones : List Done) (i : ℕ) (done : Done) → AreNumberedFrom n dones → i < length dones → done ≡ get_or dones i done → done.at ≡ n + i
number_at n [] i done h within at = absurd (omega (arith, within))
number_at n (first ∷ dones) zero done h within at = omega (arith, ap (λ (d : Done). d.at) at ∙ h.0)
number_at n (first ∷ dones) (suc i) done h within at = omega (arith, number_at (n + 1) dones i done h.1 (omega (arith, within)) at)

-- the last transaction of a batch has the number of them all
pub last_at : (batches : List Batch) (dones : List Done) (done : Done) → AreNumberedFrom (length (joined batches) + 1) dones → 0 < length dones → done ≡ get_or dones (length dones - 1) done
    → done.at ≡ length (joined (batches ++ dones ∷ []))
last_at batches dones done h some at =
    omega (
      arith,
      some,
      number_at (length (joined batches) + 1) dones (length dones - 1) done h (omega (arith, some)) at,
      ap length (joined-append batches (dones ∷ [])),
      length-append (joined batches) (joined (dones ∷ [])),
      length-append dones [],
    )

pub with_some : (batches : List Batch) (dones : List Done) → 0 < length dones → with_batch batches dones ≡ batches ++ dones ∷ []
with_some batches [] some = absurd (omega (arith, some))
with_some batches (done ∷ dones) some = refl

pub with_none : (batches : List Batch) (dones : List Done) → length dones ≡ 0 → with_batch batches dones ≡ batches
with_none batches [] none = refl
with_none batches (done ∷ dones) none = absurd (omega (arith, none))
