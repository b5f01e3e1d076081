-- The transactions of batches, joined.
use Rattle.std.proofs.Common.{◌≡◌, List, [], ◌∷◌, ◌++◌, refl, sym, ap, ◌∙◌, append_assoc}
use Rattle.std.proofs.lemmas.List.{append-nil}
use mathlib.Core.List.{IsPrefix}
use Rattle.history.specs.declared.transaction.Done.{Done}
use Rattle.history.specs.Writes.{Table}
use Rattle.history.specs.Legal.{records}
use Rattle.history.proofs.OneMore.{records-append}
use Rattle.snapshot_readers.specs.Batches.{Batch, joined, with_batch, records_after}

pub joined-append : (xs ys : List Batch) → joined (xs ++ ys) ≡ joined xs ++ joined ys
joined-append [] ys = refl
joined-append (x ∷ xs) ys = ap (λ (l : List Done). x ++ l) (joined-append xs ys) ∙ sym (append_assoc x (joined xs) (joined ys))

joined-push : (xs : List Batch) (batch : Batch) → joined (xs ++ batch ∷ []) ≡ joined xs ++ batch
joined-push xs batch = joined-append xs (batch ∷ []) ∙ ap (λ (l : List Done). joined xs ++ l) (append-nil batch)

pub joined-more : (xs : List Batch) (batch : Batch) → joined (with_batch xs batch) ≡ joined xs ++ batch
joined-more xs [] = sym (append-nil (joined xs))
joined-more xs (done ∷ dones) = joined-push xs (done ∷ dones)

pub append-more : (xs ys : List Batch) (batch : Batch) → xs ++ with_batch ys batch ≡ with_batch (xs ++ ys) batch
append-more xs ys [] = refl
append-more xs ys (done ∷ dones) = sym (append_assoc xs ys ((done ∷ dones) ∷ []))

pub records_after-append : (table : Table) (xs ys : List Batch) → records_after table (xs ++ ys) ≡ records_after (records_after table xs) ys
records_after-append table xs ys = ap (records table) (joined-append xs ys) ∙ records-append table (joined xs) (joined ys)

pub records_after-more : (table : Table) (xs : List Batch) (batch : Batch) → records_after table (with_batch xs batch) ≡ records (records_after table xs) batch
records_after-more table xs batch = ap (records table) (joined-more xs batch) ∙ records-append table (joined xs) batch

pub joined_prefix : (one other : List Batch) → IsPrefix one other → IsPrefix (joined one) (joined other)
joined_prefix one other p = (joined p.0, sym (joined-append one p.0) ∙ ap joined p.1)
