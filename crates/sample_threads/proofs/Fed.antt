-- How many transactions a feed has once it was fed.
use Rattle.std.proofs.Common.{◌≡◌, ◌+◌, ◌≤◌, ◌⊎◌, ⊎_elim, List, [], ◌∷◌, ◌++◌, length, drop, Result, Ok, Err, ap, ◌∙◌, arith}
use Rattle.std.specs.Prelude.{IfOk, OnErr}
use Rattle.std.proofs.lemmas.List.{length-append, length-drop}
use Rattle.history.specs.declared.transaction.Done.{Done}
use Rattle.snapshot_readers.specs.Batches.{Batch, joined, with_batch}

one_more : (batches : List Batch) (batch : Batch) → length (joined (batches ++ batch ∷ [])) ≡ length (joined batches) + length batch
one_more [] batch = length-append batch [] ∙ (omega arith)
one_more (first ∷ batches) batch = omega (arith, length-append first (joined (batches ++ batch ∷ [])), length-append first (joined batches), one_more batches batch)

more : (batches : List Batch) (batch : Batch) → length (joined (with_batch batches batch)) ≡ length (joined batches) + length batch
more batches [] = omega arith
more batches (done ∷ dones) = one_more batches (done ∷ dones)

-- a feed that was fed what a pass has seen beyond it is no further than the pass
pub fed_behind : {A B : Type 0} (X Y : A → Type 0) (Z : Type 0) (r : Result A B) (told : A → List Batch) (old new : List Batch) (seen news : List Done) → length (joined old) ≤ length seen → news ≡ drop (length (joined old)) seen
    → IfOk r (λ receipt. (told receipt ≡ with_batch old news) × X receipt × (new ≡ told receipt) × Y receipt) → OnErr r (Z × ((new ≡ old) ⊎ (new ≡ with_batch old news))) → length (joined new) ≤ length seen
fed_behind {A = A} {B = B} X Y Z r told old new seen news le is ok err =
    let fed : new ≡ with_batch old news → length (joined new) ≤ length seen = λ e. omega (arith, ap (λ (b : List Batch). length (joined b)) e, more old news, ap length is, length-drop (length (joined old)) seen) in
    let same : new ≡ old → length (joined new) ≤ length seen = λ e. omega (arith, ap (λ (b : List Batch). length (joined b)) e) in
    go r ok err fed same
  where
    go : (r : Result A B) → IfOk r (λ receipt. (told receipt ≡ with_batch old news) × X receipt × (new ≡ told receipt) × Y receipt) → OnErr r (Z × ((new ≡ old) ⊎ (new ≡ with_batch old news))) → (new ≡ with_batch old news → length (joined new) ≤ length seen) → (new ≡ old → length (joined new) ≤ length seen) → length (joined new) ≤ length seen
    go (Ok receipt) ok err fed same = fed (ok.2 ∙ ok.0)
    go (Err fault) ok err fed same = ⊎_elim same fed err.1
