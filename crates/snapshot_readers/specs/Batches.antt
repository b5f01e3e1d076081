-- Transactions as they were fed: each batch was fed at once.
use Rattle.std.specs.Prelude.{◌≡◌, List, [], ◌∷◌, ◌++◌}
use Rattle.history.specs.Writes.{Table}
use Rattle.history.specs.Legal.{records}
use Rattle.history.specs.declared.transaction.Done.{Done}

-- what was fed at once
abbrev pub Batch : Type 0
Batch = List Done

-- the transactions of all batches, in order
abbrev pub joined : List Batch → List Done
joined [] = []
joined (batch ∷ batches) = batch ++ joined batches

-- the batches with one more, if it has a transaction
abbrev pub with_batch : List Batch → Batch → List Batch
with_batch batches [] = batches
with_batch batches (done ∷ dones) = batches ++ (done ∷ dones) ∷ []

-- the list is the last one of these
abbrev pub IsLast : List Batch → List (List Batch) → Type 0
IsLast list lists = (before : List (List Batch)) × (lists ≡ before ++ list ∷ [])

-- the table after all batches
abbrev pub records_after : Table → List Batch → Table
records_after base batches = records base (joined batches)
