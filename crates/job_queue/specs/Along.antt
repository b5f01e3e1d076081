-- What a history makes of a queue.
use Rattle.std.specs.Prelude.{ℕ, ◌≡◌, ◌≤◌, ◌⊎◌, List, [], ◌∷◌, ◌++◌, take}
use Rattle.history.specs.Writes.{Table}
use Rattle.history.specs.Table.{left_by}
use Rattle.history.specs.declared.transaction.Done.{Done}
use Rattle.caller_steps.specs.Core.{CoreView}
use Rattle.caller_steps.specs.State.{State}
use Rattle.job_queue.specs.Queue.{IsQueue}

-- what a transaction does to the jobs
pub data Deed : Type 0 where
  pushed : List ℕ → Deed
  taken : List ℕ → Deed

-- a push adds a job at the end, and a take takes the first
abbrev pub Does : Deed → List (List ℕ) → List (List ℕ) → Type 0
Does (pushed job) old new = new ≡ old ++ job ∷ []
Does (taken job) old new = old ≡ job ∷ new

-- the jobs of pushes, and those of takes, in their order
abbrev pub all_pushed : List Deed → List (List ℕ)
all_pushed [] = []
all_pushed (pushed job ∷ deeds) = job ∷ all_pushed deeds
all_pushed (taken job ∷ deeds) = all_pushed deeds

abbrev pub all_taken : List Deed → List (List ℕ)
all_taken [] = []
all_taken (pushed job ∷ deeds) = all_taken deeds
all_taken (taken job ∷ deeds) = job ∷ all_taken deeds

-- each transaction of a history is one of these deeds, and the table holds a queue before it and after it
abbrev pub IsAlong : ℕ → Table → List (List ℕ) → List Done → List Deed → Type 0
IsAlong size table jobs [] [] = IsQueue size table jobs
IsAlong size table jobs (done ∷ history) (deed ∷ deeds) =
    IsQueue size table jobs × (after : List (List ℕ)) × Does deed jobs after × IsAlong size (left_by table done.calls) after history deeds
IsAlong size table jobs _ _ = ⊥

-- After these transactions the table holds a queue, and what was taken so far and what is still there, one after the other, are the jobs at
-- first and what was pushed: none is lost, and none is given twice.
pub record IsKept (size : ℕ) (table : Table) (first : List (List ℕ)) (deeds : List Deed) : Type 0 where
  pub jobs : List (List ℕ)
  pub queue : IsQueue size table jobs
  pub all : all_taken deeds ++ jobs ≡ first ++ all_pushed deeds

-- the transactions that may be left of this state are these deeds on a queue
abbrev pub GoesAlong : ℕ → List (List ℕ) → List Deed → State → Type 0
GoesAlong size first deeds state = IsAlong size state.base first (state.history ++ state.doubt) deeds

-- if they were deeds on a queue, they are the same ones now, or these and one more of this kind
abbrev pub StaysAlong : ℕ → (Deed → Type 0) → State → State → Type 0
StaysAlong size IsOne old new = (first : List (List ℕ)) (deeds : List Deed) → GoesAlong size first deeds old
    → GoesAlong size first deeds new ⊎ ((deed : Deed) × IsOne deed × GoesAlong size first (deeds ++ deed ∷ []) new)

-- the deed takes some job
abbrev pub IsTaking : Deed → Type 0
IsTaking deed = (job : List ℕ) × (deed ≡ taken job)

-- the image opens with a queue after the first deeds, at least so many
pub record IsLeft (size : ℕ) (first : List (List ℕ)) (deeds : List Deed) (least : ℕ) (core : CoreView) (image : List ℕ) : Type 0 where
  pub count : ℕ
  pub at_least : least ≤ count
  pub table : Table
  pub opens : core.opens image table
  pub kept : IsKept size table first (take count deeds)
