-- A ring of jobs in a table: under key 0 the place of the first job, under key 1 how many there are, and from key 2 on the places.
use Rattle.std.specs.Prelude.{ℕ, suc, ◌≡◌, ◌+◌, ◌-◌, ◌^◌, ◌<◌, ◌≤◌, ◌⊎◌, nat_lt, if◌then◌else◌, List, [], ◌∷◌, ◌++◌, length, Option, Some, None, decimal}
use Rattle.std.specs.FinMap.{get, insert}
use Rattle.history.specs.Key.{main_name, of_main}
use Rattle.history.specs.Writes.{Table}
use Rattle.history.specs.Table.{found}
use Rattle.history.specs.declared.call.TableCall.TheVariants.{Get}
use Rattle.caller_steps.specs.Core.{CoreView}
use Rattle.caller_steps.specs.State.{calls_of}
use Rattle.transactions.specs.Adds.{Adds}
use Rattle.transactions.specs.declared.work.Stop.{Stop}
use Rattle.transactions.specs.declared.work.Stop.TheVariants.{Refused, GivenUp}
use Rattle.job_queue.specs.declared.queue.Unmet.{Unmet}
use Rattle.job_queue.specs.declared.queue.Unmet.TheVariants.{Full, Empty, NoQueue}

-- a record is this number; no record is 0
abbrev pub IsNumber : ℕ → Option (List ℕ) → Type 0
IsNumber n (Some text) = text ≡ decimal n
IsNumber n None = n ≡ 0

-- the place that is so many after this one, in a ring of so many
abbrev pub place : ℕ → ℕ → ℕ → ℕ
place size first n = if nat_lt (first + n) size then first + n else first + n - size

-- these jobs lie at the places from the n-th after the first on
abbrev pub Lie : ℕ → Table → ℕ → ℕ → List (List ℕ) → Type 0
Lie size table first n [] = Unit {0}
Lie size table first n (job ∷ jobs) = (get table (of_main (place size first n + 2)) ≡ Some job) × Lie size table first (suc n) jobs

-- the table holds a queue of these jobs, the first one first
pub record IsQueue (size : ℕ) (table : Table) (jobs : List (List ℕ)) : Type 0 where
  pub first : ℕ
  pub within : first < size
  pub says_first : IsNumber first (get table (of_main 0))
  pub says_count : IsNumber (length jobs) (get table (of_main 1))
  pub fits : length jobs ≤ size
  pub lie : Lie size table first 0 jobs

-- a job was put at the place after the last one
pub record Pushes (size : ℕ) (job : List ℕ) (old new : Table) : Type 0 where
  pub first : ℕ
  pub count : ℕ
  pub says_first : IsNumber first (get old (of_main 0))
  pub says_count : IsNumber count (get old (of_main 1))
  pub most : size ≤ 2 ^ 32
  pub within : first < size
  pub room : count < size
  pub becomes : new ≡ insert (insert old (of_main (place size first count + 2)) job) (of_main 1) (decimal (count + 1))

-- the first job was taken; its record stays until a push comes to its place
pub record Takes (size : ℕ) (job : List ℕ) (old new : Table) : Type 0 where
  pub first : ℕ
  pub count : ℕ
  pub says_first : IsNumber first (get old (of_main 0))
  pub says_count : IsNumber count (get old (of_main 1))
  pub most : size ≤ 2 ^ 32
  pub within : first < size
  pub some : 0 < count
  pub fits : count ≤ size
  pub has : get old (of_main (first + 2)) ≡ Some job
  pub becomes : new ≡ insert (insert old (of_main 0) (decimal (place size first 1))) (of_main 1) (decimal (count - 1))

-- the table holds no queue of so many places, whatever its jobs
abbrev pub HasNoQueue : ℕ → Table → Type 0
HasNoQueue size table = (jobs : List (List ℕ)) → IsQueue size table jobs → ⊥

-- why nothing was pushed or taken
abbrev pub IsUnmet : ℕ → Unmet → Table → Type 0
IsUnmet size Full table = IsNumber size (get table (of_main 1))
IsUnmet size Empty table = IsNumber 0 (get table (of_main 1))
IsUnmet size NoQueue table = (2 ^ 32 < size) ⊎ HasNoQueue size table

-- the first two keys were read, and are these numbers
pub record Reads (first count caller : ℕ) (old new : CoreView) : Type 0 where
  pub one : Option (List ℕ)
  pub other : Option (List ℕ)
  pub is_first : IsNumber first one
  pub is_count : IsNumber count other
  pub live : new.state.live caller ≡ Some (calls_of old.state caller ++ (Get main_name 0, found one) ∷ (Get main_name 1, found other) ∷ [])

-- there is a record, and it is the decimal of no u64
abbrev pub IsNoNumber : Option (List ℕ) → Type 0
IsNoNumber None = ⊥
IsNoNumber (Some text) = (n : ℕ) → n < 2 ^ 64 → text ≡ decimal n → ⊥

-- a read that stops with a reason of its own has found no number
abbrev pub HasFoundNone : ℕ → ℕ → CoreView → CoreView → Stop Unmet → Type 0
HasFoundNone key caller old new (Refused refusal) = Unit {0}
HasFoundNone key caller old new (GivenUp reason) = (told : Option (List ℕ)) × IsNoNumber told × Adds caller (Get main_name key) (found told) old new
