-- Faults that an object counts.
use Rattle.std.specs.Prelude.{ℕ, ◌≡◌, ◌+◌, ◌-◌, ◌^◌, ◌≤◌, min, List, Contains, Result, Ok, Err, OnOk, OnErr}

-- one more, up to the last value of a u64, at which counts stay
abbrev pub next_count : ℕ → ℕ
next_count n = min (n + 1) (2 ^ 64 - 1)

-- the count of faults after a call with this result
abbrev pub faults_after : {T E : Type 0} → ℕ → Result T E → ℕ
faults_after n (Ok x) = n
faults_after n (Err e) = next_count n

-- a count rose, or is at the last value of its type
abbrev pub Rose : ℕ → ℕ → Type 0
Rose before now = next_count before ≤ now

-- The count does not fall. It rises (or is at its last value) at a failure, and stays as it was at Ok: no fault is hidden.
pub record HasCause {T E : Type 0} (before now : ℕ) (result : Result T E) : Type 0 where
  pub later : before ≤ now
  pub failed : OnErr result (Rose before now)
  pub kept : OnOk result (now ≡ before)

-- Of the calls that were made, counted from 1, one is listed as one that fails.
abbrev pub MetListed : List ℕ → ℕ → Type 0
MetListed listed calls = (n : ℕ) × Contains listed n × (1 ≤ n) × (n ≤ calls)
