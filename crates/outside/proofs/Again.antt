-- A call of a reader or a writer that is made again.
use Rattle.std.specs.Prelude.{Option, None, Some, List, ℕ, ◌≡◌, ◌≤◌, ◌++◌, Result, Ok, Err}
use Rattle.std.specs.Io.KnownBytes.{Keeps, Consumes, Appends}
use Rattle.std.proofs.Common.{sym, ap, ◌∙◌, arith}
use Rattle.mars_base.specs.Causes.{HasCause, faults_after}

pub consumes_again : (first old new : Option (List ℕ)) (bytes : List ℕ) → Keeps first old → Consumes old new bytes → Consumes first new bytes
consumes_again None old new bytes kept took = tt
consumes_again (Some xs) None new bytes kept took = absurd kept
consumes_again (Some xs) (Some ys) None bytes kept took = took
consumes_again (Some xs) (Some ys) (Some zs) bytes kept took = sym kept ∙ took

pub appends_again : (first old new : Option (List ℕ)) (bytes : List ℕ) → Keeps first old → Appends old new bytes → Appends first new bytes
appends_again None old new bytes kept grew = tt
appends_again (Some xs) None new bytes kept grew = absurd kept
appends_again (Some xs) (Some ys) None bytes kept grew = grew
appends_again (Some xs) (Some ys) (Some zs) bytes kept grew = grew ∙ ap (λ (list : List ℕ). list ++ bytes) kept

-- a failure that was counted is a cause
pub counted_cause : {T E : Type 0} (before now : ℕ) (result : Result T E) → before ≤ now → now ≡ faults_after before result → HasCause before now result
counted_cause before now (Ok done) later is = record { later = later; failed = tt; kept = is }
counted_cause before now (Err fault) later is = record { later = later; failed = omega (arith, is); kept = tt }
