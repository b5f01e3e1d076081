-- How calls of a reader or a writer count.
use Rattle.std.specs.Prelude.{ℕ}
use Rattle.mars_base.specs.Causes.{next_count}
use Rattle.outside.specs.declared.turn.Turn.{Turn}
use Rattle.outside.specs.declared.turn.Turn.TheVariants.{Done, Again, Failed}

-- the count of failures after one call: only a failure raises it
abbrev pub faults_after_turn : ℕ → Turn → ℕ
faults_after_turn faults (Done count) = faults
faults_after_turn faults Again = faults
faults_after_turn faults Failed = next_count faults
