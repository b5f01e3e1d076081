use Rattle.std.proofs.Common.{◌≡◌, ◌<◌, ℕ}
use Rattle.std.specs.Prelude.{None}
use Rattle.taped_records.specs.Shown.{core_in}
use Rattle.taped_records.proofs.records.TapedRecords.first_live.Given as goal

-- no caller so far has a transaction
abbrev pub invariant-loop-caller : goal.invariant-loop-caller
invariant-loop-caller l = (caller : ℕ) → caller < l.caller → (core_in l.self).state.live caller ≡ None
