-- How long an input may be, and when reading one fails.
use Rattle.std.specs.Prelude.{ℕ, ◌≡◌, Result, Err}
use Rattle.mars_base.specs.Causes.{Rose}
use Rattle.script_run.specs.declared.input.InputFault.{InputFault}
use Rattle.script_run.specs.declared.input.InputFault.TheVariants.{Failed}

-- the most bytes that an input may have
abbrev pub input_limit : ℕ
input_limit = 16777216

-- the count of the source's faults: it rose if the source failed, and else is as it was
abbrev pub InputCounts : {T : Type 0} → ℕ → ℕ → Result T InputFault → Type 0
InputCounts old new (Err Failed) = Rose old new
InputCounts old new _ = new ≡ old
