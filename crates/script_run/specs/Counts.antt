-- The counts of faults, by how a script ended.
use Rattle.std.specs.Prelude.{ℕ, ◌≡◌}
use Rattle.mars_base.specs.Causes.{Rose}
use Rattle.script_run.specs.declared.ended.Ended.{Ended}
use Rattle.script_run.specs.declared.ended.Ended.TheVariants.{WriteFault, MediaFault}

-- the counts of the sink and the medium: the one that ended the script rose, and the other is as it was, except that the sink may also fail
-- while a fault of the medium is reported
abbrev pub Counts : Ended → ℕ → ℕ → ℕ → ℕ → Type 0
Counts WriteFault sink sink' media media' = Rose sink sink' × (media' ≡ media)
Counts MediaFault sink sink' media media' = Rose media media'
Counts _ sink sink' media media' = (sink' ≡ sink) × (media' ≡ media)
