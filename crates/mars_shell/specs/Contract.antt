-- What the contracts of commands have in common.
use Rattle.std.specs.Prelude.{◌≡◌, ◌⊎◌}
use Rattle.array_runs.specs.declared.status.Status.{Status}
use Rattle.array_runs.specs.declared.status.Status.TheVariants.{Usage}
pub use Rattle.eaw_face.specs.Causes.{IsAlive}
pub use Rattle.texts.specs.Written.{Wrote}
pub use Rattle.array_runs.specs.Forms.{index_at}
pub use Rattle.array_runs.specs.Input.{InputSays}
pub use Rattle.array_runs.specs.Outcome.{OutcomeOf}
pub use Rattle.array_runs.specs.Statuses.{Counts, IsEarly, IsRefusal}
pub use Rattle.mars_shell.specs.Asked.{OutcomeFor}
pub use Rattle.mars_shell.specs.Late.{depth_of, HasDepth}
pub use Rattle.mars_shell.specs.Served.{Serves, ServedCounts}

-- What a command that takes its input leaves alone, by the status: an early end the medium, and an early end or a refusal the sink. The words
-- were no wrong use.
pub record Spares (status : Status) (Untouched Untold : Type 0) : Type 0 where
  pub no_usage : status ≡ Usage → ⊥
  pub early : IsEarly status → Untouched
  pub silent : IsEarly status ⊎ IsRefusal status → Untold
