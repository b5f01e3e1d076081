-- What is done over a store whose records are read first.
use Rattle.std.specs.Prelude.{ℕ, ◌≡◌, ◌≢◌, ◌⊎◌, List, length, Bool, false, Result, Ok, Err}
use Rattle.mars_base.specs.Causes.{Rose}
use Rattle.array_shape.specs.declared.shape.Shape.{Shape}
use Rattle.eaw_face.specs.Causes.{IsAlive}
use Rattle.eaw_face.specs.StoreView.{StoreView, LeavesOnly}
use Rattle.page_store.specs.Index.{Index}
use Rattle.caller_steps.specs.State.{State}
use Rattle.caller_steps.specs.Room.{Limits}
use Rattle.caller_steps.specs.Run.{Turn}
use Rattle.caller_steps.specs.Step.{Runs}
use Rattle.caller_steps.specs.Prefix.{HasPrefixOf}
use Rattle.mars_core.specs.Over.{limits_of, OpensWithTables}
use Rattle.mars_core.specs.declared.fault.CoreFault.{CoreFault}
use Rattle.mars_core.specs.declared.fault.CoreFault.TheVariants.{Media}
use Rattle.script_run.specs.Counts.{Counts}
use Rattle.script_run.specs.declared.ended.Ended.{Ended}
use Rattle.script_run.specs.declared.ended.Ended.TheVariants.{MediaFault}
use Rattle.array_runs.specs.Untaken.{Untaken}
use Rattle.array_runs.specs.Records.{begun_on, HasAll}

-- how images of an array of this shape open with the tables of a state and the records of its first transactions, under an index
abbrev pub opens_of : (Shape → List ℕ → List ℕ → Type 0) → Shape → Index → State → ℕ → List ℕ → Type 0
opens_of Opens shape index final least image = HasPrefixOf (OpensWithTables (Opens shape) index final.names) final least image

-- Callers took turns over the records of the store's data, which are sound under an index. This is what is said of a run, in terms of the
-- store.
pub record Served (Says : Limits → List Turn → State → Type 0) (Opens : Shape → List ℕ → List ℕ → Type 0) (index : Index) (old : StoreView) (ended : Ended) (new : StoreView) : Type 0 where
  pub sound : index.sound old.state.bytes
  pub shape : new.shape ≡ old.shape
  pub turns : List Turn
  pub final : State
  pub runs : Runs (limits_of index old.shape old.depth) (begun_on index old.state.bytes) turns final
  pub says : Says (limits_of index old.shape old.depth) turns final
  pub since : LeavesOnly (λ image. Opens old.shape image old.state.bytes ⊎ opens_of Opens old.shape index final 0 image) old new
  pub now : (image : List ℕ) → new.left_since new.moment image → opens_of Opens old.shape index final (length final.history) image
  pub left : ended ≢ MediaFault → IsAlive new × (final.is_dead ≡ false) × HasAll index new.state.bytes final

-- that, or the records were not taken
abbrev pub Serves : (Ended → Limits → List Turn → State → Type 0) → (Shape → List ℕ → List ℕ → Type 0) → Index → StoreView → Result Ended CoreFault → Bool → List ℕ → StoreView → Type 0
Serves Says Opens index old (Ok ended) cut text new = Served (Says ended) Opens index old ended new
Serves Says Opens index old (Err fault) cut text new = Untaken false Opens index old fault cut text new

-- the counts of faults of the sink and of the medium
abbrev pub ServedCounts : Result Ended CoreFault → ℕ → ℕ → ℕ → ℕ → Type 0
ServedCounts (Ok ended) sink sink' media media' = Counts ended sink sink' media media'
ServedCounts (Err Media) sink sink' media media' = (sink' ≡ sink) × Rose media media'
ServedCounts (Err fault) sink sink' media media' = (sink' ≡ sink) × (media' ≡ media)
