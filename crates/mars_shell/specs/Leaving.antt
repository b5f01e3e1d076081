-- How turns led from what was opened of an array on a medium.
use Rattle.std.specs.Prelude.{ℕ, List}
use Rattle.pcm_media.specs.View.{View}
use Rattle.array_shape.specs.declared.shape.Shape.{Shape}
use Rattle.array_image.specs.Decided.{settled_data}
use Rattle.caller_steps.specs.State.{State}
use Rattle.caller_steps.specs.Run.{Turn}
use Rattle.caller_steps.specs.Step.{Runs}
use Rattle.mars_core.specs.Over.{limits_of}
use Rattle.array_runs.specs.Forms.{index_in}
use Rattle.array_runs.specs.Records.{begun_on}
use Rattle.mars_shell.specs.FramedRun.{LeadTo}

-- they led to this state
abbrev pub LeadFrom : Shape → View → ℕ → List Turn → State → Type 0
LeadFrom shape old depth turns final = Runs (limits_of (index_in shape old) shape depth) (begun_on (index_in shape old) (settled_data shape old.content.bytes)) turns final

-- they led to a state that some data shows
abbrev pub leads_from : Shape → View → ℕ → List Turn → List ℕ → Type 0
leads_from shape old depth = LeadTo (index_in shape old) (limits_of (index_in shape old) shape depth) (begun_on (index_in shape old) (settled_data shape old.content.bytes))
