-- What a run over records does on a medium that tells its bytes.
use Rattle.std.specs.Prelude.{ℕ, ◌≡◌, ◌≢◌, ◌≤◌, List, ◌++◌, length, Bool, false}
use Rattle.std.specs.List.{concat}
use Rattle.pcm_media.specs.View.{View}
use Rattle.array_shape.specs.declared.shape.Shape.{Shape}
use Rattle.array_image.specs.Decided.{settled_data}
use Rattle.commit_queue.specs.Deferred.{deferred_orders}
use Rattle.device_recovery.specs.Recovered.{HasNoVote}
use Rattle.caller_steps.specs.State.{State}
use Rattle.caller_steps.specs.Room.{Limits}
use Rattle.caller_steps.specs.Run.{Turn}
use Rattle.caller_steps.specs.Step.{Runs}
use Rattle.mars_core.specs.Over.{limits_of}
use Rattle.script_run.specs.Lines.{lines_of}
use Rattle.script_run.specs.Script.{Script}
use Rattle.script_run.specs.Transcript.{Answered}
use Rattle.script_run.specs.declared.ended.Ended.{Ended}
use Rattle.script_run.specs.declared.ended.Ended.TheVariants.{MediaFault}
use Rattle.array_runs.specs.Forms.{index_in}
use Rattle.array_runs.specs.Records.{HasAll, HoldsRecords, begun_on}
use Rattle.mars_shell.specs.PrefixLaw.{PrefixLaw}

-- Callers took turns over an array whose records are sound: there is a run of steps from the state that was opened to the last one. Says
-- tells, of the limits of the array, the turns and the last state, what was written. The history obeys the prefix law. Unless the medium
-- failed, the last state is not dead, and the data that the array settles to at the end has exactly the records of the history. Then also at
-- most `depth` commits wait for their write-back, of which the rows are voted. If it is 0, no row is.
pub record TakesTurns (depth : ℕ) (Says : Limits → List Turn → State → Type 0) (old : View) (ended : Ended) (new : View) : Type 0 where
  pub shape : Shape
  pub holds : HoldsRecords shape old
  pub turns : List Turn
  pub final : State
  pub runs : Runs (limits_of (index_in shape old) shape depth) (begun_on (index_in shape old) (settled_data shape old.content.bytes)) turns final
  pub says : Says (limits_of (index_in shape old) shape depth) turns final
  pub prefix_law : PrefixLaw shape old final new
  pub quiet : ended ≢ MediaFault → depth ≡ 0 → HasNoVote shape new.content.bytes
  pub waiting : ended ≢ MediaFault → length (deferred_orders shape new.content.bytes) ≤ depth
  pub left : ended ≢ MediaFault → (final.is_dead ≡ false) × HasAll (index_in shape new) (settled_data shape new.content.bytes) final

-- Behind a text that stands before all else, the lines of the input were answered one by one by a script, from a first state to a last one.
pub record AnswersLines {S : Type 0} (script : Script S) (first : S) (before input : List ℕ) (ended : Ended) (cut : Bool) (text : List ℕ) (last : S) : Type 0 where
  pub answers : List (List ℕ)
  pub rest : List ℕ
  pub text_is : text ≡ before ++ (concat answers ++ rest)
  pub answered : Answered script first 1 (lines_of input) ended cut answers rest last
