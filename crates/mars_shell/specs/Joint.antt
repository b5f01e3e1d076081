-- What comes of a script whose callers work on threads.
use Rattle.std.specs.Prelude.{ℕ, ◌≡◌, ◌≢◌, ◌≤◌, ◌<◌, ◌↔◌, List, [], ◌++◌, length, map, slice_index_or, Bool, IsTrue, None}
use Rattle.std.specs.List.{flat_map, range_with_len, AllByRecursion, AllZip}
use Rattle.std.specs.FinMap.{entries}
use Rattle.history.specs.Legal.{records}
use Rattle.caller_steps.specs.State.{State, commits_of}
use Rattle.caller_steps.specs.Room.{Limits}
use Rattle.caller_steps.specs.Run.{Turn, turns_of}
use Rattle.caller_plans.specs.declared.fate.Fate.{Fate}
use Rattle.caller_plans.specs.Plans.{planned, faults_from}
use Rattle.caller_work.specs.declared.gate.Place.{Place}
use Rattle.caller_work.specs.declared.gate.Place.TheVariants as place
use Rattle.caller_work.specs.Fated.{AreFated}
use Rattle.history_text.specs.Text.{done_lines, work_text}
use Rattle.script_run.specs.Lines.{lines_of}
use Rattle.texts.specs.MediaFault.{media_line}
use Rattle.script_text.specs.JointLine.{JointLineSays}
use Rattle.script_text.specs.declared.joint_line.JointLine.{JointLine}
use Rattle.caller_plans.specs.Asks.{keys_by}
use Rattle.history.specs.Answers.{AreAnswers}
use Rattle.reader_work.specs.Readership.{passes_for}
use Rattle.history.specs.declared.answer.Answer.{Answer}
use Rattle.script_run.specs.declared.ended.Ended.{Ended}
use Rattle.script_run.specs.declared.ended.Ended.TheVariants.{MediaFault, NoMemory}
use Rattle.mars_shell.specs.Told.{TellsEnd}

-- What comes of the callers' work on a core of these limits, which has at least as many callers, and one more if there are readers: what the
-- lines of the input say, and what became of each caller's plans. The transactions of a caller in the history are its plans that were told as
-- committed, and no other caller has any. The gate knows of each caller that plans a transaction where its first has ended, or was left for last. The
-- work ended at a fault of the medium exactly if the medium has failed. If neither that was so nor memory ran out, each plan has its fate, and each
-- reader was answered for each key that it asks for: the value after some first transactions of the history, no fewer from one of its
-- answers to the next. The text has all of this, or, if the medium failed, the history and a line that says so.
pub record JointWork (Knows : Place → Type 0) (callers readers : ℕ) (input : List ℕ) (ended : Ended) (cut : Bool) (text : List ℕ) (limits : Limits) (turns : List Turn) (final : State) : Type 0 where
  pub enough : passes_for callers readers ≤ limits.callers
  pub said : List JointLine
  pub says : AllZip (JointLineSays callers readers) (lines_of input) said
  pub whose : AllByRecursion (λ (turn : Turn). turn.0 < callers) turns
  pub fates : List (List Fate)
  pub each : length fates ≡ callers
  pub fated : (caller : ℕ) → AreFated (turns_of caller turns) (planned caller None said) (slice_index_or fates caller []) (commits_of caller final.history) (commits_of caller final.doubt)
  pub whole : ended ≢ MediaFault → ended ≢ NoMemory → (caller : ℕ) → length (slice_index_or fates caller []) ≡ length (planned caller None said)
  pub known : (caller : ℕ) → caller < callers → 0 < length (planned caller None said) → Knows (place.Ended caller 1)
  pub fault : (ended ≡ MediaFault) ↔ IsTrue final.is_dead
  pub told : List (List Answer)
  pub answered : ended ≢ MediaFault → ended ≢ NoMemory
      → AllZip (AreAnswers final.names final.base final.history 0) (map (λ reader. keys_by reader said) (range_with_len 0 readers)) told
  pub tells : TellsEnd ended cut text (work_text (faults_from 1 (λ caller. None) said) final.history fates (entries (records final.base final.history)) told)
      (flat_map done_lines final.history ++ media_line)
