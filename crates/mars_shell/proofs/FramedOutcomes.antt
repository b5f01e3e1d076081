-- What comes of lines with frames over an array that was opened.
use Rattle.std.proofs.Common.{◌≡◌, ℕ, ◌≤◌, List, Bool, true, false, Result, subst, arith}
use Rattle.std.specs.Prelude.{IsTrue}
use Rattle.pcm_media.specs.Images.{MayLeave}
use Rattle.pcm_media.specs.View.{View}
use Rattle.eaw_face.specs.StoreView.{StoreView}
use Rattle.eaw_device.specs.Opens.{Opens, KeepsData, Attached}
use Rattle.mars_core.specs.declared.fault.CoreFault.{CoreFault}
use Rattle.script_run.specs.declared.ended.Ended.{Ended}
use Rattle.array_runs.specs.Forms.{index_at}
use Rattle.array_runs.specs.Outcome.{OutcomeOf}
use Rattle.array_runs.specs.Records.{begun_on}
use Rattle.array_runs.specs.Statuses.{served_status}
use Rattle.array_runs.specs.declared.status.Status.{Status}
use Rattle.array_runs.proofs.Opened.{array}
use Rattle.array_runs.proofs.Statuses.{outcome_as, outcome_spared}
use Rattle.mars_shell.specs.FramedRun.{SaysFramed, says_framed, RunsAs}
use Rattle.mars_shell.specs.Run.{TakesTurns}
use Rattle.mars_shell.specs.Served.{Serves}
use Rattle.mars_shell.proofs.Outcomes.{records_outcome}
use Rattle.mars_shell.proofs.Waiting.{IsHandedBack}

-- callers took turns, or the records were not taken
pub framed_outcome : (tells : Bool) (told : IsTrue tells) (old : View) (only_now : (image : List ℕ) → IsTrue tells → old.left_since old.moment image → MayLeave old.content image)
    (store : StoreView) (attached : Attached tells old store) (keeps : KeepsData tells old store.moment store.left_since)
    (depth : ℕ) (limit : store.depth ≡ depth) (later : StoreView) (new : View) (handed : IsHandedBack tells depth later new) (counts_now : (t : ℕ) (image : List ℕ) → IsTrue tells → t ≤ new.moment → MayLeave new.content image → new.left_since t image)
    (input : List ℕ) (cut : Bool) (text : List ℕ) (result : Result Ended CoreFault)
    → Serves (says_framed (index_at store.state.bytes) store input cut text) Opens (index_at store.state.bytes) store result cut text later
    → OutcomeOf false true 0 (λ ended. RunsAs true depth input cut text old ended new) old (served_status result) new cut text
framed_outcome tells told old only_now store attached keeps depth limit later new handed counts_now input cut text result served =
    let Does = says_framed (index_at store.state.bytes) store input cut text in
    let outcome = records_outcome tells told old only_now store attached keeps depth limit later new handed counts_now 0 (omega arith) Does result cut text served in
    outcome_as false (λ ended. TakesTurns depth (Does ended) old ended new) (λ ended. RunsAs true depth input cut text old ended new) true 0 old (served_status result) new cut text
    (λ ended taken. (
      store.shape,
      array tells told old only_now store attached keeps,
      subst (λ (bytes : List ℕ). TakesTurns depth (SaysFramed (index_at bytes) store.shape bytes (begun_on (index_at bytes) bytes) input ended cut text) old ended new) (attached.bytes told) taken,
    )) outcome

-- the work was not begun
pub framed_none : (depth : ℕ) (input : List ℕ) (old : View) (status : Status) (new : View) (cut : Bool) (text : List ℕ) → OutcomeOf true true 0 (λ none. ⊥) old status new cut text
    → OutcomeOf false true 0 (λ ended. RunsAs true depth input cut text old ended new) old status new cut text
framed_none depth input old status new cut text outcome =
    let none = outcome_spared false (λ none. ⊥) true 0 old status new cut text outcome in
    outcome_as false (λ none. ⊥) (λ ended. RunsAs true depth input cut text old ended new) true 0
    old status new cut text (λ ended none. absurd none) none
