-- What comes of work over an array that was opened.
use Rattle.std.proofs.Common.{◌≡◌, ℕ, ◌≤◌, List, Bool, true, false, Result, Ok, Err}
use Rattle.std.specs.Prelude.{IsTrue, nat_lt}
use Rattle.pcm_media.specs.Images.{MayLeave}
use Rattle.pcm_media.specs.View.{View}
use Rattle.eaw_face.specs.StoreView.{StoreView}
use Rattle.eaw_device.specs.Opens.{Opens, KeepsData, Attached}
use Rattle.caller_steps.specs.State.{State}
use Rattle.caller_steps.specs.Room.{Limits}
use Rattle.caller_steps.specs.Run.{Turn}
use Rattle.mars_core.specs.declared.fault.CoreFault.{CoreFault}
use Rattle.script_run.specs.declared.ended.Ended.{Ended}
use Rattle.array_runs.specs.Forms.{index_at}
use Rattle.mars_shell.specs.Run.{TakesTurns}
use Rattle.array_runs.specs.Outcome.{OutcomeOf}
use Rattle.mars_shell.specs.Served.{Serves}
use Rattle.array_runs.specs.Statuses.{served_status}
use Rattle.array_runs.specs.declared.status.Status.{Status}
use Rattle.array_runs.proofs.Opened.{untaken_outcome}
use Rattle.mars_shell.proofs.Running.{takes_turns}
use Rattle.mars_shell.proofs.Waiting.{IsHandedBack}
use Rattle.array_runs.proofs.Statuses.{outcome_of, outcome_as, outcome_spared}

module _ (tells : Bool) (told : IsTrue tells) (old : View) (only_now : (image : List ℕ) → IsTrue tells → old.left_since old.moment image → MayLeave old.content image)
    (store : StoreView) (attached : Attached tells old store) (keeps : KeepsData tells old store.moment store.left_since)
    (depth : ℕ) (limit : store.depth ≡ depth) (later : StoreView) (new : View) (handed : IsHandedBack tells depth later new) (counts_now : (t : ℕ) (image : List ℕ) → IsTrue tells → t ≤ new.moment → MayLeave new.content image → new.left_since t image) where
  -- callers took turns, or the records were not taken
  pub records_outcome : (callers : ℕ) → callers ≤ store.shape.numbers → (Does : Ended → Limits → List Turn → State → Type 0) (result : Result Ended CoreFault) (cut : Bool) (text : List ℕ)
      → Serves Does Opens (index_at store.state.bytes) store result cut text later
      → OutcomeOf false true callers (λ ended. TakesTurns depth (Does ended) old ended new) old (served_status result) new cut text
  records_outcome callers enough Does (Ok ended) cut text served =
      outcome_of false (λ ended. TakesTurns depth (Does ended) old ended new) true callers old new cut text ended (takes_turns tells told old only_now store attached keeps depth limit later new handed counts_now (Does ended) ended served)
  records_outcome callers enough Does (Err fault) cut text off = untaken_outcome tells told old only_now store attached keeps (nat_lt 0 depth) later new handed.behind
      false (λ ended. TakesTurns depth (Does ended) old ended new) callers enough fault cut text off

module _ (callers : ℕ) (depth : ℕ) (Does : Ended → Limits → List Turn → State → Type 0) (old : View) (status : Status) (new : View) (cut : Bool) (text : List ℕ) where
  abbrev With : Ended → Type 0
  With ended = TakesTurns depth (Does ended) old ended new

  -- the work was not begun
  pub turns_none : OutcomeOf true true callers (λ none. ⊥) old status new cut text → OutcomeOf false true callers With old status new cut text
  turns_none outcome =
      outcome_as false (λ none. ⊥) With true callers
      old status new cut text (λ ended none. absurd none)
      (outcome_spared false (λ none. ⊥) true callers old status new cut text outcome)
