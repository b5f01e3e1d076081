-- What comes of doing one command of a script.
use Rattle.std.specs.Prelude.{ℕ, ◌≡◌, Bool, false, IsTrue, List, Some, None, Result, Ok, Err, OnOk, OnErr, IfOk}
use Rattle.mars_base.specs.Causes.{HasCause}
use Rattle.mars_base.specs.declared.Failed.{Failed}
use Rattle.eaw_face.specs.State.{State}
use Rattle.eaw_face.specs.StoreView.{StoreView, LeavesOnly}
use Rattle.eaw_face.specs.Does.{IsEither}
use Rattle.eaw_face.specs.Mirroring.{Mirrors}
use Rattle.eaw_face.specs.declared.fault.EawFault.{EawFault}
use Rattle.eaw_face.specs.declared.fault.EawFault.TheVariants.{UnknownTid, LogFull as Full, Media, Dead}
use Rattle.script_text.specs.Eaw.{Raw}
use Rattle.script_text.specs.declared.answer.Answer.{Answer}
use Rattle.script_text.specs.declared.answer.Answer.TheVariants.{Unknown, LogFull}
use Rattle.eaw_script.specs.Tests.{asks, checks}
use Rattle.eaw_script.specs.Answers.{AnswersWith, state_after}

-- the answer for a refusal of the store
abbrev pub refusal_of : EawFault → Result Answer Failed
refusal_of (UnknownTid u) = Ok Unknown
refusal_of (Full g h n) = Ok (LogFull g h n)
refusal_of Media = Err (record {})
refusal_of Dead = Err (record {})

-- the state that a command made: the present one, or, if the medium failed, the one that it was to make
abbrev pub made_by : State → State → Raw → Result Answer Failed → State
made_by old new raw (Ok answer) = new
made_by old new raw (Err failed) = state_after raw old

-- Number t's command on a store whose images open as Opens says. An answer is the model's. An error comes only if the medium failed, in a
-- command that passed each test and uses the medium. In either case, each image that a loss of power might newly have left opens with the
-- data before the command or the data that it made. A store that mirrors sends what the command wrote.
pub record Performed (tells : Bool) (Opens : List ℕ → List ℕ → Type 0) (old new : StoreView) (t : ℕ) (raw : Raw) (result : Result Answer Failed) : Type 0 where
  pub shape : new.shape ≡ old.shape
  pub depth : new.depth ≡ old.depth
  pub cause : HasCause old.faults new.faults result
  pub alive : OnOk result (new.is_dead ≡ false)
  pub answers : IsTrue tells → IfOk result (λ answer. AnswersWith old.shape (old.ranges t) old.state t raw answer new.state)
  pub fails : OnErr result (checks old.shape (asks old.shape (old.ranges t) raw) None × (asks old.shape (old.ranges t) raw).media)
  pub time : IsTrue tells → LeavesOnly (IsEither Opens old.state.bytes (made_by old.state new.state raw result).bytes) old new
  pub mirrors : Mirrors tells old new
