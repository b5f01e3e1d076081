-- The state that callers' turns over a core stand in, and how it goes on.
use Rattle.std.specs.Prelude.{ℕ, ◌≡◌, List, [], ◌++◌, false, length, IsFalse}
use Rattle.array_shape.specs.declared.shape.Shape.{Shape}
use Rattle.eaw_face.specs.Frame.{Frame}
use Rattle.page_store.specs.Index.{Index}
use Rattle.caller_steps.specs.State.{State}
use Rattle.caller_steps.specs.Room.{Limits}
use Rattle.caller_steps.specs.Core.{CoreView, IsSafe, Continues}
use Rattle.caller_steps.specs.Run.{Turn}
use Rattle.caller_steps.specs.Sound.{IsSound}
use Rattle.caller_steps.specs.Step.{Runs}
use Rattle.history.specs.declared.call.Reply.TheVariants.{Media}
use Rattle.script_run.specs.Script.{Script}
use Rattle.frame_lines.specs.Framed.{Framed, framed}
use Rattle.array_runs.specs.Records.{HasAll}
use Rattle.mars_shell.specs.Lines.{LineGives, LineMeets, LineStops}

-- the limits of a core, and its state before the first line
pub record Start : Type 0 where
  pub limits : Limits
  pub state : State

-- the start, the turns of callers so far, and the state that they have led to
pub record Progress : Type 0 where
  pub start : Start
  pub turns : List Turn
  pub state : State

-- how many callers there are
abbrev pub callers_of : Progress → ℕ
callers_of progress = progress.start.limits.callers

-- the turns so far have led to a state, and this data has its records and its keys, sound under an index
pub record HasShown (index : Index) (progress : Progress) (bytes : List ℕ) : Type 0 where
  pub runs : Runs progress.start.limits progress.start.state progress.turns progress.state
  pub all : HasAll index bytes progress.state

-- if a core lives, the data shows its state
abbrev pub IsShown : CoreView → Type 0
IsShown core = IsFalse core.state.is_dead → core.shows core.state

-- the turns so far have led to a state with this data
pub record HasData (progress : Progress) (bytes : List ℕ) : Type 0 where
  pub runs : Runs progress.start.limits progress.start.state progress.turns progress.state
  pub bytes_are : progress.state.index.bytes ≡ bytes

-- what lines do to the turns of so many callers
abbrev pub line_script : Script Progress
line_script = record {
  gives = λ old n bytes text new. (new.start ≡ old.start) × LineGives (callers_of old) old.turns n bytes text new.turns;
  breaks = λ old bytes caller new. (new.start ≡ old.start) × LineMeets (callers_of old) Media old.turns bytes caller new.turns;
  stops = λ old n bytes new. (new.start ≡ old.start) × LineStops (callers_of old) old.turns n bytes new.turns;
}

-- the same, with the frames that a call sends before its reply
abbrev pub framed_lines : Index → Script (Framed Progress)
framed_lines index = framed (HasShown index) line_script

-- no caller has had a turn, and the opening has sent these frames from the data that was opened on
abbrev pub framed_start : Limits → Shape → List ℕ → State → List Frame → Framed Progress
framed_start limits shape opened begun sent = record {
  inner = record { start = record { limits = limits; state = begun }; turns = []; state = begun };
  shape = shape;
  opened = opened;
  frames = sent;
}

-- what was written with frames, and the turns alone of what they act on
abbrev pub turns_in : Framed Progress → Framed (List Turn)
turns_in framed = record { inner = framed.inner.turns; shape = framed.shape; opened = framed.opened; frames = framed.frames }

-- the core can answer a further line
pub record IsReady (callers : ℕ) (core : CoreView) : Type 0 where
  pub callers_are : callers ≡ core.limits.callers
  pub alive : core.state.is_dead ≡ false

-- The core is in the state to which the turns have led. That is sound, and each image that a loss of power may leave now has all of its
-- history.
pub record Stands (core : CoreView) (progress : Progress) : Type 0 where
  pub limits_are : progress.start.limits ≡ core.limits
  pub state_is : progress.state ≡ core.state
  pub runs : Runs progress.start.limits progress.start.state progress.turns progress.state
  pub sound : IsSound core.state
  pub safe : IsSafe core core.moment (length core.state.history)

-- Further turns were a run from a core to a later one: the history goes on, and what a loss of power may have left has a prefix of it.
pub record Comes (old : CoreView) (before : Progress) (new : CoreView) (after : Progress) : Type 0 where
  pub more : List Turn
  pub turns_are : after.turns ≡ before.turns ++ more
  pub runs : Runs old.limits old.state more new.state
  pub continues : Continues old new
