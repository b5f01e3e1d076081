-- What a run over records does whose lines are answered with the frames that the array sends.
use Rattle.std.specs.Prelude.{ℕ, ◌≡◌, ◌⊎◌, List, [], Bool, true, false, All}
use Rattle.pcm_media.specs.View.{View}
use Rattle.array_shape.specs.declared.shape.Shape.{Shape}
use Rattle.array_image.specs.Decided.{settled_data}
use Rattle.eaw_device.specs.Opens.{IsArray}
use Rattle.eaw_face.specs.Frame.{Frame, IsFrameIn}
use Rattle.eaw_face.specs.Mirroring.{AreInSequence, followed}
use Rattle.eaw_face.specs.StoreView.{StoreView}
use Rattle.page_store.specs.Index.{Index}
use Rattle.caller_steps.specs.State.{State}
use Rattle.caller_steps.specs.Room.{Limits}
use Rattle.caller_steps.specs.Run.{Turn}
use Rattle.caller_steps.specs.Step.{Runs}
use Rattle.texts.specs.Written.{IsWritten}
use Rattle.script_run.specs.declared.ended.Ended.{Ended}
use Rattle.script_run.specs.declared.ended.Ended.TheVariants.{All as Done, WriteFault, NoMemory}
use Rattle.frame_lines.specs.Framed.{Framed, framed, lines_of_frames}
use Rattle.array_runs.specs.Forms.{index_in}
use Rattle.array_runs.specs.Records.{HasAll, begun_on}
use Rattle.mars_shell.specs.Run.{TakesTurns, AnswersLines}
use Rattle.mars_shell.specs.Lines.{call_script}

-- the turns lead from a first state to one whose records and keys this data has, sound under an index
abbrev pub LeadTo : Index → Limits → State → List Turn → List ℕ → Type 0
LeadTo index limits begun turns bytes = (state : State) × Runs limits begun turns state × HasAll index bytes state

-- The frames that the opening has sent are in sequence from 1, and bring the data to that of the callers' first state. Their lines were
-- written before all else, whole or in part. If whole, the lines of the input were answered, each with its frames: all frames up to a whole
-- reply, applied in order to the data that was opened, give sound data with exactly the records of the history to which the turns so far
-- lead. If all lines are answered, that is the data at the end.
pub record SendsFirst (index : Index) (limits : Limits) (shape : Shape) (opened : List ℕ) (begun : State) (input : List ℕ) (ended : Ended) (cut : Bool) (text : List ℕ) (turns : List Turn) (final : State) : Type 0 where
  pub sent : List Frame
  pub good : All (IsFrameIn shape) sent
  pub sequence : AreInSequence 1 sent
  pub brought : begun.index.bytes ≡ followed sent opened
  pub wrote : ((last : Framed (List Turn)) × (last.inner ≡ turns) × (ended ≡ Done → final.index.bytes ≡ followed last.frames last.opened)
      × AnswersLines (framed (LeadTo index limits begun) (call_script limits.callers)) (record { inner = []; shape = shape; opened = opened; frames = sent }) (lines_of_frames sent) input ended cut text last)
      ⊎ ((turns ≡ []) × (ended ≡ WriteFault) × (cut ≡ true) × IsWritten true text (lines_of_frames sent))

-- that, or there was no memory to send the frames of the opening, or to write them
abbrev pub SaysFramed : Index → Shape → List ℕ → State → List ℕ → Ended → Bool → List ℕ → Limits → List Turn → State → Type 0
SaysFramed index shape opened begun input ended cut text limits turns final =
    SendsFirst index limits shape opened begun input ended cut text turns final ⊎ ((turns ≡ []) × (ended ≡ NoMemory) × (cut ≡ false) × (text ≡ []))

-- the same over the data of a store, under an index
abbrev pub says_framed : Index → StoreView → List ℕ → Bool → List ℕ → Ended → Limits → List Turn → State → Type 0
says_framed index store input cut text ended = SaysFramed index store.shape store.state.bytes (begun_on index store.state.bytes) input ended cut text

-- Callers took turns over the array's records. The text is their replies, with the frames if they are asked for.
abbrev pub RunsAs : (frames : Bool) (depth : ℕ) → List ℕ → Bool → List ℕ → View → Ended → View → Type 0
RunsAs true depth input cut text old ended new = (shape : Shape) × IsArray shape old × TakesTurns depth
    (SaysFramed (index_in shape old) shape (settled_data shape old.content.bytes) (begun_on (index_in shape old) (settled_data shape old.content.bytes)) input ended cut text) old ended new
RunsAs false depth input cut text old ended new = TakesTurns depth (λ limits turns final. AnswersLines (call_script limits.callers) [] [] input ended cut text turns) old ended new
