-- Scripts of raw commands over a store that mirrors.
use Rattle.std.specs.Prelude.{ℕ, ◌≡◌, ◌⊎◌, List, [], Bool, true, false}
use Rattle.array_shape.specs.declared.shape.Shape.{Shape}
use Rattle.eaw_face.specs.State.{State}
use Rattle.eaw_face.specs.StoreView.{StoreView, LeavesOnly}
use Rattle.script_run.specs.Script.{Script}
use Rattle.script_run.specs.Transcript.{Ran}
use Rattle.script_run.specs.declared.ended.Ended.{Ended}
use Rattle.script_run.specs.declared.ended.Ended.TheVariants.{NoMemory}
use Rattle.frame_lines.specs.Framed.{Framed, framed}
use Rattle.eaw_script.specs.Lines.{raw_script}
use Rattle.eaw_script.specs.Progress.{Progress, Shows, Comes, begun}

-- these bytes are the committed data
abbrev pub HasData : Progress → List ℕ → Type 0
HasData progress bytes = progress.state.bytes ≡ bytes

-- how the lines act: the frames that a command sends are written before its reply
abbrev pub framed_script : Script (Framed Progress)
framed_script = framed HasData raw_script

-- at the start of a script
abbrev pub framed_begun : Shape → State → Framed Progress
framed_begun shape state = record { inner = begun shape state; shape = shape; opened = state.bytes; frames = [] }

-- The lines were answered with their frames, or there was no memory to begin, and then nothing was written and nothing new may be left.
abbrev pub RanMirrored : (Shape → List ℕ → List ℕ → Type 0) → StoreView → StoreView → List (List ℕ) → Ended → Bool → List ℕ → Type 0
RanMirrored Opens old new lines ended cut text =
    Ran framed_script (λ state. Shows new state.inner) (λ after. Comes Opens old (begun old.shape old.state) new after.inner) (framed_begun old.shape old.state) lines ended cut text
    ⊎ ((ended ≡ NoMemory) × (cut ≡ false) × (text ≡ []) × LeavesOnly (λ image. ⊥) old new)

-- with frames or without
abbrev pub RanAs : Bool → (Shape → List ℕ → List ℕ → Type 0) → StoreView → StoreView → List (List ℕ) → Ended → Bool → List ℕ → Type 0
RanAs true Opens old new lines ended cut text = RanMirrored Opens old new lines ended cut text
RanAs false Opens old new lines ended cut text = Ran raw_script (Shows new) (Comes Opens old (begun old.shape old.state) new) (begun old.shape old.state) lines ended cut text
