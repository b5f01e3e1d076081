-- Lines that are answered after frames were sent.
use Rattle.std.specs.Prelude.{ℕ, ◌≡◌, ◌⊎◌, Bool, true, false, List, [], ◌++◌, length, map, flat_map, Result, Ok, Err}
use Rattle.eaw_face.specs.Frame.{frame_bytes}
use Rattle.eaw_face.specs.Mirroring.{AreInSequence, followed}
use Rattle.eaw_face.specs.StoreView.{StoreView}
use Rattle.texts.specs.Written.{IsWritten}
use Rattle.script_run.specs.Script.{Script}
use Rattle.script_run.specs.Transcript.{Ran}
use Rattle.script_run.specs.declared.ended.Ended.{Ended}
use Rattle.script_run.specs.declared.ended.Ended.TheVariants.{WriteFault, NoMemory}
use Rattle.frame_lines.specs.Framed.{bytes_line, lines_of_frames, Framed, framed}

-- The store keeps all frames that it has sent. They are in sequence from 1, and applied in order to the data that was opened they give its
-- data, unless the sending has ended.
pub record HasBegun {State : Type 0} (store : StoreView) (state : Framed State) : Type 0 where
  pub shape : state.shape ≡ store.shape
  pub count : store.sending.sent ≡ length state.frames
  pub sequence : AreInSequence 1 state.frames
  pub kept : store.sending.frames ≡ map frame_bytes state.frames
  pub data_is : store.sending.is_down ≡ false → store.state.bytes ≡ followed state.frames state.opened

-- a line for each frame that the store kept was written, or part of them, or nothing for want of memory or because the sending has ended
abbrev pub FrontWritten : {T : Type 0} → StoreView → Result T Ended → Bool → List ℕ → Type 0
FrontWritten store (Ok x) cut text = (store.sending.is_down ≡ false) × (cut ≡ false) × (text ≡ flat_map bytes_line store.sending.frames)
FrontWritten store (Err WriteFault) cut text = (store.sending.is_down ≡ false) × (cut ≡ true) × IsWritten true text (flat_map bytes_line store.sending.frames)
FrontWritten store (Err NoMemory) cut text = (cut ≡ false) × (text ≡ [])
FrontWritten store (Err ended) cut text = ⊥

-- The lines of the frames that were sent before were written, and then the lines of the script were answered with theirs. Or the sink took
-- only part of the former, or nothing was written for want of memory.
abbrev pub RanFramed : {State : Type 0} → Script State → (State → List ℕ → Type 0) → (Framed State → Type 0) → (Framed State → Type 0) → StoreView → Framed State
    → List (List ℕ) → Ended → Bool → List ℕ → Type 0
RanFramed script Holds Stands Comes store first lines ended cut text =
    ((store.sending.is_down ≡ false) × (behind : List ℕ) × (text ≡ lines_of_frames first.frames ++ behind) × Ran (framed Holds script) Stands Comes first lines ended cut behind)
    ⊎ (((store.sending.is_down ≡ false) × (ended ≡ WriteFault) × (cut ≡ true) × IsWritten true text (lines_of_frames first.frames) × Comes first)
    ⊎ ((ended ≡ NoMemory) × (cut ≡ false) × (text ≡ []) × Comes first))
