-- Lines that are answered, with a line for each frame that was sent before the answer.
use Rattle.std.specs.Prelude.{ℕ, ◌≡◌, ◌<◌, ◌⊎◌, Bool, true, false, IsTrue, List, [], ◌∷◌, ◌++◌, length, flat_map, All}
use Rattle.array_shape.specs.declared.shape.Shape.{Shape}
use Rattle.hex.specs.Hex.{encode_lower as hex_of}
use Rattle.eaw_face.specs.Frame.{Frame, frame_bytes, IsFrameIn}
use Rattle.eaw_face.specs.Mirroring.{AreInSequence, followed}
use Rattle.eaw_face.specs.StoreView.{StoreView}
use Rattle.script_run.specs.Script.{Script}
use Rattle.frame_lines.specs.Lines.{frame_word}

-- the line of these bytes
abbrev pub bytes_line : List ℕ → List ℕ
bytes_line bytes = frame_word ++ hex_of bytes ++ 10 ∷ []

-- a line for each of these frames, in their order
abbrev pub lines_of_frames : List Frame → List ℕ
lines_of_frames frames = flat_map (λ f. bytes_line (frame_bytes f)) frames

-- what the lines act on; the array's shape; its data when it was opened; and the frames that were written
pub record Framed (State : Type 0) : Type 0 where
  pub inner : State
  pub shape : Shape
  pub opened : List ℕ
  pub frames : List Frame

-- The n-th line is answered by the lines of the frames that were sent meanwhile, and then by its reply. All frames that were written so far are
-- in sequence from 1 and frames of the shape, and applied in order to the data that was opened they give the committed data.
pub record GivesFramed {State : Type 0} (script : Script State) (Holds : State → List ℕ → Type 0) (old : Framed State) (n : ℕ) (line text : List ℕ) (new : Framed State) : Type 0 where
  pub sent : List Frame
  pub reply : List ℕ
  pub gives : script.gives old.inner n line reply new.inner
  pub text_is : text ≡ lines_of_frames sent ++ reply
  pub new_is : new ≡ record old { inner = new.inner; frames = old.frames ++ sent }
  pub good : All (IsFrameIn new.shape) sent
  pub sequence : AreInSequence 1 new.frames
  pub data_is : Holds new.inner (followed new.frames new.opened)

-- Answers with frames: memory runs out for the line, or for the frames or the reply of one that was done, and then no frame more is written.
abbrev pub framed : {State : Type 0} → (State → List ℕ → Type 0) → Script State → Script (Framed State)
framed Holds script = record {
  gives = GivesFramed script Holds;
  breaks = λ old line number new. script.breaks old.inner line number new.inner × (new ≡ record old { inner = new.inner });
  stops = λ old n line new. (script.stops old.inner n line new.inner ⊎ ((reply : List ℕ) × script.gives old.inner n line reply new.inner))
      × (new ≡ record old { inner = new.inner });
}

-- a store that mirrors and goes on sending, and whose frames are all given up
pub record IsSending (store : StoreView) : Type 0 where
  pub mirrors : store.sending.mirrors ≡ true
  pub told : IsTrue store.sending.told
  pub up : store.sending.is_down ≡ false
  pub none : store.sending.frames ≡ []

-- the store tells what it sends, and each frame that it keeps has bytes
pub record KeepsFrames (store : StoreView) : Type 0 where
  pub told : IsTrue store.sending.told
  pub some : All (λ (frame : List ℕ). 0 < length frame) store.sending.frames

-- the store has sent the frames that were written, and its data is that which was opened with them applied
pub record HasSent {State : Type 0} (store : StoreView) (state : Framed State) : Type 0 where
  pub shape : state.shape ≡ store.shape
  pub count : store.sending.sent ≡ length state.frames
  pub sequence : AreInSequence 1 state.frames
  pub data_is : store.state.bytes ≡ followed state.frames state.opened

-- the store is as it was, but for the frames that it keeps
pub record IsBut (old new : StoreView) : Type 0 where
  pub shape : new.shape ≡ old.shape
  pub depth : new.depth ≡ old.depth
  pub state : new.state ≡ old.state
  pub is_dead : new.is_dead ≡ old.is_dead
  pub sending : new.sending ≡ record old.sending { frames = new.sending.frames }

-- the responder stands in the states in which it stood, and what a loss of power leaves is the same
pub record StandsOn {R State : Type 0} (tells : Bool) (IsReady : R → Type 0) (Stands : R → State → Type 0) (Comes : R → State → R → State → Type 0) (faults_of : R → ℕ) (old new : R) : Type 0 where
  pub ready : IsReady old → IsReady new
  pub faults : faults_of new ≡ faults_of old
  pub stands : IsTrue tells → (state : State) → Stands old state → Stands new state
  pub comes : IsTrue tells → IsReady old → (state : State) → Stands old state → Comes old state new state
