-- Frames that are sent.
use Rattle.std.specs.Prelude.{ℕ, ◌≡◌, ◌+◌, ◌*◌, ◌^◌, ◌<◌, ◌≤◌, ◌⊎◌, Bool, true, false, IsTrue, List, [], ◌∷◌, ◌++◌, length, All, None}
use Rattle.mars_base.specs.Causes.{Rose}
use Rattle.array_shape.specs.declared.shape.Shape.{Shape}
use Rattle.array_shape.specs.Logged.{Part, ranges_of, AllPlaced}
use Rattle.eaw_face.specs.State.{part_at}
use Rattle.eaw_face.specs.Causes.{fit}
use Rattle.eaw_face.specs.Sending.{Sending}
use Rattle.eaw_face.specs.Frame.{Frame, Group, frame_bytes, IsByte, IsFrameIn}

-- what a number has logged can go into a frame: its parts lie in the data, and an empty log has room for them
pub record IsSendable (shape : Shape) (parts : List Part) : Type 0 where
  pub placed : AllPlaced shape parts
  pub room : fit shape [] (ranges_of parts) None

-- a part of bytes
abbrev pub HasBytes : Part → Type 0
HasBytes part = All IsByte part.1

-- no part has more bytes than a stripe
abbrev pub AreShort : List Part → Type 0
AreShort parts = (pos : ℕ) → pos < length parts → length (part_at parts pos).1 ≤ 512

-- the parts of a number as a group of a frame: no group if there are none
abbrev pub group_of : ℕ → List Part → List Group
group_of number [] = []
group_of number (p ∷ ps) = record { number = number; parts = p ∷ ps } ∷ []

-- the next frame, of these groups
abbrev pub next_frame : Sending → List Group → Frame
next_frame old groups = record { sequence = old.sent + 1; groups = groups }

-- what a sender shows: its link, the shape of its frames, for how many bytes of a frame it has room, how many frames it has sent, and
-- whether it sends no more
pub record SenderView (L : Type 0) : Type 0 where
  pub link : L
  pub shape : Shape
  pub room : ℕ
  pub sent : ℕ
  pub is_down : Bool

-- the same of any sender
abbrev pub sending_of : {L : Type 0} → Bool → (L → List (List ℕ)) → (L → ℕ) → SenderView L → Sending
sending_of told frames faults s = record { mirrors = true; told = told; frames = frames s.link; faults = faults s.link; sent = s.sent; is_down = s.is_down }

-- the most bytes that a frame of a shape has
abbrev pub frame_most : Shape → ℕ
frame_most shape = 14 + shape.numbers * (3 + 522 * (shape.loggers * shape.entries))

-- it was sent
pub record WasSent (tells : Bool) (shape : Shape) (groups : List Group) (old new : Sending) : Type 0 where
  pub went_on : old.is_down ≡ false
  pub goes_on : new.is_down ≡ false
  pub good : IsFrameIn shape (next_frame old groups)
  pub frames : IsTrue tells → new.frames ≡ old.frames ++ frame_bytes (next_frame old groups) ∷ []
  pub count : new.sent ≡ old.sent + 1
  pub faults : new.faults ≡ old.faults

-- it was not sent: the sending has ended
pub record NotSent (tells : Bool) (old new : Sending) : Type 0 where
  pub ended : new.is_down ≡ true
  pub later : old.faults ≤ new.faults
  pub frames : IsTrue tells → new.frames ≡ old.frames
  pub count : new.sent ≡ old.sent
  pub cause : ((old.is_down ≡ true) × (new.faults ≡ old.faults)) ⊎ (((2 ^ 64 ≤ old.sent + 1) × (new.faults ≡ old.faults)) ⊎ Rose old.faults new.faults)

-- What was committed of these groups was sent, unless the sending has ended. Nothing is due of no group.
abbrev pub Sends : Bool → Shape → List Group → Sending → Sending → Type 0
Sends tells shape [] old new = new ≡ old
Sends tells shape (g ∷ gs) old new = WasSent tells shape (g ∷ gs) old new ⊎ NotSent tells old new
