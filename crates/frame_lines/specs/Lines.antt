-- Lines that say frames.
use Rattle.std.specs.Prelude.{ℕ, ◌≡◌, ◌⊎◌, List, [], ◌∷◌, ◌++◌, codes}
use Rattle.std.specs.Fmt.{decimal}
use Rattle.array_shape.specs.declared.shape.Shape.{Shape}
use Rattle.eaw_face.specs.Frame.{Frame, frame_bytes, IsFrameIn}
use Rattle.hex.specs.Hex.{encode_lower as hex_of}

-- how a line begins that says a frame
abbrev pub frame_word : List ℕ
frame_word = codes "frame "

-- a line that begins so
abbrev pub IsMeant : List ℕ → Type 0
IsMeant line = (rest : List ℕ) × (line ≡ frame_word ++ rest)

-- a line that says a frame which an array of this shape can follow
abbrev pub Says : Shape → Frame → List ℕ → Type 0
Says shape frame line = IsFrameIn shape frame × (line ≡ frame_word ++ hex_of (frame_bytes frame))

-- Lines, of which those that are meant say just these frames, one after another. The others are passed over.
abbrev pub AllSay : Shape → List (List ℕ) → List Frame → Type 0
AllSay shape [] frames = frames ≡ []
AllSay shape (line ∷ lines) [] = (IsMeant line → ⊥) × AllSay shape lines []
AllSay shape (line ∷ lines) (f ∷ fs) = ((IsMeant line → ⊥) × AllSay shape lines (f ∷ fs)) ⊎ (Says shape f line × AllSay shape lines fs)

-- what is written of a frame that is applied: how many are, by then
abbrev pub applied_line : ℕ → List ℕ
applied_line count = codes "applied " ++ decimal count ++ 10 ∷ []
