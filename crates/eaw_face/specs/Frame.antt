-- A frame: what one commit wrote, as it goes over a link.
use Rattle.std.specs.Prelude.{ℕ, ◌≡◌, ◌+◌, ◌%◌, ◌^◌, ◌<◌, ◌≤◌, List, [], ◌∷◌, ◌++◌, length, flat_map, All, codes}
use Rattle.byteorder.specs.Endian.{little_bytes}
use Rattle.mars_base.specs.Room.{HaveRoom}
use Rattle.array_shape.specs.declared.shape.Shape.{Shape}
use Rattle.array_shape.specs.Places.{data_len}
use Rattle.array_shape.specs.Logged.{Part, ranges_of}
use Rattle.eaw_face.specs.State.{count_on}

-- what one number wrote, part by part
pub record Group : Type 0 where
  pub number : ℕ
  pub parts : List Part

-- the place of the commit among all that are sent, and what each of its numbers wrote
pub record Frame : Type 0 where
  pub sequence : ℕ
  pub groups : List Group

-- the first four bytes of every frame
abbrev pub mark : List ℕ
mark = codes "MFR1"

-- the address, the length, and the bytes
abbrev pub part_bytes : Part → List ℕ
part_bytes part = little_bytes 8 part.0 ++ little_bytes 2 (length part.1) ++ part.1

-- the number, the count of its parts, and the parts
abbrev pub group_bytes : Group → List ℕ
group_bytes group = group.number ∷ little_bytes 2 (length group.parts) ++ flat_map part_bytes group.parts

-- the mark, the sequence, the count of its numbers, and what each wrote
abbrev pub frame_bytes : Frame → List ℕ
frame_bytes frame = mark ++ little_bytes 8 frame.sequence ++ little_bytes 2 (length frame.groups) ++ flat_map group_bytes frame.groups

-- a byte
abbrev pub IsByte : ℕ → Type 0
IsByte b = b < 256

-- a part: it is not empty, lies within one stripe, and is of bytes
abbrev pub IsPart : Part → Type 0
IsPart part = (part.0 < 2 ^ 64) × (0 < length part.1) × (part.0 % 512 + length part.1 ≤ 512) × All (λ (b : ℕ). b < 256) part.1

-- a number with at least one part
abbrev pub IsGroup : Group → Type 0
IsGroup group = (group.number < 256) × (0 < length group.parts) × (length group.parts < 2 ^ 16) × All IsPart group.parts

-- the numbers rise, from `low` on
abbrev pub Rise : ℕ → List Group → Type 0
Rise low [] = Unit {0}
Rise low (group ∷ groups) = (low ≤ group.number) × Rise (group.number + 1) groups

-- a frame, which has at least one number
abbrev pub IsFrame : Frame → Type 0
IsFrame f = (f.sequence < 2 ^ 64) × (0 < length f.groups) × (length f.groups < 2 ^ 16) × Rise 0 f.groups × All IsGroup f.groups

-- a part within the data of a shape
abbrev pub IsInside : Shape → Part → Type 0
IsInside shape part = part.0 + length part.1 ≤ data_len shape

-- a number of the shape, whose parts lie in the data and have room in a log that is empty
abbrev pub IsGroupIn : Shape → Group → Type 0
IsGroupIn shape group = (group.number < shape.numbers) × All (λ (part : Part). part.0 + length part.1 ≤ data_len shape) group.parts
    × HaveRoom shape.loggers shape.entries (λ g. 0) (λ g. count_on shape g (ranges_of group.parts))

-- a frame that an array of this shape can follow
pub record IsFrameIn (shape : Shape) (frame : Frame) : Type 0 where
  pub is : IsFrame frame
  pub groups : All (IsGroupIn shape) frame.groups

-- these bytes are just one whole frame that an array of this shape can follow
pub record AreFrame (shape : Shape) (bytes : List ℕ) : Type 0 where
  pub frame : Frame
  pub good : IsFrameIn shape frame
  pub is : frame_bytes frame ≡ bytes

-- all that a frame writes, in its order
abbrev pub written_by : Frame → List Part
written_by frame = flat_map (λ group. group.parts) frame.groups
