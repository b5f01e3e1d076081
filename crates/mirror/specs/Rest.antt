-- What may still come of a frame, told by what has come.
use Rattle.std.specs.Prelude.{ℕ, zero, suc, ◌⊎◌, ◌≡◌, ◌+◌, ◌-◌, ◌*◌, ◌%◌, ◌^◌, ◌<◌, ◌≤◌, ◌↔◌, List, [], ◌∷◌, ◌++◌, length, drop, flat_map, All, slice_index, slice_set, replicate, Option, Some, None}
use Rattle.byteorder.specs.Endian.{little_bytes}
use Rattle.array_shape.specs.declared.shape.Shape.{Shape}
use Rattle.array_shape.specs.Places.{data_len, logger_of}
use Rattle.array_shape.specs.Logged.{Part, ranges_of}
use Rattle.eaw_face.specs.State.{count_on}
use Rattle.eaw_face.specs.Frame.{Group, mark, part_bytes, group_bytes, IsByte, IsPart, IsGroup, Rise, IsInside, IsGroupIn}
use Rattle.mirror.specs.declared.partial_number.PartialNumber.{PartialNumber}
use Rattle.mirror.specs.declared.to_come.Groups.{Groups}
use Rattle.mirror.specs.declared.to_come.Parts.{Parts}
use Rattle.mirror.specs.declared.place.Place.{Place}
use Rattle.mirror.specs.declared.place.Place.TheVariants.{Mark, Sequence, GroupCount, Number, PartCount, Address, Length, Bytes, End}

-- the last `left` bytes of a number, of which the others said `value`, and then what `Then` asks for it
pub record NumberRest (left value weight : ℕ) (Then : ℕ → List ℕ → Type 0) (bytes : List ℕ) : Type 0 where
  pub high : ℕ
  pub fits : high < 256 ^ left
  pub rest : List ℕ
  pub is : bytes ≡ little_bytes left high ++ rest
  pub after : Then (value + weight * high) rest

-- n bytes, and then what `Then` asks for
pub record BytesRest (n : ℕ) (Then : List ℕ → Type 0) (bytes : List ℕ) : Type 0 where
  pub first : List ℕ
  pub count : length first ≡ n
  pub small : All IsByte first
  pub rest : List ℕ
  pub is : bytes ≡ first ++ rest
  pub after : Then rest

-- groups to the end, of numbers from `low` on
pub record GroupsRest (shape : Shape) (groups : Groups) (bytes : List ℕ) : Type 0 where
  pub list : List Group
  pub count : length list ≡ groups.count
  pub rise : Rise groups.low list
  pub are : All IsGroup list
  pub good : All (IsGroupIn shape) list
  pub is : bytes ≡ flat_map group_bytes list

-- each logger has room for these parts besides those that it holds
abbrev pub HasRoom : Shape → (held : List ℕ) → List Part → Type 0
HasRoom shape held parts = (g : ℕ) → g < shape.loggers → count_on shape g (ranges_of parts) ≤ shape.entries - slice_index held g

-- parts of a group, of which each logger holds some already, and then the groups behind it
pub record PartsRest (shape : Shape) (parts : ℕ) (held : List ℕ) (behind : Groups) (bytes : List ℕ) : Type 0 where
  pub list : List Part
  pub count : length list ≡ parts
  pub are : All IsPart list
  pub inside : All (IsInside shape) list
  pub room : HasRoom shape held list
  pub rest : List ℕ
  pub is : bytes ≡ flat_map part_bytes list ++ rest
  pub after : GroupsRest shape behind rest

-- the same for what is to come
abbrev pub IsPartsRest : Shape → Parts → List ℕ → Type 0
IsPartsRest shape parts bytes = PartsRest shape parts.count parts.held parts.behind bytes

-- a length that keeps the part within its stripe, and then so many bytes
abbrev pub AfterLength : Shape → (addr parts : ℕ) → List ℕ → Groups → ℕ → List ℕ → Type 0
AfterLength shape addr parts held behind len bytes = (0 < len) × (addr % 512 + len ≤ 512) × BytesRest len (PartsRest shape parts held behind) bytes

-- one part more at a logger
abbrev pub one_more : List ℕ → ℕ → List ℕ
one_more held g = slice_set held g (slice_index held g + 1)

-- an address in the data, of a logger that has room, and then the length
abbrev pub AfterAddress : Shape → Parts → ℕ → List ℕ → Type 0
AfterAddress shape parts addr bytes =
    (addr < data_len shape) × (slice_index parts.held (logger_of shape addr) < shape.entries)
    × NumberRest 2 0 1 (AfterLength shape addr (parts.count - 1) (one_more parts.held (logger_of shape addr)) parts.behind) bytes

-- a count of parts, at least one, and then so many
abbrev pub AfterPartCount : Shape → Groups → ℕ → List ℕ → Type 0
AfterPartCount shape groups count bytes = (0 < count) × PartsRest shape count (replicate 8 0) groups bytes

-- the groups that are to come once one of this number has come
abbrev pub behind : Groups → ℕ → Groups
behind groups number = record { count = groups.count - 1; low = number + 1 }

-- a number of the shape that is not below `low`, and what it wrote
pub record NumberThen (shape : Shape) (groups : Groups) (bytes : List ℕ) : Type 0 where
  pub number : ℕ
  pub least : groups.low ≤ number
  pub most : number < shape.numbers
  pub rest : List ℕ
  pub is : bytes ≡ number ∷ rest
  pub after : NumberRest 2 0 1 (AfterPartCount shape (behind groups number)) rest

-- a count of numbers, at least one, and then so many
abbrev pub AfterGroupCount : Shape → ℕ → List ℕ → Type 0
AfterGroupCount shape count bytes = (0 < count) × GroupsRest shape (record { count = count; low = 0 }) bytes

-- any sequence, and then the count of numbers
abbrev pub AfterSequence : Shape → ℕ → List ℕ → Type 0
AfterSequence shape sequence bytes = NumberRest 2 0 1 (AfterGroupCount shape) bytes

-- the mark from a byte on, and then a sequence
pub record MarkRest (shape : Shape) (taken : ℕ) (bytes : List ℕ) : Type 0 where
  pub rest : List ℕ
  pub is : bytes ≡ drop taken mark ++ rest
  pub after : NumberRest 8 0 1 (AfterSequence shape) rest

-- the bytes that make it a whole frame from this place on
abbrev pub Rest : Shape → Place → List ℕ → Type 0
Rest shape (Mark taken) bytes = MarkRest shape taken bytes
Rest shape (Sequence n) bytes = NumberRest n.left n.value n.weight (AfterSequence shape) bytes
Rest shape (GroupCount n) bytes = NumberRest n.left n.value n.weight (AfterGroupCount shape) bytes
Rest shape (Number groups) bytes = NumberThen shape groups bytes
Rest shape (PartCount n groups) bytes = NumberRest n.left n.value n.weight (AfterPartCount shape groups) bytes
Rest shape (Address n parts) bytes = NumberRest n.left n.value n.weight (AfterAddress shape parts) bytes
Rest shape (Length n addr parts) bytes = NumberRest n.left n.value n.weight (AfterLength shape addr parts.count parts.held parts.behind) bytes
Rest shape (Bytes left parts) bytes = BytesRest left (IsPartsRest shape parts) bytes
Rest shape End bytes = bytes ≡ []

-- the sum of f over the first n
abbrev pub total : (ℕ → ℕ) → ℕ → ℕ
total f zero = 0
total f (suc n) = total f n + f n

-- the shape has numbers for the groups that are to come, from the least one on
abbrev pub HasNumbers : Shape → Groups → Type 0
HasNumbers shape groups = groups.low + groups.count ≤ shape.numbers

-- and the loggers have entries for the parts that are to come
abbrev pub HasEntries : Shape → Parts → Type 0
HasEntries shape parts = (parts.count ≤ total (λ g. shape.entries - slice_index parts.held g) shape.loggers) × HasNumbers shape parts.behind

-- At least one byte is to come, unless this is the end, and there are numbers and entries for what is to come.
abbrev pub IsOpen : Shape → Place → Type 0
IsOpen shape (Mark taken) = taken < 4
IsOpen shape (Sequence n) = 0 < n.left
IsOpen shape (GroupCount n) = 0 < n.left
IsOpen shape (Number groups) = (0 < groups.count) × HasNumbers shape groups
IsOpen shape (PartCount n groups) = (0 < n.left) × HasNumbers shape groups
IsOpen shape (Address n parts) = (0 < n.left) × (0 < parts.count) × HasEntries shape parts
IsOpen shape (Length n addr parts) = (0 < n.left) × HasEntries shape parts
IsOpen shape (Bytes left parts) = (0 < left) × HasEntries shape parts
IsOpen shape End = Unit {0}

-- how many bytes of the number are to come in which a place stands, and one where it stands in none
abbrev pub to_come : Place → ℕ
to_come (Mark taken) = 1
to_come (Sequence n) = n.left
to_come (GroupCount n) = n.left
to_come (Number groups) = 1
to_come (PartCount n groups) = n.left
to_come (Address n parts) = n.left
to_come (Length n addr parts) = n.left
to_come (Bytes left parts) = 1
to_come End = 1

-- a number of so many bytes of which none has come
abbrev pub IsNew : PartialNumber → ℕ → Type 0
IsNew n len = (n.left ≡ len) × (n.value ≡ 0) × (n.weight ≡ 1)

-- a place within no number
abbrev pub Begins : Place → Type 0
Begins (Mark taken) = Unit {0}
Begins (Sequence n) = IsNew n 8
Begins (GroupCount n) = IsNew n 2
Begins (Number groups) = Unit {0}
Begins (PartCount n groups) = IsNew n 2
Begins (Address n parts) = IsNew n 8
Begins (Length n addr parts) = IsNew n 2
Begins (Bytes left parts) = Unit {0}
Begins End = Unit {0}

-- the next place stands in the same number, or in none
abbrev pub GoesOn : Place → Place → Type 0
GoesOn place next = (suc (to_come next) ≡ to_come place) ⊎ Begins next

-- A byte leads from one place to another, where just the same may still come; or nothing makes it a frame.
abbrev pub Takes : Shape → Place → ℕ → Option Place → Type 0
Takes shape place byte None = (bytes : List ℕ) → Rest shape place (byte ∷ bytes) → ⊥
Takes shape place byte (Some next) = IsOpen shape next × GoesOn place next × ((bytes : List ℕ) → Rest shape place (byte ∷ bytes) ↔ Rest shape next bytes)
