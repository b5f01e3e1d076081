-- What a new array holds, and what making one may leave.
use Rattle.std.specs.Prelude.{ℕ, ◌+◌, ◌*◌, ◌≡◌, ◌<◌, ◌⊎◌, List, [], ◌∷◌, replicate}
use Rattle.mars_base.specs.Bytes.{range}
use Rattle.pcm_media.specs.Images.{Content, MayLeave}
use Rattle.array_shape.specs.declared.shape.Shape.{Shape}
use Rattle.array_shape.specs.Places.{row_at, page_count, region_len, media_len}
use Rattle.array_shape.specs.declared.bad_shape.ShapeNumber.TheVariants.{MediaLength}
use Rattle.row_bytes.specs.Header.{header_bytes, HasMark}
use Rattle.array_image.specs.Image.{data_of}
use Rattle.eaw_device.specs.declared.making.FormatFault.{FormatFault}
use Rattle.eaw_device.specs.declared.making.FormatFault.TheVariants.{BadShape, Media}
use Rattle.eaw_device.specs.Opens.{header_of, Opens}

-- all rows are zero, and all pages are these
pub record HasParts (shape : Shape) (said : ℕ → List ℕ) (image : List ℕ) : Type 0 where
  pub rows : (g t : ℕ) → g < shape.loggers → t < shape.numbers → range image (row_at shape g t) 16 ≡ replicate 16 0
  pub pages : (p : ℕ) → p < page_count shape → range (data_of shape image) (512 * p) 512 ≡ said p

-- that much of it is written: the rows of the first n loggers, and the first n pages
abbrev pub HasRows : Shape → ℕ → List ℕ → Type 0
HasRows shape n image = (g t : ℕ) → g < n → t < shape.numbers → range image (row_at shape g t) 16 ≡ replicate 16 0

abbrev pub HasPages : Shape → (ℕ → List ℕ) → ℕ → List ℕ → Type 0
HasPages shape said n image = (p : ℕ) → p < n → range (data_of shape image) (512 * p) 512 ≡ said p

-- The header is that of the shape, all rows are zero, all pages are these, and all is settled.
pub record IsMade (shape : Shape) (said : ℕ → List ℕ) (content : Content) : Type 0 where
  pub settled : content.unsettled ≡ []
  pub header : range content.bytes 0 512 ≡ header_bytes shape
  pub parts : HasParts shape said content.bytes

-- a loss of power leaves what a read gives
abbrev pub LeavesAsRead : Content → Type 0
LeavesAsRead content = (image : List ℕ) → MayLeave content image → image ≡ content.bytes

-- it has no mark, so no opening takes it for an array
abbrev pub IsNoArray : List ℕ → Type 0
IsNoArray image = ¬ HasMark (header_of image)

-- the new array, whole: it opens with its data, which has these pages
abbrev pub IsNew : Shape → (ℕ → List ℕ) → List ℕ → Type 0
IsNew shape said image = Opens shape image (data_of shape image) × HasParts shape said image

-- While an array is made: an image that could be left at first, or one that has no mark, so no opening takes it for an array, or the new
-- array, whole, which opens with its data.
abbrev pub IsOldOrNew : Shape → (ℕ → List ℕ) → Content → List ℕ → Type 0
IsOldOrNew shape said content image = MayLeave content image
    ⊎ (¬ HasMark (header_of image) ⊎ (Opens shape image (data_of shape image) × HasParts shape said image))

-- all of an array but its header, and all but its mark
abbrev pub behind_header : Shape → List (ℕ × ℕ)
behind_header shape = (512, shape.loggers * region_len shape) ∷ []

abbrev pub behind_mark : Shape → List (ℕ × ℕ)
behind_mark shape = (8, 504 + shape.loggers * region_len shape) ∷ []

-- the medium has another length than the shape says, and the fault says so; or its length is right, and the medium failed
abbrev pub IsWrongLength : Shape → ℕ → FormatFault → Type 0
IsWrongLength shape size (BadShape bad) = (bad.which ≡ MediaLength) × (bad.given ≡ size) × (size ≡ media_len shape → ⊥)
IsWrongLength shape size Media = size ≡ media_len shape
