-- Which images are lawful, and what data they stand for.
use Rattle.std.specs.Prelude.{ℕ, ◌+◌, ◌<◌, ◌≤◌, ◌≡◌, ◌⊎◌, true, List, length}
use Rattle.pcm_media.specs.Images.{Content, IsOutside}
use Rattle.array_shape.specs.declared.shape.Shape.{Shape}
use Rattle.array_shape.specs.Places.{media_len}
use Rattle.array_image.specs.Image.{cell_of, data_of, IsGoodCell, row_of}
use Rattle.row_bytes.specs.Ballots.{ballot_of}
use Rattle.array_image.specs.Decided.{decided, settled_data}

-- the cells that a row names exist, and each holds a part of its logger
pub record IsGoodRow (shape : Shape) (image : List ℕ) (g t : ℕ) : Type 0 where
  pub fits : (row_of shape image g t).first + (row_of shape image g t).count ≤ shape.entries
  pub cells : (e : ℕ) → (row_of shape image g t).first ≤ e → e < (row_of shape image g t).first + (row_of shape image g t).count → IsGoodCell shape g (cell_of shape image g t e)

-- It has the array's length; decided rows with one order number have one group (rows of different groups have different order
-- numbers); each decided row is good.
pub record IsLawful (shape : Shape) (image : List ℕ) : Type 0 where
  pub long : length image ≡ media_len shape
  pub one : (g h t u : ℕ) → g < shape.loggers → h < shape.loggers → t < shape.numbers → u < shape.numbers → decided shape image g t ≡ true → decided shape image h u ≡ true
      → (row_of shape image g t).order ≡ (row_of shape image h u).order → (ballot_of t (row_of shape image g t)).group ≡ (ballot_of u (row_of shape image h u)).group
  pub good : (g t : ℕ) → g < shape.loggers → t < shape.numbers → decided shape image g t ≡ true → IsGoodRow shape image g t

-- lawful, and settles to this data
pub record StandsFor (shape : Shape) (image bytes : List ℕ) : Type 0 where
  pub lawful : IsLawful shape image
  pub gives : settled_data shape image ≡ bytes

-- it stands for the data before or for the data after
abbrev pub IsEither : Shape → List ℕ → List ℕ → List ℕ → Type 0
IsEither shape before after image = StandsFor shape image before ⊎ StandsFor shape image after

-- lawful, and its data is already what it settles to
pub record IsSettled (shape : Shape) (bytes image : List ℕ) : Type 0 where
  pub lawful : IsLawful shape image
  pub holds : data_of shape image ≡ bytes
  pub gives : settled_data shape image ≡ bytes

-- every cell is as it was
abbrev pub SameCells : Shape → List ℕ → List ℕ → Type 0
SameCells shape old new = (g t e : ℕ) → g < shape.loggers → t < shape.numbers → e < shape.entries → cell_of shape new g t e ≡ cell_of shape old g t e

-- nothing is unsettled: what is read is all that may be left
abbrev pub AllSettled : Content → Type 0
AllSettled content = (i : ℕ) → IsOutside content.unsettled i

-- Recovery, once it has applied the parts: all is settled, and the data is what the image settles to.
pub record IsRecovering (shape : Shape) (bytes : List ℕ) (content : Content) : Type 0 where
  pub settled : AllSettled content
  pub stands : IsSettled shape bytes content.bytes
