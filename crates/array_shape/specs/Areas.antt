-- The rows, cells and pages of an array as areas of its medium.
use Rattle.std.specs.Prelude.{ℕ, ◌+◌, ◌*◌, ◌≤◌, ◌<◌, ◌⊎◌}
use Rattle.array_shape.specs.declared.shape.Shape.{Shape}
use Rattle.array_shape.specs.Places.{row_at, cell_at, data_at, media_len}

-- the row of a transaction number at a logger, a cell of it there, and a page of a logger
pub data Area : Type 0 where
  row : (logger tid : ℕ) → Area
  cell : (logger tid entry : ℕ) → Area
  page : (logger nth : ℕ) → Area

abbrev pub HasArea : Shape → Area → Type 0
HasArea shape (row logger tid) = (logger < shape.loggers) × (tid < shape.numbers)
HasArea shape (cell logger tid entry) = (logger < shape.loggers) × (tid < shape.numbers) × (entry < shape.entries)
HasArea shape (page logger nth) = (logger < shape.loggers) × (nth < shape.pages)

abbrev pub area_at : Shape → Area → ℕ
area_at shape (row logger tid) = row_at shape logger tid
area_at shape (cell logger tid entry) = cell_at shape logger tid entry
area_at shape (page logger nth) = data_at shape logger + 512 * nth

abbrev pub area_len : Area → ℕ
area_len (row logger tid) = 16
area_len (cell logger tid entry) = 528
area_len (page logger nth) = 512

-- behind the header, and within the medium
pub record IsInMedia (shape : Shape) (area : Area) : Type 0 where
  pub behind : 512 ≤ area_at shape area
  pub within : area_at shape area + area_len area ≤ media_len shape

-- they share no byte
abbrev pub AreApart : Shape → Area → Area → Type 0
AreApart shape a b = (area_at shape a + area_len a ≤ area_at shape b) ⊎ (area_at shape b + area_len b ≤ area_at shape a)
