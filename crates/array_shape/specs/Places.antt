-- Where the rows, cells and pages of an array lie on its medium, and where the bytes of its data do.
use Rattle.std.specs.Prelude.{ℕ, ◌≡◌, ◌+◌, ◌*◌, ◌/◌, ◌%◌, ◌≤◌, ◌<◌}
use Rattle.array_shape.specs.declared.shape.Shape.{Shape}
use Rattle.array_shape.specs.Numbers.{AreInRange}

-- its numbers are in range
abbrev pub IsShape : Shape → Type 0
IsShape shape = AreInRange shape.loggers shape.numbers shape.entries shape.pages

-- it is the shape of these numbers
pub record HasNumbers (loggers numbers entries pages : ℕ) (shape : Shape) : Type 0 where
  pub loggers_are : shape.loggers ≡ loggers
  pub numbers_are : shape.numbers ≡ numbers
  pub entries_are : shape.entries ≡ entries
  pub pages_are : shape.pages ≡ pages

-- the length of one logger's region: a row for each number, a cell for each entry of each number, and the pages
abbrev pub region_len : Shape → ℕ
region_len shape = 16 * shape.numbers + 528 * (shape.numbers * shape.entries) + 512 * shape.pages

-- where the region of logger g begins: the regions follow the header, one after another
abbrev pub region_at : Shape → ℕ → ℕ
region_at shape g = 512 + g * region_len shape

abbrev pub media_len : Shape → ℕ
media_len shape = region_at shape shape.loggers

-- where the row of number t at logger g begins
abbrev pub row_at : Shape → ℕ → ℕ → ℕ
row_at shape g t = region_at shape g + 16 * t

-- where cell e of number t at logger g begins
abbrev pub cell_at : Shape → ℕ → ℕ → ℕ → ℕ
cell_at shape g t e = region_at shape g + 16 * shape.numbers + 528 * (t * shape.entries + e)

-- where the pages of logger g begin
abbrev pub data_at : Shape → ℕ → ℕ
data_at shape g = region_at shape g + 16 * shape.numbers + 528 * (shape.numbers * shape.entries)

abbrev pub page_count : Shape → ℕ
page_count shape = shape.loggers * shape.pages

abbrev pub data_len : Shape → ℕ
data_len shape = 512 * page_count shape

-- the logger that has an address (pages are dealt to the loggers by turns), and the offset of the address in that logger's pages
abbrev pub logger_of : Shape → ℕ → ℕ
logger_of shape addr = addr / 512 % shape.loggers

abbrev pub offset_of : Shape → ℕ → ℕ
offset_of shape addr = 512 * (addr / 512 / shape.loggers) + addr % 512

-- the place of an address on the medium
abbrev pub place_of : Shape → ℕ → ℕ
place_of shape addr = data_at shape (logger_of shape addr) + offset_of shape addr

-- a nonempty range within one page of the data
pub record IsPlaced (shape : Shape) (addr len : ℕ) : Type 0 where
  pub some : 0 < len
  pub page : addr % 512 + len ≤ 512
  pub inside : addr + len ≤ data_len shape
