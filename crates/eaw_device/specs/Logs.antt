-- The log of a number as the device keeps it: its entries, in the order in which they were logged.
use Rattle.std.specs.Prelude.{ℕ, ◌≡◌, ◌*◌, ◌<◌, ◌≤◌, if◌then◌else◌, false, List, [], ◌++◌, length, All, Option, Some, None, slice_get, slice_index, vec_capacity}
use Rattle.std.specs.List.{range_with_len}
use Rattle.std.specs.Option.{option_map, option_and_then}
use Rattle.array_shape.specs.declared.shape.Shape.{Shape}
use Rattle.array_shape.specs.Places.{IsPlaced}
use Rattle.array_shape.specs.Logged.{Part, ranges_of}
use Rattle.array_image.specs.Image.{cell_of, IsGoodCell}
use Rattle.write_back.specs.Entries.{cells_on, parts_in, ranges_in}
use Rattle.eaw_face.specs.State.{Logs}
use Rattle.write_back.specs.declared.entry.Entry.{Entry}
use Rattle.eaw_device.specs.declared.log.Log.{Log}

-- A log with room for all that it may have. It has no entry while its number is free. At each logger its cells are the first ones, in
-- order, as many as are held. Each part lies within one page of the data.
pub record IsKept (shape : Shape) (log : Log) : Type 0 where
  pub loggers : length log.held ≡ 8
  pub room : shape.loggers * shape.entries ≤ vec_capacity log.entries
  pub free : log.is_live ≡ false → length log.entries.items ≡ 0
  pub cells : (g : ℕ) → g < shape.loggers → cells_on shape g log.entries.items ≡ range_with_len 0 (slice_index log.held g)
  pub fits : (g : ℕ) → g < shape.loggers → slice_index log.held g ≤ shape.entries
  pub placed : All (λ r. IsPlaced shape r.0 r.1) (ranges_in log.entries.items)

-- its number is free, and it has no entry
pub record IsCleared (log : Log) : Type 0 where
  pub is_free : log.is_live ≡ false
  pub none : log.entries.items ≡ []

-- the held cells of number t hold parts of their loggers, and the entries' cells have the addresses and lengths that the entries say
pub record IsHeld (shape : Shape) (image : List ℕ) (t : ℕ) (log : Log) : Type 0 where
  pub good : (g e : ℕ) → g < shape.loggers → e < slice_index log.held g → IsGoodCell shape g (cell_of shape image g t e)
  pub heads : ranges_of (parts_in shape image t log.entries.items) ≡ ranges_in log.entries.items

-- more entries after the old ones, with parts that go to these ranges
pub record Adds (old new : List Entry) (ranges : List (ℕ × ℕ)) : Type 0 where
  pub added : List Entry
  pub items : new ≡ old ++ added
  pub ranges_are : ranges_in added ≡ ranges

-- the entries of each live number
abbrev pub entries_of : Log → Option (List Entry)
entries_of log = if log.is_live then Some log.entries.items else None

abbrev pub entries_at : List Log → Logs Entry
entries_at logs t = option_and_then entries_of (slice_get logs t)

-- where the parts of each live number go, and the parts that it has in its cells
abbrev pub ranges_logged : List Log → Logs (ℕ × ℕ)
ranges_logged logs t = option_map ranges_in (entries_at logs t)

abbrev pub parts_logged : Shape → List ℕ → List Log → Logs Part
parts_logged shape image logs t = option_map (parts_in shape image t) (entries_at logs t)
