-- What an array is made of, and why none is.
use Rattle.std.specs.Prelude.{ℕ, ◌≡◌, ◌<◌, List, length, Result, Ok, Err}
use Rattle.mars_base.specs.Bytes.{range}
use Rattle.pcm_media.specs.View.{View}
use Rattle.array_shape.specs.declared.shape.Shape.{Shape}
use Rattle.array_shape.specs.Places.{media_len}
use Rattle.row_bytes.specs.Header.{SaysShape}
use Rattle.image_pieces.specs.Pieces.{Rest}
use Rattle.history.specs.Rows.{NamedRows, records_in}
use Rattle.page_store.specs.Index.{index_pages_of}
use Rattle.table_builder.specs.Causes.{BuildCause}
use Rattle.table_builder.specs.Plan.{index_for}
use Rattle.restoring.specs.Restored.{IsRestored}
use Rattle.command_words.specs.declared.restore_numbers.RestoreNumbers.{RestoreNumbers}
use Rattle.script_run.specs.Input.{input_limit}
use Rattle.dump_text.specs.Dump.{IsDumpOf}
use Rattle.dump_text.specs.Causes.{HasCause}
use Rattle.restore_runs.specs.Sizing.{IsHalf, IsShapeFor, IsBadFor}
use Rattle.restore_runs.specs.declared.making.Made.{Made}
use Rattle.restore_runs.specs.declared.stop.Stop.{Stop}
use Rattle.restore_runs.specs.declared.stop.Stop.TheVariants.{TooLong, ReadFault, NoMemory, Dump, Shape as ShapeStop, Tables}

-- the fewest pages for the index of these tables that leave half of the slots free
abbrev pub IsHalfFor : RestoreNumbers → List NamedRows → ℕ → Type 0
IsHalfFor asked tables half = IsHalf (length (index_for asked.fill tables)) (length (records_in tables)) half

-- The image, of which no piece is taken yet, is an array of the shape that is asked for, or of that which leaves half of its slots free; it
-- has just these tables, and opens with them.
pub record IsMadeFrom (asked : RestoreNumbers) (tables : List NamedRows) (image : Rest) : Type 0 where
  pub half : ℕ
  pub half_is : IsHalfFor asked tables half
  pub shape : Shape
  pub shape_is : IsShapeFor asked half shape
  pub whole : image.at ≡ 0
  pub restored : IsRestored shape tables image.left

-- What is made of tables: an image and their number of records; or a number that is asked for is out of range; or the array that is asked
-- for has no room.
abbrev pub MakesFrom : RestoreNumbers → List NamedRows → Result Made Stop → Type 0
MakesFrom asked tables (Ok made) = IsMadeFrom asked tables made.image × (made.records ≡ length (records_in tables))
MakesFrom asked tables (Err (ShapeStop bad)) = (half : ℕ) × IsHalfFor asked tables half × IsBadFor asked half bad
MakesFrom asked tables (Err (Tables fault)) = (half : ℕ) × IsHalfFor asked tables half × (shape : Shape) × IsShapeFor asked half shape × BuildCause asked.fill (index_pages_of shape) tables fault
MakesFrom asked tables (Err NoMemory) = Unit {0}
MakesFrom asked tables (Err stop) = ⊥

-- What is made of a text: an array of the tables whose dump it is; or it is no dump, or longer than an input may be.
abbrev pub Makes : RestoreNumbers → List ℕ → Result Made Stop → Type 0
Makes asked text (Err TooLong) = input_limit < length text
Makes asked text (Err ReadFault) = Unit {0}
Makes asked text (Err NoMemory) = Unit {0}
Makes asked text (Err (Dump fault)) = HasCause text fault
Makes asked text made = (tables : List NamedRows) × IsDumpOf text tables × MakesFrom asked tables made

-- a medium begins with the header of an array of its length
abbrev pub BeginsAsArray : View → Type 0
BeginsAsArray view = (shape : Shape) × SaysShape (range view.content.bytes 0 512) shape × (view.size ≡ media_len shape)
