-- The records of the array on a medium.
use Rattle.std.specs.Prelude.{ℕ, ◌≡◌, ◌<◌, List}
use Rattle.pcm_media.specs.View.{View}
use Rattle.array_shape.specs.declared.shape.Shape.{Shape}
use Rattle.array_image.specs.Decided.{settled_data}
use Rattle.eaw_device.specs.Opens.{IsArray}
use Rattle.page_store.specs.Index.{Index}
use Rattle.record_table.specs.Names.{names_of}
use Rattle.record_table.specs.Shown.{table_of}
use Rattle.record_table.specs.Upgrading.{upgraded}
use Rattle.history.specs.Legal.{records}
use Rattle.caller_steps.specs.State.{State, opened}
use Rattle.mars_core.specs.Over.{index_of}
use Rattle.array_runs.specs.Forms.{index_in}

-- the medium holds an array whose records are sound under the index that its data names
pub record HoldsRecords (shape : Shape) (media : View) : Type 0 where
  pub array : IsArray shape media
  pub sound : (index_in shape media).sound (settled_data shape media.content.bytes)

-- the medium holds an array in whose data this is the first page that is not sound
abbrev pub IsDamaged : View → ℕ → Type 0
IsDamaged media page = (shape : Shape) × IsArray shape media × (index_in shape media).fails (settled_data shape media.content.bytes) page

-- the medium holds an array with fewer transaction numbers than callers
abbrev pub Exceeds : ℕ → View → Type 0
Exceeds callers media = (shape : Shape) × IsArray shape media × (shape.numbers < callers)

-- the callers before the first line, over this data in version 2 under an index
abbrev pub begun_on : Index → List ℕ → State
begun_on index bytes = opened (names_of bytes) (table_of index bytes) (index_of index (upgraded bytes))

-- the data has the names, the records and the keys of a state, under an index
pub record HasAll (index : Index) (bytes : List ℕ) (state : State) : Type 0 where
  pub sound : index.sound bytes
  pub names : names_of bytes ≡ state.names
  pub table : table_of index bytes ≡ records state.base state.history
  pub keys : state.index ≡ index_of index bytes
