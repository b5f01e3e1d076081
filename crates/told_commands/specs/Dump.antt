-- What a dump of the records does and writes, on a medium that tells its bytes.
use Rattle.std.specs.Prelude.{ℕ, ◌≡◌, Bool, false, IsTrue, List, ◌++◌, length, codes, Result, Ok}
use Rattle.std.specs.FinMap.{entries}
use Rattle.std.specs.List.{flat_map}
use Rattle.pcm_media.specs.View.{View}
use Rattle.array_shape.specs.declared.shape.Shape.{Shape}
use Rattle.array_image.specs.Decided.{settled_data}
use Rattle.eaw_face.specs.Causes.{IsAlive}
use Rattle.eaw_face.specs.StoreView.{StoreView}
use Rattle.eaw_device.specs.Opens.{Opens}
use Rattle.page_store.specs.Index.{Index}
use Rattle.record_table.specs.Shown.{table_of}
use Rattle.history.specs.declared.key.Key.{Key}
use Rattle.mars_core.specs.Attached.{LeftAsItWas}
use Rattle.history_text.specs.Text.{record_line, number_line}
use Rattle.script_run.specs.declared.ended.Ended.{Ended}
use Rattle.array_runs.specs.Forms.{index_in}
use Rattle.array_runs.specs.declared.status.Status.{Status}
use Rattle.told_commands.specs.Told.{WorksOn, Finishes}

-- the lines of records, and the last line, which says how many there are
abbrev pub records_text : List (Key × List ℕ) → List ℕ
records_text records = flat_map record_line records ++ number_line (codes "records") (length records)

-- The records are sound, and all of them are written, by rising key, that is by the name of the table and then by number. The array settles to
-- the data that it settled to, and each image that a loss of power may leave opens with it.
pub record DumpsRecords (old new : View) (cut : Bool) (text : List ℕ) (ended : Ended) : Type 0 where
  pub shape : Shape
  pub works : WorksOn shape (λ image. ⊥) old new
  pub left : settled_data shape new.content.bytes ≡ settled_data shape old.content.bytes
  pub finishes : Finishes shape (λ image. Opens shape image (settled_data shape old.content.bytes))
      (records_text (entries (table_of (index_in shape old) (settled_data shape old.content.bytes)))) new cut text ended

-- The records of a store's data, which are sound, are told. The store is as it was, and whatever a loss of power may leave now opens with its
-- data.
pub record LeavesRead (tells : Bool) (Opens : Shape → List ℕ → List ℕ → Type 0) (index : Index) (old : StoreView) (end : Result (List ℕ) Status) (new : StoreView) : Type 0 where
  pub sound : IsTrue tells → index.sound old.state.bytes
  pub told : IsTrue tells → end ≡ Ok (records_text (entries (table_of index old.state.bytes)))
  pub left : LeftAsItWas tells (Opens old.shape) false old new
  pub now : IsTrue tells → IsAlive new → (image : List ℕ) → new.left_since new.moment image → Opens new.shape image new.state.bytes
