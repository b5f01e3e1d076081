-- What an array that was restored of a dump has of the one that was dumped.
use Rattle.std.specs.Prelude.{ℕ, List, Bool}
use Rattle.pcm_media.specs.View.{View}
use Rattle.array_shape.specs.declared.shape.Shape.{Shape}
use Rattle.array_image.specs.Decided.{settled_data}
use Rattle.eaw_device.specs.Opens.{Opens}
use Rattle.history.specs.Writes.{Table}
use Rattle.btree_pages.specs.Index.{tree}
use Rattle.record_table.specs.Does.{OpensNamed}
use Rattle.record_table.specs.Shown.{table_of}
use Rattle.script_run.specs.declared.ended.Ended.TheVariants.{All}
use Rattle.array_runs.specs.Forms.{index_in}
use Rattle.told_commands.specs.Dump.{DumpsRecords}
use Rattle.told_commands.specs.Told.{names_on}
use Rattle.restore_law.specs.Told.{AreTold}

-- From one view to the other the array on a medium was dumped, and this text was told, whole: what a run of `dump` says that ended well.
abbrev pub TellsWhole : View → View → Bool → List ℕ → Type 0
TellsWhole old new cut text = DumpsRecords old new cut text All

-- the records of the array on a medium
abbrev pub records_held : Shape → View → Table
records_held shape media = table_of (index_in shape media) (settled_data shape media.content.bytes)

-- The image is an array of this shape, with a sound tree. Its records are just those of the array that was dumped, and its tables just those
-- of that array which a dump tells.
pub record IsRestoredFrom (dumped : Shape) (old : View) (shape : Shape) (image : List ℕ) : Type 0 where
  pub names : List (List ℕ)
  pub opens : OpensNamed (Opens shape) tree image names (records_held dumped old)
  pub told : AreTold (names_on dumped old) (records_held dumped old) names
