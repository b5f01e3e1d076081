-- An open array that was taken apart.
use Rattle.std.specs.Prelude.{ℕ, ◌≡◌, List}
use Rattle.pcm_media.specs.Images.{MayLeave}
use Rattle.pcm_media.specs.View.{View}
use Rattle.array_shape.specs.declared.shape.Shape.{Shape}
use Rattle.record_slots.specs.Places.{next_page}
use Rattle.eaw_device.specs.Opens.{Opens}
use Rattle.record_table.specs.Names.{names_of}
use Rattle.record_table.specs.Shown.{table_of}
use Rattle.btree_pages.specs.Index.{tree}
use Rattle.caller_steps.specs.Core.{CoreView}
use Rattle.caller_steps.specs.State.{records_of}
use Rattle.mars_core.specs.Over.{limits_of}

-- The medium below a core: whatever a loss of power leaves there now opens with the core's data, and no image is left there that is not left in the
-- core.
pub record IsPutDown (shape : Shape) (depth : ℕ) (core : CoreView) (media : View) : Type 0 where
  pub bytes : List ℕ
  pub opens : (image : List ℕ) → MayLeave media.content image → Opens shape image bytes
  pub sound : tree.sound bytes
  pub named : names_of bytes ≡ core.state.names
  pub shows : table_of tree bytes ≡ records_of core.state
  pub pages : core.state.index.keys.next_page ≡ next_page bytes
  pub limits : core.limits ≡ limits_of tree shape depth
  pub moment : media.moment ≡ core.moment
  pub left : (t : ℕ) (image : List ℕ) → media.left_since t image → core.left_since t image
