-- What a command costs does not hang on the medium.
use Rattle.std.proofs.Common.{◌≡◌, Bool, List, refl}
use Rattle.pcm_media.specs.View.{View}
use Rattle.array_shape.specs.declared.shape.Shape.{Shape}
use Rattle.write_back.specs.declared.commits.LateData.{LateData}
use Rattle.eaw_face.specs.Command.{Command, log_write, log_edit, commit, commit_group, abort, nested_top, partial_abort, atomic_write, log_read, read}
use Rattle.eaw_device.specs.declared.log.Log.{Log}
use Rattle.eaw_device.specs.Sound.{view_of}
use Rattle.eaw_device.specs.Costs.{calls_of}

pub steady : (old new : View) (shape : Shape) (logs : List Log) (late : LateData) (is_dead : Bool) (command : Command) → calls_of command late (view_of new shape logs late is_dead) ≡ calls_of command late (view_of old shape logs late is_dead)
steady old new shape logs late is_dead (log_write t addr bytes) = refl
steady old new shape logs late is_dead (log_edit t pos at bytes) = refl
steady old new shape logs late is_dead (commit t) = refl
steady old new shape logs late is_dead (commit_group ts) = refl
steady old new shape logs late is_dead (abort t) = refl
steady old new shape logs late is_dead (nested_top t offset) = refl
steady old new shape logs late is_dead (partial_abort t offset) = refl
steady old new shape logs late is_dead (atomic_write t addr bytes) = refl
steady old new shape logs late is_dead (log_read t) = refl
steady old new shape logs late is_dead (read addr len) = refl
