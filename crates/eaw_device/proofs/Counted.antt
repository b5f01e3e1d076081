-- As many commits wait as order numbers are found.
use Rattle.std.proofs.Common.{◌≡◌, Bool, false, List, length, ◌∙◌}
use Rattle.std.specs.Prelude.{IsTrue}
use Rattle.pcm_media.specs.View.{View}
use Rattle.pcm_media.proofs.Left.{left_as_read}
use Rattle.array_shape.specs.declared.shape.Shape.{Shape}
use Rattle.array_image.specs.Image.{data_of}
use Rattle.commit_queue.specs.Deferred.{deferred_orders}
use Rattle.commit_queue.proofs.Counting.{deferred_are}
use Rattle.write_back.specs.Waiting.{queue_of}
use Rattle.write_back.specs.declared.commits.LateData.{LateData}
use Rattle.write_back.proofs.Counting.{have_rows, many}
use Rattle.write_back.proofs.Orders.{rise_from}
use Rattle.eaw_device.specs.declared.log.Log.{Log}
use Rattle.eaw_device.specs.Sound.{IsSound, deferred_of}

pub counted : (tells : Bool) (media : View) (shape : Shape) (logs : List Log) (late : LateData) (is_dead : Bool) → IsSound tells media shape logs late is_dead
    → IsTrue tells → is_dead ≡ false → length (deferred_orders shape media.content.bytes) ≡ deferred_of late
counted tells media shape logs late is_dead sound told alive =
    let queue = late.queue in
    let now = media.content in
    let rests = (sound.told told alive).sure.waiting now.bytes (left_as_read now) in
    deferred_are shape (queue_of shape now.bytes queue) (data_of shape now.bytes) now.bytes rests.holds
    (rise_from shape queue.cells now.bytes queue.ballots.items sound.ready.fit.ordered rests.holds.queued.rise) (have_rows shape queue.cells now.bytes queue.ballots.items sound.ready.fit.there sound.ready.fit.has_rows)
    ∙ many shape queue.cells now.bytes queue.ballots.items
