use Rattle.std.proofs.Common.{◌∙◌}
use Rattle.pcm_media.proofs.Left.{left_as_read}
use Rattle.array_image.specs.Image.{data_of}
use Rattle.commit_queue.proofs.Counting.{deferred_are}
use Rattle.write_back.specs.Waiting.{queue_of}
use Rattle.write_back.proofs.Counting.{have_rows, many}
use Rattle.write_back.proofs.Orders.{rise_from}
use Rattle.write_back.proofs.laws.waiting_are_counted.Goals as goal

pub returns : goal.returns
returns c late now fit waiting =
    let shape = c.args.shape.now in
    let rests = waiting now.bytes (left_as_read now) in
    deferred_are shape (queue_of shape now.bytes late) (data_of shape now.bytes) now.bytes rests.holds
    (rise_from shape late.cells now.bytes late.ballots.items fit.ordered rests.holds.queued.rise) (have_rows shape late.cells now.bytes late.ballots.items fit.there fit.has_rows)
    ∙ many shape late.cells now.bytes late.ballots.items
