use Rattle.commit_queue.proofs.Between.{holds_stands}
use Rattle.array_image.specs.Image.{data_of}
use Rattle.write_back.specs.Waiting.{queue_of}
use Rattle.write_back.proofs.laws.waiting_stand.Goals as goal

pub returns : goal.returns
returns c late now image waiting left = holds_stands c.args.shape.now (queue_of c.args.shape.now now.bytes late) (data_of c.args.shape.now now.bytes) image (waiting image left).holds
