use Rattle.commit_queue.proofs.Queues.{queued_stands}
use Rattle.commit_queue.proofs.laws.queue_stands.Goals as goal

pub returns : goal.returns
returns c queue bytes image queued = queued_stands c.args.shape.now image queue bytes queued
