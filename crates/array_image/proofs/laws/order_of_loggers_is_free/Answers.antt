use Rattle.array_image.proofs.Orders.{applied_any_order}
use Rattle.array_image.proofs.laws.order_of_loggers_is_free.Goals as goal

pub returns : goal.returns
returns c ps qs bytes long placed others same = applied_any_order c.args.shape.now ps qs bytes long placed others same
