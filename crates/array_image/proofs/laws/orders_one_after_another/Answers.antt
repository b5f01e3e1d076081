use Rattle.array_image.proofs.Recovery.{next_order, no_more_orders}
use Rattle.array_image.proofs.laws.orders_one_after_another.Goals as goal

pub returns-clause-next : goal.returns-clause-next
returns-clause-next c image from order le least = next_order c.args.shape.now image from order le least

pub returns-clause-last : goal.returns-clause-last
returns-clause-last c image from le none = no_more_orders c.args.shape.now image from le none
