use Rattle.page_store.proofs.Views.{write_as_view}
use Rattle.page_store.proofs.laws.a_write_is_seen.Goals as goal

pub returns-clause-own : goal.returns-clause-own
returns-clause-own c s t addr bytes kept placed = write_as_view c.args.shape.now s kept t addr bytes placed
