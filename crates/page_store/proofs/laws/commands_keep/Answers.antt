use Rattle.page_store.proofs.Keeping.{kept_after}
use Rattle.page_store.proofs.Ordered.{ordered_after}
use Rattle.page_store.proofs.laws.commands_keep.Goals as goal

pub returns-clause-state : goal.returns-clause-state
returns-clause-state c command s kept allowed = kept_after c.args.shape.now s kept command allowed

pub returns-clause-counts : goal.returns-clause-counts
returns-clause-counts c command o kept allowed = ordered_after c.args.shape.now o kept command allowed
