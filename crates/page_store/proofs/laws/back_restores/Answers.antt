use Rattle.page_store.proofs.Played.{back_restores_list, back_restores_view}
use Rattle.page_store.proofs.laws.back_restores.Goals as goal

pub returns-clause-parts : goal.returns-clause-parts
returns-clause-parts c s t cs kept allowed spare = back_restores_list c.args.shape.now s kept t cs allowed spare

pub returns-clause-seen : goal.returns-clause-seen
returns-clause-seen c s t cs kept allowed spare = back_restores_view c.args.shape.now s kept t cs allowed spare
