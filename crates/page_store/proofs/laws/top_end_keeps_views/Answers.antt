use Rattle.page_store.proofs.Views.{top_end_view, top_end_other_view}
use Rattle.page_store.proofs.laws.top_end_keeps_views.Goals as goal

pub returns-clause-own : goal.returns-clause-own
returns-clause-own c s t mark kept apart = top_end_view c.args.shape.now s kept t mark apart

pub returns-clause-others : goal.returns-clause-others
returns-clause-others c s t mark u kept ne apart = top_end_other_view c.args.shape.now s kept t mark u ne apart
