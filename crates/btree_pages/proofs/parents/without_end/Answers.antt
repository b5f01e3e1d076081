use Rattle.std.proofs.Common.{◌∙◌}
use Rattle.btree_pages.proofs.Behind.{without_last-take}
use Rattle.btree_pages.proofs.parents.without_end.Goals as goal

pub returns : goal.returns
returns c = c.pop.ensures.rest ∙ without_last-take c.args.entries.items
