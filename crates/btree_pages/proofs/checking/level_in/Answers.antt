use Rattle.std.proofs.Common.{refl}
use Rattle.index_pages.specs.Page.{level_said}
use Rattle.btree_pages.proofs.checking.level_in.Goals as goal

pub returns : goal.returns
unfolding level_said
returns c = refl
