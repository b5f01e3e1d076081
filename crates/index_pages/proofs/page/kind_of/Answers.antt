use Rattle.index_pages.proofs.Writing.{kind_leaf, kind_inner}
use Rattle.index_pages.proofs.page.kind_of.Goals as goal

pub returns-then-level-eq0 : goal.returns-then-level-eq0
returns-then-level-eq0 c = kind_leaf c.args.level c.if-level-eq0.true

pub returns : goal.returns
returns c = kind_inner c.args.level c.if-level-eq0.false
