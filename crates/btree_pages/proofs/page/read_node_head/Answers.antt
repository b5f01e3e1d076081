use Rattle.btree_pages.proofs.Nodes.{says_leaf, says_inner, page_of, other_link, other_count}
use Rattle.btree_pages.proofs.page.read_node_head.Goals as goal

pub returns-in_err-head-clause-other : goal.returns-in_err-head-clause-other
returns-in_err-head-clause-other c = rw c.from_residual.ensures (λ node. c.in_err-head.ensures.other (page_of c.args.page.now node))

pub returns-then-head-ne0-clause-other : goal.returns-then-head-ne0-clause-other
returns-then-head-ne0-clause-other c = other_link c.args.page.now c.in_ok-head.head c.in_ok-head.ensures.says c.if-head-ne0.true

pub returns-then-head-eq0-clause-says : goal.returns-then-head-eq0-clause-says
returns-then-head-eq0-clause-says c = says_leaf c.args.page.now c.in_ok-head.head c.in_ok-head.ensures.says c.if-head-ne0.false c.if-head-eq0.true

pub returns-then-head-eq0-2-clause-other : goal.returns-then-head-eq0-2-clause-other
returns-then-head-eq0-2-clause-other c = other_count c.args.page.now c.in_ok-head.head c.in_ok-head.ensures.says c.if-head-eq0.false c.if-head-eq0-2.true

pub returns-clause-says : goal.returns-clause-says
returns-clause-says c = says_inner c.args.page.now c.in_ok-head.head c.in_ok-head.ensures.says c.if-head-ne0.false c.if-head-eq0.false c.if-head-eq0-2.false
