use Rattle.std.proofs.Common.{◌≡◌, ◌-◌}
use Rattle.index_pages.specs.Page.{pairs_said, pairs_from}
use Rattle.btree_laws.specs.Descent.{child_for}
use Rattle.btree_pages.specs.Leaf.{behind_in}
use Rattle.btree_pages.proofs.page.child_in.Given as goal

-- the search goes on from the previous pair
abbrev pub invariant-loop-i : goal.invariant-loop-i
invariant-loop-i l = record {
  rest : child_for (pairs_from l.page (l.i - 1) (l.count - (l.i - 1))) l.key ≡ child_for (pairs_said l.page) l.key;
  bounds : behind_in (pairs_from l.page (l.i - 1) (l.count - (l.i - 1))) l.key ≡ behind_in (pairs_said l.page) l.key;
}
