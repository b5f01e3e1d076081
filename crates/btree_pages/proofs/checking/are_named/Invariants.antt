use Rattle.std.proofs.Common.{◌↔◌, ◌-◌}
use Rattle.index_pages.specs.Page.{pairs_said, pairs_from}
use Rattle.btree_laws.specs.Tree.{AreChildren}
use Rattle.btree_pages.proofs.checking.are_named.Given as goal

abbrev pub invariant-loop-i : goal.invariant-loop-i
invariant-loop-i l = AreChildren l.pages (pairs_from l.bytes l.i (l.count - l.i)) ↔ AreChildren l.pages (pairs_said l.bytes)
