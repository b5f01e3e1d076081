use Rattle.std.proofs.Common.{◌≡◌, ◌-◌}
use Rattle.page_store.specs.Pairs.{found}
use Rattle.index_pages.specs.Page.{pairs_said, pairs_from}
use Rattle.btree_pages.proofs.page.slot_in.Given as goal

abbrev pub invariant-loop-i : goal.invariant-loop-i
invariant-loop-i l = found (pairs_from l.page l.i (l.count - l.i)) l.key ≡ found (pairs_said l.page) l.key
