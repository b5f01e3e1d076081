use Rattle.std.proofs.Common.{◌≡◌, ◌-◌}
use Rattle.page_store.specs.Pairs.{next}
use Rattle.index_pages.specs.Page.{pairs_said, pairs_from}
use Rattle.index_pages.proofs.page.next_pair.Given as goal

abbrev pub invariant-loop-i : goal.invariant-loop-i
invariant-loop-i l = next (pairs_from l.page l.i (l.count - l.i)) l.from ≡ next (pairs_said l.page) l.from
