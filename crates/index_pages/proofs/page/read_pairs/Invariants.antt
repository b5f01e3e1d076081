use Rattle.std.proofs.Common.{◌≡◌, ◌-◌, ◌++◌, length}
use Rattle.index_pages.specs.Page.{pairs_said, pairs_from}
use Rattle.index_pages.specs.Written.{AreSmall}
use Rattle.index_pages.proofs.page.read_pairs.Given as goal

abbrev pub invariant-loop-i : goal.invariant-loop-i
invariant-loop-i l = record {
  small : AreSmall l.pairs.items;
  many : length l.pairs.items ≡ l.i;
  so_far : l.pairs.items ++ pairs_from l.page l.i (l.count - l.i) ≡ pairs_said l.page;
}
