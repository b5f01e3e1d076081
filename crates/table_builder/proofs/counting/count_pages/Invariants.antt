use Rattle.std.proofs.Common.{List, ◌≡◌, ◌+◌, ◌-◌, ◌≤◌, drop, length}
use Rattle.page_store.specs.Pairs.{Pair}
use Rattle.table_builder.specs.Plan.{pages_of}
use Rattle.table_builder.proofs.counting.count_pages.Given as goal

abbrev pub invariant-loop-left : goal.invariant-loop-left
invariant-loop-left l = record {
  within : l.pages + l.left ≤ l.pairs;
  count : (ps : List Pair) → length ps ≡ l.pairs → l.pages + length (pages_of l.fill (drop (l.pairs - l.left) ps)) ≡ length (pages_of l.fill ps);
}

abbrev pub decreases-loop-left : goal.decreases-loop-left
decreases-loop-left l = l.left
