use Rattle.std.proofs.Common.{◌↔◌, ◌-◌, ◌≤◌}
use Rattle.page_store.specs.Pairs.{Rise}
use Rattle.index_pages.specs.Keys.{key_end}
use Rattle.index_pages.specs.Page.{pairs_said, pairs_from}
use Rattle.btree_pages.specs.Checked.{high_of, least_of}
use Rattle.btree_pages.proofs.checking.rises.Given as goal

-- what is left after the last key decides
abbrev pub invariant-loop-i : goal.invariant-loop-i
invariant-loop-i l = record {
  least : least_of l.low l.last ≤ key_end;
  left : Rise (least_of l.low l.last) (high_of l.high) (pairs_from l.bytes l.i (l.count - l.i)) ↔ Rise l.low (high_of l.high) (pairs_said l.bytes);
}
