use Rattle.std.proofs.Common.{◌≡◌, ◌+◌, ◌-◌, ◌++◌, List, length}
use Rattle.page_store.specs.Pairs.{Pair, AreInside}
use Rattle.index_pages.specs.Keys.{from_on, low_for}
use Rattle.index_pages.specs.Page.{pairs_said, pairs_from}
use Rattle.index_pages.proofs.rest.rest_of.Given as goal

-- the pairs so far, behind which others lie inside just if they do from the last key on
abbrev pub invariant-loop-i : goal.invariant-loop-i
invariant-loop-i l = record {
  many : l.i ≡ l.first + length l.some.items;
  so_far : l.some.items ++ pairs_from l.page l.i (l.count - l.i) ≡ from_on (pairs_said l.page) l.from;
  inside : (rest : List Pair) → AreInside (low_for l.from l.last) l.slots rest → AreInside l.from l.slots (l.some.items ++ rest);
  back : (rest : List Pair) → AreInside l.from l.slots (l.some.items ++ rest) → AreInside (low_for l.from l.last) l.slots rest;
}
