use Rattle.std.proofs.Common.{◌≡◌, ◌+◌, ◌-◌, ◌++◌, ◌≤◌, length, map, drop, nat_lt, cond}
use Rattle.index_pages.specs.Written.{written_page}
use Rattle.table_builder.specs.Built.{first_key, named}
use Rattle.table_builder.specs.Plan.{pages_of}
use Rattle.table_builder.proofs.levels.push_level.Given as goal

abbrev pub invariant-loop-at : goal.invariant-loop-at
invariant-loop-at l = record {
  within : l.at ≤ length l.pairs;
  pages : l.pages.items ++ map (written_page l.level 0) (pages_of l.fill (drop l.at l.pairs)) ≡ l.fn.pages.items ++ map (written_page l.level 0) (pages_of l.fill l.pairs);
  names : l.names.items ++ named (cond (nat_lt 0 l.at) (first_key (drop l.at l.pairs)) 0) (l.first + length l.pages.items) (pages_of l.fill (drop l.at l.pairs))
      ≡ named 0 (l.first + length l.fn.pages.items) (pages_of l.fill l.pairs);
}

abbrev pub decreases-loop-at : goal.decreases-loop-at
decreases-loop-at l = length l.pairs - l.at
