use Rattle.std.proofs.Common.{◌≡◌, take}
use Rattle.index_pages.proofs.cut.copy_of.Given as goal

-- the pairs so far
abbrev pub invariant-loop-pair : goal.invariant-loop-pair
invariant-loop-pair l = l.copy.items ≡ take l.pair-index l.pairs
