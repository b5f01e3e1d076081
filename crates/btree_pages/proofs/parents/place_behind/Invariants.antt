use Rattle.std.proofs.Common.{◌-◌}
use Rattle.btree_pages.proofs.Behind.{IsBehind}
use Rattle.btree_pages.proofs.parents.place_behind.Given as goal

-- the entry of the key's child is not before the previous one
abbrev pub invariant-loop-i : goal.invariant-loop-i
invariant-loop-i l = IsBehind l.entries l.key (l.i - 1)
