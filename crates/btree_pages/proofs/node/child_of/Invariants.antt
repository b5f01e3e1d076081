use Rattle.std.proofs.Common.{◌≡◌, ◌-◌, drop, get_or}
use Rattle.btree_laws.specs.Descent.{child_for}
use Rattle.btree_pages.proofs.node.child_of.Given as goal

-- the child of the previous pair, from which the search goes on
abbrev pub invariant-loop-i : goal.invariant-loop-i
invariant-loop-i l = record {
  child : l.child ≡ (get_or l.pairs (l.i - 1) (0, 0)).1;
  rest : child_for (drop (l.i - 1) l.pairs) l.key ≡ child_for l.pairs l.key;
}
