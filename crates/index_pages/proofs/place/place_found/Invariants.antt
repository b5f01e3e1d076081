use Rattle.index_pages.proofs.Placing.{IsSought}
use Rattle.index_pages.proofs.place.place_found.Given as goal

-- the key is not among the pairs so far
abbrev pub invariant-loop-i : goal.invariant-loop-i
invariant-loop-i l = IsSought l.pairs l.key l.i
