use Rattle.std.proofs.Common.{◌≡◌, ℕ, ◌++◌, take, drop}
use Rattle.page_store.specs.Pairs.{inserted}
use Rattle.index_pages.proofs.place.place_of.Given as goal

-- the pairs so far stay in front
abbrev pub invariant-loop-i : goal.invariant-loop-i
invariant-loop-i l = (to : ℕ) → take l.i l.pairs ++ inserted (drop l.i l.pairs) l.key to ≡ inserted l.pairs l.key to
