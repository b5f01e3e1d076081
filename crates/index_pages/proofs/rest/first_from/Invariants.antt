use Rattle.std.proofs.Common.{◌≡◌, ◌-◌}
use Rattle.index_pages.specs.Keys.{from_on}
use Rattle.index_pages.specs.Page.{pairs_said, pairs_from}
use Rattle.index_pages.proofs.rest.first_from.Given as goal

-- what was passed lies below the key
abbrev pub invariant-loop-i : goal.invariant-loop-i
invariant-loop-i l = from_on (pairs_from l.page l.i (l.count - l.i)) l.from ≡ from_on (pairs_said l.page) l.from
