use Rattle.std.proofs.Common.{◌≡◌, ◌-◌, ◌*◌, ◌++◌, length, take, replicate}
use Rattle.index_pages.specs.Written.{front_bytes, pairs_bytes}
use Rattle.index_pages.proofs.page.write_page.Given as goal

abbrev pub invariant-loop-i : goal.invariant-loop-i
invariant-loop-i l = l.out ≡ front_bytes l.level (length l.pairs) l.link ++ (pairs_bytes (take l.i l.pairs) ++ replicate (504 - 16 * l.i) 0)
