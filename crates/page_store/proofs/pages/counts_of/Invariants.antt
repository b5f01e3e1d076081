use Rattle.std.proofs.Common.{take}
use Rattle.page_store.proofs.Counted.{AreCounted}
use Rattle.page_store.proofs.pages.counts_of.Given as goal

-- those of the pages so far
abbrev pub invariant-loop-page : goal.invariant-loop-page
invariant-loop-page l = AreCounted l.loggers (take l.page-index l.pages) l.counts
