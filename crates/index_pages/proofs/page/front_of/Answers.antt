use Rattle.std.proofs.Common.{rules}
use Rattle.index_pages.specs.Written.{front_bytes}
use Rattle.index_pages.proofs.page.front_of.Goals as goal

pub returns : goal.returns
unfolding front_bytes
returns c = search (rules, c.kind_of.ensures)
