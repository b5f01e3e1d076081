use Rattle.std.proofs.Common.{rules}
use Rattle.index_pages.specs.Written.{pair_bytes}
use Rattle.index_pages.proofs.page.bytes_of.Goals as goal

pub returns : goal.returns
unfolding pair_bytes
returns c = search rules
