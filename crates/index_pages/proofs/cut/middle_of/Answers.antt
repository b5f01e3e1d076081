use Rattle.std.proofs.Common.{List, ◌∙◌, ap, get_or}
use Rattle.page_store.specs.Pairs.{Pair}
use Rattle.index_pages.proofs.Halved.{get_key}
use Rattle.index_pages.proofs.cut.middle_of.Goals as goal

pub returns : goal.returns
returns c = ap (λ (ps : List Pair). (get_or ps 15 (0, 0)).0) c.as_slice.ensures.value ∙ get_key c.args.pairs.now.items 15
