use Rattle.std.proofs.Common.{sym, ap, ◌∙◌, List, length}
use Rattle.history.specs.Writes.{Row}
use Rattle.history.proofs.ReadAgain.{count_rows}
use Rattle.history.proofs.unpacking.KeptRows.len.Goals as goal

pub returns : goal.returns
returns c = sym (count_rows c.self.inside.count c.self.inside.bytes.now) ∙ ap (λ (rows : List Row). length rows) c.self.view_is
