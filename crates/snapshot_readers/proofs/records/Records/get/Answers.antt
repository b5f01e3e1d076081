use Rattle.std.proofs.Common.{sym, ◌∙◌, ap}
use Rattle.std.specs.FinMap.{get}
use Rattle.history.specs.Writes.{Table}
use Rattle.snapshot_readers.proofs.Rooming.{flat, get-table_in}
use Rattle.snapshot_readers.proofs.records.Records.get.Goals as goal

pub returns-in-Some : goal.returns-in-Some
returns-in-Some c = ap flat c.in-Some.ensures.value ∙ sym (get-table_in c.self.inside.rooms.entries c.args.key.now) ∙ ap (λ (t : Table). get t c.args.key.now) c.self.view_is

pub returns-in-None : goal.returns-in-None
returns-in-None c = ap flat c.in-None.ensures.value ∙ sym (get-table_in c.self.inside.rooms.entries c.args.key.now) ∙ ap (λ (t : Table). get t c.args.key.now) c.self.view_is
