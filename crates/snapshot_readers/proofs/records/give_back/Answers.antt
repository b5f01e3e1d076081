use Rattle.std.proofs.Common.{sym, ◌∙◌, ap, Some}
use Rattle.snapshot_readers.proofs.Rooming.{given_back}
use Rattle.snapshot_readers.proofs.records.give_back.Goals as goal

pub returns-in-Some-None : goal.returns-in-Some-None
returns-in-Some-None c = given_back c.args.rooms.now c.remove.new.self c.args.key (sym c.in-Some-None.ensures.value ∙ ap Some c.in-Some-None.field-0-is) c.remove.ensures.updates
