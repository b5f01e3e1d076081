use Rattle.std.proofs.Common.{ap, map, ◌∙◌, List}
use Rattle.history.specs.Writes.{Table}
use Rattle.history_replay.specs.Replay.{table_in}
use Rattle.history_replay.proofs.Replaying.{saved_in_memory}
use Rattle.history_replay.proofs.replay.Replay.save.Goals as goal

pub returns : goal.returns
returns c = ap (λ (saves : List Table). record { table = table_in c.args.self.now.table; saves = saves })
    (ap (map table_in) c.in_ok-push.ensures.items ∙ saved_in_memory c.args.self.now.table c.in_ok-copy_of.field-0 c.args.self.now.saves.items c.in_ok-copy_of.ensures)
