use Rattle.std.proofs.Common.{ap, map, None}
use Rattle.history.specs.Writes.{Table}
use Rattle.history_replay.specs.Replay.{table_in}
use Rattle.history_replay.proofs.Replaying.{table_in-written}
use Rattle.history_replay.proofs.replay.Replay.del.Goals as goal

pub returns : goal.returns
returns c = ap (λ (t : Table). record { table = t; saves = map table_in c.args.self.now.saves.items })
    (table_in-written c.args.self.now.table c.remove.new.self c.args.key.now None c.remove.ensures.updates)
