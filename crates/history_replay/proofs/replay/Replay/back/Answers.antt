use Rattle.std.proofs.Common.{◌≡◌, true, ap, map, ◌∙◌, sym, List}
use Rattle.history.specs.Table.{has_save}
use Rattle.history_replay.specs.Replay.{table_in}
use Rattle.history_replay.proofs.Replaying.{back_in_memory}
use Rattle.history_replay.proofs.replay.Replay.back.Goals as goal

pub returns : goal.returns
returns c =
    let saves = c.args.self.now.saves in
    let is : has_save (map table_in saves.items) c.args.save ≡ true = sym c.if-not-has_save.ensures in
    ap (λ (kept : List _). record { table = table_in c.in_ok-self.field-0; saves = map table_in kept }) c.truncate.ensures.items
    ∙ back_in_memory c.args.self.now.table c.in_ok-self.field-0 c.index.result.now saves.items c.args.save is c.index.ensures c.in_ok-self.ensures
