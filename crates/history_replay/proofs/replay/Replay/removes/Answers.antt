use Rattle.std.proofs.Common.{◌≡◌, ap, sym, ◌∙◌}
use Rattle.std.specs.FinMap.{get}
use Rattle.history.specs.Table.{removed}
use Rattle.history_replay.specs.Replay.{table_in}
use Rattle.history.specs.declared.call.Reply.TheVariants.{Fine, Absent}
use Rattle.history_replay.proofs.Replaying.{get-table_in}
use Rattle.history_replay.proofs.replay.Replay.removes.Goals as goal

pub returns-in-None : goal.returns-in-None
returns-in-None c =
    let e : removed (get (table_in c.args.self.now.table) c.args.key.now) ≡ Absent = ap removed (get-table_in c.args.self.now.table c.args.key.now ∙ sym c.in-None.ensures.value) in
    (λ t. c.is_absent.ensures.0 t ∙ sym e, λ r. c.is_absent.ensures.1 (r ∙ e))

pub returns-in-Some : goal.returns-in-Some
returns-in-Some c =
    let e : removed (get (table_in c.args.self.now.table) c.args.key.now) ≡ Fine = ap removed (get-table_in c.args.self.now.table c.args.key.now ∙ sym c.in-Some.ensures.value) in
    (λ t. c.is_fine.ensures.0 t ∙ sym e, λ r. c.is_fine.ensures.1 (r ∙ e))
