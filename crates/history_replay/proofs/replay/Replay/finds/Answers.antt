use Rattle.std.proofs.Common.{◌≡◌, ap, sym, ◌∙◌}
use Rattle.std.specs.FinMap.{get}
use Rattle.history.specs.Table.{found}
use Rattle.history_replay.specs.Replay.{table_in}
use Rattle.history.specs.declared.call.Reply.TheVariants.{Found, Absent}
use Rattle.history_replay.proofs.Replaying.{get-table_in}
use Rattle.history_replay.proofs.replay.Replay.finds.Goals as goal

pub returns-in-None : goal.returns-in-None
returns-in-None c =
    let e : found (get (table_in c.args.self.now.table) c.args.key.now) ≡ Absent = ap found (get-table_in c.args.self.now.table c.args.key.now ∙ sym c.in-None.ensures.value) in
    (λ t. c.is_absent.ensures.0 t ∙ sym e, λ r. c.is_absent.ensures.1 (r ∙ e))

pub returns-in-Some : goal.returns-in-Some
returns-in-Some c =
    let e : found (get (table_in c.args.self.now.table) c.args.key.now) ≡ Found c.in-Some.value.now = ap found (get-table_in c.args.self.now.table c.args.key.now ∙ sym c.in-Some.ensures.value) in
    (λ t. c.is_found.ensures.0 t ∙ sym e, λ r. c.is_found.ensures.1 (r ∙ e))
