use Rattle.std.proofs.Common.{sym, subst, Some, None, List}
use Rattle.history.specs.Key.{of_table}
use Rattle.history.specs.Table.{after}
use Rattle.history.specs.Writes.{Write}
use Rattle.history.specs.declared.call.TableCall.{TableCall}
use Rattle.history.specs.declared.call.TableCall.TheVariants.{Put, Del}
use Rattle.snapshot_readers.specs.Writing.{Writes}
use Rattle.snapshot_readers.proofs.Writings.{write_more}
use Rattle.snapshot_readers.proofs.writes.Writing.make.Goals as goal

pub returns-in_ok-push-in-Put : goal.returns-in_ok-push-in-Put
returns-in_ok-push-in-Put c table work h =
    let self = c.args.self.now in
    let key = c.in-Put.key in
    let name = c.in-Put.table in
    let value = c.in-Put.value in
    subst (λ (call : TableCall). Writes table c.push.new.self.items self.saves.items (after work call)) (sym c.in-Put.is)
    (subst (λ (ws : List Write). Writes table ws self.saves.items (after work (Put name key value))) (sym c.in_ok-push-in-Put.ensures.items)
    (write_more table self.writes.items self.saves.items work (of_table name key, Some value) h))

pub returns-in_ok-push-in-Del : goal.returns-in_ok-push-in-Del
returns-in_ok-push-in-Del c table work h =
    let self = c.args.self.now in
    let key = c.in-Del.key in
    let name = c.in-Del.table in
    subst (λ (call : TableCall). Writes table c.push-in-Del.new.self.items self.saves.items (after work call)) (sym c.in-Del.is)
    (subst (λ (ws : List Write). Writes table ws self.saves.items (after work (Del name key))) (sym c.in_ok-push-in-Del.ensures.items)
    (write_more table self.writes.items self.saves.items work (of_table name key, None) h))

pub returns-in-Back : goal.returns-in-Back
returns-in-Back c table work h =
    let self = c.back.new.self in
    subst (λ (call : TableCall). Writes table self.writes.items self.saves.items (after work call)) (sym c.in-Back.is) (c.back.ensures table work h)
