use Rattle.std.proofs.Common.{sym, subst, take, List, ℕ}
use Rattle.history.specs.Table.{after}
use Rattle.history.specs.Writes.{Write}
use Rattle.history.specs.declared.call.TableCall.TheVariants.{Back}
use Rattle.snapshot_readers.specs.Writing.{Writes}
use Rattle.snapshot_readers.proofs.Writings.{back_more}
use Rattle.snapshot_readers.proofs.writes.Writing.back.Goals as goal

pub returns : goal.returns
returns c table work h =
    let self = c.args.self.now in
    let saves = take c.args.save self.saves.items in
    subst (λ (ws : List Write). Writes table ws c.truncate-2.new.self.items (after work (Back c.args.save))) (sym c.truncate.ensures.items)
    (subst (λ (ns : List ℕ). Writes table (take c.index.result.now self.writes.items) ns (after work (Back c.args.save))) (sym c.truncate-2.ensures.items)
    (back_more table self.writes.items self.saves.items work c.args.save c.index.result.now c.if-not-has_save.ensures c.index.ensures h))
