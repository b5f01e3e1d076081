use Rattle.std.proofs.Common.{sym, ap, subst}
use Rattle.history.specs.Table.{Work}
use Rattle.transactions.specs.declared.work.Stop.{Stop}
use Rattle.long_values.specs.declared.unkept.Unkept.{Unkept}
use Rattle.long_values.specs.Changing.{IsUndone}
use Rattle.long_values.proofs.Seeing.{kept}
use Rattle.long_values.proofs.Undoing.{refused_back, went_back}
use Rattle.long_values.proofs.writing.undo.Goals as goal
use Rattle.long_values.proofs.writing.undo.Goals.{in-Ok, in-Err}

pub returns-clause-undone : goal.returns-clause-undone
returns-clause-undone g c told before there last saves =
    let old = g.C.Core.view c.args.core.now in
    let new = g.C.Core.view c.back.new.core in
    elim c.match-back.branch [
      | in-Ok w ↦ subst (λ (s : Stop Unkept). IsUndone c.args.caller there old new s) (sym w.result-is) (went_back c.args.caller c.args.saved before there old new (c.back.ensures.stays told) (w.in-Ok.ensures.ok told) last saves)
      | in-Err w ↦ subst (λ (s : Stop Unkept). IsUndone c.args.caller there old new s) (sym w.result-is) (refused_back c.args.caller c.args.saved w.in-Err.field-0 old new (w.in-Err.ensures.steps.step told), ap (λ (k : Work). k.table) (kept c.args.caller old new (c.back.ensures.stays told) (w.in-Err.ensures.err told)))
    ]
