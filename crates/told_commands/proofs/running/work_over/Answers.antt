use Rattle.std.proofs.Common.{[], false, inl, inr, ⊎_elim, subst}
use Rattle.record_table.specs.Form.{form_number}
use Rattle.record_table.specs.declared.form.Form.{Form}
use Rattle.array_runs.specs.Forms.{SaysForm}
use Rattle.array_runs.proofs.Untaken.{untaken_over}
use Rattle.told_commands.proofs.running.work_over.Goals as goal

pub returns-in-Ok-Chain-clause-leaves : goal.returns-in-Ok-Chain-clause-leaves
returns-in-Ok-Chain-clause-leaves g c =
    let s = g.S.EawStore in
    let old = s.view c.args.store in
    let mid = s.view c.find_form.new.store in
    let form = subst (λ (f : Form). SaysForm s.tells (s.opens old.shape) (form_number f) old mid) c.in-Ok-Chain.field-0-is c.in-Ok-Chain.ensures.says in
    ⊎_elim (λ done. inl (c.find_form.new.store, 0, form, done))
    (λ off. inr (off.0, off.1, λ told. untaken_over s.tells told s.opens 0 old mid (s.view c.work_on.result.1) form g.W.ToldWork.spares off.0 false [] (off.2 told))) c.work_on.ensures.leaves

pub returns-in-Ok-Tree-clause-leaves : goal.returns-in-Ok-Tree-clause-leaves
returns-in-Ok-Tree-clause-leaves g c =
    let s = g.S.EawStore in
    let old = s.view c.args.store in
    let mid = s.view c.find_form.new.store in
    let form = subst (λ (f : Form). SaysForm s.tells (s.opens old.shape) (form_number f) old mid) c.in-Ok-Tree.field-0-is c.in-Ok-Tree.ensures.says in
    ⊎_elim (λ done. inl (c.find_form.new.store, 1, form, done))
    (λ off. inr (off.0, off.1, λ told. untaken_over s.tells told s.opens 1 old mid (s.view c.work_on-in-Ok-Tree.result.1) form g.W.ToldWork.spares off.0 false [] (off.2 told))) c.work_on-in-Ok-Tree.ensures.leaves
