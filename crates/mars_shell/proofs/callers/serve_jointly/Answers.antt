use Rattle.std.proofs.Common.{[], false, refl, sym, subst}
use Rattle.std.proofs.lemmas.List.{append-nil}
use Rattle.mars_core.specs.Attached.{is_media_fault}
use Rattle.record_table.specs.Form.{form_number}
use Rattle.record_table.specs.declared.form.Form.{Form}
use Rattle.mars_shell.specs.Joint.{JointWork}
use Rattle.array_runs.specs.Forms.{index_at, SaysForm}
use Rattle.mars_shell.proofs.Forming.{serves_on}
use Rattle.array_runs.proofs.Untaken.{unread}
use Rattle.mars_shell.proofs.callers.serve_jointly.Goals as goal

pub returns-in-Ok-Chain-clause-served : goal.returns-in-Ok-Chain-clause-served
returns-in-Ok-Chain-clause-served g c =
    let s = g.S.EawStore in
    let old = s.view c.args.store in
    let mid = s.view c.find_form.new.store in
    let said = c.work_under.ensures.served in
    let form = subst (λ (f : Form). SaysForm s.tells (s.opens old.shape) (form_number f) old mid) c.in-Ok-Chain.field-0-is c.in-Ok-Chain.ensures.says in
    record {
      cut = said.cut;
      text = said.text;
      wrote = said.wrote;
      counts = said.counts;
      holds = λ told. serves_on s.tells told s.opens 0 old mid form (s.view c.work_under.result.1) (λ ended. JointWork (g.G.Gate.told c.args.crew.now.gate.now) c.args.crew.now.numbers.callers c.args.crew.now.numbers.readers c.args.input.now ended said.cut said.text) c.work_under.result.0 said.cut said.text (said.holds told);
    }

pub returns-in-Ok-Chain-clause-untold : goal.returns-in-Ok-Chain-clause-untold
returns-in-Ok-Chain-clause-untold g c = c.work_under.ensures.untold

pub returns-in-Ok-Chain-clause-counts : goal.returns-in-Ok-Chain-clause-counts
returns-in-Ok-Chain-clause-counts g c = rw c.in-Ok-Chain.ensures.says.faults at c.work_under.ensures.counts

pub returns-in-Ok-Tree-clause-served : goal.returns-in-Ok-Tree-clause-served
returns-in-Ok-Tree-clause-served g c =
    let s = g.S.EawStore in
    let old = s.view c.args.store in
    let mid = s.view c.find_form.new.store in
    let said = c.work_under-in-Ok-Tree.ensures.served in
    let form = subst (λ (f : Form). SaysForm s.tells (s.opens old.shape) (form_number f) old mid) c.in-Ok-Tree.field-0-is c.in-Ok-Tree.ensures.says in
    record {
      cut = said.cut;
      text = said.text;
      wrote = said.wrote;
      counts = said.counts;
      holds = λ told. serves_on s.tells told s.opens 1 old mid form (s.view c.work_under-in-Ok-Tree.result.1) (λ ended. JointWork (g.G.Gate.told c.args.crew.now.gate.now) c.args.crew.now.numbers.callers c.args.crew.now.numbers.readers c.args.input.now ended said.cut said.text) c.work_under-in-Ok-Tree.result.0 said.cut said.text (said.holds told);
    }

pub returns-in-Ok-Tree-clause-untold : goal.returns-in-Ok-Tree-clause-untold
returns-in-Ok-Tree-clause-untold g c = c.work_under-in-Ok-Tree.ensures.untold

pub returns-in-Ok-Tree-clause-counts : goal.returns-in-Ok-Tree-clause-counts
returns-in-Ok-Tree-clause-counts g c = rw c.in-Ok-Tree.ensures.says.faults at c.work_under-in-Ok-Tree.ensures.counts

pub returns-in-Err-clause-served : goal.returns-in-Err-clause-served
returns-in-Err-clause-served g c =
    let s = g.S.EawStore in
    record {
      cut = false;
      text = [];
      wrote = λ _. sym (append-nil _);
      counts = refl;
      holds = λ told. unread false s.tells s.opens (index_at (s.view c.args.store).state.bytes) (s.view c.args.store) (s.view c.find_form.new.store) (is_media_fault c.in-Err.fault) c.in-Err.fault told c.in-Err.ensures.cause
          c.in-Err.ensures.left;
    }

pub returns-in-Ok-Chain-clause-short : goal.returns-in-Ok-Chain-clause-short
returns-in-Ok-Chain-clause-short g c = c.work_under.ensures.short

pub returns-in-Ok-Tree-clause-short : goal.returns-in-Ok-Tree-clause-short
returns-in-Ok-Tree-clause-short g c = c.work_under-in-Ok-Tree.ensures.short
