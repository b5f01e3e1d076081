use Rattle.std.proofs.Common.{ℕ, Bool, true, false, List, ap, sym, subst}
use Rattle.eaw_face.specs.State.{State}
use Rattle.eaw_face.specs.StoreView.{StoreView}
use Rattle.eaw_face.specs.Causes.{IsAlive}
use Rattle.record_table.specs.Form.{LooksAt}
use Rattle.mars_core.specs.Attached.{LeftAsItWas}
use Rattle.array_runs.specs.Forms.{index_at}
use Rattle.array_runs.proofs.Forming.{super_fails}
use Rattle.array_runs.proofs.forms.find_form.Goals as goal

pub returns-in-Err-Damaged-clause-cause : goal.returns-in-Err-Damaged-clause-cause
returns-in-Err-Damaged-clause-cause g c = λ told.
    let bytes = (g.S.EawStore.view c.args.store.now).state.bytes in
    let cause = rw c.in-Err-Damaged.field-0-is at c.in-Err-Damaged.ensures.cause in
    let neither = cause.2 told in
    subst (λ (page : ℕ). (index_at bytes).fails bytes page) (sym cause.1) (super_fails bytes neither.0 neither.1)

-- a look that leaves the store as it was
left_by : (tells failed : Bool) (Opens : List ℕ → List ℕ → Type 0) (old new : StoreView) → IsAlive old → LooksAt tells Opens failed old new → LeftAsItWas tells Opens failed old new
left_by tells failed Opens old new alive looks = record {
  shape = looks.shape;
  depth = looks.depth;
  kept = λ well. ((looks.still well).dead, (looks.still well).faults);
  unwritten = λ told well. ap (λ (s : State). s.bytes) ((looks.still well).state told);
  dies = looks.dies;
  mirrors = looks.mirrors;
  time = λ told. looks.time told alive;
}

pub returns-in-Err-Damaged-clause-left : goal.returns-in-Err-Damaged-clause-left
returns-in-Err-Damaged-clause-left g c =
    let s = g.S.EawStore in
    left_by s.tells false (s.opens (s.view c.args.store.now).shape) (s.view c.args.store.now) (s.view c.form_of.new.store) c.requires.alive (rw c.in-Err-Damaged.field-0-is at c.in-Err-Damaged.ensures.looks)

pub returns-in-Err-Media-clause-left : goal.returns-in-Err-Media-clause-left
returns-in-Err-Media-clause-left g c =
    let s = g.S.EawStore in
    left_by s.tells true (s.opens (s.view c.args.store.now).shape) (s.view c.args.store.now) (s.view c.form_of.new.store) c.requires.alive (rw c.in-Err-Media.field-0-is at c.in-Err-Media.ensures.looks)
