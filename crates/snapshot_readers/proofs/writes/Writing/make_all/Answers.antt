use Rattle.std.proofs.Common.{◌≡◌, ap, sym, ◌∙◌, subst, List, ℕ}
use Rattle.history.specs.Writes.{all_written}
use Rattle.history.specs.Table.{Work, begun, worked}
use Rattle.snapshot_readers.specs.Writing.{Writes}
use Rattle.snapshot_readers.proofs.Writings.{begins, call_more}
use Rattle.snapshot_readers.proofs.writes.Writing.make_all.Goals as goal

pub loop-call-init : goal.loop-call-init
loop-call-init c table =
    let writes = c.args.self.now.writes.items in
    let start : Work = begun (all_written table writes) in
    (start, subst (λ (saves : List ℕ). Writes table writes saves start) (sym c.truncate.ensures.items) (begins table writes), ap (worked start) c.entries-left.ensures)

pub loop-call-preserved : goal.loop-call-preserved
loop-call-preserved c table = call_more table c.in-Some.ensures (c.in_ok-make.ensures table) (c.loop-call.invariant table)

pub loop-call-preserved-in_ok-make : goal.loop-call-preserved-in_ok-make
loop-call-preserved-in_ok-make c table = call_more table c.in-Some.ensures (c.in_ok-make.ensures table) (c.loop-call.invariant table)

pub loop-call-preserved-in_ok-make-2 : goal.loop-call-preserved-in_ok-make-2
loop-call-preserved-in_ok-make-2 c table = call_more table c.in-Some.ensures (c.in_ok-make.ensures table) (c.loop-call.invariant table)

pub returns : goal.returns
returns c table =
    let was = c.loop-call.invariant table in
    let done : was.0 ≡ worked (begun (all_written table c.args.self.now.writes.items)) c.args.calls.now = sym (ap (worked was.0) c.in_default.ensures) ∙ was.2 in
    sym was.1.now ∙ ap (λ (w : Work). w.table) done
