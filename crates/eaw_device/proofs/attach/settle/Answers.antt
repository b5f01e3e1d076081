use Rattle.std.proofs.lemmas.Result.{err_from_is_err_and}
use Rattle.std.proofs.Common.{ℕ, List, [], true, refl, sym, subst}
use Rattle.commit_queue.specs.Between.{IsAtRest}
use Rattle.mars_base.proofs.Costing.{costs_all}
use Rattle.device_recovery.specs.declared.report.Report.{Report}
use Rattle.eaw_device.proofs.OpeningLemmas.{settling_keeps}
use Rattle.eaw_device.proofs.Attaching.{recovered_says, refusal_cause, refusal_leaves, refusal_kept, of_recovery}
use Rattle.eaw_device.proofs.attach.settle.Goals as goal

pub returns-in_err-recover : goal.returns-in_err-recover
returns-in_err-recover g c =
    let m = g.M.Media in
    let shape = c.args.shape.now in
    let old = m.view c.args.media.now in
    let new = m.view c.recover.new.media in
    let fault = c.in_err-recover.field-0.0 in
    let refused = c.in_err-recover.ensures in
    let p = err_from_is_err_and c.from_residual.result c.from_residual.ensures.1 in
    rw (p.1, p.2) (record {
      clean = λ told. tt;
      header = λ told. tt;
      settled = λ told. tt;
      good = λ told. tt;
      cause = refusal_cause m.tells shape old new Report fault c.requires.size c.requires.header refused.bad refused.does.cause.failed;
      fault = of_recovery fault;
      unwritten = refusal_leaves m.tells shape old new Report fault c.requires.size c.requires.header refused.spared refused.unwritten;
      costs = λ told none. record { done = λ exact. tt; most = (refused.costs told none).most };
      keeps = settling_keeps m.tells shape old new c.requires.header refused.any_moment;
      size = refused.does.size;
      device = refused.does.device;
      faults = tt;
      kept = refusal_kept m.tells shape old new Report fault refused.does.cause.kept;
      later = refused.does.cause.later;
    })

pub returns : goal.returns
returns g c =
    let m = g.M.Media in
    let shape = c.args.shape.now in
    let old = m.view c.args.media.now in
    let new = m.view c.recover.new.media in
    let done = c.in_ok-recover.ensures in
    record {
      clean = λ told. subst (λ (d : List ℕ). IsAtRest shape [] d new.content) (sym (done.settled told)) (done.clean told);
      header = λ told. recovered_says shape old.content new.content (done.sure told) (c.requires.header told) (done.does.touched told);
      settled = done.settled;
      good = done.good;
      cause = tt;
      fault = tt;
      unwritten = tt;
      costs = λ told none. costs_all true _ _ _ _ ((done.costs told none).done refl);
      keeps = settling_keeps m.tells shape old new c.requires.header done.any_moment;
      size = done.does.size;
      device = done.does.device;
      faults = done.does.cause.kept;
      kept = tt;
      later = done.does.cause.later;
    }
