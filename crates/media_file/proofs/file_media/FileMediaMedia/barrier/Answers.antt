use Rattle.std.proofs.Common.{refl, ◌≡◌, ◌+◌, [], ap, arith, rules}
use Rattle.std.proofs.lemmas.Result.{err_from_is_err_and}
use Rattle.media_file.proofs.CountLemmas.{cause_failed}
use Rattle.media_file.proofs.ShowLemmas.{writes_stopped}
use Rattle.media_file.proofs.file_media.FileMediaMedia.barrier.Goals as goal

pub returns-in_err-tick-clause-does : goal.returns-in_err-tick-clause-does
returns-in_err-tick-clause-does g c =
    let p = err_from_is_err_and c.from_residual.result c.from_residual.ensures.1 in
    let was = c.args.self.now in
    let now = c.tick.new.self in
    let e = c.in_err-tick.ensures in
    let same : (g.C.Calls.faults now.calls).failed ≡ (g.C.Calls.faults was.calls).failed = ap (λ (calls : g.row.C.Denot). (g.C.Calls.faults calls).failed) e.calls in
    rw p.1 (writes_stopped g.C.Calls.trusted [] (g.C.Calls.past was.calls) (g.C.Calls.past now.calls) was.size was.moment now.moment (was.faults + (g.C.Calls.faults was.calls).failed) (now.faults + (g.C.Calls.faults now.calls).failed)
    now.size p.0 e.size (ap g.C.Calls.past e.calls) e.later.0 (omega (arith, same, e.later.1)) (omega (arith, same, e.counted)))

pub returns-in-Err-clause-does : goal.returns-in-Err-clause-does
returns-in-Err-clause-does g c =
    let was = c.args.self.now in
    let ticked = c.tick.new.self in
    let now = c.fault.new.self in
    let tick = c.in_ok-tick.ensures in
    let fault = c.fault.ensures in
    record {
      size = search rules;
      device = refl;
      cause = cause_failed (0) was.faults now.faults (g.C.Calls.faults was.calls) (g.C.Calls.faults ticked.calls) (g.C.Calls.faults c.sync.new.calls) (g.C.Calls.faults now.calls) c.fault.result
          (ap g.C.Calls.faults tick.calls) (ap g.C.Calls.faults fault.calls) c.in-Err.ensures.tried (omega (arith, tick.faults, fault.later)) (omega (arith, tick.faults, fault.counted));
      touched = search rules;
      time = search rules;
    }
