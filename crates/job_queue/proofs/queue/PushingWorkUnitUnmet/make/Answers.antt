use Rattle.std.proofs.Common.{◌∙◌}
use Rattle.std.specs.Prelude.{IsTrue}
use Rattle.transactions.specs.declared.work.Stop.TheVariants.{Refused}
use Rattle.transactions.proofs.Handing.{handed_on, none_handed_on}
use Rattle.job_queue.proofs.queue.PushingWorkUnitUnmet.make.Goals as goal

-- the bounds were not read,
pub returns-in_err-first : goal.returns-in_err-first
returns-in_err-first g c =
    let stop = c.in_err-first.field-0.0 in
    record {
      limits = c.bounds.ensures.limits;
      stays = c.bounds.ensures.stays;
      within = c.bounds.ensures.stays_within;
      done = λ told. none_handed_on c.from_residual.result stop c.from_residual.ensures _;
      stopped = λ told. handed_on c.from_residual.result stop c.from_residual.ensures _ (c.in_err-first.ensures.none told);
      of_core = λ told. handed_on c.from_residual.result stop c.from_residual.ensures _ (c.in_err-first.ensures.of_core told);
    }

-- or they were, and the record of the job was refused
pub returns-in_err-put : goal.returns-in_err-put
returns-in_err-put g c =
    let old = c.args.core.now in
    let caller = c.args.caller in
    let join = c.calls_join.ensures in
    let stop = Refused c.in_err-put.field-0.0 in
    record {
      limits = c.put.ensures.steps.limits ∙ c.bounds.ensures.limits;
      stays = λ told. join.stays old c.bounds.new.core c.put.new.core caller (c.bounds.ensures.stays told) (c.put.ensures.stays told);
      within = λ told. join.within old c.bounds.new.core c.put.new.core caller (c.bounds.ensures.stays_within told) (c.put.ensures.within told);
      done = λ told. none_handed_on c.from_residual-in_err-put.result stop c.from_residual-in_err-put.ensures _;
      stopped = λ told. handed_on c.from_residual-in_err-put.result stop c.from_residual-in_err-put.ensures _ tt;
      of_core = λ told. handed_on c.from_residual-in_err-put.result stop c.from_residual-in_err-put.ensures _ (join.later old c.bounds.new.core c.put.new.core caller stop (c.bounds.ensures.stays told) (c.in_err-put.ensures.refused told));
    }

-- it was written, and another was refused
pub returns-in_err-put-2 : goal.returns-in_err-put-2
returns-in_err-put-2 g c =
    let old = c.args.core.now in
    let caller = c.args.caller in
    let join = c.calls_join.ensures in
    let one = λ (told : IsTrue g.C.Core.tells). join.stays old c.bounds.new.core c.put.new.core caller (c.bounds.ensures.stays told) (c.put.ensures.stays told) in
    let stop = Refused c.in_err-put-2.field-0.0 in
    record {
      limits = c.put-2.ensures.steps.limits ∙ c.put.ensures.steps.limits ∙ c.bounds.ensures.limits;
      stays = λ told. join.stays old c.put.new.core c.put-2.new.core caller (one told) (c.put-2.ensures.stays told);
      within = λ told. join.within old c.put.new.core c.put-2.new.core caller (join.within old c.bounds.new.core c.put.new.core caller (c.bounds.ensures.stays_within told) (c.put.ensures.within told)) (c.put-2.ensures.within told);
      done = λ told. none_handed_on c.from_residual-in_err-put-2.result stop c.from_residual-in_err-put-2.ensures _;
      stopped = λ told. handed_on c.from_residual-in_err-put-2.result stop c.from_residual-in_err-put-2.ensures _ tt;
      of_core = λ told. handed_on c.from_residual-in_err-put-2.result stop c.from_residual-in_err-put-2.ensures _ (join.later old c.put.new.core c.put-2.new.core caller stop (one told) (c.in_err-put-2.ensures.refused told));
    }

-- both were written
pub returns-clause-limits : goal.returns-clause-limits
returns-clause-limits g c = c.put-2.ensures.steps.limits ∙ c.put.ensures.steps.limits ∙ c.bounds.ensures.limits

pub returns-clause-stays : goal.returns-clause-stays
returns-clause-stays g c told =
    let old = c.args.core.now in
    let caller = c.args.caller in
    let join = c.calls_join.ensures in
    join.stays old c.put.new.core c.put-2.new.core caller (join.stays old c.bounds.new.core c.put.new.core caller (c.bounds.ensures.stays told) (c.put.ensures.stays told)) (c.put-2.ensures.stays told)

pub returns-clause-within : goal.returns-clause-within
returns-clause-within g c told =
    let old = c.args.core.now in
    let caller = c.args.caller in
    let join = c.calls_join.ensures in
    join.within old c.put.new.core c.put-2.new.core caller (join.within old c.bounds.new.core c.put.new.core caller (c.bounds.ensures.stays_within told) (c.put.ensures.within told)) (c.put-2.ensures.within told)
