use Rattle.std.proofs.Common.{◌∙◌}
use Rattle.std.specs.Prelude.{IsTrue}
use Rattle.transactions.specs.declared.work.Stop.TheVariants.{Refused}
use Rattle.transactions.proofs.Handing.{handed_on, none_handed_on}
use Rattle.membership.proofs.enrolling.EntryWorkUnitTaken.make.Goals as goal

-- the user was not looked up,
pub returns-in_err-get : goal.returns-in_err-get
returns-in_err-get g c =
    let stop = Refused c.in_err-get.field-0.0 in
    record {
      limits = c.get.ensures.steps.limits;
      stays = c.get.ensures.stays;
      within = c.get.ensures.within;
      done = λ told. none_handed_on c.from_residual.result stop c.from_residual.ensures _;
      stopped = λ told. handed_on c.from_residual.result stop c.from_residual.ensures _ tt;
      of_core = λ told. handed_on c.from_residual.result stop c.from_residual.ensures _ (c.in_err-get.ensures.refused told);
    }

-- or was, and the record of the user was refused
pub returns-in_err-put : goal.returns-in_err-put
returns-in_err-put g c =
    let old = c.args.core.now in
    let caller = c.args.caller in
    let join = c.calls_join.ensures in
    let stop = Refused c.in_err-put.field-0.0 in
    record {
      limits = c.put.ensures.steps.limits ∙ c.get.ensures.steps.limits;
      stays = λ told. join.stays old c.get.new.core c.put.new.core caller (c.get.ensures.stays told) (c.put.ensures.stays told);
      within = λ told. join.within old c.get.new.core c.put.new.core caller (c.get.ensures.within told) (c.put.ensures.within told);
      done = λ told. none_handed_on c.from_residual-in_err-put.result stop c.from_residual-in_err-put.ensures _;
      stopped = λ told. handed_on c.from_residual-in_err-put.result stop c.from_residual-in_err-put.ensures _ tt;
      of_core = λ told. handed_on c.from_residual-in_err-put.result stop c.from_residual-in_err-put.ensures _ (join.later old c.get.new.core c.put.new.core caller stop (c.get.ensures.stays told) (c.in_err-put.ensures.refused told));
    }

-- it was written, and that of the pair was refused
pub returns-in_err-put-2 : goal.returns-in_err-put-2
returns-in_err-put-2 g c =
    let old = c.args.core.now in
    let caller = c.args.caller in
    let join = c.calls_join.ensures in
    let one = λ (told : IsTrue g.C.Core.tells). join.stays old c.get.new.core c.put.new.core caller (c.get.ensures.stays told) (c.put.ensures.stays told) in
    let stop = Refused c.in_err-put-2.field-0.0 in
    record {
      limits = c.put-2.ensures.steps.limits ∙ c.put.ensures.steps.limits ∙ c.get.ensures.steps.limits;
      stays = λ told. join.stays old c.put.new.core c.put-2.new.core caller (one told) (c.put-2.ensures.stays told);
      within = λ told. join.within old c.put.new.core c.put-2.new.core caller (join.within old c.get.new.core c.put.new.core caller (c.get.ensures.within told) (c.put.ensures.within told)) (c.put-2.ensures.within told);
      done = λ told. none_handed_on c.from_residual-in_err-put-2.result stop c.from_residual-in_err-put-2.ensures _;
      stopped = λ told. handed_on c.from_residual-in_err-put-2.result stop c.from_residual-in_err-put-2.ensures _ tt;
      of_core = λ told. handed_on c.from_residual-in_err-put-2.result stop c.from_residual-in_err-put-2.ensures _ (join.later old c.put.new.core c.put-2.new.core caller stop (one told) (c.in_err-put-2.ensures.refused told));
    }

-- both were written
pub returns-clause-limits : goal.returns-clause-limits
returns-clause-limits g c = c.put-2.ensures.steps.limits ∙ c.put.ensures.steps.limits ∙ c.get.ensures.steps.limits

pub returns-clause-stays : goal.returns-clause-stays
returns-clause-stays g c told =
    let old = c.args.core.now in
    let caller = c.args.caller in
    let join = c.calls_join.ensures in
    join.stays old c.put.new.core c.put-2.new.core caller (join.stays old c.get.new.core c.put.new.core caller (c.get.ensures.stays told) (c.put.ensures.stays told)) (c.put-2.ensures.stays told)

pub returns-clause-within : goal.returns-clause-within
returns-clause-within g c told =
    let old = c.args.core.now in
    let caller = c.args.caller in
    let join = c.calls_join.ensures in
    join.within old c.put.new.core c.put-2.new.core caller (join.within old c.get.new.core c.put.new.core caller (c.get.ensures.within told) (c.put.ensures.within told)) (c.put-2.ensures.within told)
