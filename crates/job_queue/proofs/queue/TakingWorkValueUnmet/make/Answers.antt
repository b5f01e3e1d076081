use Rattle.std.proofs.Common.{◌≡◌, ℕ, ◌+◌, inr, List, Option, None, Ok, ◌∙◌, subst, arith}
use Rattle.std.specs.Prelude.{IsTrue}
use Rattle.history.specs.Key.{main_name}
use Rattle.history.specs.declared.call.TableCall.TheVariants.{Get}
use Rattle.history.specs.declared.call.Reply.TheVariants.{Absent}
use Rattle.caller_steps.specs.Core.{CoreView}
use Rattle.transactions.specs.Adds.{Adds}
use Rattle.transactions.specs.Told.{told_get}
use Rattle.transactions.specs.declared.work.Stop.TheVariants.{Refused}
use Rattle.transactions.proofs.Handing.{handed_on, none_handed_on}
use Rattle.job_queue.proofs.Missing.{job_out}
use Rattle.job_queue.proofs.queue.TakingWorkValueUnmet.make.Goals as goal

-- it was told that there is no such record
job_told : (caller key : ℕ) (table : List ℕ) (mid new : CoreView) (told : Option (List ℕ)) → table ≡ main_name → told ≡ None → Adds caller (Get table key) (told_get (Ok told)) mid new → Adds caller (Get main_name key) Absent mid new
job_told caller key table mid new told is gone adds =
    subst (λ (name : List ℕ). Adds caller (Get name key) Absent mid new) is (subst (λ (o : Option (List ℕ)). Adds caller (Get table key) (told_get (Ok o)) mid new) gone adds)

-- the bounds were not read,
pub returns-in_err-first : goal.returns-in_err-first
returns-in_err-first g c =
    let stop = c.in_err-first.field-0.0 in
    record {
      limits = c.bounds.ensures.limits;
      stays = c.bounds.ensures.stays;
      within = c.bounds.ensures.stays_within;
      done = λ told. none_handed_on c.from_residual.result stop c.from_residual.ensures _;
      stopped = λ told. handed_on c.from_residual.result stop c.from_residual.ensures _ (c.in_err-first.ensures.none told);
      of_core = λ told. handed_on c.from_residual.result stop c.from_residual.ensures _ (c.in_err-first.ensures.of_core told);
    }

-- or they were, and the record of the first job was asked for
pub returns-in_err-job : goal.returns-in_err-job
returns-in_err-job g c =
    let old = c.args.core.now in
    let caller = c.args.caller in
    let join = c.calls_join.ensures in
    let stop = Refused c.in_err-job.field-0.0 in
    record {
      limits = c.get.ensures.steps.limits ∙ c.bounds.ensures.limits;
      stays = λ told. join.stays old c.bounds.new.core c.get.new.core caller (c.bounds.ensures.stays told) (c.get.ensures.stays told);
      within = λ told. join.within old c.bounds.new.core c.get.new.core caller (c.bounds.ensures.stays_within told) (c.get.ensures.within told);
      done = λ told. none_handed_on c.from_residual-in_err-job.result stop c.from_residual-in_err-job.ensures _;
      stopped = λ told. handed_on c.from_residual-in_err-job.result stop c.from_residual-in_err-job.ensures _ tt;
      of_core = λ told. handed_on c.from_residual-in_err-job.result stop c.from_residual-in_err-job.ensures _ (join.later old c.bounds.new.core c.get.new.core caller stop (c.bounds.ensures.stays told) (c.in_err-job.ensures.refused told));
    }

pub returns-in_default : goal.returns-in_default
returns-in_default g c =
    let first = c.in_ok-first.first in
    let count = c.in_ok-first.count in
    let most = c.in_ok-first.ensures.most in
    let inside = c.in_ok-first.ensures.within in
    let few = c.in_ok-first.ensures.few in
    let mid = g.C.Core.view c.bounds.new.core in
    let new = g.C.Core.view c.get.new.core in
    let old = c.args.core.now in
    let caller = c.args.caller in
    let join = c.calls_join.ensures in
    let asked = λ (told : IsTrue g.C.Core.tells). join.stays old c.bounds.new.core c.get.new.core caller (c.bounds.ensures.stays told) (c.get.ensures.stays told) in
    record {
      limits = c.get.ensures.steps.limits ∙ c.bounds.ensures.limits;
      stays = asked;
      within = λ told. join.within old c.bounds.new.core c.get.new.core caller (c.bounds.ensures.stays_within told) (c.get.ensures.within told);
      done = λ told. tt;
      stopped = λ told.
          let adds = job_told caller (first + 2) c.main_table.result mid new c.in_ok-job.field-0 c.main_table.ensures c.in_default.is (c.in_ok-job.ensures.ok told) in
          inr (job_out c.args.self.now.size caller first count (g.C.Core.view old) mid (omega (arith, most)) (c.requires.begun told) (c.in_ok-first.ensures.found told) new (asked told) adds (omega (arith, most, inside)) (omega (arith, most, few)) (omega arith));
      of_core = λ told. tt;
    }

-- then the place of the next job was written
pub returns-in_err-put : goal.returns-in_err-put
returns-in_err-put g c =
    let old = c.args.core.now in
    let caller = c.args.caller in
    let join = c.calls_join.ensures in
    let asked = λ (told : IsTrue g.C.Core.tells). join.stays old c.bounds.new.core c.get.new.core caller (c.bounds.ensures.stays told) (c.get.ensures.stays told) in
    let asks = λ (told : IsTrue g.C.Core.tells). join.within old c.bounds.new.core c.get.new.core caller (c.bounds.ensures.stays_within told) (c.get.ensures.within told) in
    let stop = Refused c.in_err-put.field-0.0 in
    record {
      limits = c.put.ensures.steps.limits ∙ c.get.ensures.steps.limits ∙ c.bounds.ensures.limits;
      stays = λ told. join.stays old c.get.new.core c.put.new.core caller (asked told) (c.put.ensures.stays told);
      within = λ told. join.within old c.get.new.core c.put.new.core caller (asks told) (c.put.ensures.within told);
      done = λ told. none_handed_on c.from_residual-in_err-put.result stop c.from_residual-in_err-put.ensures _;
      stopped = λ told. handed_on c.from_residual-in_err-put.result stop c.from_residual-in_err-put.ensures _ tt;
      of_core = λ told. handed_on c.from_residual-in_err-put.result stop c.from_residual-in_err-put.ensures _ (join.later old c.get.new.core c.put.new.core caller stop (asked told) (c.in_err-put.ensures.refused told));
    }

-- and how many there are
pub returns-in_err-put-2 : goal.returns-in_err-put-2
returns-in_err-put-2 g c =
    let old = c.args.core.now in
    let caller = c.args.caller in
    let join = c.calls_join.ensures in
    let asked = λ (told : IsTrue g.C.Core.tells). join.stays old c.bounds.new.core c.get.new.core caller (c.bounds.ensures.stays told) (c.get.ensures.stays told) in
    let asks = λ (told : IsTrue g.C.Core.tells). join.within old c.bounds.new.core c.get.new.core caller (c.bounds.ensures.stays_within told) (c.get.ensures.within told) in
    let one = λ (told : IsTrue g.C.Core.tells). join.stays old c.get.new.core c.put.new.core caller (asked told) (c.put.ensures.stays told) in
    let goes_one = λ (told : IsTrue g.C.Core.tells). join.within old c.get.new.core c.put.new.core caller (asks told) (c.put.ensures.within told) in
    let stop = Refused c.in_err-put-2.field-0.0 in
    record {
      limits = c.put-2.ensures.steps.limits ∙ c.put.ensures.steps.limits ∙ c.get.ensures.steps.limits ∙ c.bounds.ensures.limits;
      stays = λ told. join.stays old c.put.new.core c.put-2.new.core caller (one told) (c.put-2.ensures.stays told);
      within = λ told. join.within old c.put.new.core c.put-2.new.core caller (goes_one told) (c.put-2.ensures.within told);
      done = λ told. none_handed_on c.from_residual-in_err-put-2.result stop c.from_residual-in_err-put-2.ensures _;
      stopped = λ told. handed_on c.from_residual-in_err-put-2.result stop c.from_residual-in_err-put-2.ensures _ tt;
      of_core = λ told. handed_on c.from_residual-in_err-put-2.result stop c.from_residual-in_err-put-2.ensures _ (join.later old c.put.new.core c.put-2.new.core caller stop (one told) (c.in_err-put-2.ensures.refused told));
    }

pub returns-clause-limits : goal.returns-clause-limits
returns-clause-limits g c = c.put-2.ensures.steps.limits ∙ c.put.ensures.steps.limits ∙ c.get.ensures.steps.limits ∙ c.bounds.ensures.limits

pub returns-clause-stays : goal.returns-clause-stays
returns-clause-stays g c told =
    let old = c.args.core.now in
    let caller = c.args.caller in
    let join = c.calls_join.ensures in
    let asked = join.stays old c.bounds.new.core c.get.new.core caller (c.bounds.ensures.stays told) (c.get.ensures.stays told) in
    join.stays old c.put.new.core c.put-2.new.core caller (join.stays old c.get.new.core c.put.new.core caller asked (c.put.ensures.stays told)) (c.put-2.ensures.stays told)

pub returns-clause-within : goal.returns-clause-within
returns-clause-within g c told =
    let old = c.args.core.now in
    let caller = c.args.caller in
    let join = c.calls_join.ensures in
    let asks = join.within old c.bounds.new.core c.get.new.core caller (c.bounds.ensures.stays_within told) (c.get.ensures.within told) in
    join.within old c.put.new.core c.put-2.new.core caller (join.within old c.get.new.core c.put.new.core caller asks (c.put.ensures.within told)) (c.put-2.ensures.within told)
