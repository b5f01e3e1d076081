use Rattle.std.proofs.Common.{rules, ◌+◌, ◌≤◌, ◌∙◌, arith}
use Rattle.std.specs.Prelude.{IsTrue}
use Rattle.transactions.specs.Tries.{was_busy}
use Rattle.transactions.proofs.Again.{tried_on, often_once}
use Rattle.transactions.proofs.Trying.{tries_on, tries_few}
use Rattle.transactions.proofs.making.transaction_retried.Goals as goal

pub loop-retry-init : goal.loop-retry-init
loop-retry-init g c = record {
  limits = c.transaction-outcome.ensures.limits;
  tried = λ told. let e = c.transaction-outcome.ensures in record {
    goes_on = e.goes_on told;
    made = e.made told;
    refused = e.refused told;
    cause = e.cause told;
    of_core = e.of_core told;
    tries = e.tries told;
    often = often_once _ _ _ _ (e.of_core told);
    went = e.went told;
    ended = e.ended told;
    others = e.others told;
    offers = e.offers told;
    certain = e.certain told;
    doubt = e.doubt told;
    grows = e.grows told;
  };
  tries = λ told. tries_few 1 (c.args.retries + 1) c.args.caller _ _ (c.transaction-outcome.ensures.tries told) (omega arith);
}

pub loop-retry-preserved : goal.loop-retry-preserved
loop-retry-preserved g c = record {
  limits = c.transaction-outcome-in-loop-retry.ensures.limits ∙ c.loop-retry.invariant.limits;
  tried = λ told.
      let e = c.transaction-outcome-in-loop-retry.ensures in
      let before = c.loop-retry.invariant.tried told in
      let busy : IsTrue (was_busy c.loop-retry.outcome) = search rules in
      tried_on _ _ _ c.args.caller (g.C.Core.view c.args.core.now) (g.C.Core.view c.loop-retry.core) (g.C.Core.view c.transaction-outcome-in-loop-retry.new.core) c.loop-retry.outcome _ busy
      (c.prefix_law.ensures.on c.args.core.now c.loop-retry.core c.transaction-outcome-in-loop-retry.new.core before.goes_on (e.goes_on told)) before
      record {
        goes_on = e.goes_on told;
        made = e.made told;
        refused = e.refused told;
        cause = e.cause told;
        of_core = e.of_core told;
        tries = e.tries told;
        often = often_once _ _ _ _ (e.of_core told);
        went = e.went told;
        ended = e.ended told;
        others = e.others told;
        offers = e.offers told;
        certain = e.certain told;
        doubt = e.doubt told;
        grows = e.grows told;
      };
  tries = λ told.
      let e = c.transaction-outcome-in-loop-retry.ensures in
      let before = c.loop-retry.invariant.tried told in
      let le : c.loop-retry._retry + 1 + 1 ≤ c.args.retries + 1 = omega arith in
      tries_few (c.loop-retry._retry + 1 + 1) (c.args.retries + 1) c.args.caller _ _
      (tries_on (c.loop-retry._retry + 1) 1 c.args.caller (g.C.Core.view c.args.core.now) (g.C.Core.view c.loop-retry.core) (g.C.Core.view c.transaction-outcome-in-loop-retry.new.core) before.goes_on.limits before.tries (e.tries told)) le;
}

-- what is answered is what the last try came to
pub returns-then-not-is_busy-clause-goes_on : goal.returns-then-not-is_busy-clause-goes_on
returns-then-not-is_busy-clause-goes_on g c told = (c.loop-retry.invariant.tried told).goes_on

pub returns-then-not-is_busy-clause-made : goal.returns-then-not-is_busy-clause-made
returns-then-not-is_busy-clause-made g c told = (c.loop-retry.invariant.tried told).made

pub returns-then-not-is_busy-clause-refused : goal.returns-then-not-is_busy-clause-refused
returns-then-not-is_busy-clause-refused g c told = (c.loop-retry.invariant.tried told).refused

pub returns-then-not-is_busy-clause-cause : goal.returns-then-not-is_busy-clause-cause
returns-then-not-is_busy-clause-cause g c told = (c.loop-retry.invariant.tried told).cause

pub returns-then-not-is_busy-clause-of_core : goal.returns-then-not-is_busy-clause-of_core
returns-then-not-is_busy-clause-of_core g c told = (c.loop-retry.invariant.tried told).of_core

pub returns-then-not-is_busy-clause-went : goal.returns-then-not-is_busy-clause-went
returns-then-not-is_busy-clause-went g c told = (c.loop-retry.invariant.tried told).went

pub returns-then-not-is_busy-clause-ended : goal.returns-then-not-is_busy-clause-ended
returns-then-not-is_busy-clause-ended g c told = (c.loop-retry.invariant.tried told).ended

pub returns-then-not-is_busy-clause-others : goal.returns-then-not-is_busy-clause-others
returns-then-not-is_busy-clause-others g c told = (c.loop-retry.invariant.tried told).others

pub returns-then-not-is_busy-clause-offers : goal.returns-then-not-is_busy-clause-offers
returns-then-not-is_busy-clause-offers g c told = (c.loop-retry.invariant.tried told).offers

pub returns-then-not-is_busy-clause-certain : goal.returns-then-not-is_busy-clause-certain
returns-then-not-is_busy-clause-certain g c told = (c.loop-retry.invariant.tried told).certain

pub returns-then-not-is_busy-clause-doubt : goal.returns-then-not-is_busy-clause-doubt
returns-then-not-is_busy-clause-doubt g c told = (c.loop-retry.invariant.tried told).doubt

pub returns-then-not-is_busy-clause-grows : goal.returns-then-not-is_busy-clause-grows
returns-then-not-is_busy-clause-grows g c told = (c.loop-retry.invariant.tried told).grows

pub returns-then-not-is_busy-clause-tries : goal.returns-then-not-is_busy-clause-tries
returns-then-not-is_busy-clause-tries g c told = c.loop-retry.invariant.tries told

pub returns-clause-goes_on : goal.returns-clause-goes_on
returns-clause-goes_on g c told = (c.loop-retry.invariant.tried told).goes_on

pub returns-clause-made : goal.returns-clause-made
returns-clause-made g c told = (c.loop-retry.invariant.tried told).made

pub returns-clause-refused : goal.returns-clause-refused
returns-clause-refused g c told = (c.loop-retry.invariant.tried told).refused

pub returns-clause-cause : goal.returns-clause-cause
returns-clause-cause g c told = (c.loop-retry.invariant.tried told).cause

pub returns-clause-of_core : goal.returns-clause-of_core
returns-clause-of_core g c told = (c.loop-retry.invariant.tried told).of_core

pub returns-clause-went : goal.returns-clause-went
returns-clause-went g c told = (c.loop-retry.invariant.tried told).went

pub returns-clause-ended : goal.returns-clause-ended
returns-clause-ended g c told = (c.loop-retry.invariant.tried told).ended

pub returns-clause-others : goal.returns-clause-others
returns-clause-others g c told = (c.loop-retry.invariant.tried told).others

pub returns-clause-offers : goal.returns-clause-offers
returns-clause-offers g c told = (c.loop-retry.invariant.tried told).offers

pub returns-clause-certain : goal.returns-clause-certain
returns-clause-certain g c told = (c.loop-retry.invariant.tried told).certain

pub returns-clause-doubt : goal.returns-clause-doubt
returns-clause-doubt g c told = (c.loop-retry.invariant.tried told).doubt

pub returns-clause-grows : goal.returns-clause-grows
returns-clause-grows g c told = (c.loop-retry.invariant.tried told).grows

pub returns-clause-tries : goal.returns-clause-tries
returns-clause-tries g c told = c.loop-retry.invariant.tries told
