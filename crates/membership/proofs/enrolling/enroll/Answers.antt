use Rattle.membership.proofs.Step.{in_step}
use Rattle.membership.proofs.enrolling.enroll.Goals as goal

pub returns-clause-in_step : goal.returns-clause-in_step
returns-clause-in_step g c told apart keeps =
    let core = g.C.Core in
    let writes = c.what_a_write_shows.ensures in
    in_step writes.here writes.there c.args.groups apart c.args.caller c.args.user c.args.group (core.view c.args.core.now) (core.view c.transaction.new.core) c.ranges.user.fits c.ranges.group.fits (c.transaction.ensures.goes_on told).base keeps
    (c.transaction.ensures.grows told)
