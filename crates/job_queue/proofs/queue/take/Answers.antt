use Rattle.history.specs.Key.{of_main}
use Rattle.history.specs.declared.key.Key.{Key}
use Rattle.std.proofs.Common.{ap}
use Rattle.job_queue.proofs.Staying.{take_stays}
use Rattle.job_queue.proofs.queue.take.Goals as goal

pub returns-clause-along : goal.returns-clause-along
returns-clause-along g c told =
    let core = g.C.Core in
    take_stays (λ table key value. c.what_a_write_shows.ensures.here table (of_main key) value) (λ table key other value ne. c.what_a_write_shows.ensures.there table (of_main key) (of_main other) value (λ is. ne (ap (λ (k : Key). k.key) is))) c.args.size c.args.caller (core.view c.args.core.now) (core.view c.transaction.new.core) (c.transaction.ensures.goes_on told).base (c.transaction.ensures.grows told)
