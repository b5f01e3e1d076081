use Rattle.std.proofs.Common.{take, ◌++◌}
use Rattle.history.specs.Legal.{records}
use Rattle.job_queue.proofs.Going.{kept_along}
use Rattle.job_queue.proofs.laws.no_job_is_lost.Goals as goal

pub returns-clause-images : goal.returns-clause-images
returns-clause-images g c core since least size image first deeds along safe left =
    let prefix = safe image left in
    let state = (g.C.Core.view core).state in
    record {
      count = prefix.count;
      at_least = prefix.at_least;
      table = records state.base (take prefix.count (state.history ++ state.doubt));
      opens = prefix.opens;
      kept = kept_along size state.base first (state.history ++ state.doubt) deeds prefix.count along;
    }
