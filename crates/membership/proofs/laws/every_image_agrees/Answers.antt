use Rattle.std.proofs.Common.{zero, suc, take, ◌++◌}
use Rattle.history.specs.Legal.{records}
use Rattle.membership.proofs.laws.every_image_agrees.Goals as goal

pub returns-clause-images : goal.returns-clause-images
returns-clause-images g c groups core since least image stays safe left =
    let prefix = safe image left in
    let state = (g.C.Core.view core).state in
    (records state.base (take prefix.count (state.history ++ state.doubt)), prefix.opens, stays prefix.count)

pub returns-clause-begun : goal.returns-clause-begun
returns-clause-begun g c groups names base index step zero = step
returns-clause-begun g c groups names base index step (suc count) = step
