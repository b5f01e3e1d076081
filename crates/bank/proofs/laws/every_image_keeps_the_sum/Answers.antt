use Rattle.std.proofs.Common.{zero, suc, refl, take, ◌++◌}
use Rattle.history.specs.Legal.{records}
use Rattle.bank.proofs.laws.every_image_keeps_the_sum.Goals as goal

pub returns-clause-images : goal.returns-clause-images
returns-clause-images g c core since least image balanced safe left =
    let prefix = safe image left in
    let state = (g.C.Core.view core).state in
    (records state.base (take prefix.count (state.history ++ state.doubt)), prefix.opens, balanced prefix.count)

pub returns-clause-begun : goal.returns-clause-begun
returns-clause-begun g c names base index zero = refl
returns-clause-begun g c names base index (suc count) = refl
