use Rattle.array_image.proofs.Applied.{applied_over}
use Rattle.array_image.proofs.laws.applied_again_is_applied.Goals as goal

pub returns : goal.returns
returns c ps bytes others fit same = applied_over ps bytes others fit same
