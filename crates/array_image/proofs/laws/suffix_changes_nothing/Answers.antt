use Rattle.array_image.proofs.Applied.{applied_suffix}
use Rattle.array_image.proofs.laws.suffix_changes_nothing.Goals as goal

pub returns : goal.returns
returns c ps qs bytes fit = applied_suffix ps qs bytes fit
