use Rattle.array_shape.proofs.Apart.{place_injective}
use Rattle.array_shape.proofs.laws.addresses_are_apart.Goals as goal

pub returns-clause-apart : goal.returns-clause-apart
returns-clause-apart c = place_injective c.args.shape.now
