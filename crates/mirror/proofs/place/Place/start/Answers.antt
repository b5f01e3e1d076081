use Rattle.mirror.proofs.Whole.{starts}
use Rattle.mirror.proofs.place.Place.start.Goals as goal

pub returns-clause-same : goal.returns-clause-same
returns-clause-same c = starts
