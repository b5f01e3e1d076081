use Rattle.std.proofs.lemmas.Bool.{false≢true}
use Rattle.mirror.proofs.Whole.{open_needs}
use Rattle.mirror.proofs.place.Place.is_end.Goals as goal

pub returns-in_default : goal.returns-in_default
returns-in_default c shape ready = ((λ no. absurd (false≢true no)), (λ rest. absurd (open_needs shape c.args.self ready c.in_default.not-End rest)))
