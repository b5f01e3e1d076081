use Rattle.history.proofs.Agreeing.{get-set_here, get-set_there}
use Rattle.history.proofs.laws.what_a_write_shows.Goals as goal

pub returns : goal.returns
returns c = record { here = get-set_here; there = λ table key other value. get-set_there table key value other }
