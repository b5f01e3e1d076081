use Rattle.std.proofs.Common.{[], ◌∷◌}
use Rattle.resident_media.specs.Noted.{at_first}
use Rattle.resident_media.proofs.past.at_first.Given as goal

abbrev pub ghost-of : goal.ghost-of
ghost-of g a = at_first (g.M.Media.view a._from.now) ∷ []
