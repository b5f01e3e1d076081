use Rattle.std.proofs.Common.{[], ◌∷◌}
use Rattle.resident_media.specs.Past.{newest, with_moment}
use Rattle.resident_media.proofs.past.with_moment.Given as goal

abbrev pub ghost-of : goal.ghost-of
ghost-of g a = with_moment (g.M.Media.view a._from.now.1.now) (newest a._from.now.0.now.said) ∷ []
