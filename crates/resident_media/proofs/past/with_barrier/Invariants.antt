use Rattle.std.proofs.Common.{[], ◌∷◌}
use Rattle.resident_media.specs.Past.{newest, with_barrier}
use Rattle.resident_media.proofs.past.with_barrier.Given as goal

abbrev pub ghost-of : goal.ghost-of
ghost-of a = with_barrier (newest a._from.now.said) ∷ []
