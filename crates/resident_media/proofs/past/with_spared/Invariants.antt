use Rattle.std.proofs.Common.{[], ◌∷◌, length}
use Rattle.resident_media.specs.Past.{newest, with_spared}
use Rattle.resident_media.proofs.past.with_spared.Given as goal

abbrev pub ghost-of : goal.ghost-of
ghost-of a = with_spared a._from.now.1 (length a._from.now.2.now) (newest a._from.now.0.now.said) ∷ []
