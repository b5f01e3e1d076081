use Rattle.std.proofs.Common.{[], ◌∷◌, length}
use Rattle.resident_media.specs.Past.{newest, with_write}
use Rattle.resident_media.proofs.past.with_write.Given as goal

abbrev pub ghost-of : goal.ghost-of
ghost-of a = with_write a._from.now.1 (length a._from.now.2.now) (newest a._from.now.0.now.said) ∷ []
