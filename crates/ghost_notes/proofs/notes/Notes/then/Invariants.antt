use Rattle.std.proofs.Common.{[], ◌∷◌, ◌++◌}
use Rattle.ghost_notes.proofs.notes.Notes.then.Given as goal

abbrev pub ghost-of : goal.ghost-of
ghost-of g a = a._from.now.said ++ g.more ∷ []
