use Rattle.std.proofs.Common.{◌∷◌}
use Rattle.record_table.proofs.slots.heard.Given as goal

abbrev pub ghost-of : goal.ghost-of
ghost-of a = (a._from.now.1, a._from.now.2, a._from.now.3.now) ∷ a._from.now.0.now.said
