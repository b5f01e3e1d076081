use Rattle.std.proofs.Common.{refl, sym, ◌∙◌}
use Rattle.array_shape.proofs.Sets.{from_end}
use Rattle.array_shape.proofs.number_set.MembersIterator.next.Goals as goal

pub returns-in_default-clause-steps : goal.returns-in_default-clause-steps
returns-in_default-clause-steps c = (sym c.self.view_is ∙ c.in_default.ensures.none refl, from_end c.self.inside.set.bits)
