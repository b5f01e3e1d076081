use Rattle.tape_media.specs.Steps.{barrier}
use Rattle.tape_media.proofs.TapeLemmas.{does_step, content_on_ok, holds_barrier}
use Rattle.blank_media.proofs.blank_media.BlankMediaMedia.barrier.Goals as goal

pub invariant_of-self : goal.invariant_of-self
invariant_of-self c = holds_barrier c.self.inside.work c.take.new.self c.self.inside.bytes.items c.self.invariant c.take.result c.take.ensures.takes

pub returns-clause-settled : goal.returns-clause-settled
returns-clause-settled c = rw (← c.self.view_is) (content_on_ok c.self.inside.work c.take.new.self c.self.inside.bytes.items c.self.invariant barrier c.take.result c.take.ensures.takes)

pub returns-clause-does : goal.returns-clause-does
returns-clause-does c = rw (← c.self.view_is) (does_step c.self.inside.work c.take.new.self c.self.inside.bytes.items c.self.invariant barrier c.take.result tt c.take.ensures.takes)
