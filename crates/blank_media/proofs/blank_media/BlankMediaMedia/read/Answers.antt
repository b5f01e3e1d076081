use Rattle.tape_media.proofs.TapeLemmas.{does_none, holds_none}
use Rattle.blank_media.proofs.blank_media.BlankMediaMedia.read.Goals as goal

pub invariant_of-self-2 : goal.invariant_of-self-2
invariant_of-self-2 c = holds_none c.self.inside.work c.pass.new.self c.self.inside.bytes.items c.self.invariant c.pass.result c.pass.ensures.takes

pub returns-clause-does : goal.returns-clause-does
returns-clause-does c = rw (← c.self.view_is) (does_none c.self.inside.work c.pass.new.self c.self.inside.bytes.items c.self.invariant _ c.in_ok-pass.ensures.takes)
