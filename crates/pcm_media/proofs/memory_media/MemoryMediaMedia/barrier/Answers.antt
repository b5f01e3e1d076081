use Rattle.std.proofs.Common.{refl, [], arith}
use Rattle.pcm_media.specs.declared.call.Call.TheVariants.{Barrier}
use Rattle.pcm_media.proofs.MemoryLemmas.{does, tells_either, content_on_ok, content_on_err}
use Rattle.pcm_media.proofs.Promised.{keeps_promise}
use Rattle.pcm_media.proofs.memory_media.MemoryMediaMedia.barrier.Goals as goal

pub invariant_of-self : goal.invariant_of-self
invariant_of-self c = tells_either c.self.inside.start.items c.self.inside.journal c.make.new.self Barrier [] c.self.inside.bytes.items c.self.invariant refl c.make.result refl c.make.ensures.made c.make.ensures.listed

pub returns-clause-settled : goal.returns-clause-settled
returns-clause-settled c = rw (← c.self.view_is) (content_on_ok c.self.inside.start.items c.self.inside.journal c.make.new.self Barrier [] c.self.inside.bytes.items c.self.invariant refl c.make.result c.make.ensures.made)

pub returns-clause-does : goal.returns-clause-does
returns-clause-does c = rw (← c.self.view_is) (does c.self.inside.start.items c.self.inside.journal c.make.new.self Barrier [] c.self.inside.bytes.items c.self.invariant refl c.make.result c.make.ensures.made)

pub returns-clause-ticks : goal.returns-clause-ticks
returns-clause-ticks c = rw (← c.self.view_is) c.make.ensures.made.ticks

pub returns-clause-err : goal.returns-clause-err
returns-clause-err c = rw (← c.self.view_is) (content_on_err c.self.inside.start.items c.self.inside.journal c.make.new.self Barrier [] c.self.inside.bytes.items c.self.invariant refl c.make.result refl c.make.ensures.made)

pub returns-clause-steady : goal.returns-clause-steady
returns-clause-steady c = rw (← c.self.view_is) (λ calls more. keeps_promise c.self.inside.journal c.make.new.self Barrier [] c.make.result c.make.ensures.made c.make.ensures.listed calls more more (omega arith))
