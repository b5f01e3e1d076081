use Rattle.std.proofs.Common.{refl, [], arith}
use Rattle.pcm_media.specs.declared.call.Call.TheVariants.{Read}
use Rattle.pcm_media.proofs.MemoryLemmas.{does, tells_either, content_same}
use Rattle.std.proofs.lemmas.Result.{err_from_is_err_and}
use Rattle.pcm_media.proofs.Promised.{keeps_promise}
use Rattle.pcm_media.proofs.memory_media.MemoryMediaMedia.read.Goals as goal

pub invariant_of-self : goal.invariant_of-self
invariant_of-self c = tells_either c.self.inside.start.items c.self.inside.journal c.make.new.self Read [] c.self.inside.bytes.items c.self.invariant refl c.make.result refl c.make.ensures.made c.make.ensures.listed

pub returns-in_err-make-clause-does : goal.returns-in_err-make-clause-does
returns-in_err-make-clause-does c =
    let p = err_from_is_err_and c.from_residual.result c.from_residual.ensures.1 in
    rw (p.1, ← c.self.view_is) (does c.self.inside.start.items c.self.inside.journal c.make.new.self Read [] c.self.inside.bytes.items c.self.invariant refl _ c.in_err-make.ensures.made)

pub invariant_of-self-2 : goal.invariant_of-self-2
invariant_of-self-2 c = tells_either c.self.inside.start.items c.self.inside.journal c.make.new.self Read [] c.self.inside.bytes.items c.self.invariant refl c.make.result refl c.make.ensures.made c.make.ensures.listed

pub returns-clause-does : goal.returns-clause-does
returns-clause-does c = rw (← c.self.view_is) (does c.self.inside.start.items c.self.inside.journal c.make.new.self Read [] c.self.inside.bytes.items c.self.invariant refl _ c.in_ok-make.ensures.made)

pub returns-clause-ticks : goal.returns-clause-ticks
returns-clause-ticks c = rw (← c.self.view_is) c.in_ok-make.ensures.made.ticks

pub returns-in_err-make-clause-same : goal.returns-in_err-make-clause-same
returns-in_err-make-clause-same c = rw (← c.self.view_is) (content_same c.self.inside.start.items c.self.inside.journal c.make.new.self Read [] c.self.inside.bytes.items c.self.invariant refl c.make.result refl refl c.make.ensures.made)

pub returns-clause-same : goal.returns-clause-same
returns-clause-same c = rw (← c.self.view_is) (content_same c.self.inside.start.items c.self.inside.journal c.make.new.self Read [] c.self.inside.bytes.items c.self.invariant refl c.make.result refl refl c.make.ensures.made)

pub returns-in_err-make-clause-steady : goal.returns-in_err-make-clause-steady
returns-in_err-make-clause-steady c =
    let p = err_from_is_err_and c.from_residual.result c.from_residual.ensures.1 in
    rw (p.1, ← c.self.view_is) (λ calls more. keeps_promise c.self.inside.journal c.make.new.self Read [] _ c.in_err-make.ensures.made c.in_err-make.ensures.listed calls more more (omega arith))

pub returns-clause-steady : goal.returns-clause-steady
returns-clause-steady c = rw (← c.self.view_is) (λ calls more. keeps_promise c.self.inside.journal c.make.new.self Read [] _ c.in_ok-make.ensures.made c.in_ok-make.ensures.listed calls more more (omega arith))
