use Rattle.std.proofs.Common.{List, ℕ, sym, ap, ◌∙◌, subst, length, ◌≡◌, arith}
use Rattle.mars_base.specs.Bytes.{put}
use Rattle.mars_base.proofs.Puts.{length-put}
use Rattle.tape_media.specs.Steps.{writes}
use Rattle.tape_media.specs.Tape.{Holds}
use Rattle.tape_media.proofs.TapeLemmas.{fits_in, does_step, holds_step, content_on_ok}
use Rattle.blank_media.proofs.Writing.{written_back}
use Rattle.blank_media.proofs.blank_media.BlankMediaMedia.write.Goals as goal

pub invariant_of-self-2 : goal.invariant_of-self-2
invariant_of-self-2 c =
    let items = c.self.inside.bytes.items in
    let fits = fits_in c.args.self.now _ c.args.at c.args.bytes.now items c.self.view_is c.self.invariant c.requires in
    let len : c.self.inside.bytes.len ≡ length items = omega arith in
    subst (Holds c.take.new.self) (sym (written_back items c.deref_mut.result.now c.overwrite.new.bytes c.args.bytes.now c.args.at c.self.inside.bytes.len len c.deref_mut.ensures.value c.overwrite.ensures fits))
    (holds_step c.self.inside.work c.take.new.self items c.self.invariant _ (writes c.args.at c.args.bytes.now) (put items c.args.at c.args.bytes.now) fits
    (length-put items c.args.at c.args.bytes.now fits) (ap (λ (l : List ℕ). put l c.args.at c.args.bytes.now) c.self.invariant.bytes) c.in_ok-take.ensures.takes)

pub returns-clause-written : goal.returns-clause-written
returns-clause-written c = rw (← c.self.view_is) (content_on_ok c.self.inside.work c.take.new.self c.self.inside.bytes.items c.self.invariant (writes c.args.at c.args.bytes.now) _ c.in_ok-take.ensures.takes)

pub returns-clause-does : goal.returns-clause-does
returns-clause-does c =
    let fits = fits_in c.args.self.now _ c.args.at c.args.bytes.now c.self.inside.bytes.items c.self.view_is c.self.invariant c.requires in
    rw (← c.self.view_is) (does_step c.self.inside.work c.take.new.self c.self.inside.bytes.items c.self.invariant (writes c.args.at c.args.bytes.now) _ fits c.in_ok-take.ensures.takes)
