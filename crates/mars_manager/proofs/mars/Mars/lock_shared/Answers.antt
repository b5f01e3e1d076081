use Rattle.std.proofs.Common.{◌≡◌, get_or, ap, ◌∙◌, sym, ⊎_elim}
use Rattle.history.specs.declared.locks.Mode.TheVariants as mode
use Rattle.stripe_words.specs.declared.hold.Hold.TheVariants.{Free, Shared, Exclusive}
use Rattle.stripe_words.specs.Words.{raised}
use Rattle.mars_manager.specs.declared.view.Known.{Known}
use Rattle.mars_manager.specs.Pass.{PassView}
use Rattle.mars_manager.specs.Locks.{hold_of}
use Rattle.mars_manager.proofs.Knowns.{held_before}
use Rattle.mars_manager.proofs.mars.Mars.lock_shared.Goals as goal

pub returns-in-Shared-clause-held : goal.returns-in-Shared-clause-held
returns-in-Shared-clause-held g c =
    let t = c.args.stripe in
    let k = ap (λ (p : PassView g.row.C.Denot). p.known) c.pass.view_is in
    let same : hold_of t c.args.pass.now.known ≡ get_or c.pass.inside.holds c.from-at.result Free = (λ i. get_or ((ap (λ (k : Known g.row.C.Denot). k.holds) (sym k) ∙ c.pass.invariant.same) i) (sym c.from-at.ensures i) Free) in
    held_before mode.Shared t c.args.pass.now.known (⊎_elim
    (λ (is : get_or c.pass.inside.holds c.from-at.result Free ≡ Shared). ap (raised mode.Shared) (same ∙ is) ∙ sym (same ∙ is))
    (λ (is : get_or c.pass.inside.holds c.from-at.result Free ≡ Exclusive). ap (raised mode.Shared) (same ∙ is) ∙ sym (same ∙ is))
    c.in-Shared.is)
