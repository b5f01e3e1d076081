use Rattle.std.proofs.Common.{ap, ◌∙◌, sym, subst}
use Rattle.mars_manager.specs.declared.view.Known.{Known}
use Rattle.mars_manager.specs.Pass.{PassView}
use Rattle.mars_manager.specs.Locks.{IsPass}
use Rattle.mars_manager.proofs.Striping.{pass_is, number_is}
use Rattle.mars_manager.proofs.pass.Pass.number.Goals as goal

pub returns-clause-number : goal.returns-clause-number
returns-clause-number g c = sym (number_is c.self.inside.number c.self.inside.seat.me c.self.invariant.seat) ∙ ap (λ (p : PassView g.row.C.Denot). p.known.number) c.self.view_is

pub returns-clause-stands : goal.returns-clause-stands
returns-clause-stands g c = subst (λ (k : Known g.row.C.Denot). IsPass k) (ap (λ (p : PassView g.row.C.Denot). p.known) c.self.view_is) (pass_is c.self.inside.number c.self.inside.names c.self.inside.holds c.self.inside.takes c.self.inside.seat.me c.self.invariant)
