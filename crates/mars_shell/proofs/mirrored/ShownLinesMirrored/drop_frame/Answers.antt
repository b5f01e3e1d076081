use Rattle.std.proofs.Common.{sym, ap, subst, ◌∙◌}
use Rattle.caller_steps.specs.Core.{CoreView}
use Rattle.mars_core.specs.Held.{core_of}
use Rattle.mars_shell.specs.Standing.{Stands, IsShown, Comes}
use Rattle.mars_shell.proofs.GivingUp.{core_is, stands_on, comes_on}
use Rattle.mars_shell.proofs.mirrored.ShownLinesMirrored.drop_frame.Goals as goal

pub returns-clause-stands : goal.returns-clause-stands
returns-clause-stands g c =
    let s = g.S.EawStore in
    let index = g.I.KeyIndex.index in
    let was = c.args.self.now.lines.core in
    let is = c.drop_frame.new.self in
    let old = s.view was.records.store in
    let new = s.view is.records.store in
    let gives = c.drop_frame.ensures.gives_up in
    let core = core_of s.opens index old was in
    let same = core_is s.opens index old new gives was is c.drop_frame.ensures.rest in
    record {
      ready = λ ready. record {
        callers_are = ready.callers_are ∙ sym (ap (λ (v : CoreView). v.limits.callers) same);
        alive = ap (λ (v : CoreView). v.state.is_dead) same ∙ ready.alive;
      };
      faults = gives.same.faults;
      stands = λ told progress stood. (
        subst (λ (v : CoreView). Stands v progress) (sym same) (stands_on core new.left_since gives.same.left progress stood.0),
        subst (λ (v : CoreView). IsShown v) (sym same) stood.1,
      );
      comes = λ told ready progress stood. subst (λ (v : CoreView). Comes core progress v progress) (sym same) (comes_on core new.left_since gives.same.left progress stood.0);
    }
