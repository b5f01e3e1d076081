use Rattle.std.proofs.Common.{◌∙◌, ap, subst, sym, IsTrue}
use Rattle.std.specs.Box.{with_value}
use Rattle.caller_steps.specs.Locked.{IsLocked}
use Rattle.caller_steps.proofs.core_trait.BoxCore.step_locked.Goals as goal

pub returns-clause-dead : goal.returns-clause-dead
returns-clause-dead g c dead =
    let stays = c.step_locked.ensures.dead (subst (λ core. IsTrue (g.C.Core.view core).state.is_dead) (sym c.as_mut.ensures.value) dead) in
    (stays.0, ap (with_value c.args.self.now) (stays.1 ∙ c.as_mut.ensures.value))

pub step_locked-requires-clause-locked : goal.step_locked-requires-clause-locked
step_locked-requires-clause-locked g c = subst (λ core. IsLocked (g.C.Core.view core).state c.args.caller c.args.call.now) (sym c.as_mut.ensures.value) c.requires.locked
