use Rattle.std.proofs.Common.{◌∙◌, ap}
use Rattle.std.specs.Box.{with_value}
use Rattle.caller_steps.proofs.core_trait.BoxCore.forget.Goals as goal

pub returns : goal.returns
returns g c = ap (with_value c.args.self.now) (c.forget.ensures ∙ c.as_mut.ensures.value)
