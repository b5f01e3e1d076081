use Rattle.std.proofs.Common.{◌∙◌, ◌||◌, ap, ap₂}
use Rattle.std.proofs.lemmas.Result.{IfOk-weaker}
use Rattle.clap.specs.Words.{App, with_rule}
use Rattle.command_words.proofs.command_line.eaw_command.Goals as goal

pub returns : goal.returns
returns c = record {
  shape = IfOk-weaker c.arg.result _ _ (λ command adds. ap (λ (a : App). a.top) (adds.shape c.flag.ensures.local ∙ ap₂ with_rule c.new.ensures.app c.flag.ensures.rule)) c.arg.ensures;
  local = IfOk-weaker c.arg.result _ _ (λ command adds. adds.globals ∙ ap₂ (λ a b. a || b) c.new.ensures.local c.flag.ensures.local) c.arg.ensures;
}
