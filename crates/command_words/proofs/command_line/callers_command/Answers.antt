use Rattle.std.proofs.Common.{◌∙◌, ap, [], ◌∷◌, codes}
use Rattle.std.proofs.lemmas.Result.{IfOk-weaker}
use Rattle.clap.specs.Words.{App, new_rule}
use Rattle.command_words.specs.CommandLine.{option_of}
use Rattle.command_words.proofs.InTurn.{added, with_rules}
use Rattle.command_words.proofs.command_line.callers_command.Goals as goal

pub returns : goal.returns
returns c =
    let rules = new_rule (codes "callers") ∷ option_of (codes "tries") ∷ option_of (codes "late") ∷ option_of (codes "readers") ∷ [] in
    let all = IfOk-weaker c.args-2.result _ _ (λ command adds. added c.new-2.result command (c.new.result ∷ c.option.result ∷ c.option-2.result ∷ c.option-3.result ∷ []) rules (c.new.ensures.rule, c.new.ensures.optional.1, (c.option.ensures.rule, c.option.ensures.local, (c.option-2.ensures.rule, c.option-2.ensures.local, (c.option-3.ensures.rule, c.option-3.ensures.local, tt)))) c.new-2.ensures.local (rw c.in_ok-words.ensures.items at adds)) c.args-2.ensures in
    record {
      shape = IfOk-weaker c.args-2.result _ _ (λ command is. ap (λ (a : App). a.top) (is.0 ∙ ap (λ (a : App). with_rules a rules) c.new-2.ensures.app)) all;
      local = IfOk-weaker c.args-2.result _ _ (λ command is. is.1) all;
    }
