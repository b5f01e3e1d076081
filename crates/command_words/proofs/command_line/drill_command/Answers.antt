use Rattle.std.proofs.Common.{◌∙◌, ap, [], ◌∷◌, codes}
use Rattle.std.proofs.lemmas.Result.{IfOk-weaker}
use Rattle.clap.specs.Words.{App, new_rule}
use Rattle.command_words.specs.CommandLine.{option_of}
use Rattle.command_words.proofs.InTurn.{added, with_rules}
use Rattle.command_words.proofs.command_line.drill_command.Goals as goal

pub returns : goal.returns
returns c =
    let rules = new_rule (codes "seed") ∷ new_rule (codes "count") ∷ option_of (codes "late") ∷ [] in
    let all = IfOk-weaker c.args-2.result _ _ (λ command adds. added c.new-3.result command (c.new.result ∷ c.new-2.result ∷ c.option.result ∷ []) rules (c.new.ensures.rule, c.new.ensures.optional.1, (c.new-2.ensures.rule, c.new-2.ensures.optional.1, (c.option.ensures.rule, c.option.ensures.local, tt))) c.new-3.ensures.local (rw c.in_ok-words.ensures.items at adds)) c.args-2.ensures in
    record {
      shape = IfOk-weaker c.args-2.result _ _ (λ command is. ap (λ (a : App). a.top) (is.0 ∙ ap (λ (a : App). with_rules a rules) c.new-3.ensures.app)) all;
      local = IfOk-weaker c.args-2.result _ _ (λ command is. is.1) all;
    }
