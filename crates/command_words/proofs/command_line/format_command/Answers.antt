use Rattle.std.proofs.Common.{◌∙◌, ap, [], ◌∷◌, codes, map}
use Rattle.std.proofs.lemmas.Result.{IfOk-weaker}
use Rattle.clap.specs.Words.{App}
use Rattle.command_words.specs.CommandLine.{option_of}
use Rattle.command_words.proofs.InTurn.{added, with_rules}
use Rattle.command_words.proofs.command_line.format_command.Goals as goal

pub returns : goal.returns
returns c =
    let rules = map option_of (codes "loggers" ∷ codes "numbers" ∷ codes "entries" ∷ codes "pages" ∷ []) in
    let all = IfOk-weaker c.args-2.result _ _ (λ command adds. added c.new.result command (c.option.result ∷ c.option-2.result ∷ c.option-3.result ∷ c.option-4.result ∷ []) rules (c.option.ensures.rule, c.option.ensures.local, (c.option-2.ensures.rule, c.option-2.ensures.local, (c.option-3.ensures.rule, c.option-3.ensures.local, (c.option-4.ensures.rule, c.option-4.ensures.local, tt)))) c.new.ensures.local (rw c.in_ok-options.ensures.items at adds)) c.args-2.ensures in
    record {
      shape = IfOk-weaker c.args-2.result _ _ (λ command is. ap (λ (a : App). a.top) (is.0 ∙ ap (λ (a : App). with_rules a rules) c.new.ensures.app)) all;
      local = IfOk-weaker c.args-2.result _ _ (λ command is. is.1) all;
    }
