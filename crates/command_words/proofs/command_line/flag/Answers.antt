use Rattle.std.proofs.Common.{◌∙◌, ap, Some}
use Rattle.clap.specs.Words.{Rule, rule_of}
use Rattle.clap.specs.declared.builder.Arg.{Arg}
use Rattle.clap.specs.declared.builder.action.ArgAction.TheVariants.{SetTrue}
use Rattle.command_words.proofs.command_line.flag.Goals as goal

pub returns : goal.returns
returns c = record {
  rule = ap rule_of c.action.ensures ∙ ap (λ (r : Rule). record r { action = Some SetTrue }) c.option.ensures.rule;
  local = ap (λ (a : Arg). a.global) c.action.ensures ∙ c.option.ensures.local;
}
