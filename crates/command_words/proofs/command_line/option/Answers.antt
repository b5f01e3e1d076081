use Rattle.std.proofs.Common.{◌∙◌, ap, Some}
use Rattle.clap.specs.Words.{Rule, rule_of}
use Rattle.clap.specs.declared.builder.Arg.{Arg}
use Rattle.command_words.proofs.command_line.option.Goals as goal

pub returns : goal.returns
returns c = record {
  rule = ap rule_of c.long.ensures ∙ ap (λ (r : Rule). record r { long = Some c.args.name.now }) c.new.ensures.rule;
  local = ap (λ (a : Arg). a.global) c.long.ensures ∙ c.new.ensures.optional.1;
}
