use Rattle.std.proofs.Common.{codes, sym, ◌∙◌}
use Rattle.clap.specs.Words.{found_of}
use Rattle.clap.proofs.WalkLemmas.{first_value-rows}
use Rattle.command_words.proofs.AskedLemmas.{some_is_none}
use Rattle.command_words.proofs.restore_words.asked.Goals as goal

pub returns-in_err-image : goal.returns-in_err-image
returns-in_err-image c =
    rw c.from_residual.ensures (λ image numbers replace gives. some_is_none (sym gives.image_is ∙ (sym (first_value-rows (found_of c.args.matches.now) (codes "image")) ∙ sym c.in_err-image.ensures)))

pub returns : goal.returns
returns c = record {
  image_is = sym (first_value-rows (found_of c.args.matches.now) (codes "image")) ∙ sym c.in_ok-image.ensures;
  numbers = c.in_ok-numbers.ensures;
  replaces = c.read_flag-replace.ensures;
}
