use Rattle.std.proofs.Common.{◌∙◌, ℕ, List, SomeIff, sym, subst, codes}
use Rattle.clap.specs.Words.{found_of, rows_of}
use Rattle.record_slots.specs.Text.{IsName}
use Rattle.clap.proofs.WalkLemmas.{first_value-rows}
use Rattle.command_words.proofs.AskedLemmas.{name_read, no_name}
use Rattle.command_words.proofs.words.read_name.Goals as goal

pub returns : goal.returns
returns c = name_read (rows_of (found_of c.args.values.now)) c.in_ok-word.word.now c.of.result (sym (first_value-rows (found_of c.args.values.now) (codes "name")) ∙ sym c.in_ok-word.ensures)
    (subst (λ (text : List ℕ). SomeIff c.of.result (IsName text) text) c.as_bytes.ensures.value c.of.ensures)

pub returns-in_err-word : goal.returns-in_err-word
returns-in_err-word c = rw c.from_residual.ensures (no_name (rows_of (found_of c.args.values.now)) (sym (first_value-rows (found_of c.args.values.now) (codes "name")) ∙ sym c.in_err-word.ensures))
