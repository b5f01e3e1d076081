use Rattle.std.proofs.Common.{◌∙◌, sym, codes}
use Rattle.clap.specs.Words.{found_of, rows_of, first_of}
use Rattle.clap.proofs.WalkLemmas.{first_value-rows}
use Rattle.command_words.proofs.AskedLemmas.{no_text, some_text, no_writing}
use Rattle.command_words.proofs.words.read_writing.Goals as goal

pub returns-then-is_none : goal.returns-then-is_none
returns-then-is_none c =
    let none = c.if-is_none.ensures in
    sym (first_value-rows (found_of c.args.options.now) (codes "late")) ∙ sym c.get_str.ensures ∙ no_text (λ s. s.now) c.get_str.result none

pub returns-in_err-depth : goal.returns-in_err-depth
returns-in_err-depth c =
    let some = c.if-is_none.ensures in
    rw c.from_residual.ensures (no_writing (first_of (codes "late") (rows_of (found_of c.args.options.now)))
    (λ none. some_text (λ s. s.now) c.get_str.result some (c.get_str.ensures ∙ first_value-rows (found_of c.args.options.now) (codes "late") ∙ none)) c.in_err-depth.ensures)
