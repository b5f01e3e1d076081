use Rattle.std.proofs.Common.{sym, ◌∙◌}
use Rattle.clap.specs.Words.{found_of, rows_of, first_of}
use Rattle.clap.proofs.WalkLemmas.{first_value-rows}
use Rattle.command_words.proofs.RestoreLemmas.{not_said, is_said, is_left}
use Rattle.command_words.proofs.restore_words.said.Goals as goal

pub returns-in_err-n-in-Some : goal.returns-in_err-n-in-Some
returns-in_err-n-in-Some c =
    let first_is = sym (first_value-rows (found_of c.args.matches.now) c.args.name.now) ∙ sym c.in-Some.ensures in
    rw c.from_residual.ensures (not_said (first_of c.args.name.now (rows_of (found_of c.args.matches.now))) c.in-Some.value.now first_is c.in_err-n-in-Some.ensures)

pub returns-in_ok-n-in-Some : goal.returns-in_ok-n-in-Some
returns-in_ok-n-in-Some c =
    let first_is = sym (first_value-rows (found_of c.args.matches.now) c.args.name.now) ∙ sym c.in-Some.ensures in
    let read = c.in_ok-n-in-Some.ensures in
    is_said (first_of c.args.name.now (rows_of (found_of c.args.matches.now))) c.in-Some.value.now c.in_ok-n-in-Some.n first_is read.0.1 read.1

pub returns-in-None : goal.returns-in-None
returns-in-None c =
    is_left (first_of c.args.name.now (rows_of (found_of c.args.matches.now))) (sym (first_value-rows (found_of c.args.matches.now) c.args.name.now) ∙ sym c.in-None.ensures)
