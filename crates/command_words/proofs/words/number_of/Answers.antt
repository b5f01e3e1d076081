use Rattle.std.proofs.Common.{sym, ◌∙◌}
use Rattle.clap.specs.Words.{found_of, rows_of, first_of}
use Rattle.clap.proofs.WalkLemmas.{first_value-rows}
use Rattle.command_words.proofs.AskedLemmas.{number_read, number_left}
use Rattle.command_words.proofs.words.number_of.Goals as goal

pub returns-in-Some : goal.returns-in-Some
returns-in-Some c =
    let first_is = sym (first_value-rows (found_of c.args.values.now) c.args.name.now) ∙ sym c.in-Some.ensures in
    number_read c.args.least c.args.most c.args.default (first_of c.args.name.now (rows_of (found_of c.args.values.now))) c.in-Some.value.now c.read_within.result first_is c.read_within.ensures

pub returns-in-None : goal.returns-in-None
returns-in-None c =
    let first_is = sym (first_value-rows (found_of c.args.values.now) c.args.name.now) ∙ sym c.in-None.ensures in
    number_left c.args.least c.args.most c.args.default (first_of c.args.name.now (rows_of (found_of c.args.values.now))) first_is
