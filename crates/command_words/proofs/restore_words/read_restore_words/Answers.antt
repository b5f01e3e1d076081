use Rattle.std.proofs.Common.{List, sym, subst}
use Rattle.std.specs.Prelude.{map, string_bytes}
use Rattle.clap.specs.Words.{Row, app_of}
use Rattle.command_words.specs.Restore.{GivesRestore}
use Rattle.clap.proofs.TakesLemmas.{passed_up}
use Rattle.command_words.proofs.RestoreLemmas.{taken, not_taken}
use Rattle.command_words.proofs.restore_words.read_restore_words.Goals as goal

pub returns-in_err-matches-clause-refused : goal.returns-in_err-matches-clause-refused
returns-in_err-matches-clause-refused c = passed_up c.from_residual.result c.in_err-matches.field-0.0 _ c.from_residual.ensures.1
    (λ is. not_taken (app_of c.in-Ok.command) (map string_bytes c.args.words.now) c.in-Ok.ensures (c.in_err-matches.ensures.refused is))

pub returns-in-Some-clause-asked : goal.returns-in-Some-clause-asked
returns-in-Some-clause-asked c =
    let said = c.in_ok-matches.ensures in
    let is = taken (app_of c.in-Ok.command) (map string_bytes c.args.words.now) c.in_ok-matches.matches c.in-Ok.ensures said.matches said.taken in
    (is.0, subst (λ (rows : List Row). GivesRestore rows c.in-Some.asked.image.now c.in-Some.asked.numbers c.in-Some.asked.replace) is.1 c.in-Some.ensures)

pub returns-clause-refused : goal.returns-clause-refused
returns-clause-refused c = λ _ image numbers replace asks.
    let said = c.in_ok-matches.ensures in
    let is = taken (app_of c.in-Ok.command) (map string_bytes c.args.words.now) c.in_ok-matches.matches c.in-Ok.ensures said.matches said.taken in
    c.in-None.ensures image numbers replace (subst (λ (rows : List Row). GivesRestore rows image numbers replace) (sym is.1) asks.1)
