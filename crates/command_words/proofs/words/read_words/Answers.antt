use Rattle.std.proofs.Common.{◌∙◌, sym}
use Rattle.std.specs.Prelude.{map, string_bytes}
use Rattle.clap.specs.Words.{app_of}
use Rattle.clap.proofs.TakesLemmas.{passed_up}
use Rattle.command_words.proofs.ReadLemmas.{accepted, refused}
use Rattle.command_words.proofs.words.read_words.Goals as goal

pub returns-in_default-clause-asked : goal.returns-in_default-clause-asked
returns-in_default-clause-asked c = tt

pub returns-in_default-clause-refused : goal.returns-in_default-clause-refused
returns-in_default-clause-refused c = λ is. absurd (let no : ⊥ = cc is in no)

pub returns-in_err-matches-clause-refused : goal.returns-in_err-matches-clause-refused
returns-in_err-matches-clause-refused c = passed_up c.from_residual.result c.in_err-matches.field-0.0 _ c.from_residual.ensures.1
    (λ is. refused (app_of c.in-Ok.command) (map string_bytes c.args.words.now) c.in-Ok.ensures (c.in_err-matches.ensures.refused is))

pub returns-in-Some-clause-asked : goal.returns-in-Some-clause-asked
returns-in-Some-clause-asked c =
    let said = c.in_ok-matches.ensures in
    let is = accepted (app_of c.in-Ok.command) (map string_bytes c.args.words.now) c.in_ok-matches.matches c.in-Ok.ensures said.matches said.taken in
    let found = c.in-Some.ensures in
    (is.0, found.0, found.1, sym is.1 ∙ found.2, found.3)

pub returns-clause-refused : goal.returns-clause-refused
returns-clause-refused c = λ _ asked asks.
    let said = c.in_ok-matches.ensures in
    let is = accepted (app_of c.in-Ok.command) (map string_bytes c.args.words.now) c.in_ok-matches.matches c.in-Ok.ensures said.matches said.taken in
    c.in-None.ensures asks.1 asks.2 asked (is.1 ∙ asks.3) asks.4
