use Rattle.std.proofs.Common.{sym, subst}
use Rattle.array_runs.specs.Opening.{Unopened}
use Rattle.array_runs.specs.declared.status.Status.{Status}
use Rattle.array_runs.proofs.Unopened.{unopened_of}
use Rattle.array_runs.proofs.opening.open_array.Goals as goal

pub returns-in-Err-clause-unopened : goal.returns-in-Err-clause-unopened
returns-in-Err-clause-unopened g c = λ told.
    let old = g.M.Media.view c.args.media in
    let new = g.M.Media.view c.in-Err.media in
    let failed = c.in-Err.ensures in
    subst (λ (s : Status). Unopened old s new) (sym c.status_of.ensures)
    (unopened_of g.M.Media.tells told old (g.met.M.Media.only_now c.args.media) new c.in-Err.fault failed.cause failed.unwritten failed.keeps_on_err)

pub returns-in-Err-clause-within : goal.returns-in-Err-clause-within
returns-in-Err-clause-within g c = c.in-Err.ensures.within
