use Rattle.std.proofs.Common.{refl, sym, subst, arith}
use Rattle.array_runs.proofs.Unopened.{unread_of}
use Rattle.array_runs.specs.Statuses.{IsEarly}
use Rattle.array_runs.proofs.Endings.{counts_unread, counts_unlooked, unread_unopened, input_read}
use Rattle.array_runs.proofs.opening.open.Goals as goal

pub returns-in-Err-clause-kind : goal.returns-in-Err-clause-kind
returns-in-Err-clause-kind g c = unread_unopened c.in-Err.status c.in-Err.ensures.kind

pub returns-in-Err-clause-early : goal.returns-in-Err-clause-early
returns-in-Err-clause-early g c = λ early. (c.in-Err.ensures.asked, refl)

pub returns-in-Err-clause-counts : goal.returns-in-Err-clause-counts
returns-in-Err-clause-counts g c = counts_unlooked c.in-Err.status _ _ _ c.in-Err.ensures.kind c.in-Err.ensures.counts

pub returns-in-Err-clause-unopened : goal.returns-in-Err-clause-unopened
returns-in-Err-clause-unopened g c = λ told. unread_of g.M.Media.tells told (g.M.Media.view c.args.media) (g.met.M.Media.only_now c.args.media) c.in-Err.status c.in-Err.ensures.kind

pub returns-in-Err-open_array-clause-early : goal.returns-in-Err-open_array-clause-early
returns-in-Err-open_array-clause-early g c = λ early. absurd (c.in-Err-open_array.ensures.late early)

pub returns-in-Err-open_array-clause-steady : goal.returns-in-Err-open_array-clause-steady
returns-in-Err-open_array-clause-steady g c = λ steady is. c.in-Err-open_array.ensures.late (subst IsEarly (sym is) tt)

pub returns-in-Err-open_array-clause-counts : goal.returns-in-Err-open_array-clause-counts
returns-in-Err-open_array-clause-counts g c = rw c.in-Ok.ensures.kept (counts_unread c.in-Err-open_array.ended.0 _ _ _ _ _ c.in-Err-open_array.ensures.late c.in-Err-open_array.ensures.counts)

pub returns-in-Err-open_array-clause-input : goal.returns-in-Err-open_array-clause-input
returns-in-Err-open_array-clause-input g c = λ asked told.
    let read = c.in-Ok.ensures.ended asked told in
    input_read c.in-Err-open_array.ended.0 _ _ c.in-Err-open_array.ensures.late read.0 read.1

pub returns-in-Err-clause-input : goal.returns-in-Err-clause-input
returns-in-Err-clause-input g c = λ asked. c.in-Err.ensures.input

pub returns-in-Err-clause-within : goal.returns-in-Err-clause-within
returns-in-Err-clause-within g c = λ told shape says none. omega arith

pub returns-in-Err-open_array-clause-within : goal.returns-in-Err-open_array-clause-within
returns-in-Err-open_array-clause-within g c = c.in-Err-open_array.ensures.within
