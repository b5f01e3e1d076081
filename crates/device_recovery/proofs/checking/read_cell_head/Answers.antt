use Rattle.std.proofs.Common.{true, refl, [], arith}
use Rattle.std.proofs.lemmas.Result.{err_from_is_err_and}
use Rattle.mars_base.proofs.Costing.{costs_all}
use Rattle.array_image.proofs.Calls.{none_yet, goes_on, hands_on}
use Rattle.array_image.proofs.Places.{cell_fits_in}
use Rattle.device_recovery.proofs.Done.{all_done}
use Rattle.device_recovery.proofs.checking.read_cell_head.Goals as goal

pub read-requires : goal.read-requires
read-requires g c = omega (arith, c.cell_at.ensures, c.requires.size, cell_fits_in c.args.shape.now c.args.logger c.args.tid c.args.entry c.requires.logger c.requires.tid c.requires.entry)

pub returns-in_err-read : goal.returns-in_err-read
returns-in_err-read g c =
    let m = g.M.Media in
    let read = c.in_err-read.ensures in
    let p = err_from_is_err_and c.from_residual.result c.from_residual.ensures.1 in
    rw p.1 (record {
      head = λ told. tt;
      costs = record { done = λ exact. tt; most = omega (arith, read.ticks.next) };
      does = hands_on m.tells [] [] _ _ _ (λ told i out. out) (none_yet m.tells [] (m.view c.args.media.now)) _ refl read.does;
    })

pub returns-clause-does : goal.returns-clause-does
returns-clause-does g c =
    let m = g.M.Media in
    all_done m.tells [] _ _ _ (goes_on m.tells [] [] _ _ _ (λ told i out. out) (none_yet m.tells [] (m.view c.args.media.now)) c.in_ok-read.ensures.does refl)

pub returns-clause-costs : goal.returns-clause-costs
returns-clause-costs g c = costs_all true _ _ _ _ (omega (arith, c.in_ok-read.ensures.ticks.next, c.in_ok-read.ensures.ticks.last))
