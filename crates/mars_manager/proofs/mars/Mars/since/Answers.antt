use Rattle.std.proofs.Common.{subst}
use Rattle.caller_steps.specs.Prefix.{Grows}
use Rattle.mars_manager.specs.Pass.{PassView}
use Rattle.mars_manager.specs.Sharing.{SeesOwn}
use Rattle.mars_manager.specs.Seat.{first_of}
use Rattle.mars_manager.proofs.Looking.{read_kept, idle_kept}
use Rattle.mars_manager.proofs.mars.Mars.since.Goals as goal

pub invariant_of-pass : goal.invariant_of-pass
invariant_of-pass g c =
    let k = read_kept g.C.Core.tells g.C.Core.view (first_of c.pass.inside.seat.me.0.passes) c.read.result c.read.new.seat.me c.read.ensures.one c.read.ensures.reads c.read.ensures.again in
    idle_kept c.pass.inside.number c.pass.inside.names c.pass.inside.holds c.pass.inside.takes c.pass.inside.seat.me c.read.new.seat.me c.pass.invariant k.0 k.1

pub returns-clause-seen : goal.returns-clause-seen
returns-clause-seen g c =
    let k = read_kept g.C.Core.tells g.C.Core.view (first_of c.pass.inside.seat.me.0.passes) c.read.result c.read.new.seat.me c.read.ensures.one c.read.ensures.reads c.read.ensures.again in
    subst (λ (p : PassView g.row.C.Denot). Grows p.known.seen (first_of c.read.new.seat.me.0.passes).seen) c.pass.view_is k.1.seen

pub returns-clause-mine : goal.returns-clause-mine
returns-clause-mine g c =
    let k = read_kept g.C.Core.tells g.C.Core.view (first_of c.pass.inside.seat.me.0.passes) c.read.result c.read.new.seat.me c.read.ensures.one c.read.ensures.reads c.read.ensures.again in
    subst (λ (p : PassView g.row.C.Denot). SeesOwn p.known (first_of c.read.new.seat.me.0.passes)) c.pass.view_is k.1.mine
