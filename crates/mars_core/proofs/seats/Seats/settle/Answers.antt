use Rattle.std.proofs.Common.{None, sym, subst}
use Rattle.std.proofs.Math.ListN.{set}
use Rattle.caller_steps.specs.State.{unoffered}
use Rattle.mars_core.specs.declared.seat.Seat.TheVariants as place
use Rattle.mars_core.specs.Seats.{Seat, Given}
use Rattle.mars_core.proofs.Seating.{placed}
use Rattle.mars_core.proofs.seats.Seats.settle.Goals as goal

pub returns-clause-free : goal.returns-clause-free
returns-clause-free g c = subst (λ (seat : Seat). Given c.args.self.now c.args.caller None unoffered (record { names = c.self.inside.names; places = set c.self.inside.places.items c.from.result seat })) (sym c.replace.ensures.after)
    (placed c.args.self.now c.self.inside.names c.self.inside.places.items c.args.caller c.from.result c.self.view_is c.from.ensures c.requires.inside place.Free)
