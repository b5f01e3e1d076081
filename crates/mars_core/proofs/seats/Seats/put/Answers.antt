use Rattle.std.proofs.Common.{◌<◌, length, refl, sym, subst}
use Rattle.mars_core.specs.declared.seat.Seat.TheVariants as place
use Rattle.mars_core.specs.Seats.{Seats, IsMasked}
use Rattle.mars_core.proofs.Seating.{seated, masked}
use Rattle.mars_core.proofs.seats.Seats.put.Goals as goal

pub returns : goal.returns
returns g c = seated c.args.self.now c.self.inside.names c.self.inside.places.items c.args.caller c.from.result c.self.view_is c.from.ensures c.requires.inside (place.Live c.args.live) refl c.requires.unoffered

pub invariant_of-self : goal.invariant_of-self
invariant_of-self g c =
    let inside : c.args.caller < length c.self.inside.places.items = subst (λ (s : Seats). c.args.caller < length s.places) (sym c.self.view_is) c.requires.inside in
    let right : IsMasked c.self.inside.names c.args.live = subst (λ (s : Seats). IsMasked s.names c.args.live) (sym c.self.view_is) c.requires.masked in
    (masked c.self.inside.names c.self.inside.places.items c.args.caller c.from.result c.from.ensures inside (place.Live c.args.live) c.self.invariant.0 right, c.self.invariant.1)
