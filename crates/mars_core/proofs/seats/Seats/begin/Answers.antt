use Rattle.std.proofs.Common.{◌<◌, [], length, sym, subst}
use Rattle.history.specs.Locks.{touched}
use Rattle.history.specs.Table.{Granted}
use Rattle.mars_core.specs.declared.seat.Seat.TheVariants as place
use Rattle.mars_core.specs.Masks.{AreMasksOf}
use Rattle.mars_core.specs.Seats.{Seats, IsMasked}
use Rattle.mars_core.proofs.Seating.{seated_as, masked}
use Rattle.mars_core.proofs.seats.Seats.begin.Goals as goal

pub returns : goal.returns
returns g c = seated_as c.args.self.now c.self.inside.names c.self.inside.places.items c.args.caller c.from.result c.self.view_is c.from.ensures c.requires.inside c.new.result [] c.new.ensures.calls c.requires.unoffered

pub invariant_of-self : goal.invariant_of-self
invariant_of-self g c =
    let inside : c.args.caller < length c.self.inside.places.items = subst (λ (s : Seats). c.args.caller < length s.places) (sym c.self.view_is) c.requires.inside in
    let right : IsMasked c.self.inside.names c.new.result = subst (λ (calls : Granted). AreMasksOf (touched c.self.inside.names calls) c.new.result.masks) (sym c.new.ensures.calls) c.new.ensures.masks in
    (masked c.self.inside.names c.self.inside.places.items c.args.caller c.from.result c.from.ensures inside (place.Live c.new.result) c.self.invariant.0 right, c.self.invariant.1)
