use Rattle.std.proofs.Common.{◌<◌, ◌∙◌, sym, ap, subst, refl, length, None}
use Rattle.std.proofs.Math.ListN.{set}
use Rattle.mars_core.specs.declared.seat.Seat.TheVariants as place
use Rattle.mars_core.specs.Seats.{Seat, Seats, Seated, AreMasked, IsMasked, live_of, calls_in}
use Rattle.mars_core.proofs.Seating.{seated, found_seat, masked, untaken, live-at, offer-at}
use Rattle.mars_core.proofs.seats.Seats.take.Goals as goal

pub returns-in-Live-clause-masked : goal.returns-in-Live-clause-masked
returns-in-Live-clause-masked g c =
    let inside : c.args.caller < length c.self.inside.places.items = subst (λ (s : Seats). c.args.caller < length s.places) (sym c.self.view_is) c.requires.inside in
    let seat = found_seat c.self.inside.names c.self.inside.places.items c.args.caller c.from.result c.from.ensures inside c.index_mut.result.now c.index_mut.ensures.value in
    subst (λ (s : Seats). IsMasked s.names c.in-Live.live) c.self.view_is (c.self.invariant.0 c.args.caller c.in-Live.live (ap live_of (seat ∙ sym c.replace.ensures.value ∙ c.in-Live.is)))

pub returns-in-Live-clause-out : goal.returns-in-Live-clause-out
returns-in-Live-clause-out g c = subst (λ (seat : Seat). Seated c.args.self.now c.args.caller None (record { names = c.self.inside.names; places = set c.self.inside.places.items c.from.result seat })) (sym c.replace.ensures.after)
    (seated c.args.self.now c.self.inside.names c.self.inside.places.items c.args.caller c.from.result c.self.view_is c.from.ensures c.requires.inside place.Free refl c.requires.unoffered)

pub invariant_of-self-2 : goal.invariant_of-self-2
invariant_of-self-2 g c =
    let inside : c.args.caller < length c.self.inside.places.items = subst (λ (s : Seats). c.args.caller < length s.places) (sym c.self.view_is) c.requires.inside in (
      subst (λ (seat : Seat). AreMasked c.self.inside.names (set c.self.inside.places.items c.from.result seat)) (sym c.replace.ensures.after)
          (masked c.self.inside.names c.self.inside.places.items c.args.caller c.from.result c.from.ensures inside place.Free c.self.invariant.0 tt),
      c.self.invariant.1,
    )

pub returns : goal.returns
returns g c =
    let old = c.args.self.now in
    let found = c.index_mut.result.now in
    let un = sym (offer-at old c.self.inside.names c.self.inside.places.items c.args.caller c.from.result c.self.view_is c.from.ensures c.requires.inside found c.index_mut.ensures.value) ∙ c.requires.unoffered in
    let none = untaken found un (λ live is. c.in_default.not-Live live (c.replace.ensures.value ∙ is)) in
    record {
      live = sym (live-at old c.self.inside.names c.self.inside.places.items c.args.caller c.from.result c.self.view_is c.from.ensures c.requires.inside found c.index_mut.ensures.value ∙ ap calls_in none);
      masked = tt;
      out = subst (λ (seat : Seat). Seated c.args.self.now c.args.caller None (record { names = c.self.inside.names; places = set c.self.inside.places.items c.from.result seat })) (sym c.replace.ensures.after)
          (seated c.args.self.now c.self.inside.names c.self.inside.places.items c.args.caller c.from.result c.self.view_is c.from.ensures c.requires.inside place.Free refl c.requires.unoffered);
    }
