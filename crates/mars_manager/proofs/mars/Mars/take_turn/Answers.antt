use Rattle.std.proofs.Common.{◌≡◌, ◌+◌, ◌-◌, List, [], None, sym, ap, ◌∙◌, subst, arith, map}
use Rattle.mars_manager.specs.declared.view.Known.{Known}
use Rattle.mars_manager.specs.Pass.{times, finds}
use Rattle.mars_manager.specs.Sharing.{MarsView}
use Rattle.mars_manager.specs.Seat.{SeatOf, first_of, seat_of, shared_view}
use Rattle.mars_manager.specs.Rule.{face, AreAbove}
use Rattle.mars_manager.proofs.Seats.{times_first}
use Rattle.mars_manager.proofs.Turns.{takes_turn_as}
use Rattle.mars_manager.proofs.mars.Mars.take_turn.Goals as goal

pub compare_exchange-found-requires : goal.compare_exchange-found-requires
compare_exchange-found-requires g c =
    let f = face g.C.Core.tells g.C.Core.view in
    let i = c.requires.seat in (
      c.requires.table ∙ sym (ap (λ (m : MarsView g.row.C.Denot). m.table) c.self.view_is),
      (let w = c.self.invariant.0 in omega arith),
      takes_turn_as f c.self.inside.table.shared.key _ _ _ i.known _ i.is (ap (λ n. n + 1) (c.from-turn.ensures ∙ sym i.number)),
    )

pub returns-then-found-ne0-clause-again : goal.returns-then-found-ne0-clause-again
returns-then-found-ne0-clause-again g c =
    let i = c.requires.seat in
    let e = c.compare_exchange-found.ensures in
    let missed = e.2.1 c.if-found-ne0.true in
    let known : i.known ≡ first_of c.args.seat.now.me.0.passes = sym (ap (λ (m : SeatOf g.row.C.Denot). first_of m.0.passes) i.is) in (
      (
        (λ same.
            let ne = c.if-found-ne0.true in
            let number = ap (λ (k : Known g.row.C.Denot). k.number) known in
            let none = missed.2 i.known.number (omega arith) in
            let first = times_first i.known [] in
            let same_times = ap (λ (m : SeatOf g.row.C.Denot). times i.known.number m.0.passes) i.is in
            omega arith),
        (λ setup is.
            let ne = c.if-found-ne0.true in
            let above = (subst (λ (ks : List (Known g.row.C.Denot)). AreAbove c.compare_exchange-found.result ks) (ap (λ (m : SeatOf g.row.C.Denot). m.0.passes) i.is) missed.3).0 setup (ap (λ (k : Known g.row.C.Denot). k.setup) known ∙ is) in
            omega arith),
      ),
      (let one : c.compare_exchange-found.result - 1 + 1 ≡ c.compare_exchange-found.result = (let ne = c.if-found-ne0.true in omega arith) in
          let now : List (Known g.row.C.Denot) → SeatOf g.row.C.Denot = λ ks. (shared_view (map (finds c.compare_exchange-found.result) ks) None, []) in
          missed.0 ∙ ap (λ (m : SeatOf g.row.C.Denot). now m.0.passes) i.is ∙ (λ j. seat_of (finds (sym one j) (known j)))),
    )

pub returns-clause-took : goal.returns-clause-took
returns-clause-took g c = c.compare_exchange-found.ensures.2.0 c.if-found-ne0.false
