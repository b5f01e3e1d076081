use Rattle.std.proofs.Common.{◌≡◌, ℕ, ◌<◌, List, [], ◌∷◌, Option, Some, refl, sym, ap, ◌∙◌, subst, arith}
use Rattle.std.specs.Prelude.{IsTrue, IsFalse}
use mathlib.Core.Option.{none}
use Rattle.caller_steps.specs.Offers.{takes_calls}
use Rattle.caller_steps.specs.Locked.{IsLocked}
use Rattle.atomic_table.specs.Table.{rest, Allows, step}
use Rattle.mars_manager.specs.declared.view.Known.{Known}
use Rattle.mars_manager.specs.Pass.{own_by, takes_of, names_of, times, finds}
use Rattle.mars_manager.specs.Locks.{locks, IsCovered}
use Rattle.mars_manager.specs.Sharing.{MarsView}
use Rattle.mars_manager.specs.Seat.{SeatOf, first_of, Makes}
use Rattle.mars_manager.specs.Rule.{face, Rule, HasAlone, tells_length}
use Rattle.mars_manager.proofs.Seats.{times_first}
use Rattle.mars_manager.proofs.Waiting.{takes_own}
use Rattle.mars_manager.proofs.Locked.{locked_by}
use Rattle.mars_manager.proofs.Turns.{tells_as, gives_as}
use Rattle.mars_manager.proofs.Calls.{core_is, homed, moves, told_seat, made}
use Rattle.mars_manager.proofs.mars.Mars.turn.Goals as goal

pub exchange-requires : goal.exchange-requires
exchange-requires g c =
    let took = c.in_ok-take_turn.ensures.took in
    let carried = ap (λ (m : SeatOf g.row.C.Denot). m.1) took.now in (
      c.take_turn.ensures.table.0 ∙ c.requires.table ∙ sym (ap (λ (m : MarsView g.row.C.Denot). m.table) c.self.view_is),
      (Some took.core, carried ∙ ap (λ (l : List (ℕ × Option g.row.C.Denot)). (0, Some took.core) ∷ rest l) (sym carried)),
    )

pub step_locked-reply-requires : goal.step_locked-reply-requires
step_locked-reply-requires g c =
    let f = face g.C.Core.tells g.C.Core.view in
    let i = c.requires.seat in
    let took = c.in_ok-take_turn.ensures.took in
    let core = core_is f _ _ c.unwrap-core.result _ took c.exchange.ensures.2 c.unwrap-core.ensures in
    let has = times_first i.known [] in
    let same_times = ap (λ (m : SeatOf g.row.C.Denot). times i.known.number m.0.passes) i.is in
    let few : i.known.number < (g.C.Core.view took.core).limits.callers = took.few i.known.number (omega arith) in
    let known : i.known ≡ first_of c.args.seat.now.me.0.passes = sym (ap (λ (m : SeatOf g.row.C.Denot). first_of m.0.passes) i.is) in
    let lock : IsLocked (g.C.Core.view took.core).state i.known.number c.args.call.now =
    locked_by f took.core i.known c.args.call.now (subst (λ (k : Known g.row.C.Denot). names_of k ≡ (g.C.Core.view took.core).state.names) (sym known) took.named) (subst (λ (k : Known g.row.C.Denot). IsFalse (g.C.Core.view took.core).state.is_dead → HasAlone f took.core k) (sym known) took.alone)
    (subst (λ (k : Known g.row.C.Denot). IsTrue (takes_of k) → IsCovered (locks (names_of k) c.args.call.now) k.holds) (sym known) c.requires.covered) in record {
      inside = subst (λ (n : ℕ). n < (g.C.Core.view c.unwrap-core.result).limits.callers) i.number (subst (λ (x : g.row.C.Denot). i.known.number < (g.C.Core.view x).limits.callers) core few);
      locked = subst (λ (n : ℕ). IsLocked (g.C.Core.view c.unwrap-core.result).state n c.args.call.now) i.number (subst (λ (x : g.row.C.Denot). IsLocked (g.C.Core.view x).state i.known.number c.args.call.now) core lock);
    }

pub tell-requires : goal.tell-requires
tell-requires g c =
    let f = face g.C.Core.tells g.C.Core.view in
    let i = c.requires.seat in
    let took = c.in_ok-take_turn.ensures.took in
    let new = c.step_locked-reply.new.self in
    let call = c.args.call.now in
    let reply = c.step_locked-reply.result in
    let seat = c.exchange-2.new.seat in
    let home = homed f _ _ _ _ i.known c.unwrap-core.result new _ i.is took c.exchange.ensures.2 c.unwrap-core.ensures c.exchange.ensures.3 c.exchange-2.ensures.3 in
    let s = c.step_locked-reply.ensures in
    let does = moves f _ _ _ _ i.known c.unwrap-core.result new _ i.is took c.exchange.ensures.2 c.unwrap-core.ensures c.exchange.ensures.3 c.exchange-2.ensures.3 _ call reply i.number s.steps s.dead s.tabled s.not_busy in
    let core = core_is f _ _ c.unwrap-core.result _ took c.exchange.ensures.2 c.unwrap-core.ensures in
    let known : i.known ≡ first_of c.args.seat.now.me.0.passes = sym (ap (λ (m : SeatOf g.row.C.Denot). first_of m.0.passes) i.is) in
    let has : IsFalse (g.C.Core.view c.unwrap-core.result).state.is_dead → IsTrue (takes_calls (g.C.Core.view c.unwrap-core.result).state i.known.number) → IsCovered (locks (names_of i.known) call) i.known.holds =
    (λ alive takes.
    let alone = took.alone (subst (λ (x : g.row.C.Denot). IsFalse (g.C.Core.view x).state.is_dead) (sym core) alive) in
    subst (λ (k : Known g.row.C.Denot). IsCovered (locks (names_of k) call) k.holds) (sym known)
    (c.requires.covered (takes_own (first_of c.args.seat.now.me.0.passes).number (own_by (first_of c.args.seat.now.me.0.passes)) (g.C.Core.view took.core).state alone.mine
    ((λ j. takes_calls (g.C.Core.view (core j)).state (sym (ap (λ (k : Known g.row.C.Denot). k.number) known) j)) ∙ takes)))) in
    let key = c.self.inside.table.shared.key in
    let rule = tells_as f key c.self.inside.table.shared.table_id.slots seat.id c.told-told.result (finds 0 i.known) call reply c.unwrap-core.result new seat.me home (does key) has c.told-told.ensures in record {
      table = c.exchange-2.ensures.0 ∙ c.exchange.ensures.0 ∙ c.take_turn.ensures.table.0 ∙ c.requires.table;
      picked = (refl, refl);
      rule = subst (λ (m : MarsView g.row.C.Denot). Allows (Rule f m.setup) m.table.slots seat.id seat.me 65 (λ _. c.told-told.result) (λ _. tells_length f call reply (step m.table.slots 65 c.told-told.result 0 none) seat.me c.told-told.result)) c.self.view_is rule;
    }

pub store-requires : goal.store-requires
store-requires g c =
    let f = face g.C.Core.tells g.C.Core.view in
    let i = c.requires.seat in
    let took = c.in_ok-take_turn.ensures.took in
    let s = c.step_locked-reply.ensures in
    let told = told_seat f _ _ _ _ i.known c.unwrap-core.result c.step_locked-reply.new.self _ i.is took c.exchange.ensures.2 c.unwrap-core.ensures c.exchange.ensures.3 c.exchange-2.ensures.3
    _ c.args.call.now c.step_locked-reply.result i.number s.steps s.dead s.tabled s.not_busy _ c.tell.ensures.told in (
      c.tell.ensures.same.0 ∙ c.exchange-2.ensures.0 ∙ c.exchange.ensures.0 ∙ c.take_turn.ensures.table.0 ∙ c.requires.table ∙ sym (ap (λ (m : MarsView g.row.C.Denot). m.table) c.self.view_is),
      (let w = c.self.invariant.0 in omega arith),
      gives_as f c.self.inside.table.shared.key _ _ _ c.step_locked-reply.new.self _ told,
    )

pub returns-clause-made : goal.returns-clause-made
returns-clause-made g c =
    let f = face g.C.Core.tells g.C.Core.view in
    let i = c.requires.seat in
    let took = c.in_ok-take_turn.ensures.took in
    let s = c.step_locked-reply.ensures in
    let m = made f _ _ _ _ i.known c.unwrap-core.result c.step_locked-reply.new.self _ i.is took c.exchange.ensures.2 c.unwrap-core.ensures c.exchange.ensures.3 c.exchange-2.ensures.3
    _ c.args.call.now c.step_locked-reply.result i.number s.steps s.dead s.tabled s.not_busy _ c.tell.ensures.told s.purge _ c.store.ensures.2 in
    let known : i.known ≡ first_of c.args.seat.now.me.0.passes = sym (ap (λ (m : SeatOf g.row.C.Denot). first_of m.0.passes) i.is) in
    subst (λ (k : Known g.row.C.Denot). Makes g.C.Core.tells g.C.Core.view k c.args.call.now c.step_locked-reply.result c.store.new.seat.me) known m
