use Rattle.std.proofs.Common.{◌≡◌, ◌≤◌, ℕ, List, ◌∷◌, length, Option, Some, sym, ap, ◌∙◌, subst, arith, drop}
use Rattle.std.specs.Prelude.{IfOk}
use Rattle.std.proofs.lemmas.List.{length-drop}
use Rattle.std.proofs.lemmas.Option.{IfSome_then}
use Rattle.history.specs.declared.transaction.Done.{Done}
use Rattle.atomic_table.specs.Table.{rest}
use Rattle.mars_manager.specs.declared.view.Known.{Known}
use Rattle.mars_manager.specs.Pass.{finds}
use Rattle.mars_manager.specs.Sharing.{MarsView, Reads}
use Rattle.mars_manager.specs.Seat.{SeatOf, first_of}
use Rattle.mars_manager.specs.Rule.{face}
use Rattle.mars_manager.proofs.Turns.{gives_read_as}
use Rattle.mars_manager.proofs.Calls.{core_is}
use Rattle.mars_manager.proofs.Looking.{home_again, one_seat_read, reads_at, seen_is, seen_numbered, numbered_copy}
use Rattle.mars_manager.proofs.mars.Mars.read.Goals as goal

pub exchange-requires : goal.exchange-requires
exchange-requires g c =
    let took = c.in_ok-take_turn.ensures.took in
    let carried = ap (λ (m : SeatOf g.row.C.Denot). m.1) took.now in (
      c.take_turn.ensures.table.0 ∙ c.requires.table ∙ sym (ap (λ (m : MarsView g.row.C.Denot). m.table) c.self.view_is),
      (Some took.core, carried ∙ ap (λ (l : List (ℕ × Option g.row.C.Denot)). (0, Some took.core) ∷ rest l) (sym carried)),
    )

pub kept_since-copied-requires : goal.kept_since-copied-requires
kept_since-copied-requires g c =
    let f = face g.C.Core.tells g.C.Core.view in
    let took = c.in_ok-take_turn.ensures.took in
    let core = core_is f _ _ c.unwrap-core.result _ took c.exchange.ensures.2 c.unwrap-core.ensures in
    let seen = took.seen in
    let same = ap (λ (x : g.row.C.Denot). length (g.C.Core.view x).state.history) core in
    let from = c.requires.from in
    let log = (g.C.Core.view c.unwrap-core.result).state.history in
    let within : c.args.from ≤ length log = omega arith in
    IfSome_then c.history.result c.history.ensures.history (λ kept is. omega (arith, within, ap length is, length-drop kept.0 log))

pub store-requires : goal.store-requires
store-requires g c =
    let f = face g.C.Core.tells g.C.Core.view in
    let i = c.requires.seat in
    let took = c.in_ok-take_turn.ensures.took in (
      c.exchange-2.ensures.0 ∙ c.exchange.ensures.0 ∙ c.take_turn.ensures.table.0 ∙ c.requires.table ∙ sym (ap (λ (m : MarsView g.row.C.Denot). m.table) c.self.view_is),
      (let w = c.self.invariant.0 in omega arith),
      gives_read_as f c.self.inside.table.shared.key _ _ (finds 0 i.known) c.unwrap-core.result _
          (home_again f _ _ _ _ i.known c.unwrap-core.result c.forget.new.self c.forget.ensures _ i.is took c.exchange.ensures.2 c.unwrap-core.ensures c.exchange.ensures.3 c.exchange-2.ensures.3),
    )

pub returns-clause-one : goal.returns-clause-one
returns-clause-one g c =
    let f = face g.C.Core.tells g.C.Core.view in
    let i = c.requires.seat in
    let took = c.in_ok-take_turn.ensures.took in
    one_seat_read f _ _ _ _ i.known c.unwrap-core.result c.forget.new.self c.forget.ensures _ i.is took c.exchange.ensures.2 c.unwrap-core.ensures c.exchange.ensures.3 c.exchange-2.ensures.3 _ c.store.ensures.2

pub returns-clause-reads : goal.returns-clause-reads
returns-clause-reads g c =
    let f = face g.C.Core.tells g.C.Core.view in
    let i = c.requires.seat in
    let took = c.in_ok-take_turn.ensures.took in
    let known : i.known ≡ first_of c.args.seat.now.me.0.passes = sym (ap (λ (m : SeatOf g.row.C.Denot). first_of m.0.passes) i.is) in
    subst (λ (k : Known g.row.C.Denot). Reads g.C.Core.tells g.C.Core.view k (first_of c.store.new.seat.me.0.passes)) known
    (reads_at f _ _ _ _ i.known c.unwrap-core.result c.forget.new.self c.forget.ensures _ i.is took c.exchange.ensures.2 c.unwrap-core.ensures c.exchange.ensures.3 c.exchange-2.ensures.3 _ c.store.ensures.2)

pub returns-clause-copy : goal.returns-clause-copy
returns-clause-copy g c =
    let f = face g.C.Core.tells g.C.Core.view in
    let i = c.requires.seat in
    let took = c.in_ok-take_turn.ensures.took in
    let seen = seen_is f _ _ _ _ i.known c.unwrap-core.result c.forget.new.self c.forget.ensures _ i.is took c.exchange.ensures.2 c.unwrap-core.ensures c.exchange.ensures.3 c.exchange-2.ensures.3 _ c.store.ensures.2 in
    subst (λ (log : List Done). IfOk c.kept_since-copied.result (λ history. history ≡ drop c.args.from log)) (sym seen) (c.kept_since-copied.ensures.copy _ c.history.ensures.history)

pub returns-clause-numbered : goal.returns-clause-numbered
returns-clause-numbered g c =
    let f = face g.C.Core.tells g.C.Core.view in
    let i = c.requires.seat in
    let took = c.in_ok-take_turn.ensures.took in
    let log = seen_numbered f _ _ _ _ i.known c.unwrap-core.result c.forget.new.self c.forget.ensures _ i.is took c.exchange.ensures.2 c.unwrap-core.ensures c.exchange.ensures.3 c.exchange-2.ensures.3 _ c.store.ensures.2 in
    numbered_copy c.kept_since-copied.result c.args.from _ log (c.kept_since-copied.ensures.copy _ c.history.ensures.history)

pub returns-clause-kept : goal.returns-clause-kept
returns-clause-kept g c = λ keeps. c.kept_since-copied.ensures.kept (c.history.ensures.kept keeps)

pub returns-clause-whole : goal.returns-clause-whole
returns-clause-whole g c = λ whole. c.kept_since-copied.ensures.whole (c.history.ensures.whole whole)
