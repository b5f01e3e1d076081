use Rattle.std.proofs.Common.{◌≡◌, ◌+◌, ◌<◌, List, length, Result, Err, arith, ap, subst, sym, ◌∙◌}
use Rattle.array_shape.specs.NumberSet.{members}
use Rattle.eaw_face.specs.Causes.{IsAlive}
use Rattle.page_store.specs.Shown.{pages_of}
use Rattle.history.specs.Rows.{table_of}
use Rattle.history.specs.declared.call.Call.TheVariants as call
use Rattle.history.specs.declared.call.Control.TheVariants as control
use Rattle.history.specs.declared.call.Reply.{Reply}
use Rattle.history.specs.declared.call.Reply.TheVariants.{Committed}
use Rattle.history.specs.declared.transaction.Done.{Done}
use Rattle.record_table.specs.Faults.{reply_to}
use Rattle.record_table.specs.declared.fault.TableFault.{TableFault}
use Rattle.caller_steps.specs.Core.{Steps}
use Rattle.caller_steps.specs.State.{State, offered}
use Rattle.mars_core.specs.Held.{Held, core_of, state_at}
use Rattle.mars_core.specs.Kept.{IsKept}
use Rattle.mars_core.specs.Seats.{live_in, offers_in, offered_in, IsOf, Ends}
use Rattle.mars_core.specs.declared.seat.Ending.TheVariants as ending
use Rattle.mars_core.proofs.Prefixes.{StoreLaws}
use Rattle.mars_core.proofs.Together.{group_fails, has_number, has_seat, group_keeps, group_steps, doubt_keeps, doubt_steps}
use Rattle.mars_core.proofs.turns.Core.settle.Given.{Over}
use Rattle.mars_core.proofs.turns.Core.settle.Goals as goal

laws_at : (g : Over) (store : g.row.S.Denot) → StoreLaws g.S.EawStore.tells g.S.EawStore.opens (g.S.EawStore.view store)
laws_at g store = record {
  long = λ told. g.met.S.EawStore.long store told;
  some = λ told alive. g.met.S.EawStore.some_now store told alive;
  counts = λ told t image le left. g.met.S.EawStore.counts_now store t image told le left;
  only = λ told alive image left. g.met.S.EawStore.only_now store image told alive left;
}

pub settle-requires-clause-inside : goal.settle-requires-clause-inside
settle-requires-clause-inside g c =
    let V = g.S.EawStore.view in
    let i = c.self.inside in
    let before : length i.history.items ≡ c.count-before.result = omega (arith, ap (λ (dones : List Done). length dones) c.in-Ok.ensures.items, c.count-before.ensures.count) in
    let last : c.count-before.result + c.offered-count.result.1 ≡ length i.history.items + length (offered_in i.seats) = omega (arith, before, c.offered-count.ensures.count) in
    let ends = λ (state : State) (is : IsOf i.seats (length i.history.items) state). subst (λ (was : List Done). Ends ending.Committed (c.count-before.result + c.offered-count.result.1) state (offered_in i.seats) i.seats was c.take_offered.new.into.items c.take_offered.new.self)
    c.in-Ok.ensures.items (c.take_offered.ensures.ends state (record { live = is.live; offers = is.offers; long = is.long ∙ before })) in
    has_seat g.S.EawStore.tells g.S.EawStore.opens g.K.KeyIndex.index g.met.S.EawStore.one_data (pages_of (V i.records.store) i.records) (pages_of (V c.commit_group.new.self.store) c.commit_group.new.self) (laws_at g i.records.store) (laws_at g c.commit_group.new.self.store)
    (table_of i.base) i.history.items i.seats i.doubt i.base c.self.invariant (subst (λ (h : Held g.row.S.Denot). IsAlive (V h.records.store)) (sym c.self.view_is) c.requires.alive) c.args.caller
    (subst (λ (h : Held g.row.S.Denot). c.args.caller < (V h.records.store).shape.numbers) (sym c.self.view_is) c.requires.inside) (subst (λ (h : Held g.row.S.Denot). offers_in h.seats c.args.caller ≡ offered) (sym c.self.view_is) c.requires.offered)
    (c.count-before.result + c.offered-count.result.1) last c.take_offered.new.self c.take_offered.new.into.items ends

pub settle-requires-clause-committed : goal.settle-requires-clause-committed
settle-requires-clause-committed g c =
    let V = g.S.EawStore.view in
    let i = c.self.inside in
    let before : length i.history.items ≡ c.count-before.result = omega (arith, ap (λ (dones : List Done). length dones) c.in-Ok.ensures.items, c.count-before.ensures.count) in
    let last : c.count-before.result + c.offered-count.result.1 ≡ length i.history.items + length (offered_in i.seats) = omega (arith, before, c.offered-count.ensures.count) in
    let ends = λ (state : State) (is : IsOf i.seats (length i.history.items) state). subst (λ (was : List Done). Ends ending.Committed (c.count-before.result + c.offered-count.result.1) state (offered_in i.seats) i.seats was c.take_offered.new.into.items c.take_offered.new.self)
    c.in-Ok.ensures.items (c.take_offered.ensures.ends state (record { live = is.live; offers = is.offers; long = is.long ∙ before })) in
    has_number g.S.EawStore.tells g.S.EawStore.opens g.K.KeyIndex.index g.met.S.EawStore.one_data (pages_of (V i.records.store) i.records) (pages_of (V c.commit_group.new.self.store) c.commit_group.new.self) (laws_at g i.records.store) (laws_at g c.commit_group.new.self.store)
    (table_of i.base) i.history.items i.seats i.doubt i.base c.self.invariant (subst (λ (h : Held g.row.S.Denot). IsAlive (V h.records.store)) (sym c.self.view_is) c.requires.alive) c.args.caller
    (subst (λ (h : Held g.row.S.Denot). c.args.caller < (V h.records.store).shape.numbers) (sym c.self.view_is) c.requires.inside) (subst (λ (h : Held g.row.S.Denot). offers_in h.seats c.args.caller ≡ offered) (sym c.self.view_is) c.requires.offered)
    (c.count-before.result + c.offered-count.result.1) last c.take_offered.new.self c.take_offered.new.into.items ends

pub invariant_of-self-in-Ok-commit_group : goal.invariant_of-self-in-Ok-commit_group
invariant_of-self-in-Ok-commit_group g c =
    let V = g.S.EawStore.view in
    let I = g.K.KeyIndex.index in
    let i = c.self.inside in
    let q = pages_of (V c.commit_group.new.self.store) c.commit_group.new.self in
    let before : length i.history.items ≡ c.count-before.result = omega (arith, ap (λ (dones : List Done). length dones) c.in-Ok.ensures.items, c.count-before.ensures.count) in
    let last : c.count-before.result + c.offered-count.result.1 ≡ length i.history.items + length (offered_in i.seats) = omega (arith, before, c.offered-count.ensures.count) in
    let ends = λ (state : State) (is : IsOf i.seats (length i.history.items) state). subst (λ (was : List Done). Ends ending.Committed (c.count-before.result + c.offered-count.result.1) state (offered_in i.seats) i.seats was c.take_offered.new.into.items c.take_offered.new.self)
    c.in-Ok.ensures.items (c.take_offered.ensures.ends state (record { live = is.live; offers = is.offers; long = is.long ∙ before })) in
    subst (λ (longer : List Done). IsKept g.S.EawStore.tells g.S.EawStore.opens I q (length c.settle.new.self.places) i.base
    (state_at I (V c.commit_group.new.self.store) c.settle.new.self.names (table_of i.base) longer (live_in c.settle.new.self) (offers_in c.settle.new.self) i.doubt)) (λ j. c.take_offered.new.into.items)
    (group_keeps g.S.EawStore.tells g.S.EawStore.opens I g.met.S.EawStore.one_data (pages_of (V i.records.store) i.records) q (laws_at g i.records.store) (laws_at g c.commit_group.new.self.store)
    (table_of i.base) i.history.items i.seats i.doubt i.base c.self.invariant (subst (λ (h : Held g.row.S.Denot). IsAlive (V h.records.store)) (sym c.self.view_is) c.requires.alive) c.args.caller
    (subst (λ (h : Held g.row.S.Denot). c.args.caller < (V h.records.store).shape.numbers) (sym c.self.view_is) c.requires.inside) (subst (λ (h : Held g.row.S.Denot). offers_in h.seats c.args.caller ≡ offered) (sym c.self.view_is) c.requires.offered)
    (c.count-before.result + c.offered-count.result.1) last (members c.offered-count.result.0) c.offered-count.ensures.callers c.commit_group.result c.commit_group.ensures.does c.in-Ok-commit_group.is c.take_offered.new.self c.take_offered.new.into.items ends
    c.settle.new.self c.settle.ensures.free)

pub returns-in-Ok-commit_group-clause-steps : goal.returns-in-Ok-commit_group-clause-steps
returns-in-Ok-commit_group-clause-steps g c =
    let V = g.S.EawStore.view in
    let I = g.K.KeyIndex.index in
    let i = c.self.inside in
    let q = pages_of (V c.commit_group.new.self.store) c.commit_group.new.self in
    let before : length i.history.items ≡ c.count-before.result = omega (arith, ap (λ (dones : List Done). length dones) c.in-Ok.ensures.items, c.count-before.ensures.count) in
    let last : c.count-before.result + c.offered-count.result.1 ≡ length i.history.items + length (offered_in i.seats) = omega (arith, before, c.offered-count.ensures.count) in
    let ends = λ (state : State) (is : IsOf i.seats (length i.history.items) state). subst (λ (was : List Done). Ends ending.Committed (c.count-before.result + c.offered-count.result.1) state (offered_in i.seats) i.seats was c.take_offered.new.into.items c.take_offered.new.self)
    c.in-Ok.ensures.items (c.take_offered.ensures.ends state (record { live = is.live; offers = is.offers; long = is.long ∙ before })) in
    subst (λ (x : Held g.row.S.Denot × List Done). Steps g.S.EawStore.tells c.args.caller (call.Control control.Settle) (core_of g.S.EawStore.opens I (V x.0.records.store) x.0)
    (core_of g.S.EawStore.opens I (V c.commit_group.new.self.store) (record { records = c.commit_group.new.self; base = i.base; seats = c.settle.new.self; history = x.1; doubt = i.doubt })) (Committed c.settle.result)) (λ j. (c.self.view_is j, c.take_offered.new.into.items))
    (group_steps g.S.EawStore.tells g.S.EawStore.opens I g.met.S.EawStore.one_data (pages_of (V i.records.store) i.records) q (laws_at g i.records.store) (laws_at g c.commit_group.new.self.store)
    (table_of i.base) i.history.items i.seats i.doubt i.base c.self.invariant (subst (λ (h : Held g.row.S.Denot). IsAlive (V h.records.store)) (sym c.self.view_is) c.requires.alive) c.args.caller
    (subst (λ (h : Held g.row.S.Denot). c.args.caller < (V h.records.store).shape.numbers) (sym c.self.view_is) c.requires.inside) (subst (λ (h : Held g.row.S.Denot). offers_in h.seats c.args.caller ≡ offered) (sym c.self.view_is) c.requires.offered)
    (c.count-before.result + c.offered-count.result.1) last (members c.offered-count.result.0) c.offered-count.ensures.callers c.commit_group.result c.commit_group.ensures.does c.in-Ok-commit_group.is c.take_offered.new.self c.take_offered.new.into.items ends
    c.settle.new.self c.settle.ensures.free c.settle.result c.settle.ensures.number)

pub invariant_of-self-in-Err : goal.invariant_of-self-in-Err
invariant_of-self-in-Err g c =
    let V = g.S.EawStore.view in
    let I = g.K.KeyIndex.index in
    let i = c.self.inside in
    let p = pages_of (V i.records.store) i.records in
    let q = pages_of (V c.commit_group.new.self.store) c.commit_group.new.self in
    let alive = subst (λ (h : Held g.row.S.Denot). IsAlive (V h.records.store)) (sym c.self.view_is) c.requires.alive in
    let before : length i.history.items ≡ c.count-before.result = omega (arith, ap (λ (dones : List Done). length dones) c.in-Ok.ensures.items, c.count-before.ensures.count) in
    let last : c.count-before.result + c.offered-count.result.1 ≡ length i.history.items + length (offered_in i.seats) = omega (arith, before, c.offered-count.ensures.count) in
    let ends = λ (state : State) (is : IsOf i.seats (length i.history.items) state). subst (λ (was : List Done). Ends ending.Doubtful (c.count-before.result + c.offered-count.result.1) state (offered_in i.seats) i.seats was c.take_offered-in-Err.new.into.items c.take_offered-in-Err.new.self)
    c.in-Ok.ensures.empty (c.take_offered-in-Err.ensures.ends state (record { live = is.live; offers = is.offers; long = is.long ∙ before })) in
    let fails = c.in-Err.is ∙ ap (λ (f : TableFault). (let r : Result (Unit {0}) TableFault = Err f in r)) (group_fails p alive c.in-Err.fault c.in-Err.ensures.does.cause) in
    subst (λ (x : List Done × List Done). IsKept g.S.EawStore.tells g.S.EawStore.opens I q (length c.take_offered-in-Err.new.self.places) i.base
    (state_at I (V c.commit_group.new.self.store) c.take_offered-in-Err.new.self.names (table_of i.base) x.0 (live_in c.take_offered-in-Err.new.self) (offers_in c.take_offered-in-Err.new.self) x.1)) (λ j. (sym c.in-Ok.ensures.items j, sym c.group.ensures j))
    (doubt_keeps g.S.EawStore.tells g.S.EawStore.opens I g.met.S.EawStore.one_data p q (laws_at g i.records.store) (laws_at g c.commit_group.new.self.store)
    (table_of i.base) i.history.items i.seats i.doubt i.base c.self.invariant alive c.args.caller
    (subst (λ (h : Held g.row.S.Denot). c.args.caller < (V h.records.store).shape.numbers) (sym c.self.view_is) c.requires.inside) (subst (λ (h : Held g.row.S.Denot). offers_in h.seats c.args.caller ≡ offered) (sym c.self.view_is) c.requires.offered)
    (c.count-before.result + c.offered-count.result.1) last (members c.offered-count.result.0) c.offered-count.ensures.callers c.commit_group.result c.commit_group.ensures.does fails c.take_offered-in-Err.new.self c.take_offered-in-Err.new.into.items ends
    (λ told. c.commit_group.ensures.due told alive fails))

pub returns-in-Err-clause-steps : goal.returns-in-Err-clause-steps
returns-in-Err-clause-steps g c =
    let V = g.S.EawStore.view in
    let I = g.K.KeyIndex.index in
    let i = c.self.inside in
    let p = pages_of (V i.records.store) i.records in
    let q = pages_of (V c.commit_group.new.self.store) c.commit_group.new.self in
    let alive = subst (λ (h : Held g.row.S.Denot). IsAlive (V h.records.store)) (sym c.self.view_is) c.requires.alive in
    let before : length i.history.items ≡ c.count-before.result = omega (arith, ap (λ (dones : List Done). length dones) c.in-Ok.ensures.items, c.count-before.ensures.count) in
    let last : c.count-before.result + c.offered-count.result.1 ≡ length i.history.items + length (offered_in i.seats) = omega (arith, before, c.offered-count.ensures.count) in
    let ends = λ (state : State) (is : IsOf i.seats (length i.history.items) state). subst (λ (was : List Done). Ends ending.Doubtful (c.count-before.result + c.offered-count.result.1) state (offered_in i.seats) i.seats was c.take_offered-in-Err.new.into.items c.take_offered-in-Err.new.self)
    c.in-Ok.ensures.empty (c.take_offered-in-Err.ensures.ends state (record { live = is.live; offers = is.offers; long = is.long ∙ before })) in
    let fault = group_fails p alive c.in-Err.fault c.in-Err.ensures.does.cause in
    let fails = c.in-Err.is ∙ ap (λ (f : TableFault). (let r : Result (Unit {0}) TableFault = Err f in r)) fault in
    let told = c.from.ensures ∙ ap reply_to fault in
    let history = c.in-Ok.ensures.items in
    subst (λ (x : Held g.row.S.Denot × List Done × List Done × Reply). Steps g.S.EawStore.tells c.args.caller (call.Control control.Settle) (core_of g.S.EawStore.opens I (V x.0.records.store) x.0)
    (core_of g.S.EawStore.opens I (V c.commit_group.new.self.store) (record { records = c.commit_group.new.self; base = i.base; seats = c.take_offered-in-Err.new.self; history = x.1; doubt = x.2 })) x.3) (λ j. (c.self.view_is j, sym history j, sym c.group.ensures j, sym told j))
    (doubt_steps g.S.EawStore.tells g.S.EawStore.opens I g.met.S.EawStore.one_data p q (laws_at g i.records.store) (laws_at g c.commit_group.new.self.store)
    (table_of i.base) i.history.items i.seats i.doubt i.base c.self.invariant alive c.args.caller
    (subst (λ (h : Held g.row.S.Denot). c.args.caller < (V h.records.store).shape.numbers) (sym c.self.view_is) c.requires.inside) (subst (λ (h : Held g.row.S.Denot). offers_in h.seats c.args.caller ≡ offered) (sym c.self.view_is) c.requires.offered)
    (c.count-before.result + c.offered-count.result.1) last (members c.offered-count.result.0) c.offered-count.ensures.callers c.commit_group.result c.commit_group.ensures.does fails c.take_offered-in-Err.new.self c.take_offered-in-Err.new.into.items ends
    (λ told. c.commit_group.ensures.due told alive fails))
