use Rattle.eaw_face.specs.Mirroring.{Mirrors}
use Rattle.std.proofs.Common.{◌≡◌, ℕ, true, Option, Some, [], length, Result, Err, unwrap_or, ap, subst, sym, ◌∙◌, refl, ◌<◌}
use Rattle.std.specs.Prelude.{is_some}
use Rattle.eaw_face.specs.Causes.{IsAlive}
use Rattle.page_store.specs.Shown.{pages_of}
use Rattle.history.specs.Rows.{table_of}
use Rattle.history.specs.Table.{Granted}
use Rattle.history.specs.declared.call.Call.TheVariants.{Control}
use Rattle.history.specs.declared.call.Control.TheVariants.{Abort}
use Rattle.history.specs.declared.call.Reply.TheVariants.{Fine}
use Rattle.record_table.specs.declared.fault.TableFault.{TableFault}
use Rattle.caller_steps.specs.Core.{Steps}
use Rattle.caller_steps.specs.State.{unoffered}
use Rattle.mars_core.specs.Held.{Held, core_of, state_at}
use Rattle.mars_core.specs.Seats.{Seats, live_in, offers_in, calls_at}
use Rattle.mars_core.proofs.Prefixes.{StoreLaws}
use Rattle.mars_core.proofs.Staying.{some_of}
use Rattle.mars_core.proofs.Finishing.{abort_fails, aborted_keeps, aborted_steps}
use Rattle.mars_core.proofs.turns.Core.abort.Given.{Over}
use Rattle.mars_core.proofs.turns.Core.abort.Goals as goal

laws_at : (g : Over) (store : g.row.S.Denot) → StoreLaws g.S.EawStore.tells g.S.EawStore.opens (g.S.EawStore.view store)
laws_at g store = record {
  long = λ told. g.met.S.EawStore.long store told;
  some = λ told alive. g.met.S.EawStore.some_now store told alive;
  counts = λ told t image le left. g.met.S.EawStore.counts_now store t image told le left;
  only = λ told alive image left. g.met.S.EawStore.only_now store image told alive left;
}

live_is : (seats : Seats) (t : ℕ) → is_some (live_in seats t) ≡ true → live_in seats t ≡ Some (calls_at seats t)
live_is seats t there = let x = some_of (live_in seats t) there in x.1 ∙ ap (λ (cs : Granted). Some cs) (sym (ap (λ (o : Option Granted). unwrap_or o []) x.1))

pub invariant_of-self : goal.invariant_of-self
invariant_of-self g c = aborted_keeps g.S.EawStore.tells g.S.EawStore.opens g.K.KeyIndex.index g.met.S.EawStore.one_data (pages_of (g.S.EawStore.view c.self.inside.records.store) c.self.inside.records) (pages_of (g.S.EawStore.view c.abort.new.self.store) c.abort.new.self)
    (laws_at g c.self.inside.records.store) (laws_at g c.abort.new.self.store) (state_at g.K.KeyIndex.index (g.S.EawStore.view c.self.inside.records.store) c.self.inside.seats.names (table_of c.self.inside.base) c.self.inside.history.items (live_in c.self.inside.seats) (offers_in c.self.inside.seats) c.self.inside.doubt) (state_at g.K.KeyIndex.index (g.S.EawStore.view c.abort.new.self.store) c.end.new.self.names (table_of c.self.inside.base) c.self.inside.history.items (live_in c.end.new.self) (offers_in c.end.new.self) c.self.inside.doubt) (record { indexed = refl; dead = refl }) (record { indexed = refl; dead = refl })
    c.end.ensures.names c.end.ensures.offers refl (length c.self.inside.seats.places) (length c.end.new.self.places) c.end.ensures.count c.self.inside.base c.self.invariant
    (subst (λ (h : Held g.row.S.Denot). IsAlive (g.S.EawStore.view h.records.store)) (sym c.self.view_is) c.requires.alive) c.args.caller (calls_at c.self.inside.seats c.args.caller) (live_is c.self.inside.seats c.args.caller (sym c.if-not-is_live.ensures)) (subst (λ (h : Held g.row.S.Denot). offers_in h.seats c.args.caller ≡ unoffered) (sym c.self.view_is) c.requires.unoffered) refl refl c.in-Ok.ensures.does c.end.ensures.live c.in-Ok.ensures.free

pub invariant_of-self-in-Err : goal.invariant_of-self-in-Err
-- an abort uses no medium
invariant_of-self-in-Err g c = absurd (c.abort.ensures.due (c.in-Err.is ∙ ap (λ (f : TableFault). (let r : Result (Unit {0}) TableFault = Err f in r)) (abort_fails g.S.EawStore.tells g.K.KeyIndex.index (pages_of (g.S.EawStore.view c.self.inside.records.store) c.self.inside.records) c.args.caller (subst (λ (h : Held g.row.S.Denot). IsAlive (g.S.EawStore.view h.records.store)) (sym c.self.view_is) c.requires.alive) c.in-Err.fault c.in-Err.ensures.does.cause)))

pub returns-in-Ok : goal.returns-in-Ok
returns-in-Ok g c = record {
  steps = subst (λ (h : Held g.row.S.Denot). Steps g.S.EawStore.tells c.args.caller (Control Abort) (core_of g.S.EawStore.opens g.K.KeyIndex.index (g.S.EawStore.view h.records.store) h)
      (core_of g.S.EawStore.opens g.K.KeyIndex.index (g.S.EawStore.view c.abort.new.self.store)
      (record { records = c.abort.new.self; base = c.self.inside.base; seats = c.end.new.self; history = c.self.inside.history.items; doubt = c.self.inside.doubt })) Fine) c.self.view_is
      (aborted_steps g.S.EawStore.tells g.S.EawStore.opens g.K.KeyIndex.index g.met.S.EawStore.one_data (pages_of (g.S.EawStore.view c.self.inside.records.store) c.self.inside.records) (pages_of (g.S.EawStore.view c.abort.new.self.store) c.abort.new.self)
      (laws_at g c.self.inside.records.store) (laws_at g c.abort.new.self.store) (state_at g.K.KeyIndex.index (g.S.EawStore.view c.self.inside.records.store) c.self.inside.seats.names (table_of c.self.inside.base) c.self.inside.history.items (live_in c.self.inside.seats) (offers_in c.self.inside.seats) c.self.inside.doubt) (state_at g.K.KeyIndex.index (g.S.EawStore.view c.abort.new.self.store) c.end.new.self.names (table_of c.self.inside.base) c.self.inside.history.items (live_in c.end.new.self) (offers_in c.end.new.self) c.self.inside.doubt) (record { indexed = refl; dead = refl }) (record { indexed = refl; dead = refl })
      c.end.ensures.names c.end.ensures.offers refl (length c.self.inside.seats.places) (length c.end.new.self.places) c.end.ensures.count c.self.inside.base c.self.invariant
      (subst (λ (h : Held g.row.S.Denot). IsAlive (g.S.EawStore.view h.records.store)) (sym c.self.view_is) c.requires.alive) c.args.caller (calls_at c.self.inside.seats c.args.caller) (live_is c.self.inside.seats c.args.caller (sym c.if-not-is_live.ensures)) (subst (λ (h : Held g.row.S.Denot). offers_in h.seats c.args.caller ≡ unoffered) (sym c.self.view_is) c.requires.unoffered) refl refl c.in-Ok.ensures.does c.end.ensures.live);
  sends = subst (λ (h : Held g.row.S.Denot). Mirrors g.S.EawStore.tells (g.S.EawStore.view h.records.store) (g.S.EawStore.view c.abort.new.self.store)) c.self.view_is (c.in-Ok.ensures.does.mirrors);
  not_busy = refl;
}

pub returns-in-Err : goal.returns-in-Err
-- an abort uses no medium
returns-in-Err g c = absurd (c.abort.ensures.due (c.in-Err.is ∙ ap (λ (f : TableFault). (let r : Result (Unit {0}) TableFault = Err f in r)) (abort_fails g.S.EawStore.tells g.K.KeyIndex.index (pages_of (g.S.EawStore.view c.self.inside.records.store) c.self.inside.records) c.args.caller (subst (λ (h : Held g.row.S.Denot). IsAlive (g.S.EawStore.view h.records.store)) (sym c.self.view_is) c.requires.alive) c.in-Err.fault c.in-Err.ensures.does.cause)))

pub is_live-requires : goal.is_live-requires
is_live-requires g c = subst (λ (n : ℕ). c.args.caller < n) (sym c.self.invariant.seats) (subst (λ (h : Held g.row.S.Denot). c.args.caller < (g.S.EawStore.view h.records.store).shape.numbers) (sym c.self.view_is) c.requires.inside)

pub abort-requires : goal.abort-requires
abort-requires g c = subst (λ (h : Held g.row.S.Denot). c.args.caller < (g.S.EawStore.view h.records.store).shape.numbers) (sym c.self.view_is) c.requires.inside

pub end-requires-clause-unoffered : goal.end-requires-clause-unoffered
end-requires-clause-unoffered g c = subst (λ (h : Held g.row.S.Denot). offers_in h.seats c.args.caller ≡ unoffered) (sym c.self.view_is) c.requires.unoffered

pub end-requires-clause-inside : goal.end-requires-clause-inside
end-requires-clause-inside g c = subst (λ (n : ℕ). c.args.caller < n) (sym c.self.invariant.seats) (subst (λ (h : Held g.row.S.Denot). c.args.caller < (g.S.EawStore.view h.records.store).shape.numbers) (sym c.self.view_is) c.requires.inside)
