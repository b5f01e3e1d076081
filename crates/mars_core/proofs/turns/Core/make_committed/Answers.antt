use Rattle.std.proofs.Common.{◌≡◌, None, length, ap, subst, sym, ◌∙◌, refl}
use Rattle.eaw_face.specs.Causes.{IsAlive}
use Rattle.page_store.specs.Shown.{pages_of}
use Rattle.history.specs.Rows.{table_of}
use Rattle.history.specs.declared.call.Call.{Call}
use Rattle.history.specs.declared.call.Call.TheVariants as call
use Rattle.history.specs.declared.call.Control.TheVariants as control
use Rattle.history.specs.declared.call.Reply.TheVariants.{Committed, Already, NoTransaction}
use Rattle.caller_steps.specs.Core.{Steps}
use Rattle.mars_core.specs.Held.{Held, core_of, state_at, state_over}
use Rattle.mars_core.specs.Seats.{live_in, offers_in, seat_in, calls_in}
use Rattle.mars_core.proofs.Prefixes.{StoreLaws}
use Rattle.mars_core.proofs.Seating.{gone}
use Rattle.mars_core.proofs.Purged.{no_purge}
use Rattle.mars_core.proofs.Settling.{told_keeps, told_steps, unsettled_begins, unsettled_purges, unsettled_cause, unsettled_asks}
use Rattle.mars_core.proofs.GivingUp.{sends_none}
use Rattle.mars_core.proofs.Staying.{update_same}
use Rattle.mars_core.proofs.turns.Core.make_committed.Given.{Over}
use Rattle.mars_core.proofs.turns.Core.make_committed.Goals as goal

laws_at : (g : Over) (store : g.row.S.Denot) → StoreLaws g.S.EawStore.tells g.S.EawStore.opens (g.S.EawStore.view store)
laws_at g store = record {
  long = λ told. g.met.S.EawStore.long store told;
  some = λ told alive. g.met.S.EawStore.some_now store told alive;
  counts = λ told t image le left. g.met.S.EawStore.counts_now store t image told le left;
  only = λ told alive image left. g.met.S.EawStore.only_now store image told alive left;
}

pub invariant_of-self : goal.invariant_of-self
invariant_of-self g c =
    let V = g.S.EawStore.view in
    let I = g.K.KeyIndex.index in
    let i = c.self.inside in
    let free = c.settle.ensures.free in
    let none : live_in i.seats c.args.caller ≡ None = ap calls_in (gone (seat_in i.seats.places c.args.caller) c.settle.result c.settle.ensures.number) in
    told_keeps g.S.EawStore.tells g.S.EawStore.opens I (pages_of (V i.records.store) i.records) (laws_at g i.records.store)
    (state_at I (V i.records.store) i.seats.names (table_of i.base) i.history.items (live_in i.seats) (offers_in i.seats) i.doubt) _ (record { indexed = refl; dead = refl }) (length i.seats.places) (length c.settle.new.self.places) free.count i.base c.self.invariant
    (subst (λ (h : Held g.row.S.Denot). IsAlive (V h.records.store)) (sym c.self.view_is) c.requires.alive) c.args.caller c.settle.result c.settle.ensures.number none
    (λ j. state_at I (V i.records.store) (free.names j) (table_of i.base) i.history.items ((free.live ∙ update_same (live_in i.seats) c.args.caller None none) j) (free.offers j) i.doubt)

pub returns-in-Settle-clause-steps : goal.returns-in-Settle-clause-steps
returns-in-Settle-clause-steps g c =
    let V = g.S.EawStore.view in
    let I = g.K.KeyIndex.index in
    let core = core_of g.S.EawStore.opens I in
    let i = c.self.inside in
    let free = c.settle.ensures.free in
    let none : live_in i.seats c.args.caller ≡ None = ap calls_in (gone (seat_in i.seats.places c.args.caller) c.settle.result c.settle.ensures.number) in
    subst (λ (x : Call × Held g.row.S.Denot). Steps g.S.EawStore.tells c.args.caller x.0 (core (V x.1.records.store) x.1)
    (core (V i.records.store) (record { records = i.records; base = i.base; seats = c.settle.new.self; history = i.history.items; doubt = i.doubt })) (Committed c.settle.result)) (λ j. (sym (c.in-Control.is ∙ ap call.Control c.in-Settle.is) j, c.self.view_is j))
    (told_steps g.S.EawStore.tells g.S.EawStore.opens I (pages_of (V i.records.store) i.records) (laws_at g i.records.store)
    (state_at I (V i.records.store) i.seats.names (table_of i.base) i.history.items (live_in i.seats) (offers_in i.seats) i.doubt) _ (record { indexed = refl; dead = refl }) (length i.seats.places) (length c.settle.new.self.places) free.count i.base c.self.invariant
    (subst (λ (h : Held g.row.S.Denot). IsAlive (V h.records.store)) (sym c.self.view_is) c.requires.alive) c.args.caller c.settle.result c.settle.ensures.number none
    (λ j. state_at I (V i.records.store) (free.names j) (table_of i.base) i.history.items ((free.live ∙ update_same (live_in i.seats) c.args.caller None none) j) (free.offers j) i.doubt))

pub returns-in-Begin-clause-steps : goal.returns-in-Begin-clause-steps
returns-in-Begin-clause-steps g c =
    let V = g.S.EawStore.view in
    let h = c.args.self.now in
    let core = core_of g.S.EawStore.opens g.K.KeyIndex.index (V h.records.store) h in
    subst (λ (call : Call). Steps g.S.EawStore.tells c.args.caller call core core Already) (sym c.in-Begin.is)
    (unsettled_begins g.S.EawStore.tells g.S.EawStore.opens g.K.KeyIndex.index (pages_of (V h.records.store) h.records) (state_over g.K.KeyIndex.index (V h.records.store) h) (record { indexed = refl; dead = refl })
    c.requires.safe c.requires.alive c.args.caller c.requires.committed.0 c.requires.committed.1)

pub returns-in-Purge-clause-steps : goal.returns-in-Purge-clause-steps
returns-in-Purge-clause-steps g c =
    let V = g.S.EawStore.view in
    let h = c.args.self.now in
    let core = core_of g.S.EawStore.opens g.K.KeyIndex.index (V h.records.store) h in
    subst (λ (call : Call). Steps g.S.EawStore.tells c.args.caller call core core Already) (sym (c.in-Control.is ∙ ap call.Control c.in-Purge.is))
    (unsettled_purges g.S.EawStore.tells g.S.EawStore.opens g.K.KeyIndex.index (pages_of (V h.records.store) h.records) (state_over g.K.KeyIndex.index (V h.records.store) h) (record { indexed = refl; dead = refl })
    c.requires.safe c.requires.alive c.args.caller c.requires.committed.0 c.requires.committed.1)

pub returns-in-Purge-clause-purge : goal.returns-in-Purge-clause-purge
returns-in-Purge-clause-purge g c _ =
    let V = g.S.EawStore.view in
    let h = c.args.self.now in
    unsettled_cause g.S.EawStore.tells g.S.EawStore.opens g.K.KeyIndex.index (pages_of (V h.records.store) h.records) (state_over g.K.KeyIndex.index (V h.records.store) h) (record { indexed = refl; dead = refl })
    c.requires.safe c.requires.alive c.args.caller c.requires.committed.0 c.requires.committed.1

pub returns-in-Begin-clause-purge : goal.returns-in-Begin-clause-purge
returns-in-Begin-clause-purge g c is = absurd (no_purge call.Begin refl (sym c.in-Begin.is ∙ is))

pub returns-in-Settle-clause-purge : goal.returns-in-Settle-clause-purge
returns-in-Settle-clause-purge g c is = absurd (no_purge (call.Control control.Settle) refl (sym (c.in-Control.is ∙ ap call.Control c.in-Settle.is) ∙ is))

pub returns-in-Table : goal.returns-in-Table
returns-in-Table g c =
    let V = g.S.EawStore.view in
    let h = c.args.self.now in
    let core = core_of g.S.EawStore.opens g.K.KeyIndex.index (V h.records.store) h in
    record {
      steps = subst (λ (call : Call). Steps g.S.EawStore.tells c.args.caller call core core NoTransaction) (sym c.in-Table.is)
          (unsettled_asks g.S.EawStore.tells g.S.EawStore.opens g.K.KeyIndex.index (pages_of (V h.records.store) h.records) (state_over g.K.KeyIndex.index (V h.records.store) h) (record { indexed = refl; dead = refl })
          c.requires.safe c.requires.alive c.args.caller c.requires.committed.0 c.requires.committed.1 (call.Table c.in-Table.field-0) (λ e. cc) (λ e. cc) (λ e. cc));
      purge = λ is. absurd (no_purge (call.Table c.in-Table.field-0) refl (sym c.in-Table.is ∙ is));
      sends = sends_none g.S.EawStore.tells (V h.records.store);
      not_busy = refl;
    }

pub returns-in_default : goal.returns-in_default
returns-in_default g c =
    let V = g.S.EawStore.view in
    let h = c.args.self.now in
    let core = core_of g.S.EawStore.opens g.K.KeyIndex.index (V h.records.store) h in
    record {
      steps = subst (λ (call : Call). Steps g.S.EawStore.tells c.args.caller call core core NoTransaction) (sym c.in-Control.is)
          (unsettled_asks g.S.EawStore.tells g.S.EawStore.opens g.K.KeyIndex.index (pages_of (V h.records.store) h.records) (state_over g.K.KeyIndex.index (V h.records.store) h) (record { indexed = refl; dead = refl })
          c.requires.safe c.requires.alive c.args.caller c.requires.committed.0 c.requires.committed.1 (call.Control c.in-Control.control) (λ e. cc) (λ e. c.in_default.not-Settle (let same : c.in-Control.control ≡ control.Settle = cc in same))
          (λ e. c.in_default.not-Purge (let same : c.in-Control.control ≡ control.Purge = cc in same)));
      purge = λ is. absurd (c.in_default.not-Purge (let e = sym c.in-Control.is ∙ is in let same : c.in-Control.control ≡ control.Purge = cc in same));
      sends = sends_none g.S.EawStore.tells (V h.records.store);
      not_busy = refl;
    }
