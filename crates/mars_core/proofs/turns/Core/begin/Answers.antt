use Rattle.mars_core.proofs.GivingUp.{sends_none}
use Rattle.eaw_face.specs.Mirroring.{Mirrors}
use Rattle.std.proofs.Common.{◌≡◌, ℕ, subst, sym, ◌∙◌, refl, ◌<◌}
use Rattle.std.specs.Prelude.{length}
use Rattle.eaw_face.specs.Causes.{IsAlive}
use Rattle.page_store.specs.Shown.{pages_of}
use Rattle.history.specs.Rows.{table_of}
use Rattle.history.specs.declared.call.Call.TheVariants.{Begin}
use Rattle.history.specs.declared.call.Reply.TheVariants.{Fine}
use Rattle.caller_steps.specs.Core.{Steps}
use Rattle.caller_steps.specs.State.{unoffered}
use Rattle.mars_core.specs.Held.{Held, core_of, state_at}
use Rattle.mars_core.specs.Seats.{live_in, offers_in}
use Rattle.mars_core.proofs.Staying.{none_of, begun_keeps, begun_steps}
use Rattle.mars_core.proofs.turns.Core.begin.Goals as goal

pub invariant_of-self : goal.invariant_of-self
invariant_of-self g c =
    let V = g.S.EawStore.view in
    let i = c.self.inside in
    let store = i.records.store in
    begun_keeps g.S.EawStore.tells g.S.EawStore.opens g.K.KeyIndex.index (pages_of (V store) i.records)
    (record { long = λ told. g.met.S.EawStore.long store told; some = λ told alive. g.met.S.EawStore.some_now store told alive; counts = λ told t image le left. g.met.S.EawStore.counts_now store t image told le left; only = λ told alive image left. g.met.S.EawStore.only_now store image told alive left })
    (state_at g.K.KeyIndex.index (V store) i.seats.names (table_of i.base) i.history.items (live_in i.seats) (offers_in i.seats) i.doubt) _ (record { indexed = refl; dead = refl }) (length i.seats.places) (length c.begin.new.self.places) c.begin.ensures.count i.base c.self.invariant
    (subst (λ (h : Held g.row.S.Denot). IsAlive (V h.records.store)) (sym c.self.view_is) c.requires.alive) c.args.caller (none_of (live_in i.seats c.args.caller) (sym c.is_live.ensures ∙ c.if-is_live.false)) (subst (λ (h : Held g.row.S.Denot). offers_in h.seats c.args.caller ≡ unoffered) (sym c.self.view_is) c.requires.unoffered)
    (λ j. state_at g.K.KeyIndex.index (V store) (c.begin.ensures.names j) (table_of i.base) i.history.items (c.begin.ensures.live j) (c.begin.ensures.offers j) i.doubt)

pub returns : goal.returns
returns g c =
    let V = g.S.EawStore.view in
    let i = c.self.inside in
    let store = i.records.store in
    record {
      steps = subst (λ (h : Held g.row.S.Denot). Steps g.S.EawStore.tells c.args.caller Begin (core_of g.S.EawStore.opens g.K.KeyIndex.index (V h.records.store) h)
          (core_of g.S.EawStore.opens g.K.KeyIndex.index (V store) (record { records = i.records; base = i.base; seats = c.begin.new.self; history = i.history.items; doubt = i.doubt })) Fine) c.self.view_is
          (begun_steps g.S.EawStore.tells g.S.EawStore.opens g.K.KeyIndex.index (pages_of (V store) i.records)
          (record { long = λ told. g.met.S.EawStore.long store told; some = λ told alive. g.met.S.EawStore.some_now store told alive; counts = λ told t image le left. g.met.S.EawStore.counts_now store t image told le left; only = λ told alive image left. g.met.S.EawStore.only_now store image told alive left })
          (state_at g.K.KeyIndex.index (V store) i.seats.names (table_of i.base) i.history.items (live_in i.seats) (offers_in i.seats) i.doubt) _ (record { indexed = refl; dead = refl }) (length i.seats.places) (length c.begin.new.self.places) c.begin.ensures.count i.base c.self.invariant
          (subst (λ (h : Held g.row.S.Denot). IsAlive (V h.records.store)) (sym c.self.view_is) c.requires.alive) c.args.caller (none_of (live_in i.seats c.args.caller) (sym c.is_live.ensures ∙ c.if-is_live.false)) (subst (λ (h : Held g.row.S.Denot). offers_in h.seats c.args.caller ≡ unoffered) (sym c.self.view_is) c.requires.unoffered)
          (λ j. state_at g.K.KeyIndex.index (V store) (c.begin.ensures.names j) (table_of i.base) i.history.items (c.begin.ensures.live j) (c.begin.ensures.offers j) i.doubt));
      sends = subst (λ (h : Held g.row.S.Denot). Mirrors g.S.EawStore.tells (g.S.EawStore.view h.records.store) (g.S.EawStore.view c.self.inside.records.store)) c.self.view_is (sends_none g.S.EawStore.tells (g.S.EawStore.view c.self.inside.records.store));
      not_busy = refl;
    }

pub is_live-requires : goal.is_live-requires
is_live-requires g c = subst (λ (n : ℕ). c.args.caller < n) (sym c.self.invariant.seats) (subst (λ (h : Held g.row.S.Denot). c.args.caller < (g.S.EawStore.view h.records.store).shape.numbers) (sym c.self.view_is) c.requires.inside)

pub begin-requires-clause-unoffered : goal.begin-requires-clause-unoffered
begin-requires-clause-unoffered g c = subst (λ (h : Held g.row.S.Denot). offers_in h.seats c.args.caller ≡ unoffered) (sym c.self.view_is) c.requires.unoffered

pub begin-requires-clause-inside : goal.begin-requires-clause-inside
begin-requires-clause-inside g c = subst (λ (n : ℕ). c.args.caller < n) (sym c.self.invariant.seats) (subst (λ (h : Held g.row.S.Denot). c.args.caller < (g.S.EawStore.view h.records.store).shape.numbers) (sym c.self.view_is) c.requires.inside)
