use Rattle.mars_core.proofs.GivingUp.{sends_none}
use Rattle.eaw_face.specs.Mirroring.{Mirrors}
use Rattle.std.proofs.Common.{◌≡◌, ◌<◌, ℕ, Some, None, length, ap, subst, sym, ◌∙◌, refl}
use Rattle.eaw_face.specs.Causes.{IsAlive}
use Rattle.page_store.specs.Shown.{pages_of}
use Rattle.history.specs.Rows.{table_of}
use Rattle.history.specs.declared.call.Call.TheVariants as call
use Rattle.history.specs.declared.call.Control.TheVariants as control
use Rattle.history.specs.declared.call.Reply.TheVariants.{Fine, NoTransaction}
use Rattle.caller_steps.specs.State.{Offer, unoffered, offered, offers_with}
use Rattle.caller_steps.specs.Core.{Steps}
use Rattle.mars_core.specs.Held.{Held, core_of, state_at}
use Rattle.mars_core.specs.Seats.{live_in, offers_in, calls_in}
use Rattle.mars_core.proofs.Prefixes.{StoreLaws}
use Rattle.mars_core.proofs.Settling.{given_keeps, given_steps}
use Rattle.mars_core.proofs.Staying.{update_same, changed_back, kept_same, absent_steps}
use Rattle.mars_core.proofs.turns.Core.offer.Given.{Over}
use Rattle.mars_core.proofs.turns.Core.offer.Goals as goal

laws_at : (g : Over) (store : g.row.S.Denot) → StoreLaws g.S.EawStore.tells g.S.EawStore.opens (g.S.EawStore.view store)
laws_at g store = record {
  long = λ told. g.met.S.EawStore.long store told;
  some = λ told alive. g.met.S.EawStore.some_now store told alive;
  counts = λ told t image le left. g.met.S.EawStore.counts_now store t image told le left;
  only = λ told alive image left. g.met.S.EawStore.only_now store image told alive left;
}

pub take-requires-clause-inside : goal.take-requires-clause-inside
take-requires-clause-inside g c = subst (λ (n : ℕ). c.args.caller < n) (sym c.self.invariant.seats) (subst (λ (h : Held g.row.S.Denot). c.args.caller < (g.S.EawStore.view h.records.store).shape.numbers) (sym c.self.view_is) c.requires.inside)

pub take-requires-clause-unoffered : goal.take-requires-clause-unoffered
take-requires-clause-unoffered g c = subst (λ (h : Held g.row.S.Denot). offers_in h.seats c.args.caller ≡ unoffered) (sym c.self.view_is) c.requires.unoffered

pub put_offered-requires-clause-inside : goal.put_offered-requires-clause-inside
put_offered-requires-clause-inside g c = subst (λ (n : ℕ). c.args.caller < n) (sym c.take.ensures.out.count)
    (subst (λ (n : ℕ). c.args.caller < n) (sym c.self.invariant.seats) (subst (λ (h : Held g.row.S.Denot). c.args.caller < (g.S.EawStore.view h.records.store).shape.numbers) (sym c.self.view_is) c.requires.inside))

-- without a live transaction nothing is taken out
pub invariant_of-self : goal.invariant_of-self
invariant_of-self g c =
    let V = g.S.EawStore.view in
    let i = c.self.inside in
    let same = c.take.ensures.out.live ∙ update_same (live_in i.seats) c.args.caller None (sym c.take.ensures.live ∙ ap calls_in c.in_default.is) in
    kept_same g.S.EawStore.tells g.S.EawStore.opens g.K.KeyIndex.index (pages_of (V i.records.store) i.records) (state_at g.K.KeyIndex.index (V i.records.store) i.seats.names (table_of i.base) i.history.items (live_in i.seats) (offers_in i.seats) i.doubt) _
    (length i.seats.places) (length c.take.new.self.places) i.base c.self.invariant c.take.ensures.out.count
    (λ j. state_at g.K.KeyIndex.index (V i.records.store) (c.take.ensures.out.names j) (table_of i.base) i.history.items (same j) (c.take.ensures.out.offers j) i.doubt)

pub returns-in_default : goal.returns-in_default
returns-in_default g c =
    let V = g.S.EawStore.view in
    let i = c.self.inside in
    let same = c.take.ensures.out.live ∙ update_same (live_in i.seats) c.args.caller None (sym c.take.ensures.live ∙ ap calls_in c.in_default.is) in
    record {
      steps = subst (λ (h : Held g.row.S.Denot). Steps g.S.EawStore.tells c.args.caller (call.Control control.Offer) (core_of g.S.EawStore.opens g.K.KeyIndex.index (V h.records.store) h)
          (core_of g.S.EawStore.opens g.K.KeyIndex.index (V i.records.store) (record { records = i.records; base = i.base; seats = c.take.new.self; history = i.history.items; doubt = i.doubt })) NoTransaction) c.self.view_is
          (absent_steps g.S.EawStore.tells g.S.EawStore.opens g.K.KeyIndex.index (pages_of (V i.records.store) i.records)
          (state_at g.K.KeyIndex.index (V i.records.store) i.seats.names (table_of i.base) i.history.items (live_in i.seats) (offers_in i.seats) i.doubt) (record { indexed = refl; dead = refl }) (length i.seats.places) i.base c.self.invariant
          (subst (λ (h : Held g.row.S.Denot). IsAlive (V h.records.store)) (sym c.self.view_is) c.requires.alive) c.args.caller (call.Control control.Offer) (sym c.take.ensures.live ∙ ap calls_in c.in_default.is)
          (subst (λ (h : Held g.row.S.Denot). offers_in h.seats c.args.caller ≡ unoffered) (sym c.self.view_is) c.requires.unoffered) (refl, refl) _
          (λ j. state_at g.K.KeyIndex.index (V i.records.store) (c.take.ensures.out.names j) (table_of i.base) i.history.items (same j) (c.take.ensures.out.offers j) i.doubt));
      sends = subst (λ (h : Held g.row.S.Denot). Mirrors g.S.EawStore.tells (V h.records.store) (V i.records.store)) c.self.view_is (sends_none g.S.EawStore.tells (V i.records.store));
      not_busy = refl;
    }

pub invariant_of-self-2 : goal.invariant_of-self-2
invariant_of-self-2 g c =
    let V = g.S.EawStore.view in
    let i = c.self.inside in
    let is = sym c.take.ensures.live ∙ ap calls_in c.in-Some.is in
    let back = changed_back (live_in i.seats) c.args.caller None (Some c.in-Some.live.calls) (live_in c.take.new.self) (live_in c.put_offered.new.self) c.take.ensures.out.live c.put_offered.ensures.live is in
    let offers = c.put_offered.ensures.offers ∙ ap (λ (f : ℕ → Offer). offers_with f c.args.caller offered) c.take.ensures.out.offers in
    given_keeps g.S.EawStore.tells g.S.EawStore.opens g.K.KeyIndex.index (pages_of (V i.records.store) i.records) (laws_at g i.records.store)
    (state_at g.K.KeyIndex.index (V i.records.store) i.seats.names (table_of i.base) i.history.items (live_in i.seats) (offers_in i.seats) i.doubt) _ (record { indexed = refl; dead = refl })
    (length i.seats.places) (length c.put_offered.new.self.places) (c.put_offered.ensures.count ∙ c.take.ensures.out.count) i.base c.self.invariant
    (subst (λ (h : Held g.row.S.Denot). IsAlive (V h.records.store)) (sym c.self.view_is) c.requires.alive) c.args.caller c.in-Some.live.calls is
    (subst (λ (h : Held g.row.S.Denot). offers_in h.seats c.args.caller ≡ unoffered) (sym c.self.view_is) c.requires.unoffered)
    (λ j. state_at g.K.KeyIndex.index (V i.records.store) ((c.put_offered.ensures.names ∙ c.take.ensures.out.names) j) (table_of i.base) i.history.items (back j) (offers j) i.doubt)

pub returns : goal.returns
returns g c =
    let V = g.S.EawStore.view in
    let i = c.self.inside in
    let is = sym c.take.ensures.live ∙ ap calls_in c.in-Some.is in
    let un = subst (λ (h : Held g.row.S.Denot). offers_in h.seats c.args.caller ≡ unoffered) (sym c.self.view_is) c.requires.unoffered in
    let back = changed_back (live_in i.seats) c.args.caller None (Some c.in-Some.live.calls) (live_in c.take.new.self) (live_in c.put_offered.new.self) c.take.ensures.out.live c.put_offered.ensures.live is in
    let offers = c.put_offered.ensures.offers ∙ ap (λ (f : ℕ → Offer). offers_with f c.args.caller offered) c.take.ensures.out.offers in
    record {
      steps = subst (λ (h : Held g.row.S.Denot). Steps g.S.EawStore.tells c.args.caller (call.Control control.Offer) (core_of g.S.EawStore.opens g.K.KeyIndex.index (V h.records.store) h)
          (core_of g.S.EawStore.opens g.K.KeyIndex.index (V i.records.store) (record { records = i.records; base = i.base; seats = c.put_offered.new.self; history = i.history.items; doubt = i.doubt })) Fine) c.self.view_is
          (given_steps g.S.EawStore.tells g.S.EawStore.opens g.K.KeyIndex.index (pages_of (V i.records.store) i.records) (laws_at g i.records.store)
          (state_at g.K.KeyIndex.index (V i.records.store) i.seats.names (table_of i.base) i.history.items (live_in i.seats) (offers_in i.seats) i.doubt) _ (record { indexed = refl; dead = refl })
          (length i.seats.places) (length c.put_offered.new.self.places) (c.put_offered.ensures.count ∙ c.take.ensures.out.count) i.base c.self.invariant
          (subst (λ (h : Held g.row.S.Denot). IsAlive (V h.records.store)) (sym c.self.view_is) c.requires.alive) c.args.caller c.in-Some.live.calls is un
          (λ j. state_at g.K.KeyIndex.index (V i.records.store) ((c.put_offered.ensures.names ∙ c.take.ensures.out.names) j) (table_of i.base) i.history.items (back j) (offers j) i.doubt));
      sends = subst (λ (h : Held g.row.S.Denot). Mirrors g.S.EawStore.tells (V h.records.store) (V i.records.store)) c.self.view_is (sends_none g.S.EawStore.tells (V i.records.store));
      not_busy = refl;
    }
