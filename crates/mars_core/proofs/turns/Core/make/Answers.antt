use Rattle.std.proofs.Common.{◌≡◌, ◌∙◌, ℕ, ◌<◌, false, length, sym, ap, subst}
use Rattle.page_store.specs.Shown.{pages_of}
use Rattle.caller_steps.specs.State.{unoffered, offered, unsettled}
use Rattle.mars_core.specs.Held.{Held, core_of}
use Rattle.caller_steps.specs.Core.{IsSafe}
use Rattle.mars_core.specs.Seats.{offers_in, offer_in}
use Rattle.mars_core.specs.Works.{IsShown}
use Rattle.mars_core.proofs.turns.Core.make.Goals as goal

pub offer-requires : goal.offer-requires
offer-requires g c = subst (λ (n : ℕ). c.args.caller < n) (sym c.self.invariant.seats) (subst (λ (h : Held g.row.S.Denot). c.args.caller < (g.S.EawStore.view h.records.store).shape.numbers) (sym c.self.view_is) c.requires.inside)

pub make_open-requires : goal.make_open-requires
make_open-requires g c = record {
  inside = c.requires.inside;
  alive = subst (λ (h : Held g.row.S.Denot). (g.S.EawStore.view h.records.store).is_dead ≡ false) c.self.view_is (sym c.is_dead.ensures.dead ∙ c.if-is_dead.false);
  shown = subst (λ (h : Held g.row.S.Denot). IsShown g.S.EawStore.tells g.K.KeyIndex.index (pages_of (g.S.EawStore.view h.records.store) h.records)) c.self.view_is
      (record { held = c.is_dead.ensures.held; named = c.is_dead.ensures.named });
  unoffered = subst (λ (h : Held g.row.S.Denot). offers_in h.seats c.args.caller ≡ unoffered) c.self.view_is (sym c.offer.ensures ∙ ap offer_in c.in-Nothing.is);
  safe = λ told. subst (λ (h : Held g.row.S.Denot). IsSafe (core_of g.S.EawStore.opens g.K.KeyIndex.index (g.S.EawStore.view h.records.store) h) (g.S.EawStore.view h.records.store).moment (length h.history)) c.self.view_is (c.self.invariant.safe told);
  locked = c.requires.locked;
}

pub make_offered-requires : goal.make_offered-requires
make_offered-requires g c = record {
  inside = c.requires.inside;
  alive = subst (λ (h : Held g.row.S.Denot). (g.S.EawStore.view h.records.store).is_dead ≡ false) c.self.view_is (sym c.is_dead.ensures.dead ∙ c.if-is_dead.false);
  offered = subst (λ (h : Held g.row.S.Denot). offers_in h.seats c.args.caller ≡ offered) c.self.view_is (sym c.offer.ensures ∙ ap offer_in c.in-Offered.is);
  safe = λ told. subst (λ (h : Held g.row.S.Denot). IsSafe (core_of g.S.EawStore.opens g.K.KeyIndex.index (g.S.EawStore.view h.records.store) h) (g.S.EawStore.view h.records.store).moment (length h.history)) c.self.view_is (c.self.invariant.safe told);
}

pub make_committed-requires : goal.make_committed-requires
make_committed-requires g c = record {
  inside = c.requires.inside;
  alive = subst (λ (h : Held g.row.S.Denot). (g.S.EawStore.view h.records.store).is_dead ≡ false) c.self.view_is (sym c.is_dead.ensures.dead ∙ c.if-is_dead.false);
  committed = subst (λ (h : Held g.row.S.Denot). (n : ℕ) × (offers_in h.seats c.args.caller ≡ unsettled n)) c.self.view_is (c.in-Committed.at, sym c.offer.ensures ∙ ap offer_in c.in-Committed.is);
  safe = λ told. subst (λ (h : Held g.row.S.Denot). IsSafe (core_of g.S.EawStore.opens g.K.KeyIndex.index (g.S.EawStore.view h.records.store) h) (g.S.EawStore.view h.records.store).moment (length h.history)) c.self.view_is (c.self.invariant.safe told);
}
