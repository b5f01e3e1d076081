use Rattle.std.proofs.Common.{◌≡◌, ◌∙◌, true, refl, sym, ap, subst}
use Rattle.page_store.specs.Shown.{pages_of}
use Rattle.history.specs.declared.call.Call.{Call}
use Rattle.history.specs.declared.call.Call.TheVariants as call
use Rattle.history.specs.declared.call.Control.TheVariants as control
use Rattle.history.specs.declared.call.Reply.TheVariants.{NoTransaction}
use Rattle.caller_steps.specs.Core.{Steps}
use Rattle.caller_steps.specs.Locked.{IsLocked, finds_table}
use Rattle.mars_core.specs.Held.{core_of, state_over}
use Rattle.mars_core.proofs.Purged.{no_purge}
use Rattle.mars_core.proofs.Settling.{open_settles}
use Rattle.mars_core.proofs.turns.Core.make_open.Goals as goal

pub begin-requires : goal.begin-requires
begin-requires g c = record { inside = c.requires.inside; alive = c.requires.alive; unoffered = c.requires.unoffered }

pub returns-in-Begin : goal.returns-in-Begin
returns-in-Begin g c =
    let V = g.S.EawStore.view in
    let core = core_of g.S.EawStore.opens g.K.KeyIndex.index in
    record {
      steps = subst (λ (call : Call). Steps g.S.EawStore.tells c.args.caller call (core (V c.args.self.now.records.store) c.args.self.now) (core (V c.begin.new.self.records.store) c.begin.new.self) c.begin.result) (sym c.in-Begin.is) c.begin.ensures.steps;
      purge = λ is. absurd (no_purge call.Begin refl (sym c.in-Begin.is ∙ is));
      sends = c.begin.ensures.sends;
      not_busy = λ held. c.begin.ensures.not_busy;
      tabled = λ _. subst (λ (call : Call). finds_table c.args.self.now.seats.names call ≡ true) (sym c.in-Begin.is) refl;
    }

pub purge-requires : goal.purge-requires
purge-requires g c = record { inside = c.requires.inside; alive = c.requires.alive; unoffered = c.requires.unoffered }

pub returns-in-Purge : goal.returns-in-Purge
returns-in-Purge g c =
    let V = g.S.EawStore.view in
    let core = core_of g.S.EawStore.opens g.K.KeyIndex.index in
    record {
      steps = subst (λ (call : Call). Steps g.S.EawStore.tells c.args.caller call (core (V c.args.self.now.records.store) c.args.self.now) (core (V c.purge.new.self.records.store) c.purge.new.self) c.purge.result) (sym (c.in-Control.is ∙ ap call.Control c.in-Purge.is)) c.purge.ensures.steps;
      purge = λ _. c.purge.ensures.cause;
      sends = c.purge.ensures.sends;
      not_busy = λ held. c.purge.ensures.not_busy;
      tabled = λ _. subst (λ (call : Call). finds_table c.args.self.now.seats.names call ≡ true) (sym (c.in-Control.is ∙ ap call.Control c.in-Purge.is)) refl;
    }

pub commit-requires : goal.commit-requires
commit-requires g c = record { inside = c.requires.inside; alive = c.requires.alive; unoffered = c.requires.unoffered }

pub returns-in-Commit : goal.returns-in-Commit
returns-in-Commit g c =
    let V = g.S.EawStore.view in
    let core = core_of g.S.EawStore.opens g.K.KeyIndex.index in
    record {
      steps = subst (λ (call : Call). Steps g.S.EawStore.tells c.args.caller call (core (V c.args.self.now.records.store) c.args.self.now) (core (V c.commit.new.self.records.store) c.commit.new.self) c.commit.result) (sym (c.in-Control.is ∙ ap call.Control c.in-Commit.is)) c.commit.ensures.steps;
      purge = λ is. absurd (no_purge (call.Control control.Commit) refl (sym (c.in-Control.is ∙ ap call.Control c.in-Commit.is) ∙ is));
      sends = c.commit.ensures.sends;
      not_busy = λ held. c.commit.ensures.not_busy;
      tabled = λ _. subst (λ (call : Call). finds_table c.args.self.now.seats.names call ≡ true) (sym (c.in-Control.is ∙ ap call.Control c.in-Commit.is)) refl;
    }

pub abort-requires : goal.abort-requires
abort-requires g c = record { inside = c.requires.inside; alive = c.requires.alive; unoffered = c.requires.unoffered }

pub returns-in-Abort : goal.returns-in-Abort
returns-in-Abort g c =
    let V = g.S.EawStore.view in
    let core = core_of g.S.EawStore.opens g.K.KeyIndex.index in
    record {
      steps = subst (λ (call : Call). Steps g.S.EawStore.tells c.args.caller call (core (V c.args.self.now.records.store) c.args.self.now) (core (V c.abort.new.self.records.store) c.abort.new.self) c.abort.result) (sym (c.in-Control.is ∙ ap call.Control c.in-Abort.is)) c.abort.ensures.steps;
      purge = λ is. absurd (no_purge (call.Control control.Abort) refl (sym (c.in-Control.is ∙ ap call.Control c.in-Abort.is) ∙ is));
      sends = c.abort.ensures.sends;
      not_busy = λ held. c.abort.ensures.not_busy;
      tabled = λ _. subst (λ (call : Call). finds_table c.args.self.now.seats.names call ≡ true) (sym (c.in-Control.is ∙ ap call.Control c.in-Abort.is)) refl;
    }

pub offer-requires : goal.offer-requires
offer-requires g c = record { inside = c.requires.inside; alive = c.requires.alive; unoffered = c.requires.unoffered }

pub returns-in-Offer : goal.returns-in-Offer
returns-in-Offer g c =
    let V = g.S.EawStore.view in
    let core = core_of g.S.EawStore.opens g.K.KeyIndex.index in
    record {
      steps = subst (λ (call : Call). Steps g.S.EawStore.tells c.args.caller call (core (V c.args.self.now.records.store) c.args.self.now) (core (V c.offer.new.self.records.store) c.offer.new.self) c.offer.result) (sym (c.in-Control.is ∙ ap call.Control c.in-Offer.is)) c.offer.ensures.steps;
      purge = λ is. absurd (no_purge (call.Control control.Offer) refl (sym (c.in-Control.is ∙ ap call.Control c.in-Offer.is) ∙ is));
      sends = c.offer.ensures.sends;
      not_busy = λ held. c.offer.ensures.not_busy;
      tabled = λ _. subst (λ (call : Call). finds_table c.args.self.now.seats.names call ≡ true) (sym (c.in-Control.is ∙ ap call.Control c.in-Offer.is)) refl;
    }

pub ask-requires : goal.ask-requires
ask-requires g c = record {
  inside = c.requires.inside;
  alive = c.requires.alive;
  unoffered = c.requires.unoffered;
  shown = c.requires.shown;
  locked = λ held. subst (λ (call : Call). IsLocked (core_of g.S.EawStore.opens g.K.KeyIndex.index (g.S.EawStore.view c.args.self.now.records.store) c.args.self.now).state c.args.caller call) c.in-Table.is (c.requires.locked held);
}

pub returns-in-Table : goal.returns-in-Table
returns-in-Table g c =
    let V = g.S.EawStore.view in
    let core = core_of g.S.EawStore.opens g.K.KeyIndex.index in
    record {
      steps = subst (λ (call : Call). Steps g.S.EawStore.tells c.args.caller call (core (V c.args.self.now.records.store) c.args.self.now) (core (V c.ask.new.self.records.store) c.ask.new.self) c.ask.result) (sym c.in-Table.is) c.ask.ensures.steps;
      purge = λ is. absurd (no_purge (call.Table c.in-Table.asked) refl (sym c.in-Table.is ∙ is));
      sends = c.ask.ensures.sends;
      not_busy = c.ask.ensures.not_busy;
      tabled = λ granted. subst (λ (call : Call). finds_table c.args.self.now.seats.names call ≡ true) (sym c.in-Table.is) (c.ask.ensures.tabled granted);
    }

pub returns-in-Settle-clause-steps : goal.returns-in-Settle-clause-steps
returns-in-Settle-clause-steps g c =
    let V = g.S.EawStore.view in
    let h = c.args.self.now in
    let core = core_of g.S.EawStore.opens g.K.KeyIndex.index (V h.records.store) h in
    subst (λ (call : Call). Steps g.S.EawStore.tells c.args.caller call core core NoTransaction) (sym (c.in-Control.is ∙ ap call.Control c.in-Settle.is))
    (open_settles g.S.EawStore.tells g.S.EawStore.opens g.K.KeyIndex.index (pages_of (V h.records.store) h.records) (state_over g.K.KeyIndex.index (V h.records.store) h) (record { indexed = refl; dead = refl })
    c.requires.safe c.requires.alive c.args.caller c.requires.unoffered)

pub returns-in-Settle-clause-purge : goal.returns-in-Settle-clause-purge
returns-in-Settle-clause-purge g c is = absurd (no_purge (call.Control control.Settle) refl (sym (c.in-Control.is ∙ ap call.Control c.in-Settle.is) ∙ is))
