use Rattle.std.proofs.Common.{◌≡◌, refl, sym, ap, subst, ◌∙◌}
use Rattle.page_store.specs.Shown.{pages_of}
use Rattle.history.specs.declared.call.Call.{Call}
use Rattle.history.specs.declared.call.Call.TheVariants as call
use Rattle.history.specs.declared.call.Control.TheVariants as control
use Rattle.history.specs.declared.call.Reply.TheVariants.{Already, NoTransaction}
use Rattle.caller_steps.specs.Core.{Steps}
use Rattle.mars_core.specs.Held.{core_of, state_over}
use Rattle.mars_core.proofs.GivingUp.{sends_none}
use Rattle.mars_core.proofs.Purged.{no_purge}
use Rattle.mars_core.proofs.Settling.{offered_begins, offered_purges, offered_cause, offered_asks}
use Rattle.mars_core.proofs.turns.Core.make_offered.Goals as goal

pub returns-in-Begin-clause-steps : goal.returns-in-Begin-clause-steps
returns-in-Begin-clause-steps g c =
    let V = g.S.EawStore.view in
    let h = c.args.self.now in
    let core = core_of g.S.EawStore.opens g.K.KeyIndex.index (V h.records.store) h in
    subst (λ (call : Call). Steps g.S.EawStore.tells c.args.caller call core core Already) (sym c.in-Begin.is)
    (offered_begins g.S.EawStore.tells g.S.EawStore.opens g.K.KeyIndex.index (pages_of (V h.records.store) h.records) (state_over g.K.KeyIndex.index (V h.records.store) h) (record { indexed = refl; dead = refl })
    c.requires.safe c.requires.alive c.args.caller c.requires.offered)

pub returns-in-Purge-clause-steps : goal.returns-in-Purge-clause-steps
returns-in-Purge-clause-steps g c =
    let V = g.S.EawStore.view in
    let h = c.args.self.now in
    let core = core_of g.S.EawStore.opens g.K.KeyIndex.index (V h.records.store) h in
    subst (λ (call : Call). Steps g.S.EawStore.tells c.args.caller call core core Already) (sym (c.in-Control.is ∙ ap call.Control c.in-Purge.is))
    (offered_purges g.S.EawStore.tells g.S.EawStore.opens g.K.KeyIndex.index (pages_of (V h.records.store) h.records) (state_over g.K.KeyIndex.index (V h.records.store) h) (record { indexed = refl; dead = refl })
    c.requires.safe c.requires.alive c.args.caller c.requires.offered)

pub returns-in-Purge-clause-purge : goal.returns-in-Purge-clause-purge
returns-in-Purge-clause-purge g c _ =
    let V = g.S.EawStore.view in
    let h = c.args.self.now in
    offered_cause g.S.EawStore.tells g.S.EawStore.opens g.K.KeyIndex.index (pages_of (V h.records.store) h.records) (state_over g.K.KeyIndex.index (V h.records.store) h) (record { indexed = refl; dead = refl })
    c.requires.safe c.requires.alive c.args.caller c.requires.offered

pub returns-in-Begin-clause-purge : goal.returns-in-Begin-clause-purge
returns-in-Begin-clause-purge g c is = absurd (no_purge call.Begin refl (sym c.in-Begin.is ∙ is))

pub returns-in-Settle-clause-purge : goal.returns-in-Settle-clause-purge
returns-in-Settle-clause-purge g c is = absurd (no_purge (call.Control control.Settle) refl (sym (c.in-Control.is ∙ ap call.Control c.in-Settle.is) ∙ is))

pub returns-in-Table : goal.returns-in-Table
returns-in-Table g c =
    let V = g.S.EawStore.view in
    let h = c.args.self.now in
    let core = core_of g.S.EawStore.opens g.K.KeyIndex.index (V h.records.store) h in
    record {
      steps = subst (λ (call : Call). Steps g.S.EawStore.tells c.args.caller call core core NoTransaction) (sym c.in-Table.is)
          (offered_asks g.S.EawStore.tells g.S.EawStore.opens g.K.KeyIndex.index (pages_of (V h.records.store) h.records) (state_over g.K.KeyIndex.index (V h.records.store) h) (record { indexed = refl; dead = refl })
          c.requires.safe c.requires.alive c.args.caller c.requires.offered (call.Table c.in-Table.field-0) (λ e. cc) (λ e. cc) (λ e. cc));
      purge = λ is. absurd (no_purge (call.Table c.in-Table.field-0) refl (sym c.in-Table.is ∙ is));
      sends = sends_none g.S.EawStore.tells (V h.records.store);
      not_busy = refl;
    }

pub returns-in_default : goal.returns-in_default
returns-in_default g c =
    let V = g.S.EawStore.view in
    let h = c.args.self.now in
    let core = core_of g.S.EawStore.opens g.K.KeyIndex.index (V h.records.store) h in
    record {
      steps = subst (λ (call : Call). Steps g.S.EawStore.tells c.args.caller call core core NoTransaction) (sym c.in-Control.is)
          (offered_asks g.S.EawStore.tells g.S.EawStore.opens g.K.KeyIndex.index (pages_of (V h.records.store) h.records) (state_over g.K.KeyIndex.index (V h.records.store) h) (record { indexed = refl; dead = refl })
          c.requires.safe c.requires.alive c.args.caller c.requires.offered (call.Control c.in-Control.control) (λ e. cc) (λ e. c.in_default.not-Settle (let same : c.in-Control.control ≡ control.Settle = cc in same))
          (λ e. c.in_default.not-Purge (let same : c.in-Control.control ≡ control.Purge = cc in same)));
      purge = λ is. absurd (c.in_default.not-Purge (let e = sym c.in-Control.is ∙ is in let same : c.in-Control.control ≡ control.Purge = cc in same));
      sends = sends_none g.S.EawStore.tells (V h.records.store);
      not_busy = refl;
    }
