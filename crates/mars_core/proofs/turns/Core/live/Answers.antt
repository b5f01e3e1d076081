use Rattle.std.proofs.Common.{subst, sym}
use Rattle.eaw_face.specs.Causes.{IsAlive}
use Rattle.page_store.specs.Shown.{pages_of}
use Rattle.mars_core.specs.Held.{Held, state_over}
use Rattle.mars_core.specs.Over.{LeavesView}
use Rattle.mars_core.proofs.Viewing.{views_are}
use Rattle.mars_core.proofs.turns.Core.live.Goals as goal

pub returns-clause-views : goal.returns-clause-views
returns-clause-views g c = λ told alive.
    let V = g.S.EawStore.view in
    let I = g.K.KeyIndex.index in
    let i = c.self.inside in
    let held : Held g.row.S.Denot = record { records = i.records; base = i.base; seats = i.seats; history = i.history.items; doubt = i.doubt } in
    let living = subst (λ (h : Held g.row.S.Denot). IsAlive (g.S.EawStore.view h.records.store)) (sym c.self.view_is) alive in
    subst (λ (h : Held g.row.S.Denot). LeavesView g.K.KeyIndex.index (g.S.EawStore.view h.records.store) (state_over g.K.KeyIndex.index (g.S.EawStore.view h.records.store) h) c.args.caller) c.self.view_is
    (views_are I (pages_of (V i.records.store) i.records) (state_over I (V i.records.store) held) (c.self.invariant.tied told living) c.args.caller)
