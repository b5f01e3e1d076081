use Rattle.std.proofs.Common.{◌≡◌, ◌∙◌, length, refl, sym, ap, subst}
use Rattle.page_store.specs.Shown.{Shown, pages_of}
use Rattle.mars_core.specs.Held.{Held, core_of, state_over}
use Rattle.mars_core.specs.Over.{IsOver}
use Rattle.mars_core.proofs.Viewing.{over_is}
use Rattle.mars_core.proofs.turns.Core.into_store.Goals as goal

pub returns-clause-over : goal.returns-clause-over
returns-clause-over g c =
    let s = g.S.EawStore in
    let I = g.K.KeyIndex.index in
    let i = c.self.inside in
    let held : Held g.row.S.Denot = record { records = i.records; base = i.base; seats = i.seats; history = i.history.items; doubt = i.doubt } in
    let over = subst (λ (h : Held g.row.S.Denot). IsOver g.S.EawStore.tells (g.S.EawStore.opens (g.S.EawStore.view h.records.store).shape) g.K.KeyIndex.index (g.S.EawStore.view h.records.store) (core_of g.S.EawStore.opens g.K.KeyIndex.index (g.S.EawStore.view h.records.store) h)) c.self.view_is
    (over_is s.tells s.opens I (pages_of (s.view i.records.store) i.records) (length i.seats.places) i.base (state_over I (s.view i.records.store) held) c.self.invariant refl refl) in
    let store : c.into_store.result ≡ c.args.self.records.store = c.into_store.ensures ∙ ap (λ (p : Shown g.row.S.Denot). p.store) c.into_pages.ensures ∙ ap (λ (h : Held g.row.S.Denot). h.records.store) c.self.view_is in
    subst (λ (st : g.row.S.Denot). IsOver g.S.EawStore.tells (g.S.EawStore.opens (g.S.EawStore.view st).shape) g.K.KeyIndex.index (g.S.EawStore.view st) (core_of g.S.EawStore.opens g.K.KeyIndex.index (g.S.EawStore.view st) c.args.self)) (sym store) over
