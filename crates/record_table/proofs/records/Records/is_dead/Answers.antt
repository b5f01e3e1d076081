use Rattle.std.proofs.Common.{◌≡◌, ℕ, length, sym, subst}
use Rattle.std.specs.Prelude.{filter}
use Rattle.eaw_face.specs.Causes.{IsAlive}
use Rattle.page_store.specs.Shown.{Shown, pages_of}
use Rattle.record_table.specs.Shown.{state_of, pairs_of, held_on, is_write_on, AreNamed}
use Rattle.record_table.proofs.Holding.{held_is, named_are}
use Rattle.record_table.proofs.records.Records.is_dead.Goals as goal

pub returns-clause-held : goal.returns-clause-held
returns-clause-held g c = λ told alive.
    let V = g.S.EawStore.view in
    let inside = c.self.inside.pages in
    let living : IsAlive (g.S.EawStore.view c.self.inside.pages.store) = subst (λ (p : Shown g.row.S.Denot). IsAlive (V p.store)) (sym c.self.view_is) alive in
    subst (λ (p : Shown g.row.S.Denot). (t h : ℕ) → held_on (pages_of (V p.store) p) t h ≡ length (filter (is_write_on (V p.store).shape (pairs_of g.K.KeyIndex.index (V p.store).state.bytes) h) ((state_of g.K.KeyIndex.index (pages_of (V p.store) p)).logs t).writes)) c.self.view_is
    (held_is g.K.KeyIndex.index (pages_of (V inside.store) inside)
    (record { long = g.met.S.EawStore.long inside.store told; outlines = λ t. g.met.S.EawStore.outlines inside.store t told living; placed = λ t. g.met.S.EawStore.placed inside.store t }) ((c.self.invariant.0 living).tied told))

pub returns-clause-named : goal.returns-clause-named
returns-clause-named g c = λ told alive.
    let V = g.S.EawStore.view in
    let inside = c.self.inside.pages in
    let living : IsAlive (g.S.EawStore.view c.self.inside.pages.store) = subst (λ (p : Shown g.row.S.Denot). IsAlive (V p.store)) (sym c.self.view_is) alive in
    subst (λ (p : Shown g.row.S.Denot). (t : ℕ) → AreNamed (pairs_of g.K.KeyIndex.index (V p.store).state.bytes) ((state_of g.K.KeyIndex.index (pages_of (V p.store) p)).logs t).writes) c.self.view_is
    (named_are g.K.KeyIndex.index (pages_of (V inside.store) inside) ((c.self.invariant.0 living).tied told))
