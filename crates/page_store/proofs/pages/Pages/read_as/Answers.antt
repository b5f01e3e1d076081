use Rattle.std.proofs.Common.{refl}
use Rattle.page_store.specs.Command.{read_as}
use Rattle.page_store.specs.Shown.{PagesView, counts_in, top_in}
use Rattle.page_store.proofs.ReadCalls.{page_read}
use Rattle.page_store.proofs.pages.Pages.read_as.Goals as goal

pub returns-clause-does : goal.returns-clause-does
returns-clause-does g c =
    let view = g.S.EawStore.view in
    let marks = c.self.inside.marks.items in
    let old : PagesView = record { store = view c.self.inside.store; counts = counts_in marks; top = top_in marks } in
    let new : PagesView = record { store = view c.read_seen.new.store; counts = counts_in marks; top = top_in marks } in
    rw (← c.self.view_is) (page_read g.S.EawStore.tells (g.S.EawStore.opens (view c.self.inside.store).shape) c.args.tid (read_as c.args.tid) old new (λ s. refl) (λ o. refl) refl tt refl refl
    (λ u ne. c.read_seen.ensures.does.others u (λ is. ne is)) c.read_seen.result c.told.result c.told.ensures c.read_seen.ensures.does)
