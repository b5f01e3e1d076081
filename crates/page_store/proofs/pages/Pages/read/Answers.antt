use Rattle.std.proofs.Common.{length, refl}
use Rattle.eaw_face.specs.Command as model
use Rattle.page_store.specs.Command.{read}
use Rattle.page_store.specs.Shown.{PagesView, counts_in, top_in}
use Rattle.page_store.proofs.ReadCalls.{reads_of, page_read}
use Rattle.page_store.proofs.pages.Pages.read.Goals as goal

pub returns-clause-does : goal.returns-clause-does
returns-clause-does g c =
    let view = g.S.EawStore.view in
    let marks = c.self.inside.marks.items in
    let old : PagesView = record { store = view c.self.inside.store; counts = counts_in marks; top = top_in marks } in
    let new : PagesView = record { store = view c.read.new.self; counts = counts_in marks; top = top_in marks } in
    let reads = reads_of g.S.EawStore.tells (g.S.EawStore.opens (view c.self.inside.store).shape) 0 (model.read c.address.result (length c.args.buf.now)) (view c.self.inside.store) (view c.read.new.self)
    (λ s. refl) (λ rs. refl) refl (λ u no. no) (λ h i n no. no) (λ u ne. c.read.ensures.does.others u (λ no. no)) c.read.result c.read.ensures.does in
    rw (← c.self.view_is) (page_read g.S.EawStore.tells (g.S.EawStore.opens (view c.self.inside.store).shape) 0 read old new (λ s. refl) (λ o. refl) refl tt refl refl (λ u ne. c.read.ensures.does.others u (λ no. no)) c.read.result c.told.result c.told.ensures reads)
