use Rattle.std.proofs.Common.{ap, refl}
use Rattle.page_store.specs.Shown.{pages_of}
use Rattle.record_table.proofs.Removed.{absent_below, removes_so}
use Rattle.record_table.specs.Names.{name_at}
use Rattle.record_table.proofs.Sharing.{Laws, called_at}
use Rattle.record_table.proofs.Blaming.{removed_blames}
use Rattle.record_table.proofs.removing.remove.Goals as goal

pub remove-requires-clause-absent : goal.remove-requires-clause-absent
remove-requires-clause-absent g c =
    let K = g.met.K.KeyIndex in
    let V = g.S.EawStore.view in
    let laws : Laws g.K.KeyIndex.index = record { rises = K.rises; given = K.given; counts = K.counts; rests = K.rests; extends = K.extends } in
    let old = c.args.pages.now in
    absent_below g.S.EawStore.tells (g.S.EawStore.opens (V old.store).shape) g.K.KeyIndex.index laws c.args.tid c.args.table c.args.root c.args.key (name_at (V old.store).state.bytes c.args.table) (pages_of (V old.store) old) (λ told alive. called_at (V old.store).state.bytes c.args.table c.args.root (c.requires.named told alive)) c.requires.named c.requires.holds c.requires.absent c.requires.unwritten

pub returns-clause-removes : goal.returns-clause-removes
returns-clause-removes g c =
    let K = g.met.K.KeyIndex in
    let V = g.S.EawStore.view in
    let laws : Laws g.K.KeyIndex.index = record { rises = K.rises; given = K.given; counts = K.counts; rests = K.rests; extends = K.extends } in
    let old = c.args.pages.now in
    let new = c.remove.new.pages in
    (removes_so g.S.EawStore.tells (g.S.EawStore.opens (V old.store).shape) g.K.KeyIndex.index laws c.args.tid c.args.table c.args.root c.args.key (name_at (V old.store).state.bytes c.args.table) (pages_of (V old.store) old) (λ told alive. called_at (V old.store).state.bytes c.args.table c.args.root (c.requires.named told alive)) c.requires.named c.requires.holds c.requires.absent c.requires.unwritten
    (pages_of (V new.store) new) c.remove.result c.remove.ensures.removes (λ e. ap (λ p. pages_of (V p.store) p) (c.remove.ensures.dead e))).0

pub returns-clause-holds : goal.returns-clause-holds
returns-clause-holds g c =
    let K = g.met.K.KeyIndex in
    let V = g.S.EawStore.view in
    let laws : Laws g.K.KeyIndex.index = record { rises = K.rises; given = K.given; counts = K.counts; rests = K.rests; extends = K.extends } in
    let old = c.args.pages.now in
    let new = c.remove.new.pages in
    (removes_so g.S.EawStore.tells (g.S.EawStore.opens (V old.store).shape) g.K.KeyIndex.index laws c.args.tid c.args.table c.args.root c.args.key (name_at (V old.store).state.bytes c.args.table) (pages_of (V old.store) old) (λ told alive. called_at (V old.store).state.bytes c.args.table c.args.root (c.requires.named told alive)) c.requires.named c.requires.holds c.requires.absent c.requires.unwritten
    (pages_of (V new.store) new) c.remove.result c.remove.ensures.removes (λ e. ap (λ p. pages_of (V p.store) p) (c.remove.ensures.dead e))).1

pub returns-clause-blames : goal.returns-clause-blames
returns-clause-blames g c = removed_blames (g.S.EawStore.view c.args.pages.now.store).shape _ c.remove.result c.remove.ensures.works.blames

pub returns-clause-works : goal.returns-clause-works
returns-clause-works g c = record { removed = c.remove.result; told = refl; works = c.remove.ensures.works }
