use Rattle.std.proofs.Common.{ℕ, List, false, refl, sym, ◌∙◌, ap, subst}
use Rattle.array_shape.specs.declared.shape.Shape.{Shape}
use Rattle.array_shape.specs.Places.{page_count}
use Rattle.eaw_face.specs.State.{State}
use Rattle.page_store.specs.Shown.{pages_of}
use Rattle.record_table.specs.Names.{names_of, AreRootsOf, ArePages}
use Rattle.record_table.proofs.Seeking.{attached, begins}
use Rattle.record_table.proofs.records.Records.attach.Goals as goal

pub invariant_of-records : goal.invariant_of-records
invariant_of-records g c =
    let V = g.S.EawStore.view in
    let T = g.S.EawStore.tells in
    let O = g.S.EawStore.opens (V c.args.pages.store).shape in
    let v0 = pages_of (V c.args.pages.store) c.args.pages in
    let v1 = pages_of (V c.read_whole.new.pages.store) c.read_whole.new.pages in
    let whole = c.in-Ok.whole in
    let alive = c.in-Ok.ensures.cause.0 in
    let looks = c.in-Ok.ensures.looks in (
      begins T O g.K.KeyIndex.index v0 v1 looks alive (c.requires.closed alive) (c.requires.idle alive) (λ told t. g.met.S.EawStore.outlines c.args.pages.store t told alive) c.in-Ok.ensures.cause.1,
      (
        (λ told living. c.in-Ok.ensures.names told ∙ ap (λ (s : State). names_of s.bytes) (sym ((looks.still refl).state told)), c.in-Ok.ensures.main),
        record {
          long = c.in-Ok.ensures.long;
          inside = subst (λ (s : Shape). ArePages (page_count s) c.in-Ok.whole.roots.at) (sym c.in-Ok.ensures.looks.shape) c.in-Ok.ensures.inside;
          are = λ told living. subst (λ (s : State). AreRootsOf s.bytes c.in-Ok.whole.roots.at) (sym ((looks.still refl).state told)) (c.in-Ok.ensures.roots told);
        },
      ),
    )

pub returns-in-Ok-clause-attached : goal.returns-in-Ok-clause-attached
returns-in-Ok-clause-attached g c =
    let V = g.S.EawStore.view in
    let T = g.S.EawStore.tells in
    let O = g.S.EawStore.opens (V c.args.pages.store).shape in
    let v0 = pages_of (V c.args.pages.store) c.args.pages in
    let v1 = pages_of (V c.read_whole.new.pages.store) c.read_whole.new.pages in
    let alive = c.in-Ok.ensures.cause.0 in
    attached T O g.K.KeyIndex.index v0 v1 c.in-Ok.ensures.looks alive (c.requires.closed alive) (c.requires.idle alive) (λ told t. g.met.S.EawStore.outlines c.args.pages.store t told alive) c.in-Ok.ensures.cause.1
