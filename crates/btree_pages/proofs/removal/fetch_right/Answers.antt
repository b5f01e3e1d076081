use Rattle.std.proofs.Common.{◌≡◌, ◌≢◌, ◌<◌, ◌^◌, List, get_or, sym, ◌∙◌, ap, arith}
use Rattle.record_slots.specs.Places.{page_bytes}
use Rattle.page_store.specs.Pairs.{Pair}
use Rattle.index_pages.proofs.Causing.{look_cause, still_same}
use Rattle.index_pages.proofs.Sizes.{index_pages_are}
use Rattle.btree_laws.specs.Removals.{right_of}
use Rattle.btree_pages.specs.Node.{IsNode}
use Rattle.btree_pages.specs.Trees.{whole_of}
use Rattle.btree_pages.specs.declared.node.Node.{Node}
use Rattle.btree_pages.proofs.Righting.{entry_given, right_is}
use Rattle.page_store.specs.Shown.{pages_of}
use Rattle.index_pages.proofs.Looking.{looks_none}
use Rattle.std.proofs.lemmas.Result.{err_from_is_err_and}
use Rattle.btree_pages.proofs.removal.fetch_right.Goals as goal

pub returns-then-page-eq0-clause-cause : goal.returns-then-page-eq0-clause-cause
returns-then-page-eq0-clause-cause g c = (
  c.requires.alive,
  λ told.
      let bytes = (g.S.EawStore.view c.args.pages.now.store).state.bytes in
      let parent = c.args.parent.now in
      let fits : c.args.key < 2 ^ 64 = omega arith in
      let given = entry_given c.args.root bytes c.args.key fits (c.requires.sound told) (c.requires.named told) parent.page parent.level parent.pairs.items c.requires.level (c.requires.reached told) c.args.place c.requires.place in
      omega (arith, given.0, c.if-page-eq0.true, ap (λ (ps : List Pair). (get_or ps c.args.place (0, 0)).1) c.as_slice.ensures.value),
)

pub returns-then-page-from-clause-cause : goal.returns-then-page-from-clause-cause
returns-then-page-from-clause-cause g c = (
  c.requires.alive,
  λ told.
      let view = g.S.EawStore.view c.args.pages.now.store in
      let parent = c.args.parent.now in
      let fits : c.args.key < 2 ^ 64 = omega arith in
      let given = entry_given c.args.root view.state.bytes c.args.key fits (c.requires.sound told) (c.requires.named told) parent.page parent.level parent.pairs.items c.requires.level (c.requires.reached told) c.args.place c.requires.place in
      omega (
        arith,
        given.1,
        c.if-page-from.true,
        c.from.ensures,
        ap (λ (ps : List Pair). (get_or ps c.args.place (0, 0)).1) c.as_slice.ensures.value,
        (whole_of view.state.bytes (c.requires.sound told)).front.pages,
        index_pages_are view.shape view.state.bytes (g.met.S.EawStore.long c.args.pages.now.store told),
        c.index_page_count-count.ensures.count,
      ),
)

pub returns-in_err-right-clause-cause : goal.returns-in_err-right-clause-cause
returns-in_err-right-clause-cause g c =
    let exit = err_from_is_err_and c.from_residual.result c.from_residual.ensures.1 in
    rw (exit.1, exit.2) (
    let view = g.S.EawStore.view c.args.pages.now.store in
    let parent = c.args.parent.now in
    let fits : c.args.key < 2 ^ 64 = omega arith in
    let page : c.as_slice.result.now ≡ c.args.parent.now.pairs.items = c.as_slice.ensures.value in
    let is : (get_or c.as_slice.result.now c.args.place (0, 0)).1 ≡ right_of c.args.parent.now.pairs.items c.args.key = ap (λ (ps : List Pair). (get_or ps c.args.place (0, 0)).1) page ∙ sym c.requires.names in
    let some : (get_or c.as_slice.result.now c.args.place (0, 0)).1 ≢ 0 = c.if-page-eq0.false in
    look_cause Node Node g.S.EawStore.tells view view (IsNode (page_bytes view.state.bytes (get_or c.as_slice.result.now c.args.place (0, 0)).1)) (get_or c.as_slice.result.now c.args.place (0, 0)).1 c.in_err-right.field-0.0 (still_same g.S.EawStore.tells view)
    (λ told alive. (right_is c.args.root view.state.bytes c.args.key fits (c.requires.sound told) (c.requires.named told) parent.page parent.level parent.pairs.items c.requires.level (c.requires.reached told) (get_or c.as_slice.result.now c.args.place (0, 0)).1 is some).node)
    c.in_err-right.ensures.cause)

pub returns-then-right-ne0-clause-cause : goal.returns-then-right-ne0-clause-cause
returns-then-right-ne0-clause-cause g c = (
  c.requires.alive,
  λ told.
      let view = g.S.EawStore.view c.args.pages.now.store in
      let parent = c.args.parent.now in
      let fits : c.args.key < 2 ^ 64 = omega arith in
      let is : (get_or c.as_slice.result.now c.args.place (0, 0)).1 ≡ right_of c.args.parent.now.pairs.items c.args.key = ap (λ (ps : List Pair). (get_or ps c.args.place (0, 0)).1) c.as_slice.ensures.value ∙ sym c.requires.names in
      let some : (get_or c.as_slice.result.now c.args.place (0, 0)).1 ≢ 0 = c.if-page-eq0.false in
      let r = right_is c.args.root view.state.bytes c.args.key fits (c.requires.sound told) (c.requires.named told) parent.page parent.level parent.pairs.items c.requires.level (c.requires.reached told) (get_or c.as_slice.result.now c.args.place (0, 0)).1 is some in
      c.if-right-ne0.true (c.in_ok-right.ensures.level told ∙ r.bottom),
)

pub returns-then-page-eq0-clause-looks : goal.returns-then-page-eq0-clause-looks
returns-then-page-eq0-clause-looks g c =
    looks_none g.S.EawStore.tells (g.S.EawStore.opens (g.S.EawStore.view c.args.pages.now.store).shape) (pages_of (g.S.EawStore.view c.args.pages.now.store) c.args.pages.now)

pub returns-then-page-from-clause-looks : goal.returns-then-page-from-clause-looks
returns-then-page-from-clause-looks g c =
    looks_none g.S.EawStore.tells (g.S.EawStore.opens (g.S.EawStore.view c.args.pages.now.store).shape) (pages_of (g.S.EawStore.view c.args.pages.now.store) c.args.pages.now)
