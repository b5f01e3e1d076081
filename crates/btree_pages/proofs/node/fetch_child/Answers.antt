use Rattle.page_store.specs.Shown.{pages_of}
use Rattle.index_pages.proofs.Looking.{looks_none}
use Rattle.btree_pages.proofs.Nexting.{no_error, not_damaged_page, error_is}
use Rattle.index_pages.proofs.Faulting.{dead_test}
use Rattle.std.proofs.Common.{◌≡◌, ◌+◌, ℕ, List, sym, ◌∙◌, ap, subst, arith}
use Rattle.record_slots.specs.Places.{page_bytes}
use Rattle.page_store.specs.Pairs.{Pair}
use Rattle.index_pages.specs.Page.{level_of}
use Rattle.index_pages.proofs.Sizes.{index_pages_are}
use Rattle.btree_laws.specs.Descent.{child_for}
use Rattle.btree_pages.specs.Node.{IsNode}
use Rattle.btree_pages.specs.declared.node.Node.{Node}
use Rattle.index_pages.proofs.Causing.{look_cause, still_same}
use Rattle.btree_pages.proofs.Children.{reached_child}
use Rattle.btree_pages.specs.Trees.{whole_of, table_sound}
use Rattle.std.proofs.lemmas.Result.{err_from_is_err_and}
use Rattle.btree_pages.proofs.node.fetch_child.Goals as goal

pub returns-then-page-eq0-clause-cause : goal.returns-then-page-eq0-clause-cause
returns-then-page-eq0-clause-cause g c = (
  c.requires.alive,
  λ told.
      let node = c.args.node.now in
      let page : c.child_of-page.result ≡ child_for node.pairs.items c.args.key = c.child_of-page.ensures ∙ ap (λ (ps : List Pair). child_for ps c.args.key) c.as_slice.ensures.value in
      let child = reached_child c.args.root (g.S.EawStore.view c.args.pages.now.store).state.bytes c.args.key node.page node.level node.pairs.items (table_sound (g.S.EawStore.view c.args.pages.now.store).state.bytes c.args.root (c.requires.sound told) (c.requires.named told)) (omega arith) (c.requires.reached told) c.requires.inner in
      omega (arith, child.two, page, c.if-page-eq0.true),
)

pub returns-then-page-from-clause-cause : goal.returns-then-page-from-clause-cause
returns-then-page-from-clause-cause g c = (
  c.requires.alive,
  λ told.
      let view = g.S.EawStore.view c.args.pages.now.store in
      let node = c.args.node.now in
      let page : c.child_of-page.result ≡ child_for node.pairs.items c.args.key = c.child_of-page.ensures ∙ ap (λ (ps : List Pair). child_for ps c.args.key) c.as_slice.ensures.value in
      let child = reached_child c.args.root view.state.bytes c.args.key node.page node.level node.pairs.items (table_sound (g.S.EawStore.view c.args.pages.now.store).state.bytes c.args.root (c.requires.sound told) (c.requires.named told)) (omega arith) (c.requires.reached told) c.requires.inner in
      omega (arith, child.given, page, c.if-page-from.true, c.from.ensures, (whole_of view.state.bytes (c.requires.sound told)).front.pages, index_pages_are view.shape view.state.bytes (g.met.S.EawStore.long c.args.pages.now.store told), c.index_page_count-count.ensures.count),
)

pub returns-in_err-child-clause-cause : goal.returns-in_err-child-clause-cause
returns-in_err-child-clause-cause g c =
    let exit = err_from_is_err_and c.from_residual.result c.from_residual.ensures.1 in
    rw (exit.1, exit.2) (
    let view = g.S.EawStore.view c.args.pages.now.store in
    let node = c.args.node.now in
    let page : c.child_of-page.result ≡ child_for node.pairs.items c.args.key = c.child_of-page.ensures ∙ ap (λ (ps : List Pair). child_for ps c.args.key) c.as_slice.ensures.value in
    look_cause Node Node g.S.EawStore.tells view view (IsNode (page_bytes view.state.bytes c.child_of-page.result)) c.child_of-page.result c.in_err-child.field-0.0 (still_same g.S.EawStore.tells view)
    (λ told alive. let child = reached_child c.args.root view.state.bytes c.args.key node.page node.level node.pairs.items (table_sound (g.S.EawStore.view c.args.pages.now.store).state.bytes c.args.root (c.requires.sound told) (c.requires.named told)) (omega arith) (c.requires.reached told) c.requires.inner in
    subst (λ (p : ℕ). IsNode (page_bytes view.state.bytes p)) (sym page) child.node)
    c.in_err-child.ensures.cause)

pub returns-then-child-node-clause-cause : goal.returns-then-child-node-clause-cause
returns-then-child-node-clause-cause g c = (
  c.requires.alive,
  λ told.
      let view = g.S.EawStore.view c.args.pages.now.store in
      let node = c.args.node.now in
      let page : c.child_of-page.result ≡ child_for node.pairs.items c.args.key = c.child_of-page.ensures ∙ ap (λ (ps : List Pair). child_for ps c.args.key) c.as_slice.ensures.value in
      let child = reached_child c.args.root view.state.bytes c.args.key node.page node.level node.pairs.items (table_sound (g.S.EawStore.view c.args.pages.now.store).state.bytes c.args.root (c.requires.sound told) (c.requires.named told)) (omega arith) (c.requires.reached told) c.requires.inner in
      let level : level_of view.state.bytes c.child_of-page.result + 1 ≡ node.level = subst (λ (p : ℕ). level_of view.state.bytes p + 1 ≡ node.level) (sym page) child.level_is in
      c.if-child-node.true (ap (λ (n : ℕ). n + 1) (c.in_ok-child.ensures.level told) ∙ level),
)

pub returns-then-page-eq0-clause-looks : goal.returns-then-page-eq0-clause-looks
returns-then-page-eq0-clause-looks g c = looks_none g.S.EawStore.tells (g.S.EawStore.opens (g.S.EawStore.view c.args.pages.now.store).shape) (pages_of (g.S.EawStore.view c.args.pages.now.store) c.args.pages.now)

pub returns-then-page-eq0-clause-dead : goal.returns-then-page-eq0-clause-dead
returns-then-page-eq0-clause-dead g c = λ told. not_damaged_page _ told

pub returns-then-page-from-clause-looks : goal.returns-then-page-from-clause-looks
returns-then-page-from-clause-looks g c = looks_none g.S.EawStore.tells (g.S.EawStore.opens (g.S.EawStore.view c.args.pages.now.store).shape) (pages_of (g.S.EawStore.view c.args.pages.now.store) c.args.pages.now)

pub returns-then-page-from-clause-dead : goal.returns-then-page-from-clause-dead
returns-then-page-from-clause-dead g c = λ told. not_damaged_page _ told

pub returns-in_err-child-clause-looks : goal.returns-in_err-child-clause-looks
returns-in_err-child-clause-looks g c =
    let exit = err_from_is_err_and c.from_residual.result c.from_residual.ensures.1 in
    rw (exit.1, exit.2) (c.in_err-child.ensures.looks)

pub returns-in_err-child-clause-dead : goal.returns-in_err-child-clause-dead
returns-in_err-child-clause-dead g c =
    let exit = err_from_is_err_and c.from_residual.result c.from_residual.ensures.1 in
    rw (exit.1, exit.2) (λ told. dead_test Node _ _ _ (g.S.EawStore.view c.args.pages.now.store) c.in_err-child.field-0.0 c.requires.alive (error_is _ _ told) c.in_err-child.ensures.cause)

pub returns-then-child-node-clause-looks : goal.returns-then-child-node-clause-looks
returns-then-child-node-clause-looks g c = c.in_ok-child.ensures.looks

pub returns-then-child-node-clause-dead : goal.returns-then-child-node-clause-dead
returns-then-child-node-clause-dead g c = λ told. not_damaged_page _ told

pub returns-clause-looks : goal.returns-clause-looks
returns-clause-looks g c = c.in_ok-child.ensures.looks

pub returns-clause-cause : goal.returns-clause-cause
returns-clause-cause g c = c.requires.alive

pub returns-clause-dead : goal.returns-clause-dead
returns-clause-dead g c = λ told. no_error _ _ told
