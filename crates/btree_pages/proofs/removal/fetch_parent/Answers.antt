use Rattle.std.proofs.Common.{◌≡◌, ◌≢◌, ◌<◌, ◌≤◌, ℕ, arith, Result, Err}
use Rattle.array_shape.specs.Places.{page_count}
use Rattle.page_store.specs.Shown.{pages_of}
use Rattle.btree_pages.proofs.Coming.{comes_first, comes_down}
use Rattle.btree_pages.proofs.Removing.{came_first, came_child, came_fails}
use Rattle.page_store.specs.Looks.{is_failed}
use Rattle.page_store.specs.declared.fault.PageFault.{PageFault}
use Rattle.index_pages.proofs.Looking.{looks_next}
use Rattle.btree_pages.specs.declared.node.Node.{Node}
use Rattle.std.proofs.lemmas.Result.{err_from_is_err_and}
use Rattle.btree_pages.proofs.removal.fetch_parent.Goals as goal

pub loop-node-init : goal.loop-node-init
loop-node-init g c =
    let V = g.S.EawStore.view in
    let v0 = pages_of (V c.args.pages.now.store) c.args.pages.now in
    let top = c.args.top in
    record {
      comes = comes_first g.S.EawStore.tells g.S.EawStore.opens c.args.root c.args.key v0 top.page top.level top.pairs.items c.requires.read c.requires.some c.requires.inner c.requires.reached;
      came = came_first g.S.EawStore.tells V g.S.EawStore.calls c.args.key top.page top.level top.pairs.items c.args.pages.now.store (omega (arith, c.requires.read.inside));
    }

pub loop-node-preserved : goal.loop-node-preserved
loop-node-preserved g c =
    let V = g.S.EawStore.view in
    let v0 = pages_of (V c.args.pages.now.store) c.args.pages.now in
    let v1 = pages_of (V c.loop-node.pages.store) c.loop-node.pages in
    let v2 = pages_of (V c.fetch_child.new.pages.store) c.fetch_child.new.pages in
    let top = c.args.top in
    let at = c.loop-node.node in
    let child = c.in_ok-node.node in
    let inner : c.loop-node.node.level ≢ 0 = λ e. omega (arith, e, c.loop-node-test.true) in
    record {
      comes = comes_down g.S.EawStore.tells g.S.EawStore.opens c.args.root c.args.key v0 v1 at.page at.level at.pairs.items c.loop-node.invariant.comes v2 c.in_ok-node.ensures.looks child.page child.level child.pairs.items
          c.in_ok-node.ensures.child c.in_ok-node.ensures.level c.in_ok-node.ensures.read c.in_ok-node.ensures.some c.in_ok-node.ensures.pairs c.loop-node-test.true;
      came = came_child g.S.EawStore.tells V g.S.EawStore.calls c.args.key top.page top.level top.pairs.items c.args.pages.now.store c.loop-node.pages.store c.fetch_child.new.pages.store at.page at.level at.pairs.items c.loop-node.invariant.came inner
          child c.in_ok-node.ensures.reads c.in_ok-node.ensures.looks.shape c.in_ok-node.ensures.child c.in_ok-node.ensures.level;
    }

pub returns-in_err-node-clause-fails : goal.returns-in_err-node-clause-fails
returns-in_err-node-clause-fails g c =
    let exit = err_from_is_err_and c.from_residual.result c.from_residual.ensures.1 in
    rw (exit.1, exit.2) (
    let top = c.args.top in
    let at = c.loop-node.node in
    let inner : c.loop-node.node.level ≢ 0 = λ e. omega (arith, e, c.loop-node-test.true) in
    came_fails g.S.EawStore.tells g.S.EawStore.view g.S.EawStore.calls c.args.key top.page top.level top.pairs.items c.args.pages.now.store c.loop-node.pages.store c.fetch_child.new.pages.store at.page at.level at.pairs.items c.loop-node.invariant.came inner
    c.in_err-node.field-0.0 c.in_err-node.ensures.reads)

pub returns-in_err-node-clause-looks : goal.returns-in_err-node-clause-looks
returns-in_err-node-clause-looks g c =
    let exit = err_from_is_err_and c.from_residual.result c.from_residual.ensures.1 in
    rw (exit.1, exit.2) (
    let r : Result Node PageFault = Err c.in_err-node.field-0.0 in
    looks_next g.S.EawStore.tells g.S.EawStore.opens (is_failed r) (pages_of (g.S.EawStore.view c.args.pages.now.store) c.args.pages.now) (pages_of (g.S.EawStore.view c.loop-node.pages.store) c.loop-node.pages) (pages_of (g.S.EawStore.view c.fetch_child.new.pages.store) c.fetch_child.new.pages) c.loop-node.invariant.comes.looks c.in_err-node.ensures.looks)
