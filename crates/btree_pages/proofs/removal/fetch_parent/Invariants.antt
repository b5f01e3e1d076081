use Rattle.page_store.specs.Shown.{pages_of}
use Rattle.btree_pages.specs.Steps.{CameDown}
use Rattle.btree_pages.proofs.Coming.{Comes}
use Rattle.btree_pages.proofs.removal.fetch_parent.Given as goal

-- the way has come to an inner page, by these reads alone
abbrev pub invariant-loop-node : goal.invariant-loop-node
invariant-loop-node g l = record {
  comes : Comes g.S.EawStore.tells g.S.EawStore.opens l.root l.key (pages_of (g.S.EawStore.view l.fn.pages.store) l.fn.pages) (pages_of (g.S.EawStore.view l.pages.store) l.pages) l.node.page l.node.level l.node.pairs.items;
  came : CameDown g.S.EawStore.tells g.S.EawStore.view g.S.EawStore.calls l.key l.fn.top.page l.fn.top.level l.fn.top.pairs.items (g.S.EawStore.view l.fn.pages.store) (g.S.EawStore.view l.pages.store) l.node.page l.node.level l.node.pairs.items;
}

abbrev pub decreases-loop-node : goal.decreases-loop-node
decreases-loop-node g l = l.node.level
