use Rattle.std.proofs.Common.{◌+◌}
use Rattle.page_store.specs.Shown.{pages_of}
use Rattle.btree_pages.specs.Index.{actions_below}
use Rattle.btree_pages.proofs.Below.{Stands}
use Rattle.btree_pages.proofs.Stepping.{Stepped}
use Rattle.btree_pages.proofs.insertion.insert_below.Given as goal

-- the insertion has come to the page, by these steps
abbrev pub invariant-loop-node : goal.invariant-loop-node
invariant-loop-node g l = record {
  stands : Stands g.S.EawStore.tells g.S.EawStore.opens l.change.tid l.change.root l.change.key (pages_of (g.S.EawStore.view l.fn.pages.store) l.fn.pages) l.fn.node.page l.fn.node.level (l.fn.front.next_page + l.fn.node.level)
      (pages_of (g.S.EawStore.view l.pages.store) l.pages) l.front l.node.page l.node.level l.node.pairs.items;
  stepped : Stepped g.S.EawStore.tells g.S.EawStore.view g.S.EawStore.calls l.change.tid l.change.key l.fn.node.page l.fn.node.level l.fn.node.pairs.items
      (actions_below l.fn.node.level (g.S.EawStore.view l.fn.pages.store).state.bytes l.fn.node.page l.fn.node.page 0 l.change.key) l.fn.pages.store 0 l.pages.store l.node.page l.node.level l.node.pairs.items
      (actions_below l.node.level (g.S.EawStore.view l.pages.store).state.bytes l.node.page l.node.page 0 l.change.key);
}

abbrev pub decreases-loop-node : goal.decreases-loop-node
decreases-loop-node g l = l.node.level
