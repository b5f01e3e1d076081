use Rattle.std.proofs.Common.{◌-◌, ◌<◌, ◌≤◌, false, IsTrue}
use Rattle.eaw_face.specs.Causes.{IsAlive}
use Rattle.array_shape.specs.Places.{page_count}
use Rattle.record_slots.specs.Places.{page_bytes}
use Rattle.record_slots.specs.Super.{SaysSuper}
use Rattle.page_store.specs.Looks.{Looks}
use Rattle.page_store.specs.Shown.{pages_of}
use Rattle.index_pages.specs.Keys.{key_end}
use Rattle.key_list.specs.Checked.{low_of}
use Rattle.index_pages.proofs.Gathered.{RowsLeft}
use Rattle.key_list.specs.Chain.{chain_pairs, pairs_of_chain}
use Rattle.key_list.proofs.Testing.{ChainLeft}
use Rattle.index_pages.proofs.Trying.{SoFar}
use Rattle.key_list.specs.Tried.{chain_plan_from, chain_plan}
use Rattle.key_list.proofs.checking.check_table.Given as goal

-- the data is as it was, what becomes of the pages that are left becomes of the chain, and what they hold is left to be gathered
abbrev pub invariant-loop-step : goal.invariant-loop-step
invariant-loop-step g l = record {
  inside : l.page < page_count (g.S.EawStore.view l.fn.pages.store).shape;
  looks : Looks g.S.EawStore.tells (g.S.EawStore.opens (g.S.EawStore.view l.fn.pages.store).shape) false
      (pages_of (g.S.EawStore.view l.fn.pages.store) l.fn.pages) (pages_of (g.S.EawStore.view l.pages.store) l.pages);
  alive : IsAlive (g.S.EawStore.view l.pages.store);
  low : low_of l.last ≤ key_end;
  rows : IsTrue g.S.EawStore.tells → SaysSuper (page_bytes (g.S.EawStore.view l.fn.pages.store).state.bytes 0) l.front
      → RowsLeft (g.S.EawStore.view l.fn.pages.store).state.bytes l.fn.rows (pairs_of_chain (g.S.EawStore.view l.fn.pages.store).state.bytes l.root) l.rows
      (chain_pairs (l.front.next_page - l._step) (g.S.EawStore.view l.fn.pages.store).state.bytes l.page);
  left : IsTrue g.S.EawStore.tells → SaysSuper (page_bytes (g.S.EawStore.view l.fn.pages.store).state.bytes 0) l.front → ChainLeft (g.S.EawStore.view l.fn.pages.store).state.bytes l.root l.table l.page (low_of l.last) (l.front.next_page - l._step);
  tests : SoFar g.S.EawStore.tells (g.S.EawStore.calls l.fn.pages.store) (g.S.EawStore.calls l.pages.store)
      (chain_plan_from (g.S.EawStore.view l.fn.pages.store).shape l.front l.table (l.front.next_page - l._step) l.page (low_of l.last))
      (chain_plan (g.S.EawStore.view l.fn.pages.store).shape l.front l.root l.table) (g.S.EawStore.view l.fn.pages.store) (g.S.EawStore.view l.pages.store);
}
