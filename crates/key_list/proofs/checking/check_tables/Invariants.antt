use Rattle.std.proofs.Common.{false, IsTrue}
use Rattle.eaw_face.specs.Causes.{IsAlive}
use Rattle.record_slots.specs.Places.{page_bytes, tables_of}
use Rattle.record_slots.specs.Super.{SaysSuper}
use Rattle.page_store.specs.Looks.{Looks}
use Rattle.page_store.specs.Shown.{pages_of}
use Rattle.key_list.specs.Chain.{chain_check}
use Rattle.page_store.specs.Records.{rows_of}
use Rattle.key_list.specs.Chain.{pairs_of_chain}
use Rattle.index_pages.proofs.Gathered.{TablesTold}
use Rattle.index_pages.proofs.Tables.{TablesLeft}
use Rattle.std.proofs.Common.{drop}
use Rattle.record_slots.specs.Super.{tables_in}
use Rattle.index_pages.specs.Plans.{tables_plan}
use Rattle.index_pages.proofs.Trying.{SoFar}
use Rattle.key_list.specs.Tried.{chain_plan}
use Rattle.key_list.proofs.checking.check_tables.Given as goal

-- the data is as it was, the tables that are left decide for all, and their records are left to be gathered
abbrev pub invariant-loop-table : goal.invariant-loop-table
invariant-loop-table g l = record {
  looks : Looks g.S.EawStore.tells (g.S.EawStore.opens (g.S.EawStore.view l.fn.pages.store).shape) false
      (pages_of (g.S.EawStore.view l.fn.pages.store) l.fn.pages) (pages_of (g.S.EawStore.view l.pages.store) l.pages);
  alive : IsAlive (g.S.EawStore.view l.pages.store);
  records : IsTrue g.S.EawStore.tells → SaysSuper (page_bytes (g.S.EawStore.view l.fn.pages.store).state.bytes 0) l.front
      → TablesTold (λ root. rows_of (g.S.EawStore.view l.fn.pages.store).state.bytes (pairs_of_chain (g.S.EawStore.view l.fn.pages.store).state.bytes root))
      (tables_of (g.S.EawStore.view l.fn.pages.store).state.bytes) l.fn.tables l.table l.tables;
  left : IsTrue g.S.EawStore.tells → SaysSuper (page_bytes (g.S.EawStore.view l.fn.pages.store).state.bytes 0) l.front
      → TablesLeft (chain_check (g.S.EawStore.view l.fn.pages.store).state.bytes) (tables_of (g.S.EawStore.view l.fn.pages.store).state.bytes) l.table;
  tests : SoFar g.S.EawStore.tells (g.S.EawStore.calls l.fn.pages.store) (g.S.EawStore.calls l.pages.store)
      (tables_plan l.front.next_page (chain_plan (g.S.EawStore.view l.fn.pages.store).shape l.front) l.table (drop l.table (tables_in l.front.version l.front.entries)))
      (tables_plan l.front.next_page (chain_plan (g.S.EawStore.view l.fn.pages.store).shape l.front) 0 (tables_in l.front.version l.front.entries)) (g.S.EawStore.view l.fn.pages.store) (g.S.EawStore.view l.pages.store);
}
