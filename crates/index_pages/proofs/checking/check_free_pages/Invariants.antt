use Rattle.std.proofs.Common.{ℕ, ◌-◌, false, IsTrue, Option}
use Rattle.eaw_face.specs.Causes.{IsAlive}
use Rattle.record_slots.specs.Places.{page_bytes, free_page_of}
use Rattle.record_slots.specs.Super.{SaysSuper}
use Rattle.page_store.specs.Looks.{Looks}
use Rattle.page_store.specs.Shown.{pages_of}
use Rattle.index_pages.specs.Slots.{list_check, pages_check}
use Rattle.index_pages.specs.Plans.{list_plan, free_page_plan, free_pages_plan}
use Rattle.index_pages.proofs.Trying.{SoFar}
use Rattle.index_pages.proofs.checking.check_free_pages.Given as goal

-- the data is as it was, and what becomes of the members that are left becomes of all
abbrev pub invariant-loop-done : goal.invariant-loop-done
invariant-loop-done g l = record {
  looks : Looks g.S.EawStore.tells (g.S.EawStore.opens (g.S.EawStore.view l.fn.pages.store).shape) false
      (pages_of (g.S.EawStore.view l.fn.pages.store) l.fn.pages) (pages_of (g.S.EawStore.view l.pages.store) l.pages);
  alive : IsAlive (g.S.EawStore.view l.pages.store);
  left : IsTrue g.S.EawStore.tells → SaysSuper (page_bytes (g.S.EawStore.view l.fn.pages.store).state.bytes 0) l.front → (verdict : Option ℕ)
      → list_check (free_page_of (g.S.EawStore.view l.fn.pages.store).state.bytes) (λ page. page) 2 l.front.next_page (l.front.free_pages - l.done) l.named l.page verdict
      → pages_check (g.S.EawStore.view l.fn.pages.store).state.bytes verdict;
  tests : SoFar g.S.EawStore.tells (g.S.EawStore.calls l.fn.pages.store) (g.S.EawStore.calls l.pages.store)
      (list_plan free_page_plan (λ page. page) 2 l.front.next_page (l.front.free_pages - l.done) l.named l.page)
      (free_pages_plan l.front) (g.S.EawStore.view l.fn.pages.store) (g.S.EawStore.view l.pages.store);
}
