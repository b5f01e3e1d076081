use Rattle.std.proofs.Common.{ℕ, ◌-◌, false, IsTrue, Option}
use Rattle.eaw_face.specs.Causes.{IsAlive}
use Rattle.record_slots.specs.Places.{page_bytes, slot_page, free_slot_of}
use Rattle.record_slots.specs.Super.{SaysSuper}
use Rattle.page_store.specs.Looks.{Looks}
use Rattle.page_store.specs.Shown.{pages_of}
use Rattle.index_pages.specs.Slots.{list_check, slots_check}
use Rattle.std.proofs.Common.{◌+◌, ◌/◌}
use Rattle.page_store.specs.Index.{index_pages_of}
use Rattle.index_pages.specs.Plans.{list_plan, free_slot_plan, free_slots_plan}
use Rattle.index_pages.proofs.Trying.{SoFar}
use Rattle.index_pages.proofs.checking.check_free_slots.Given as goal

-- the data is as it was, and what becomes of the members that are left becomes of all
abbrev pub invariant-loop-done : goal.invariant-loop-done
invariant-loop-done g l = record {
  looks : Looks g.S.EawStore.tells (g.S.EawStore.opens (g.S.EawStore.view l.fn.pages.store).shape) false
      (pages_of (g.S.EawStore.view l.fn.pages.store) l.fn.pages) (pages_of (g.S.EawStore.view l.pages.store) l.pages);
  alive : IsAlive (g.S.EawStore.view l.pages.store);
  left : IsTrue g.S.EawStore.tells → SaysSuper (page_bytes (g.S.EawStore.view l.fn.pages.store).state.bytes 0) l.front → (verdict : Option ℕ)
      → list_check (free_slot_of (g.S.EawStore.view l.fn.pages.store).state.bytes) (slot_page (g.S.EawStore.view l.fn.pages.store).state.bytes) 0 l.front.next_slot (l.front.free_slots - l.done) l.named l.page verdict
      → slots_check (g.S.EawStore.view l.fn.pages.store).state.bytes verdict;
  tests : SoFar g.S.EawStore.tells (g.S.EawStore.calls l.fn.pages.store) (g.S.EawStore.calls l.pages.store)
      (list_plan (free_slot_plan (index_pages_of (g.S.EawStore.view l.fn.pages.store).shape)) (λ slot. index_pages_of (g.S.EawStore.view l.fn.pages.store).shape + slot / 8) 0 l.front.next_slot (l.front.free_slots - l.done) l.named l.page)
      (free_slots_plan (index_pages_of (g.S.EawStore.view l.fn.pages.store).shape) l.front) (g.S.EawStore.view l.fn.pages.store) (g.S.EawStore.view l.pages.store);
}
