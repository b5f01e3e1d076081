use Rattle.std.proofs.Common.{◌≡◌, ◌<◌, ◌≤◌, false, IsTrue}
use Rattle.eaw_face.specs.Causes.{IsAlive}
use Rattle.record_slots.specs.Places.{page_bytes}
use Rattle.page_store.specs.Index.{index_pages_of}
use Rattle.page_store.specs.Looks.{Looks}
use Rattle.page_store.specs.Shown.{pages_of}
use Rattle.key_list.specs.Linked.{SaysLeaf}
use Rattle.key_list.proofs.Staying.{OnAlong}
use Rattle.key_list.proofs.Walking.{Place}
use Rattle.key_list.proofs.look.page_for.Given as goal

-- the data is as it was, so many pages of the way were read, this one last, and the key's page is this one or comes after it
abbrev pub invariant-loop-step : goal.invariant-loop-step
invariant-loop-step g l = record {
  some : 1 ≤ l.page;
  inside : l.page < index_pages_of (g.S.EawStore.view l.fn.pages.store).shape;
  link : l.head.link < index_pages_of (g.S.EawStore.view l.fn.pages.store).shape;
  looks : Looks g.S.EawStore.tells (g.S.EawStore.opens (g.S.EawStore.view l.fn.pages.store).shape) false
      (pages_of (g.S.EawStore.view l.fn.pages.store) l.fn.pages) (pages_of (g.S.EawStore.view l.pages.store) l.pages);
  alive : IsAlive (g.S.EawStore.view l.pages.store);
  says : SaysLeaf l.bytes l.head;
  bytes : IsTrue g.S.EawStore.tells → l.bytes ≡ page_bytes (g.S.EawStore.view l.fn.pages.store).state.bytes l.page;
  on : OnAlong g.S.EawStore.tells (g.S.EawStore.calls l.fn.pages.store) (g.S.EawStore.calls l.pages.store) l.root l.key l._step l.page l.bytes
      (g.S.EawStore.view l.fn.pages.store) (g.S.EawStore.view l.pages.store);
  few : l._step ≤ index_pages_of (g.S.EawStore.view l.fn.pages.store).shape;
  place : IsTrue g.S.EawStore.tells → Place (g.S.EawStore.view l.fn.pages.store).state.bytes l.root l.table l.key l._step l.page l.head.link;
}
