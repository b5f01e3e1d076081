use Rattle.std.proofs.Common.{◌≡◌, ◌<◌, ◌≤◌, true, false, IsTrue}
use Rattle.eaw_face.specs.Causes.{IsAlive}
use Rattle.array_shape.specs.Places.{page_count}
use Rattle.page_store.specs.Index.{index_pages_of}
use Rattle.page_store.specs.Looks.{Looks}
use Rattle.page_store.specs.Shown.{pages_of}
use Rattle.index_pages.proofs.Courses.{OnCourse}
use Rattle.key_list.specs.Along.{along}
use Rattle.key_list.proofs.Walking.{Next}
use Rattle.key_list.proofs.look.reach.Given as goal

-- the data is as it was, so many pages of the way were read, and the chain from the page on answers
abbrev pub invariant-loop-step : goal.invariant-loop-step
invariant-loop-step g l = record {
  inside : l.page < page_count (g.S.EawStore.view l.fn.pages.store).shape;
  looks : Looks g.S.EawStore.tells (g.S.EawStore.opens (g.S.EawStore.view l.fn.pages.store).shape) false
      (pages_of (g.S.EawStore.view l.fn.pages.store) l.fn.pages) (pages_of (g.S.EawStore.view l.pages.store) l.pages);
  alive : 0 < l._step → IsAlive (g.S.EawStore.view l.pages.store);
  dead : (g.S.EawStore.view l.pages.store).is_dead ≡ true → l.pages ≡ l.fn.pages;
  on : OnCourse g.S.EawStore.tells (g.S.EawStore.calls l.fn.pages.store) (g.S.EawStore.calls l.pages.store) (along l.fn.root l.fn.from) l._step l.page l.last
      (g.S.EawStore.view l.fn.pages.store) (g.S.EawStore.view l.pages.store);
  few : l._step ≤ index_pages_of (g.S.EawStore.view l.fn.pages.store).shape;
  chain : IsTrue g.S.EawStore.tells → IsAlive (g.S.EawStore.view l.fn.pages.store) → Next (g.S.EawStore.view l.fn.pages.store).state.bytes l.root l.table l.from l._step l.page;
}
