use Rattle.std.proofs.Common.{◌≡◌, ◌<◌, ◌≤◌, true, false, IsTrue}
use Rattle.std.specs.Prelude.{◌||◌, IfSome}
use Rattle.index_pages.specs.Page.{level_of}
use Rattle.btree_pages.specs.Crowded.{is_full, is_full_below, is_crowded}
use Rattle.eaw_face.specs.Causes.{IsAlive}
use Rattle.array_shape.specs.Places.{page_count}
use Rattle.page_store.specs.Looks.{Looks}
use Rattle.page_store.specs.Shown.{pages_of}
use Rattle.index_pages.proofs.Courses.{OnCourse}
use Rattle.btree_pages.specs.Downward.{down, behind_along}
use Rattle.btree_pages.specs.Start.{IsStart, entry_of, key_of}
use Rattle.btree_pages.proofs.Starting.{Lasts}
use Rattle.std.proofs.Common.{◌+◌, ℕ, Option}
use Rattle.btree_pages.proofs.Descending.{Down}
use Rattle.btree_pages.proofs.look.descend.Given as goal

-- the data is as it was, so many pages were read, and the page is on the key's way
abbrev pub invariant-loop-step : goal.invariant-loop-step
invariant-loop-step g l = record {
  inside : l.page < page_count (g.S.EawStore.view l.fn.pages.store).shape;
  looks : Looks g.S.EawStore.tells (g.S.EawStore.opens (g.S.EawStore.view l.fn.pages.store).shape) false
      (pages_of (g.S.EawStore.view l.fn.pages.store) l.fn.pages) (pages_of (g.S.EawStore.view l.pages.store) l.pages);
  alive : 0 < l.step → IsAlive (g.S.EawStore.view l.pages.store);
  dead : (g.S.EawStore.view l.pages.store).is_dead ≡ true → l.pages ≡ l.fn.pages;
  lasts : IfSome l.behind (Lasts (g.S.EawStore.view l.fn.pages.store).shape l.fn.start l.step);
  on : (o : OnCourse g.S.EawStore.tells (g.S.EawStore.calls l.fn.pages.store) (g.S.EawStore.calls l.pages.store) (down l.fn.start.page l.fn.start.key) l.step l.page l.last
      (g.S.EawStore.view l.fn.pages.store) (g.S.EawStore.view l.pages.store)) × (entry_of l.behind ≡ behind_along l.fn.start.key o.read);
  few : l.step ≤ l.fn.start.most;
  crowd : IsTrue g.S.EawStore.tells → IsAlive (g.S.EawStore.view l.fn.pages.store) → l.fn.start.most ≡ 8 → is_crowded (g.S.EawStore.view l.fn.pages.store).state.bytes l.fn.root.page l.fn.start.key
      ≡ (l.full || (is_full (g.S.EawStore.view l.fn.pages.store).state.bytes l.page || is_full_below (level_of (g.S.EawStore.view l.fn.pages.store).state.bytes l.page) (g.S.EawStore.view l.fn.pages.store).state.bytes l.page l.fn.start.key));
  down : IsTrue g.S.EawStore.tells → IsAlive (g.S.EawStore.view l.fn.pages.store) → (d : ℕ) × (b : Option ℕ) × (d + l.fn.start.most ≡ 8 + l.step) × (l.fn.start.most ≡ 8 → b ≡ key_of l.behind)
      × Down l.fn.root (g.S.EawStore.view l.fn.pages.store).state.bytes l.fn.start.key d l.page b;
  begins : IsTrue g.S.EawStore.tells → IsAlive (g.S.EawStore.view l.fn.pages.store) → IfSome l.behind (IsStart l.fn.root (g.S.EawStore.view l.fn.pages.store).state.bytes);
}
