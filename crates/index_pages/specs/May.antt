-- What a look at the index of a table, or a change of it, starts from.
use Rattle.std.specs.Prelude.{ℕ, ◌≡◌, ◌<◌, Bool, None, IsTrue}
use Rattle.array_shape.specs.Places.{page_count}
use Rattle.eaw_face.specs.Causes.{IsAlive}
use Rattle.eaw_face.specs.StoreView.{StoreView}
use Rattle.record_slots.specs.Places.{page_bytes}
use Rattle.record_slots.specs.Super.{SaysSuper}
use Rattle.record_slots.specs.declared.super_page.Super.{Super}
use Rattle.page_store.specs.Index.{Index, IsTable, slots_of}
use Rattle.page_store.specs.Pairs.{found}
use Rattle.page_store.specs.Shown.{PagesView}
use Rattle.index_pages.specs.Fetched.{IsFront}

-- The table is one of eight, and the page one of the array. Where the store tells its data and is alive, the indexes are sound, and this page
-- is the root of the table's.
pub record MayLook (tells : Bool) (index : Index) (table root : ℕ) (store : StoreView) : Type 0 where
  pub one_of : table < 8
  pub inside : root < page_count store.shape
  pub sound : IsTrue tells → IsAlive store → index.sound store.state.bytes
  pub named : IsTrue tells → IsAlive store → IsTable store.state.bytes table root

-- The store is alive, and the number, one of those of its array, has no top action open. Where the store tells its data, the indexes are sound,
-- and this page is the root of the table's.
pub record MayAct (tells : Bool) (index : Index) (tid table root : ℕ) (pages : PagesView) : Type 0 where
  pub number : tid < pages.store.shape.numbers
  pub one_of : table < 8
  pub closed : pages.top tid ≡ None
  pub alive : IsAlive pages.store
  pub sound : IsTrue tells → index.sound pages.store.state.bytes
  pub named : IsTrue tells → IsTable pages.store.state.bytes table root

-- The same where a key is to be inserted that the table has not. So the super page says, and a slot is left.
pub record MayInsert (tells : Bool) (index : Index) (tid table root key : ℕ) (front : Super) (pages : PagesView) : Type 0 where
  pub act : MayAct tells index tid table root pages
  pub absent : IsTrue tells → found (index.pairs pages.store.state.bytes root) key ≡ None
  pub front_is : IsFront pages.store.shape front
  pub slot : front.free_slots ≡ 0 → front.next_slot < slots_of pages.store.shape
  pub says : IsTrue tells → SaysSuper (page_bytes pages.store.state.bytes 0) front
