-- The page of a key as an insertion finds it, and the parts that it writes.
use Rattle.std.specs.Prelude.{ℕ, ◌≡◌, ◌<◌, ◌≤◌, Bool, List, [], ◌∷◌, length, take, drop, None, IsTrue}
use Rattle.array_shape.specs.declared.shape.Shape.{Shape}
use Rattle.array_shape.specs.Logged.{Part}
use Rattle.record_slots.specs.Places.{page_bytes}
use Rattle.record_slots.specs.Super.{SaysSuper, part_bytes}
use Rattle.record_slots.specs.declared.super_page.Super.{Super}
use Rattle.eaw_face.specs.StoreView.{StoreView}
use Rattle.page_store.specs.Index.{index_pages_of, slots_of}
use Rattle.page_store.specs.Pairs.{Pair, found}
use Rattle.page_store.specs.declared.leaf_page.Sought.{Sought}
use Rattle.page_store.specs.declared.leaf_page.Sought.TheVariants.{Slot, Place, Split}
use Rattle.page_store.specs.Shown.{address}
use Rattle.index_pages.specs.Fetched.{IsFront}
use Rattle.index_pages.specs.Page.{count_said, pairs_said, link_of, page_pairs}
use Rattle.key_list.specs.Chain.{page_of_key, pairs_of_chain}
use Rattle.index_pages.specs.Written.{AreSmall, written_page}
use Rattle.key_list.specs.declared.look.KeyPage.{KeyPage}

-- what is known of it over any store
pub record IsLocated (shape : Shape) (front : Super) (page link : ℕ) (pairs : List Pair) : Type 0 where
  pub front_is : IsFront shape front
  pub some : 1 ≤ page
  pub inside : page < index_pages_of shape
  pub most : length pairs ≤ 30
  pub small : AreSmall pairs

-- the place is this page, if it has room
abbrev pub IsRoomIn : KeyPage → List ℕ → Sought → Type 0
IsRoomIn at said (Slot slot) = ⊥
IsRoomIn at said (Place leaf) = (leaf.page ≡ at.page) × (leaf.link ≡ at.head.link) × (leaf.pairs.items ≡ pairs_said said) × (length leaf.pairs.items < 30) × AreSmall leaf.pairs.items
IsRoomIn at said Split = 30 ≤ count_said said

-- it is what the data says
pub record Locates (bytes : List ℕ) (root key : ℕ) (front : Super) (page link : ℕ) (pairs : List Pair) : Type 0 where
  pub front_says : SaysSuper (page_bytes bytes 0) front
  pub page_is : page ≡ page_of_key bytes root key
  pub link_is : link ≡ link_of bytes page
  pub pairs_are : pairs ≡ page_pairs bytes page

-- the page of a key that is absent was found, and a slot is left for the key
pub record MayAdd (tells : Bool) (store : StoreView) (root key : ℕ) (front : Super) (page link : ℕ) (pairs : List Pair) : Type 0 where
  pub located : IsLocated store.shape front page link pairs
  pub said : IsTrue tells → Locates store.state.bytes root key front page link pairs
  pub absent : IsTrue tells → found (pairs_of_chain store.state.bytes root) key ≡ None
  pub slot : front.free_slots ≡ 0 → front.next_slot < slots_of store.shape

-- a full page is cut: the page with the lower half, linked to the page that is taken; that with the upper half; the super page as it is then
abbrev pub cutting_pages : ℕ → ℕ → List ℕ
cutting_pages next page = page ∷ next ∷ 0 ∷ []

abbrev pub cutting_parts : Super → ℕ → ℕ → ℕ → List Pair → List Part
cutting_parts after next page link pairs =
    (address page 0, written_page 0 next (take 15 pairs))
    ∷ (address next 0, written_page 0 link (drop 15 pairs))
    ∷ (address 0 8, part_bytes after) ∷ []
