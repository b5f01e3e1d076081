-- The parts that the actions of an insertion and of a removal write.
use Rattle.std.specs.Prelude.{ℕ, ◌+◌, ◌*◌, ◌/◌, ◌%◌, ◌<◌, ◌≤◌, nat_eq, nat_lt, ◌&&◌, if◌then◌else◌, List, [], ◌∷◌, length, take, drop}
use Rattle.array_shape.specs.declared.shape.Shape.{Shape}
use Rattle.array_shape.specs.Logged.{Part}
use Rattle.record_slots.specs.Free.{free_slot_bytes, free_page_bytes}
use Rattle.record_slots.specs.Super.{SaysSuper, part_bytes}
use Rattle.record_slots.specs.Places.{page_bytes}
use Rattle.record_slots.specs.declared.free.Free.{Free}
use Rattle.record_slots.specs.declared.super_page.Super.{Super}
use Rattle.page_store.specs.Index.{index_pages_of}
use Rattle.page_store.specs.Pairs.{Pair, inserted}
use Rattle.page_store.specs.Shown.{address}
use Rattle.index_pages.specs.Actions.{half_for}
use Rattle.index_pages.specs.Giving.{GivesSlot}
use Rattle.index_pages.specs.Keys.{key_at}
use Rattle.index_pages.specs.Written.{AreSmall, written_page}

-- a page of the index with at most 30 pairs
pub record IsRead (shape : Shape) (page level : ℕ) (pairs : List Pair) : Type 0 where
  pub some : 1 ≤ page
  pub inside : page < index_pages_of shape
  pub level_most : level ≤ 7
  pub most : length pairs ≤ 30
  pub small : AreSmall pairs

-- How many of 30 pairs the left page keeps where a page of this level is split for a key: half of them. Of a leaf it keeps all but the last, if
-- the key is behind that.
unfoldable pub cut_for : ℕ → List Pair → ℕ → ℕ
cut_for level pairs key = if nat_eq level 0 && nat_lt (key_at pairs 29) key then 29 else 15

-- the pairs of the page that takes the key: one behind all pairs goes to the right, wherever they are cut
abbrev pub half_pairs : ℕ → List Pair → ℕ → List Pair
half_pairs level pairs key = half_for pairs (take (cut_for level pairs key) pairs) (drop (cut_for level pairs key) pairs) key

-- splitting a full page for a key: the page, which keeps the lower part; the page that is taken, with the upper part; the parent, which names
-- that; the super page as it is then
abbrev pub cutting_pages : ℕ → ℕ → ℕ → List ℕ
cutting_pages page taken parent = page ∷ taken ∷ parent ∷ 0 ∷ []

abbrev pub cutting_parts : Super → ℕ → ℕ → List Pair → ℕ → ℕ → ℕ → List Pair → List Part
cutting_parts after page level pairs key taken parent above =
    (address page 0, written_page level 0 (take (cut_for level pairs key) pairs))
    ∷ (address taken 0, written_page level 0 (drop (cut_for level pairs key) pairs))
    ∷ (address parent 0, written_page (level + 1) 0 (inserted above (key_at pairs (cut_for level pairs key)) taken))
    ∷ (address 0 8, part_bytes after) ∷ []

-- splitting the root for a key: the two pages that are taken, with its parts; the root, one level up, which names both; the super page as it is
-- then
abbrev pub growing_pages : ℕ → ℕ → ℕ → List ℕ
growing_pages left right root = left ∷ right ∷ root ∷ 0 ∷ []

abbrev pub growing_parts : Super → ℕ → ℕ → ℕ → ℕ → List Pair → ℕ → List Part
growing_parts after left right root level pairs key =
    (address left 0, written_page level 0 (take (cut_for level pairs key) pairs))
    ∷ (address right 0, written_page level 0 (drop (cut_for level pairs key) pairs))
    ∷ (address root 0, written_page (level + 1) 0 ((0, left) ∷ (key_at pairs (cut_for level pairs key), right) ∷ []))
    ∷ (address 0 8, part_bytes after) ∷ []

-- A leaf takes the pairs of the page to its right: the slot, which is free; the leaf; the parent, with the entries that are left; that page,
-- which is free; the super page as it is then.
abbrev pub joining_pages : ℕ → ℕ → ℕ → ℕ → ℕ → List ℕ
joining_pages half slot leaf parent right = (half + slot / 8) ∷ leaf ∷ parent ∷ right ∷ 0 ∷ []

abbrev pub joining_parts : ℕ → Super → ℕ → Free → ℕ → List Pair → ℕ → List Pair → ℕ → Free → List Part
joining_parts half after slot free leaf pairs parent entries right freed =
    (address (half + slot / 8) (slot % 8 * 64), free_slot_bytes free)
    ∷ (address leaf 0, written_page 0 0 pairs)
    ∷ (address parent 0, written_page 1 0 entries)
    ∷ (address right 0, free_page_bytes freed)
    ∷ (address 0 8, part_bytes after) ∷ []

-- the last leaf of a parent goes: the slot, which is free; the parent, with the entries that are left; the leaf, which is free; the super page
-- as it is then
abbrev pub leaving_pages : ℕ → ℕ → ℕ → ℕ → List ℕ
leaving_pages half slot parent leaf = (half + slot / 8) ∷ parent ∷ leaf ∷ 0 ∷ []

abbrev pub leaving_parts : ℕ → Super → ℕ → Free → ℕ → List Pair → ℕ → Free → List Part
leaving_parts half after slot free parent entries leaf freed =
    (address (half + slot / 8) (slot % 8 * 64), free_slot_bytes free)
    ∷ (address parent 0, written_page 1 0 entries)
    ∷ (address leaf 0, free_page_bytes freed)
    ∷ (address 0 8, part_bytes after) ∷ []

-- a slot is given back to the super page that the data has: what it is to say, and what the super page says then
abbrev pub Releases : List ℕ → ℕ → Free → Super → Type 0
Releases bytes slot free after = (front : Super) × SaysSuper (page_bytes bytes 0) front × GivesSlot front slot free after
