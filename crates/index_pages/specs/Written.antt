-- What a page is to say to be read, and the bytes with which it is written.
use Rattle.std.specs.Prelude.{ℕ, zero, suc, ◌≡◌, ◌-◌, ◌*◌, ◌≤◌, ◌⊎◌, List, [], ◌∷◌, ◌++◌, length, replicate}
use Rattle.byteorder.specs.Endian.{little_bytes}
use Rattle.page_store.specs.Pairs.{Pair}
pub use Rattle.page_store.specs.Pairs.{AreSmall}
use Rattle.index_pages.specs.Page.{kind_said, level_said, count_said, link_said}
use Rattle.index_pages.specs.declared.page.Head.{Head}

-- kind 1 and level 0, or kind 2 and a level from 1 to 7
abbrev pub IsKind : ℕ → ℕ → Type 0
IsKind kind level = ((kind ≡ 1) × (level ≡ 0)) ⊎ ((kind ≡ 2) × (1 ≤ level) × (level ≤ 7))

-- 512 bytes of a page with at most 30 pairs
pub record IsPage (bytes : List ℕ) : Type 0 where
  pub kind_is : IsKind (kind_said bytes) (level_said bytes)
  pub most : count_said bytes ≤ 30

-- the bytes of a page say this head
pub record SaysHead (bytes : List ℕ) (head : Head) : Type 0 where
  pub page : IsPage bytes
  pub level : head.level ≡ level_said bytes
  pub count : head.count ≡ count_said bytes
  pub link : head.link ≡ link_said bytes

-- eight bytes of the key, and eight of what it leads to
unfoldable pub pair_bytes : Pair → List ℕ
pair_bytes pair = little_bytes 8 pair.0 ++ little_bytes 8 pair.1

unfoldable pub pairs_bytes : List Pair → List ℕ
pairs_bytes [] = []
pairs_bytes (p ∷ ps) = pair_bytes p ++ pairs_bytes ps

-- the kind of a page of this level
abbrev pub kind_for : ℕ → ℕ
kind_for zero = 1
kind_for (suc level) = 2

-- kind, level, count and link
unfoldable pub front_bytes : ℕ → ℕ → ℕ → List ℕ
front_bytes level count link = kind_for level ∷ level ∷ (little_bytes 2 count ++ little_bytes 4 link)

-- all of it: the front, the pairs behind it, and zeros
unfoldable pub written_page : ℕ → ℕ → List Pair → List ℕ
written_page level link pairs = front_bytes level (length pairs) link ++ (pairs_bytes pairs ++ replicate (504 - 16 * length pairs) 0)
