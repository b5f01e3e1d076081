-- A page on a key's way, as the data has it.
use Rattle.std.specs.Prelude.{ℕ, ◌≡◌, List}
use Rattle.page_store.specs.Pairs.{Pair}
use Rattle.index_pages.specs.Page.{page_pairs, level_of}
use Rattle.index_pages.specs.Ways.{above}
use Rattle.btree_laws.specs.Descent.{page_for}
use Rattle.btree_laws.specs.declared.root.Root.{Root}

-- the page is on the key's way d levels below the root, has this level and these pairs
pub record IsOnWay (root : Root) (bytes : List ℕ) (key d page level : ℕ) (pairs : List Pair) : Type 0 where
  pub page_is : page ≡ page_for d bytes root.page key
  pub level_is : level_of bytes root.page ≡ above d level
  pub pairs_are : pairs ≡ page_pairs bytes page

-- the page is on the key's way
abbrev pub IsReached : Root → List ℕ → ℕ → ℕ → ℕ → List Pair → Type 0
IsReached root bytes key page level pairs = (d : ℕ) × IsOnWay root bytes key d page level pairs
