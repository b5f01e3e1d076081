-- From where a look goes down to the leaf of a key.
use Rattle.std.specs.Prelude.{ℕ, ◌≡◌, ◌+◌, ◌<◌, ◌≤◌, List, Option}
use Rattle.std.specs.Option.{option_map}
use Rattle.array_shape.specs.Places.{page_count}
use Rattle.array_shape.specs.declared.shape.Shape.{Shape}
use Rattle.page_store.specs.Pairs.{Pair}
use Rattle.index_pages.specs.Page.{level_of}
use Rattle.btree_laws.specs.Descent.{page_for}
use Rattle.btree_laws.specs.declared.root.Root.{Root}
use Rattle.btree_pages.specs.Leaf.{AtLeaf, Reaches}
use Rattle.btree_pages.specs.declared.look.Start.{Start}

-- the way from the child of an entry on, of the entry's low key
abbrev pub entry_start : ℕ → Pair → Start
entry_start most entry = record { page = entry.1; key = entry.0; most = most }

abbrev pub start_behind : ℕ → Option Pair → Option Start
start_behind most entry = option_map (entry_start most) entry

-- the entry at which a way begins; and its low key
abbrev pub entry_of : Option Start → Option Pair
entry_of start = option_map (λ s. (s.key, s.page)) start

abbrev pub key_of : Option Start → Option ℕ
key_of start = option_map (λ s. s.key) start

-- the page is on the key's way, and as many pages may be read from it on as a look from the root has left there
pub record IsStart (root : Root) (bytes : List ℕ) (start : Start) : Type 0 where
  pub depth : ℕ
  pub page_is : start.page ≡ page_for depth bytes root.page start.key
  pub below : depth ≤ level_of bytes root.page
  pub few : depth + start.most ≡ 8

-- a way that begins below a page of another one, at a later key
pub record IsLater (shape : Shape) (start later : Start) : Type 0 where
  pub inside : later.page < page_count shape
  pub above : start.key < later.key
  pub some : 1 ≤ later.most
  pub fewer : later.most < start.most

-- The leaf at which a way ends. What comes after it begins at the low key of the entry behind, if the way began at the root.
abbrev pub Arrives : Root → List ℕ → Start → Option Start → List ℕ → Type 0
Arrives root bytes start behind leaf = (bound : Option ℕ) × AtLeaf root bytes start.key bound leaf × (start.most ≡ 8 → bound ≡ key_of behind)

-- the same of its pairs from the key on
abbrev pub Gives : Root → List ℕ → Start → List Pair → Option Start → Type 0
Gives root bytes start some behind = (bound : Option ℕ) × Reaches root bytes start.key some bound × (start.most ≡ 8 → bound ≡ key_of behind)
