-- The leaf of a key, and what comes after it.
use Rattle.std.specs.Prelude.{ℕ, ◌≡◌, ◌≢◌, ◌≤◌, nat_lt, if◌then◌else◌, List, [], ◌∷◌, Option, Some, None}
use Rattle.std.specs.Option.{option_map}
use Rattle.record_slots.specs.Places.{AreGiven}
use Rattle.page_store.specs.Pairs.{Pair, Rise, InTurn, found, next}
use Rattle.index_pages.specs.Keys.{or_else}
use Rattle.index_pages.specs.Page.{page_pairs, pairs_said}
use Rattle.btree_laws.specs.Descent.{leaf_for}
use Rattle.btree_laws.specs.Tree.{pairs_of_tree}
use Rattle.btree_laws.specs.declared.root.Root.{Root}

-- the entry after that of the key's child; and its low key
abbrev pub behind_in : List Pair → ℕ → Option Pair
behind_in [] key = None
behind_in (e ∷ []) key = None
behind_in (e ∷ f ∷ es) key = if nat_lt key f.0 then Some f else behind_in (f ∷ es) key

abbrev pub bound_in : List Pair → ℕ → Option ℕ
bound_in entries key = option_map (λ e. e.0) (behind_in entries key)

-- the first pair from a bound on
abbrev pub from_bound : Root → List ℕ → Option ℕ → Option Pair
from_bound root bytes None = None
from_bound root bytes (Some low) = next (pairs_of_tree bytes root.page) low

-- a leaf begins at this bound and has a pair
abbrev pub IsBegin : Root → List ℕ → Option ℕ → Type 0
IsBegin root bytes None = Unit {0}
IsBegin root bytes (Some low) = next (page_pairs bytes (leaf_for bytes root.page low)) low ≢ None

-- These are the bytes of the key's leaf, which decide what the key leads to. The next leaf begins at the bound, if there is one.
pub record AtLeaf (root : Root) (bytes : List ℕ) (key : ℕ) (bound : Option ℕ) (leaf : List ℕ) : Type 0 where
  pub pairs : pairs_said leaf ≡ page_pairs bytes (leaf_for bytes root.page key)
  pub given : AreGiven bytes root.table (pairs_said leaf)
  pub found_is : found (pairs_of_tree bytes root.page) key ≡ found (pairs_said leaf) key
  pub next_is : next (pairs_of_tree bytes root.page) key ≡ or_else (next (pairs_said leaf) key) (from_bound root bytes bound)
  pub begins : IsBegin root bytes bound
  pub rises : (low : ℕ) × (high : ℕ) × Rise low high (pairs_said leaf)
  pub later : (k : ℕ) (p : Pair) → key ≤ k → next (pairs_said leaf) k ≡ Some p → next (pairs_of_tree bytes root.page) k ≡ Some p

-- The pairs from the key on in the key's leaf. They come one after another in the tree, and if there is none, the next pair is the first from
-- the bound on, at which the next leaf begins.
pub record Reaches (root : Root) (bytes : List ℕ) (key : ℕ) (some : List Pair) (bound : Option ℕ) : Type 0 where
  pub turn : InTurn (pairs_of_tree bytes root.page) key some
  pub none : some ≡ [] → next (pairs_of_tree bytes root.page) key ≡ from_bound root bytes bound
  pub here : some ≡ [] → next (page_pairs bytes (leaf_for bytes root.page key)) key ≡ None
  pub begins : IsBegin root bytes bound
