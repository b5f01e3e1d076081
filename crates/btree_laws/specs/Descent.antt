-- The way from the root down to a key.
use Rattle.std.specs.Prelude.{ℕ, zero, suc, nat_lt, if◌then◌else◌, List, [], ◌∷◌}
use Rattle.index_pages.specs.Page.{page_pairs, level_of}
use Rattle.page_store.specs.Pairs.{Pair}

-- the child of the last entry whose low key is not above the key, or of the first entry if there is none
abbrev pub child_for : List Pair → ℕ → ℕ
child_for [] key = 0
child_for (e ∷ []) key = e.1
child_for (e ∷ f ∷ es) key = if nat_lt key f.0 then e.1 else child_for (f ∷ es) key

-- the page on a key's way this many levels down
abbrev pub page_for : ℕ → List ℕ → ℕ → ℕ → ℕ
page_for zero bytes page key = page
page_for (suc d) bytes page key = page_for d bytes (child_for (page_pairs bytes page) key) key

-- the leaf of a key
abbrev pub leaf_for : List ℕ → ℕ → ℕ → ℕ
leaf_for bytes root key = page_for (level_of bytes root) bytes root key
