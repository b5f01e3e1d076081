-- Full pages on the way of a key.
use Rattle.std.specs.Prelude.{ℕ, zero, suc, nat_le, ◌||◌, Bool, true, false, List}
use Rattle.index_pages.specs.Page.{level_of, count_of, page_pairs}
use Rattle.btree_laws.specs.Descent.{child_for}

-- a page has as many pairs as it may
abbrev pub is_full : List ℕ → ℕ → Bool
is_full bytes page = nat_le 30 (count_of bytes page)

-- so has one of those below this page on the way, which is this many levels above the leaves
abbrev pub is_full_below : ℕ → List ℕ → ℕ → ℕ → Bool
is_full_below zero bytes page key = false
is_full_below (suc d) bytes page key = is_full bytes (child_for (page_pairs bytes page) key) || is_full_below d bytes (child_for (page_pairs bytes page) key) key

-- so has one from the root on
abbrev pub is_crowded : List ℕ → ℕ → ℕ → Bool
is_crowded bytes root key = is_full bytes root || is_full_below (level_of bytes root) bytes root key
