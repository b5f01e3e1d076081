-- Data along an insertion: an action after others.
use Rattle.std.proofs.Common.{◌≡◌, ℕ, ◌+◌, ◌≤◌, List}
use Rattle.record_slots.specs.Places.{next_slot, next_page}
use Rattle.page_store.specs.Index.{Action, Grows, Rests, Gains}
use Rattle.index_pages.proofs.Joining.{grows_within, grows_without, gains_within, grows_after, rests_after, gains_after}
use Rattle.btree_pages.specs.Index.{tree, tree_below, actions_below}

module _ (page level most root : ℕ) where
  abbrev acts : List ℕ → ℕ → ℕ → List Action
  acts bytes root key = actions_below level bytes page page 0 key

  rests_without : (a b : List ℕ) → Rests (tree_below page level most) root a b → Rests tree root a b
  rests_without a b r = record { pairs = r.pairs; slots = r.slots; due = r.due; same = r.same }

  rests_within : (a b : List ℕ) → Rests tree root a b → Rests (tree_below page level most) root a b
  rests_within a b r = record { pairs = r.pairs; slots = r.slots; due = r.due; same = r.same }

  module _ (a b c : List ℕ) (limit : most ≤ next_page a + 9) (slots_next : next_slot b ≡ next_slot a) where
    pub grows_more : Grows (tree_below page level most) root a b → Rests (tree_below page level most) root a b → Grows tree root b c → next_page c ≤ most → Grows (tree_below page level most) root a c
    grows_more first rests second few =
        grows_within tree most acts root a c (grows_after tree most acts root a b c limit slots_next (grows_without tree most acts root a b first) (rests_without a b rests) (grows_within tree most acts root b c second few)) few

    pub rests_more : Rests (tree_below page level most) root a b → Rests tree root b c → Rests (tree_below page level most) root a c
    rests_more first second = rests_within a c (rests_after tree most acts root a b c limit slots_next (rests_without a b first) (rests_within b c second))

    pub gains_more : (table key : ℕ) → Rests (tree_below page level most) root a b → Gains tree root table key b c → Gains (tree_below page level most) root table key a c
    gains_more table key rests gains =
        gains_within tree most acts root table key a c (gains_after tree most acts root a b c limit slots_next table key (rests_without a b rests) (gains_within tree most acts root table key b c gains))
