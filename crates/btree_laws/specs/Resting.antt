-- A tree whose pages are as they were and whose slots still carry their keys.
use Rattle.std.proofs.Common.{◌≡◌, ℕ, zero, suc, List, [], ◌∷◌, sym, ◌∙◌, ap, subst, arith}
use Rattle.record_slots.specs.Places.{AreGiven, page_bytes}
use Rattle.page_store.specs.Pairs.{Pair}
use Rattle.index_pages.specs.Keys.{key_end}
use Rattle.index_pages.specs.Page.{page_pairs, level_of}
use Rattle.index_pages.specs.Pieces.{joined}
use Rattle.index_pages.specs.Ways.{Keeps}
use Rattle.index_pages.proofs.Halves.{given_append}
use Rattle.btree_laws.specs.Frames.{tree_kept}
use Rattle.btree_laws.specs.Sound.{AreSound, IsSoundTree, IsTree}
use Rattle.btree_laws.specs.declared.root.Root.{Root}
use Rattle.btree_laws.specs.Tree.{IsPageOfTree, next_low, pairs_of_tree, pairs_under, pieces_with}
use Rattle.btree_laws.specs.TreeFacts.{tree_level}

-- a tree whose pages are as they were, with the slots that they were
pub sound_tree_rests : (root : Root) (old new : List ℕ) → IsSoundTree root old → Keeps old new → ((x : ℕ) → IsPageOfTree old root.page x → page_bytes new x ≡ page_bytes old x)
    → IsSoundTree root new × (pairs_of_tree new root.page ≡ pairs_of_tree old root.page) × (level_of new root.page ≡ level_of old root.page)
unfolding pairs_of_tree
sound_tree_rests root old new sound keeps same =
    let r = tree_kept root old new keeps (level_of old root.page) root.page 0 key_end sound.2 same in
    let e : level_of new root.page ≡ level_of old root.page = tree_level root (level_of old root.page) new root.page 0 key_end r.0 in (
      ((sound.0.0, omega (arith, sound.0.1, keeps.pages)), omega (arith, sound.1, e), subst (λ (n : ℕ). IsTree root n new root.page 0 key_end) (sym e) r.0),
      ap (λ (n : ℕ). pairs_under n new root.page) e ∙ r.1,
      e,
    )

children_given : (f : ℕ → List Pair) (Is : ℕ → ℕ → ℕ → Type 0) (bytes : List ℕ) (table : ℕ) → ((page low high : ℕ) → Is page low high → AreGiven bytes table (f page))
    → (es : List Pair) (high : ℕ) → AreSound Is es high → AreGiven bytes table (joined (pieces_with f es))
children_given f Is bytes table fact [] high sound = tt
children_given f Is bytes table fact (e ∷ es) high sound =
    given_append bytes table (f e.1) (joined (pieces_with f es)) (fact e.1 e.0 (next_low es high) sound.0) (children_given f Is bytes table fact es high sound.1)

tree_given : (root : Root) (l : ℕ) (bytes : List ℕ) (page low high : ℕ) → IsTree root l bytes page low high → AreGiven bytes root.table (pairs_under l bytes page)
tree_given root zero bytes page low high t = t.1
tree_given root (suc l) bytes page low high t = children_given (pairs_under l bytes) (IsTree root l bytes) bytes root.table (tree_given root l bytes) (page_pairs bytes page) high t.1

pub sound_tree_given : (root : Root) (bytes : List ℕ) → IsSoundTree root bytes → AreGiven bytes root.table (pairs_of_tree bytes root.page)
unfolding pairs_of_tree
sound_tree_given root bytes sound = tree_given root (level_of bytes root.page) bytes root.page 0 key_end sound.2
