-- An index without pairs.
use Rattle.std.proofs.Common.{◌≡◌, ℕ, List, [], refl, sym, ◌∙◌, ap, subst, arith}
use Rattle.btree_laws.specs.Sound.{IsSoundTree, IsTree}
use Rattle.btree_laws.specs.declared.root.Root.{Root}
use Rattle.btree_laws.specs.Tree.{pairs_of_tree, pairs_under}
use Rattle.index_pages.specs.Keys.{key_end}
use Rattle.index_pages.specs.Page.{kind_of, level_of, link_of, count_of}
use Rattle.page_store.specs.Pairs.{Pair, Rise}
use Rattle.record_slots.specs.Places.{AreGiven}
use Rattle.index_pages.proofs.PageFacts.{no_pairs}
use Rattle.index_pages.specs.Ways.{IsOwn}

pub fresh_tree : (root : Root) (bytes : List ℕ) → IsOwn bytes root.page → kind_of bytes root.page ≡ 1 → level_of bytes root.page ≡ 0 → link_of bytes root.page ≡ 0 → count_of bytes root.page ≡ 0
    → IsSoundTree root bytes × (pairs_of_tree bytes root.page ≡ [])
unfolding pairs_of_tree
fresh_tree root bytes own kind level link none =
    let none_there = no_pairs bytes root.page none in
    let leaf : IsTree root 0 bytes root.page 0 key_end = (
      record {
        kind = kind;
        level = level;
        link = link;
        most = omega arith;
        some = λ other. absurd (other refl);
        rises = subst (λ (ps : List Pair). Rise 0 key_end ps) (sym none_there) (omega arith);
      },
      subst (λ (ps : List Pair). AreGiven bytes root.table ps) (sym none_there) tt,
    ) in (
      (own, omega arith, subst (λ (n : ℕ). IsTree root n bytes root.page 0 key_end) (sym level) leaf),
      ap (λ (n : ℕ). pairs_under n bytes root.page) level ∙ none_there,
    )
