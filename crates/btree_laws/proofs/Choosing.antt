-- Which action a removal takes.
use Rattle.std.proofs.Common.{◌≡◌, ℕ, ◌-◌, ◌<◌, ◌≤◌, ◌⊎◌, inl, inr, List, [], ◌∷◌, length, Some, refl, sym, ◌∙◌, ap, arith}
use Rattle.std.proofs.lemmas.Bool.{cases_lt}
use Rattle.std.proofs.lemmas.Bool.Decides.{eqb_tells}
use Rattle.btree_laws.proofs.Places.{above_one, join_place}
use Rattle.btree_laws.proofs.Ways.{sound_tree_finds}
use Rattle.btree_laws.specs.Descent.{leaf_for, page_for}
use Rattle.btree_laws.specs.Removals.{IsAlone, MayLose, Neighbours, right_of}
use Rattle.btree_laws.specs.Sound.{IsSoundTree}
use Rattle.btree_laws.specs.declared.root.Root.{Root}
use Rattle.btree_laws.specs.Tree.{pairs_of_tree}
use Rattle.index_pages.proofs.PageFacts.{length-page_pairs}
use Rattle.index_pages.specs.Keys.{key_end}
use Rattle.index_pages.specs.Page.{page_pairs, level_of, count_of}
use Rattle.index_pages.specs.Ways.{above}
use Rattle.page_store.specs.Pairs.{Pair, found}

found_some : (key slot : ℕ) (ps : List Pair) → found ps key ≡ Some slot → 1 ≤ length ps
found_some key slot [] is = absurd (cc)
found_some key slot (p ∷ ps) is = omega arith

pub one_has_none : (key : ℕ) (es : List Pair) → length es ≡ 1 → right_of es key ≡ 0
one_has_none key [] one = refl
one_has_none key (e ∷ []) one = refl
one_has_none key (e ∷ f ∷ es) one = absurd (omega arith)

pub loses_or_alone : (root : Root) (bytes : List ℕ) (key slot : ℕ) → IsSoundTree root bytes → key < key_end → found (pairs_of_tree bytes root.page) key ≡ Some slot → MayLose root bytes key ⊎ ((d : ℕ) × IsAlone root bytes d key)
loses_or_alone root bytes key slot sound lt is =
    let some = found_some key slot (page_pairs bytes (leaf_for bytes root.page key)) (sym (sound_tree_finds root bytes key sound lt) ∙ is) in
    let len = length-page_pairs bytes (leaf_for bytes root.page key) in
    elim (eqb_tells (level_of bytes root.page) 0) [
      | inl none ↦ inl (inl (ap (λ (n : ℕ). page_for n bytes root.page key) none.1))
      | inr inner ↦ elim (cases_lt (count_of bytes (leaf_for bytes root.page key)) 2) [
        | inl few ↦
            let level : level_of bytes root.page ≡ above (level_of bytes root.page - 1) 1 = omega (arith, above_one (level_of bytes root.page - 1), inner.1) in
            inr (level_of bytes root.page - 1, record { level = level; alone = omega (arith, few, some, len) })
        | inr more ↦ inl (inr more)
      ]
    ]

pub neighbours : (root : Root) (bytes : List ℕ) (d key : ℕ) → IsSoundTree root bytes → key < key_end → level_of bytes root.page ≡ above d 1 → Neighbours bytes (page_for d bytes root.page key) key
neighbours root bytes d key sound lt level =
    let place = join_place root bytes d key sound lt level in
    let len = length-page_pairs bytes (page_for d bytes root.page key) in
    elim (cases_lt (count_of bytes (page_for d bytes root.page key)) 2) [
      | inl few ↦
          let one : count_of bytes (page_for d bytes root.page key) ≡ 1 = omega (arith, few, place.some) in
          inr (inr (one_has_none key (page_pairs bytes (page_for d bytes root.page key)) (len ∙ one), one))
      | inr more ↦ elim (eqb_tells (right_of (page_pairs bytes (page_for d bytes root.page key)) key) 0) [
        | inl last ↦ inr (inl (last.1, more))
        | inr right ↦ inl right.1
      ]
    ]
