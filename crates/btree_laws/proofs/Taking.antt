-- What an added pair does to a tree.
use Rattle.std.proofs.Common.{◌≡◌, ◌≢◌, ℕ, suc, ◌<◌, ◌≤◌, List, length, None, refl, sym, ◌∙◌, ap, subst, arith}
use Rattle.btree_laws.proofs.Ways.{found_on_way, graft}
use Rattle.btree_laws.specs.Changes.{TakesPair}
use Rattle.btree_laws.specs.Descent.{page_for}
use Rattle.btree_laws.specs.Sound.{IsSoundTree, IsTree}
use Rattle.btree_laws.specs.declared.root.Root.{Root}
use Rattle.btree_laws.specs.Tree.{IsPageOfTree, IsUnder, pairs_of_tree, pairs_under}
use Rattle.btree_laws.specs.TreeFacts.{tree_level}
use Rattle.index_pages.proofs.Kept.{given_kept}
use Rattle.index_pages.proofs.PageFacts.{length-page_pairs}
use Rattle.index_pages.proofs.Rising.{inserted-rises, length-inserted}
use Rattle.index_pages.specs.Keys.{key_end}
use Rattle.index_pages.specs.Page.{page_pairs, level_of, count_of}
use Rattle.index_pages.specs.Ways.{above, Keeps}
use Rattle.page_store.specs.Pairs.{Pair, Rise, found, inserted}
use Rattle.record_slots.specs.Places.{page_bytes, AreGiven}
use Rattle.index_pages.proofs.Given.{inserted_local, given_inserted, above_zero}

leaf_takes : (root : Root) (old new : List ℕ) → Keeps old new → (leaf key to low high : ℕ) → TakesPair root old new leaf key to → IsTree root 0 old leaf low high → low ≤ key → key < high
    → found (page_pairs old leaf) key ≡ None → IsTree root 0 new leaf low high
leaf_takes root old new keeps leaf key to low high takes t le lt none =
    let count : count_of new leaf ≡ suc (count_of old leaf) =
    sym (length-page_pairs new leaf) ∙ ap (λ (ps : List Pair). length ps) takes.pairs ∙ length-inserted key to (page_pairs old leaf) ∙ ap suc (length-page_pairs old leaf) in
    let given = given_kept old new keeps root.table (page_pairs old leaf) (t.1) in (
      record {
        kind = takes.kind;
        level = takes.level;
        link = takes.link;
        most = omega (arith, takes.room);
        some = λ other. omega arith;
        rises = subst (λ (ps : List Pair). Rise low high ps) (sym takes.pairs) (inserted-rises low high key to (page_pairs old leaf) t.0.rises le lt none);
      },
      (subst (λ (ps : List Pair). AreGiven new root.table ps) (sym takes.pairs) (given_inserted new root.table key to (page_pairs old leaf) takes.given takes.carries given)),
    )

-- a pair added to the leaf of its key is inserted in the whole tree
pub tree_takes : (root : Root) (old new : List ℕ) → Keeps old new → (l key to low high : ℕ) → IsTree root l old root.page low high → low ≤ key → key < high → found (pairs_under l old root.page) key ≡ None
    → TakesPair root old new (page_for l old root.page key) key to
    → ((x : ℕ) → IsUnder l old x root.page → x ≢ page_for l old root.page key → page_bytes new x ≡ page_bytes old x)
    → IsTree root l new root.page low high × (pairs_under l new root.page ≡ inserted (pairs_under l old root.page) key to)
tree_takes root old new keeps l key to low high t le lt none takes kept =
    let e = above_zero l in
    let t' : IsTree root (above l 0) old root.page low high = subst (λ (n : ℕ). IsTree root n old root.page low high) (sym e) t in
    let none' : found (page_pairs old (page_for l old root.page key)) key ≡ None =
    sym (found_on_way root l 0 old key root.page low high t' le lt) ∙ ap (λ (n : ℕ). found (pairs_under n old root.page) key) e ∙ none in
    let r = graft root old new keeps (λ ps. inserted ps key to) key (inserted_local key to) 0 (page_for l old root.page key) high
    (λ from to' leaf le' lt' small. (leaf_takes root old new keeps (page_for l old root.page key) key to from to' takes leaf le' lt' none', takes.pairs))
    l root.page low high t' le lt (omega arith) refl (λ x u other. kept x (subst (λ (n : ℕ). IsUnder n old x root.page) e u) other) in
    subst (λ (n : ℕ). IsTree root n new root.page low high × (pairs_under n new root.page ≡ inserted (pairs_under n old root.page) key to)) e r

pub sound_tree_takes : (root : Root) (old new : List ℕ) (key to : ℕ) → IsSoundTree root old → Keeps old new → key < key_end → found (pairs_of_tree old root.page) key ≡ None
    → TakesPair root old new (page_for (level_of old root.page) old root.page key) key to
    → ((x : ℕ) → IsPageOfTree old root.page x → x ≢ page_for (level_of old root.page) old root.page key → page_bytes new x ≡ page_bytes old x)
    → IsSoundTree root new × (pairs_of_tree new root.page ≡ inserted (pairs_of_tree old root.page) key to) × (level_of new root.page ≡ level_of old root.page)
unfolding pairs_of_tree
sound_tree_takes root old new key to sound keeps lt none takes kept =
    let r = tree_takes root old new keeps (level_of old root.page) key to 0 key_end sound.2 (omega arith) lt none takes
    (λ x u other. kept x u other) in
    let e : level_of new root.page ≡ level_of old root.page = tree_level root (level_of old root.page) new root.page 0 key_end r.0 in (
      ((sound.0.0, omega (arith, sound.0.1, keeps.pages)), omega (arith, sound.1, e), subst (λ (n : ℕ). IsTree root n new root.page 0 key_end) (sym e) r.0),
      ap (λ (n : ℕ). pairs_under n new root.page) e ∙ r.1,
      e,
    )
