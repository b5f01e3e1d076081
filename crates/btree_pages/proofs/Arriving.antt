-- What a removal knows when it has come to the key's leaf.
use Rattle.std.proofs.Common.{◌≡◌, ℕ, ◌+◌, ◌^◌, ◌<◌, ◌≤◌, Bool, false, List, length, Option, Some, None, refl, sym, ◌∙◌, ap, subst, arith}
use Rattle.std.specs.Prelude.{IsTrue, IsSome}
use Rattle.std.proofs.lemmas.Bool.{false≢true}
use Rattle.array_shape.specs.declared.shape.Shape.{Shape}
use Rattle.record_slots.specs.Places.{page_bytes, version_of}
use Rattle.record_slots.specs.Super.{SaysSuper}
use Rattle.record_slots.specs.declared.super_page.Super.{Super}
use Rattle.page_store.specs.Index.{IsTable, index_pages_of}
use Rattle.page_store.specs.Looks.{Looks}
use Rattle.page_store.specs.Pairs.{Pair, found}
use Rattle.page_store.specs.Shown.{PagesView}
use Rattle.index_pages.specs.Giving.{MayGive}
use Rattle.index_pages.specs.Page.{page_pairs, count_of}
use Rattle.index_pages.proofs.Looking.{looks_next}
use Rattle.btree_laws.proofs.Ways.{sound_tree_finds}
use Rattle.btree_laws.specs.Descent.{child_for}
use Rattle.btree_laws.specs.Tree.{pairs_of_tree}
use Rattle.btree_laws.specs.declared.root.Root.{Root}
use Rattle.btree_pages.specs.Index.{tree_removal, AreSoundTrees}
use Rattle.btree_pages.specs.OnWay.{IsReached}
use Rattle.btree_pages.specs.May.{IsLone}
use Rattle.btree_pages.specs.Trees.{table_sound}
use Rattle.btree_pages.specs.Writes.{IsRead}
use Rattle.btree_pages.proofs.Coming.{reached_down}
use Rattle.btree_pages.proofs.Ending.{found_there}
use Rattle.btree_pages.proofs.Giveable.{slot_may}
use Rattle.btree_pages.proofs.Keeping.{alone_count, kept_last}
use Rattle.btree_pages.proofs.Looked.{bytes_same, still_told}
use Rattle.btree_pages.proofs.Removed.{leaf_reached}

some_is : (o : Option ℕ) → IsSome o → (s : ℕ) × (o ≡ Some s)
some_is None some = absurd (false≢true some)
some_is (Some s) some = (s, refl)

-- the pair is in its leaf, so its slot can be given back
pub gives_back : (root : Root) (bytes : List ℕ) (key : ℕ) → key < 2 ^ 64 → AreSoundTrees bytes → IsTable bytes root.table root.page → (leaf level : ℕ) (pairs : List Pair) → level ≡ 0 → IsReached root bytes key leaf level pairs
    → IsSome (found (pairs_of_tree bytes root.page) key) → version_of bytes ≡ 2 → (front : Super) → SaysSuper (page_bytes bytes 0) front
    → ((slot : ℕ) → found pairs key ≡ Some slot → ¬ MayGive front.version slot front.next_slot front.free_slots) → ⊥
gives_back root bytes key fits sound named leaf level pairs bottom reached there two front says none =
    let s = some_is (found (pairs_of_tree bytes root.page) key) there in
    let in_leaf : found pairs key ≡ Some s.0 = ap (λ (ps : List Pair). found ps key) reached.1.pairs_are ∙ ap (λ (x : ℕ). found (page_pairs bytes x) key) (leaf_reached root bytes key leaf level pairs bottom reached)
    ∙ sym (sound_tree_finds root bytes key (table_sound bytes root sound named) (omega (arith, fits))) ∙ s.1 in
    none s.0 in_leaf (slot_may root bytes key fits sound named s.0 front s.1 two says)

module _ (tells : Bool) (E : Shape → List ℕ → List ℕ → Type 0) (root : Root) (key : ℕ) (fits : key < 2 ^ 64) (v0 v1 v2 : PagesView) (looks : Looks tells (E v0.store.shape) false v0 v1) (looks' : Looks tells (E v1.store.shape) false v1 v2)
    (sound : IsTrue tells → AreSoundTrees v0.store.state.bytes) (named : IsTrue tells → IsTable v0.store.state.bytes root.table root.page) (parent above : ℕ) (entries : List Pair) (one : above ≡ 1)
    (reached : IsTrue tells → IsReached root v0.store.state.bytes key parent above entries) (leaf level : ℕ) (pairs : List Pair) (child_is : leaf ≡ child_for entries key) (deeper : level + 1 ≡ above)
    (pairs_are : IsTrue tells → pairs ≡ page_pairs v1.store.state.bytes leaf) where
  pub both_looks : Looks tells (E v0.store.shape) false v0 v2
  both_looks = looks_next tells E false v0 v1 v2 looks looks'

  pub bottom : level ≡ 0
  bottom = omega (arith, deeper, one)

  pub leaf_way : IsTrue tells → IsReached root v0.store.state.bytes key leaf level pairs
  leaf_way told = reached_down root v0.store.state.bytes key parent above entries leaf level pairs (reached told) child_is deeper
      (pairs_are told ∙ ap (λ (b : List ℕ). page_pairs b leaf) (bytes_same tells (E v0.store.shape) v0 v1 looks told))

  pub leaf_now : IsTrue tells → IsReached root v2.store.state.bytes key leaf level pairs
  leaf_now = still_told tells (E v0.store.shape) v0 v2 both_looks (λ (b : List ℕ). IsReached root b key leaf level pairs) leaf_way

  found_now : (slot : ℕ) → found pairs key ≡ Some slot → IsTrue tells → found (pairs_of_tree v2.store.state.bytes root.page) key ≡ Some slot
  found_now slot is = still_told tells (E v0.store.shape) v0 v2 both_looks (λ (b : List ℕ). found (pairs_of_tree b root.page) key ≡ Some slot)
      (λ told. found_there root v0.store.state.bytes key slot leaf level pairs (table_sound v0.store.state.bytes root (sound told) (named told)) fits bottom (leaf_way told) is)

  alone_now : (slot : ℕ) → found pairs key ≡ Some slot → length pairs ≤ 1 → IsTrue tells → count_of v2.store.state.bytes leaf ≡ 1
  alone_now slot is few told = alone_count root v2.store.state.bytes key leaf level slot pairs (leaf_now told) is few

  pub lone_now : (slot : ℕ) → found pairs key ≡ Some slot → length pairs ≤ 1 → IsRead v0.store.shape parent above entries → leaf < index_pages_of v1.store.shape → IsLone tells v2.store root key slot leaf parent above entries
  lone_now slot is few read inside = record {
    finds = found_now slot is;
    inside = subst (λ (sh : Shape). leaf < index_pages_of sh) (sym looks'.shape) inside;
    leaf_is = child_is;
    alone = alone_now slot is few;
    parent = subst (λ (sh : Shape). IsRead sh parent above entries) (sym both_looks.shape) read;
    level_is = one;
    reached = still_told tells (E v0.store.shape) v0 v2 both_looks (λ (b : List ℕ). IsReached root b key parent above entries) reached;
  }

  pub stays_here : length pairs ≤ 1 → length entries ≤ 1 → IsTrue tells → tree_removal v0.store.state.bytes root.page key ≡ None
  stays_here few only told = kept_last root v0.store.state.bytes key leaf level parent above pairs entries bottom one (leaf_way told) (reached told) few only

  pub leaf_gives : (IsTrue tells → IsSome (found (pairs_of_tree v0.store.state.bytes root.page) key)) → (IsTrue tells → version_of v0.store.state.bytes ≡ 2) → (front : Super) → (IsTrue tells → SaysSuper (page_bytes v0.store.state.bytes 0) front)
      → ((slot : ℕ) → found pairs key ≡ Some slot → ¬ MayGive front.version slot front.next_slot front.free_slots) → IsTrue tells → ⊥
  leaf_gives there two front says none told = gives_back root v0.store.state.bytes key fits (sound told) (named told) leaf level pairs bottom (leaf_way told) (there told) (two told) front (says told) none
