-- Trees without pairs.
use Rattle.std.proofs.Common.{◌≡◌, ℕ, zero, suc, List, [], ◌∷◌, Some, None, refl, sym, subst, arith}
use Rattle.record_slots.specs.Places.{page_bytes, next_slot, next_page, tables_of, free_slot, free_page, free_slots, free_pages, free_slot_of, free_page_of, IsSuper}
use Rattle.record_slots.specs.Super.{main_table}
use Rattle.record_slots.specs.declared.super_page.TableEntry.{TableEntry}
use Rattle.page_store.specs.Index.{IsTable}
use Rattle.index_pages.specs.Page.{kind_of, level_of, link_of, count_of}
use Rattle.index_pages.proofs.Stacks.{IsList}
use Rattle.index_pages.proofs.Tabled.{IsWhole, root_in, whole_passes}
use Rattle.btree_laws.proofs.Fresh.{fresh_tree}
use Rattle.btree_laws.specs.Sound.{sound_passes}
use Rattle.btree_laws.specs.Tree.{pairs_of_tree}
use Rattle.btree_laws.specs.declared.root.Root.{Root}
use Rattle.btree_pages.specs.Index.{tree_of, AreSoundTrees}

-- nothing is free
pub record HasNoneFree (bytes : List ℕ) : Type 0 where
  pub slot : free_slot bytes ≡ 0
  pub page : free_page bytes ≡ 0
  pub slots : free_slots bytes ≡ 0
  pub pages : free_pages bytes ≡ 0

root_main : (j root : ℕ) → root_in (main_table ∷ []) j ≡ Some root → (j ≡ 0) × (root ≡ 1)
root_main zero root is = (refl, (let e : 1 ≡ root = cc in sym e))
root_main (suc j) root is = absurd (cc)

module _ (bytes : List ℕ) (front : IsSuper 1 bytes) (alone : tables_of bytes ≡ main_table ∷ []) (free : HasNoneFree bytes) where
  only_main : (table root : ℕ) → IsTable bytes table root → (table ≡ 0) × (root ≡ 1)
  only_main table root is = root_main table root (subst (λ (ts : List TableEntry). root_in ts table ≡ Some root) alone is)

  whole : tree_of bytes 1 0 None → IsWhole 1 tree_of bytes
  whole main = record {
    front = front;
    slots = subst (λ (n : ℕ). IsList (free_slot_of bytes) 0 (next_slot bytes) n (free_slot bytes)) (sym free.slots) free.slot;
    pages = subst (λ (n : ℕ). IsList (free_page_of bytes) 2 (next_page bytes) n (free_page bytes)) (sym free.pages) free.page;
    tables = λ table root is.
        let r = only_main table root is in
        subst (λ (t : ℕ). tree_of bytes root t None) (sym r.0) (subst (λ (p : ℕ). tree_of bytes p 0 None) (sym r.1) main);
  }

  pub fresh_trees : kind_of bytes 1 ≡ 1 → level_of bytes 1 ≡ 0 → link_of bytes 1 ≡ 0 → count_of bytes 1 ≡ 0 → AreSoundTrees bytes × (pairs_of_tree bytes 1 ≡ [])
  fresh_trees kind level link none =
      let main : Root = record { page = 1; table = 0 } in
      let fresh = fresh_tree (record { page = 1; table = 0 }) bytes (omega arith, omega (arith, front.some_pages)) kind level link none in (
        whole_passes 1 tree_of bytes (whole (sound_passes (record { page = 1; table = 0 }) bytes fresh.0)),
        fresh.1,
      )
