-- What the data of an array is in which each table has a sound tree: how long it is, what it has given out, and where a page lies.
use Rattle.std.proofs.Common.{◌≡◌, ℕ, ◌+◌, ◌*◌, ◌≤◌, List, length, arith}
use Rattle.array_shape.specs.Places as array
use Rattle.array_shape.specs.Places.{data_len}
use Rattle.array_shape.specs.declared.shape.Shape.{Shape}
use Rattle.record_slots.specs.Places.{page_count, first_slot_page, next_page, free_pages}
use Rattle.page_store.specs.Index.{IsTable}
use Rattle.index_pages.proofs.Tabled.{IsWhole, whole_counts}
use Rattle.btree_laws.specs.Sound.{IsSoundTree}
use Rattle.btree_laws.specs.declared.root.Root.{Root}
use Rattle.btree_pages.specs.Index.{tree_of, AreSoundTrees}
use Rattle.btree_pages.specs.Trees.{whole_of, table_sound}

pub record LaidOut (root : Root) (old : List ℕ) (half : ℕ) : Type 0 where
  pub size : length old ≡ 512 * (half + half)
  pub count : page_count old ≡ half + half
  pub first : first_slot_page old ≡ half
  pub whole : IsWhole 1 tree_of old
  pub root_sound : IsSoundTree root old
  pub given_most : next_page old ≤ half
  pub free_few : free_pages old + 2 ≤ next_page old

pub laid_out : (shape : Shape) (old : List ℕ) (half : ℕ) → length old ≡ data_len shape → half + half ≡ array.page_count shape → (root : Root) → AreSoundTrees old → IsTable old root.table root.page → LaidOut root old half
laid_out shape old half long all root sound table =
    let size : length old ≡ 512 * (half + half) = omega (arith, long, all) in
    let count : page_count old ≡ half + half = omega (arith, size) in
    let first : first_slot_page old ≡ half = omega (arith, count) in
    let whole = whole_of old sound in
    record {
      size = size;
      count = count;
      first = first;
      whole = whole;
      root_sound = table_sound old root sound table;
      given_most = omega (arith, whole.front.pages, first);
      free_few = (whole_counts 1 tree_of old whole).free_pages_few;
    }
