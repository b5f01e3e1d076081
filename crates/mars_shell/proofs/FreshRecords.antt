-- A fresh array is a sound tree without records.
use Rattle.std.proofs.Common.{◌≡◌, ℕ, ◌*◌, ◌<◌, ◌≤◌, List, [], ◌∷◌, ◌++◌, map, refl, sym, ap, subst, ◌∙◌, arith}
use Rattle.std.specs.FinMap.{empty}
use Rattle.std.proofs.Math.Nat.{le-mul_of_pos_right}
use Rattle.array_shape.specs.declared.shape.Shape.{Shape}
use Rattle.array_shape.specs.Places.{page_count}
use Rattle.array_image.specs.Image.{data_of}
use Rattle.array_image.proofs.Data.{length-data_of}
use Rattle.eaw_device.specs.Made.{HasPages}
use Rattle.record_slots.specs.Fresh.{fresh_page}
use Rattle.record_slots.proofs.MainAlone.{says_main}
use Rattle.page_store.specs.Pairs.{Pair}
use Rattle.history.specs.Key.{main_name}
use Rattle.history.specs.declared.key.Key.{Key}
use Rattle.record_slots.specs.Names.{names_in}
use Rattle.record_table.specs.Names.{names_of}
use Rattle.record_slots.specs.Places.{page_bytes, next_page, tables_of, IsSuper}
use Rattle.record_slots.specs.Super.{SaysSuper, HasTables, main_super, main_table, tables_in, tables_said}
use Rattle.record_slots.specs.declared.super_page.TableEntry.{TableEntry}
use Rattle.record_table.specs.Shown.{in_table, pairs_from, pairs_of, table_of, table_in}
use Rattle.index_pages.specs.Page.{kind_said, level_said, count_said, link_said}
use Rattle.record_table.proofs.Upgraded.{main_used, has_main}
use Rattle.btree_pages.specs.Index.{tree}
use Rattle.btree_pages.proofs.Fresh.{HasNoneFree, fresh_trees}

-- what the first two pages say
front_fresh : SaysSuper (fresh_page 0) (main_super 1 0 2)
front_fresh = says_main 1 0 2 (omega arith) (omega arith)

root_fresh : (kind_said (fresh_page 1) ≡ 1) × (level_said (fresh_page 1) ≡ 0) × (link_said (fresh_page 1) ≡ 0) × (count_said (fresh_page 1) ≡ 0)
unfolding kind_said level_said link_said count_said
root_fresh = (refl, refl, refl, refl)

-- an array has at least four pages
some_pages : (shape : Shape) → 4 ≤ page_count shape
some_pages shape = let more : shape.pages ≤ shape.loggers * shape.pages = omega (arith, le-mul_of_pos_right shape.pages shape.in_range.some_loggers) in omega (arith, more, shape.in_range.some_pages)

module _ (shape : Shape) (bytes : List ℕ) (pages : HasPages shape fresh_page (page_count shape) bytes) where
  has_page : (p : ℕ) → p < 2 → page_bytes (data_of shape bytes) p ≡ fresh_page p
  unfolding page_bytes
  has_page p less = pages p (omega (arith, some_pages shape))

  first : SaysSuper (page_bytes (data_of shape bytes) 0) (main_super 1 0 2)
  first = subst (λ (page : List ℕ). SaysSuper page (main_super 1 0 2)) (sym (has_page 0 (omega arith))) front_fresh

  alone : tables_of (data_of shape bytes) ≡ main_table ∷ []
  unfolding tables_said
  alone = (λ i. tables_in (sym first.version i) (sym first.entries i)) ∙ main_used

  pub fresh_names : names_of (data_of shape bytes) ≡ main_name ∷ []
  fresh_names = ap names_in alone

  front : IsSuper 1 (data_of shape bytes)
  front = record {
    has_mark = first.has_mark;
    form_is = sym first.form;
    slots = omega (arith, first.next_slot);
    some_pages = omega (arith, first.next_page);
    pages = omega (arith, first.next_page, some_pages shape, length-data_of shape bytes);
    tables = subst (λ (x : ℕ × List ℕ). HasTables x.0 (next_page (data_of shape bytes)) x.1) (λ i. (first.version i, first.entries i)) (has_main (next_page (data_of shape bytes)));
  }

  free : HasNoneFree (data_of shape bytes)
  free = record { slot = sym first.free_slot; page = sym first.free_page; slots = sym first.free_slots; pages = sym first.free_pages }

  -- where the table `main` has no pairs, no table has any
  no_pairs : tree.pairs (data_of shape bytes) 1 ≡ [] → pairs_of tree (data_of shape bytes) ≡ []
  unfolding pairs_of
  no_pairs none =
      ap (λ (tables : List TableEntry). pairs_from tree (data_of shape bytes) tables) alone
      ∙ ap (λ (pairs : List Pair). map (in_table main_table.name) pairs ++ []) none

  pub fresh_none : tree.sound (data_of shape bytes) × (table_of tree (data_of shape bytes) ≡ empty)
  unfolding table_of
  fresh_none =
      let here = has_page 1 (omega arith) in
      let fresh = fresh_trees (data_of shape bytes) front alone free (ap kind_said here ∙ root_fresh.0) (ap level_said here ∙ root_fresh.1) (ap link_said here ∙ root_fresh.2) (ap count_said here ∙ root_fresh.3) in
      (fresh.0, ap (λ (pairs : List (Key × ℕ)). table_in (data_of shape bytes) pairs) (no_pairs fresh.1))
