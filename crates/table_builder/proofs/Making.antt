-- Data that is made of tables by the plan is an image of them.
use Rattle.std.proofs.Common.{◌≡◌, ℕ, zero, suc, ◌+◌, ◌-◌, ◌^◌, ◌<◌, ◌≤◌, true, false, List, [], ◌∷◌, length, map, nat_lt, refl, sym, ◌∙◌, ap, subst, arith}
use Rattle.std.specs.Prelude.{Some, slice_get}
use Rattle.std.proofs.lemmas.Bool.{lt-leb, le-leb}
use Rattle.std.proofs.lemmas.List.{length-append}
use Rattle.record_slots.specs.Names.{names_in}
use Rattle.record_slots.specs.Super.{AreTables, SaysSuper, are_named, super_bytes, tables_in, tables_said, tables_used}
use Rattle.record_slots.specs.Places.{page_bytes, next_page, next_slot, tables_of, IsSuper}
use Rattle.record_slots.specs.declared.super_page.TableEntry.{TableEntry}
use Rattle.history.specs.Rows as history
use Rattle.history.specs.Rows.{NamedRows}
use Rattle.history.specs.Writes.{Row}
use Rattle.index_pages.specs.Written.{written_page}
use Rattle.btree_pages.specs.Index.{tree}
use Rattle.record_table.specs.Names.{names_of}
use Rattle.record_table.specs.Shown.{table_of}
use Rattle.table_builder.specs.Image.{AreRows, AreInSlots, AreTablesBuilt, Built, IsImage, IsTableBuilt, named_rows, pairs_for}
use Rattle.table_builder.specs.Plan.{AreSorted, BeginsWithMain, CanMake, HasRoom, IsMade, Plan, below_bytes, built_for, built_from, entries_from, front_for, index_for, index_with, level_bytes, levels_for, levels_of, page_at, roots_bytes, rows_count, slots_from, slots_page, tables_built, top_of}
use Rattle.table_builder.proofs.Entering.{named_entries_are, says_front, tables_are, used_entries_are}
use Rattle.table_builder.proofs.Imaging.{image_sound}
use Rattle.table_builder.proofs.Placing.{AreSlotsAt, all_slots, all_there, in_slots, length-slots_for, slots_before, slots_behind, slots_for}
use Rattle.table_builder.proofs.Planning.{IsAt, built_levels, get_left, get_right, stand_all}

pub length-pairs_for : (slot : ℕ) (rows : List Row) → length (pairs_for slot rows) ≡ length rows
length-pairs_for slot [] = refl
length-pairs_for slot (row ∷ rows) = ap suc (length-pairs_for (suc slot) rows)

pub length-roots_bytes : (fill root slot next first : ℕ) (tables : List NamedRows) → length (roots_bytes slot (built_from fill root next first tables)) ≡ length tables
length-roots_bytes fill root slot next first [] = refl
length-roots_bytes fill root slot next first (table ∷ tables) =
    ap suc (length-roots_bytes fill (suc root) (slot + length table.1) (next + length table.1) (first + length (level_bytes 0 (levels_for fill next first table.1))) tables)

built_entries : (fill root slot first : ℕ) (tables : List NamedRows) → map (λ (table : Built). table.entry) (built_from fill root slot first tables) ≡ entries_from root tables
built_entries fill root slot first [] = refl
built_entries fill root slot first (table ∷ tables) =
    ap (λ (l : List TableEntry). record { name = table.0; root = root } ∷ l)
    (built_entries fill (suc root) (slot + length table.1) (first + length (level_bytes 0 (levels_for fill slot first table.1))) tables)

built_rows : (fill root slot first : ℕ) (tables : List NamedRows) → map named_rows (built_from fill root slot first tables) ≡ tables
built_rows fill root slot first [] = refl
built_rows fill root slot first (table ∷ tables) =
    ap (λ (l : List NamedRows). table ∷ l) (built_rows fill (suc root) (slot + length table.1) (first + length (level_bytes 0 (levels_for fill slot first table.1))) tables)

names_from : (root : ℕ) (tables : List NamedRows) → names_in (entries_from root tables) ≡ map (λ (table : NamedRows). table.0) tables
names_from root [] = refl
names_from root (table ∷ tables) = ap (λ (l : List (List ℕ)). table.0 ∷ l) (names_from (suc root) tables)

-- ---- tables one behind the other

module _ (fill : ℕ) (some : 15 ≤ fill) (most : fill ≤ 30) (bytes : List ℕ) where
  -- one table
  one_built : (number slot first : ℕ) (table : NamedRows) → number < 8 → suc number < first → length table.1 ≤ 2 ^ 32 → AreRows 0 table.1 → AreInSlots bytes number slot table.1
      → page_bytes bytes (suc number) ≡ written_page (length (levels_of fill 7 first (pairs_for slot table.1))) 0 (top_of first (pairs_for slot table.1) (levels_of fill 7 first (pairs_for slot table.1)))
      → IsAt fill some most bytes first (level_bytes 0 (levels_of fill 7 first (pairs_for slot table.1)))
      → first + length (level_bytes 0 (levels_of fill 7 first (pairs_for slot table.1))) ≤ next_page bytes
      → IsTableBuilt bytes number slot (record { entry = record { name = table.0; root = suc number }; rows = table.1; first = first; levels = levels_of fill 7 first (pairs_for slot table.1) })
  one_built number slot first table few past short rows held top below given =
      record {
        few = few;
        rows = rows;
        slots = held;
        root = past;
        tree = built_levels fill some most bytes (suc number) 7 0 first (pairs_for slot table.1) (omega arith) (omega (arith, length-pairs_for slot table.1, short))
            (stand_all fill some most bytes 0 first (levels_of fill 7 first (pairs_for slot table.1)) below)
            (top ∙ ap (λ (l : ℕ). written_page l 0 (top_of first (pairs_for slot table.1) (levels_of fill 7 first (pairs_for slot table.1))))
            (let e : length (levels_of fill 7 first (pairs_for slot table.1)) ≡ 0 + length (levels_of fill 7 first (pairs_for slot table.1)) = omega arith in e))
            given;
      }

  all_built : (number slot first : ℕ) (tables : List NamedRows) → number + length tables ≤ 8 → suc number + length tables ≤ first → slot + rows_count tables ≡ next_slot bytes → rows_count tables ≤ 2 ^ 32
      → AreSorted tables → AreSlotsAt bytes slot (slots_from number tables)
      → IsAt fill some most bytes (suc number) (roots_bytes slot (built_from fill (suc number) slot first tables))
      → IsAt fill some most bytes first (below_bytes (built_from fill (suc number) slot first tables))
      → first + length (below_bytes (built_from fill (suc number) slot first tables)) ≤ next_page bytes
      → AreTablesBuilt bytes number slot (built_from fill (suc number) slot first tables)
  unfolding levels_for
  all_built number slot first [] few past count small sorted held roots below given = omega (arith, count)
  all_built number slot first (table ∷ tables) few past count small sorted held roots below given =
      let pages = level_bytes 0 (levels_of fill 7 first (pairs_for slot table.1)) in
      let next = below_bytes (built_from fill (suc (suc number)) (slot + length table.1) (first + length (level_bytes 0 (levels_of fill 7 first (pairs_for slot table.1)))) tables) in
      let long = length-append pages next in (
        one_built number slot first table (omega (arith, few)) (omega (arith, past)) (omega (arith, small)) sorted.1
            (in_slots bytes number slot table.1 (slots_before bytes slot (slots_for number table.1) (slots_from (suc number) tables) held))
            (ap (page_bytes bytes) (let e : suc number ≡ suc number + 0 = omega arith in e) ∙ roots 0 _ refl)
            (λ k x is. below k x (get_left pages next k x is))
            (omega (arith, long, given)),
        all_built (suc number) (slot + length table.1) (first + length (level_bytes 0 (levels_of fill 7 first (pairs_for slot table.1)))) tables (omega (arith, few)) (omega (arith, past)) (omega (arith, count)) (omega (arith, small)) sorted.2
            (slots_behind bytes slot (slot + length table.1) (slots_for number table.1) (slots_from (suc number) tables) (omega (arith, length-slots_for number table.1)) held)
            (λ k x is. ap (page_bytes bytes) (let e : suc (suc number) + k ≡ suc number + suc k = omega arith in e) ∙ roots (suc k) x is)
            (λ k x is. ap (page_bytes bytes) (let e : first + length pages + k ≡ first + (length pages + k) = omega arith in e) ∙ below (length pages + k) x (get_right pages next k ∙ is))
            (omega (arith, long, given)),
      )

-- ---- the pages of a plan

-- what a page below the half is, and one from there on
low_page : (half page : ℕ) (index : List (List ℕ)) (tables : List NamedRows) (x : List ℕ) → page < half → slice_get index page ≡ Some x → page_at half index tables page ≡ x
low_page half page index tables x lt is =
    let b : nat_lt page half ≡ true = le-leb (suc page) half lt in
    rw (b, is) refl

high_page : (half k : ℕ) (index : List (List ℕ)) (tables : List NamedRows) → page_at half index tables (half + k) ≡ slots_page tables k
high_page half k index tables =
    let b : nat_lt (half + k) half ≡ false = lt-leb (suc (half + k)) half (omega arith) in
    let e : half + k - half ≡ k = omega arith in
    rw (b, e) refl

module _ (plan : Plan) (bytes : List ℕ) (can : CanMake plan) (made : IsMade plan bytes) where
  abbrev fill : ℕ
  fill = plan.fill

  abbrev half : ℕ
  half = plan.half

  abbrev tables : List NamedRows
  tables = plan.tables

  room : HasRoom fill half tables
  room = can.room

  small : length bytes ≤ 2 ^ 32
  small = omega (arith, can.small, made.long)

  abbrev first : ℕ
  first = suc (length tables)

  abbrev built : List Built
  built = built_from fill 1 0 (suc (length tables)) tables

  abbrev count : ℕ
  count = suc (length tables) + length (below_bytes built)

  abbrev index : List (List ℕ)
  index = index_with tables built

  index_is : index_for fill tables ≡ index
  unfolding index_for built_for
  index_is = refl

  long-roots : length (roots_bytes 0 built) ≡ length tables
  long-roots = length-roots_bytes fill 1 0 0 (suc (length tables)) tables

  few : length index ≤ half
  few = subst (λ (l : List (List ℕ)). length l ≤ half) index_is room.pages

  long-index : length index ≡ count
  long-index = omega (arith, length-append (roots_bytes 0 built) (below_bytes built), long-roots)

  -- a page of the index
  has_page : (page : ℕ) (x : List ℕ) → slice_get index page ≡ Some x → page_bytes bytes page ≡ x
  has_page page x is =
      let inside = get_inside index page x is in
      made.pages page (omega (arith, inside, few)) ∙ low_page half page (index_for fill tables) tables x (omega (arith, inside, few)) (ap (λ (l : List (List ℕ)). slice_get l page) index_is ∙ is)
    where
      get_inside : (xs : List (List ℕ)) (k : ℕ) (x : List ℕ) → slice_get xs k ≡ Some x → k < length xs
      get_inside [] k x is = absurd (cc)
      get_inside (y ∷ xs) zero x is = omega arith
      get_inside (y ∷ xs) (suc k) x is = let h = get_inside xs k x is in omega (arith, h)

  slots_there : (k : ℕ) → k < half → page_bytes bytes (half + k) ≡ slots_page tables k
  slots_there k lt = made.pages (half + k) (omega (arith, lt)) ∙ high_page half k (index_for fill tables) tables

  -- the super page
  says : SaysSuper (page_bytes bytes 0) (front_for tables count)
  says = subst (λ (page : List ℕ). SaysSuper page (front_for tables count)) (sym (has_page 0 (super_bytes (front_for tables count)) refl))
      (says_front tables can.few can.sorted count (omega (arith, room.slots, made.long, small)) (omega (arith, few, long-index, made.long, small)))

  entries : tables_of bytes ≡ entries_from 1 tables
  unfolding tables_said
  entries = (λ i. tables_in (sym says.version i) (sym says.entries i)) ∙ used_entries_are tables can.few can.sorted

  front : IsSuper 1 bytes
  front = record {
    has_mark = says.has_mark;
    form_is = sym says.form;
    slots = omega (arith, says.next_slot, room.slots, made.long);
    some_pages = omega (arith, says.next_page, many tables can.main);
    pages = omega (arith, says.next_page, few, long-index, made.long);
    tables = λ two. (
      ap are_named (sym says.entries) ∙ named_entries_are tables can.few can.sorted,
      subst (AreTables (next_page bytes)) (sym (ap tables_used (sym says.entries) ∙ used_entries_are tables can.few can.sorted)) (tables_are tables (next_page bytes) can.main can.apart (omega (arith, says.next_page))),
    );
  }
    where
      many : (ts : List NamedRows) → BeginsWithMain ts → 1 ≤ length ts
      many [] main = absurd main
      many (t ∷ ts) main = omega arith

  all : AreTablesBuilt bytes 0 0 built
  all = all_built fill can.some can.most bytes 0 0 (suc (length tables)) tables (omega (arith, can.few)) (omega arith) (omega (arith, says.next_slot)) (omega (arith, room.slots, made.long, small)) can.sorted
      (all_there bytes half tables made.long (all_slots 0 tables (omega (arith, can.few)) can.sorted) room.slots slots_there)
      (λ k x is. ap (page_bytes bytes) (let e : 1 + k ≡ suc k = omega arith in e) ∙ has_page (suc k) x (get_left (roots_bytes 0 built) (below_bytes built) k x is))
      (λ k x is.
      ap (page_bytes bytes) (let e : suc (length tables) + k ≡ suc (length (roots_bytes 0 built) + k) = omega (arith, long-roots) in e)
      ∙ has_page (suc (length (roots_bytes 0 built) + k)) x (get_right (roots_bytes 0 built) (below_bytes built) k ∙ is))
      (omega (arith, says.next_page))

  pub image : IsImage bytes (tables_built plan)
  unfolding built_for
  image = record {
    front = front;
    free = record { slot = sym says.free_slot; page = sym says.free_page; slots = sym says.free_slots; pages = sym says.free_pages };
    entries = entries ∙ sym (built_entries fill 1 0 (suc (length tables)) tables);
    built = all;
  }

  pub sound : tree.sound bytes × (table_of tree bytes ≡ history.table_of plan.tables)
  unfolding built_for
  sound =
      let h = image_sound bytes (tables_built plan) image (omega (arith, front.pages, made.long, small)) (omega (arith, front.slots, made.long, small)) in
      (h.0, h.2 ∙ ap history.table_of (built_rows fill 1 0 (suc (length tables)) tables))

  pub names : names_of bytes ≡ map (λ (table : NamedRows). table.0) plan.tables
  names = ap names_in entries ∙ names_from 1 tables
