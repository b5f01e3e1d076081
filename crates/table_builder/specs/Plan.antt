-- The pages of data that is made of the rows of tables: which they are is a function of names and rows alone.
use Rattle.std.specs.Prelude.{ℕ, zero, suc, ◌≡◌, ◌≢◌, ◌+◌, ◌-◌, ◌*◌, ◌/◌, ◌^◌, ◌<◌, ◌≤◌, nat_le, nat_lt, if◌then◌else◌, List, [], ◌∷◌, ◌++◌, length, map, take, drop, replicate, Some, slice_get}
use Rattle.std.specs.Option.{unwrap_or}
use Rattle.record_slots.specs.Text.{IsName}
use Rattle.record_slots.specs.Slots.{slot_bytes}
use Rattle.record_slots.specs.Super.{entry_bytes, main_super, super_bytes}
use Rattle.record_slots.specs.Places.{page_bytes}
use Rattle.record_slots.specs.declared.slot.Slot.{Slot}
use Rattle.record_slots.specs.declared.slot.Slot.TheVariants.{Present}
use Rattle.record_slots.specs.declared.super_page.Super.{Super}
use Rattle.record_slots.specs.declared.super_page.TableEntry.{TableEntry}
use Rattle.history.specs.Key.{main_name}
use Rattle.history.specs.Rows.{NamedRows}
use Rattle.history.specs.Writes.{Row}
use Rattle.page_store.specs.Pairs.{Pair}
use Rattle.index_pages.specs.Written.{written_page}
use Rattle.table_builder.specs.Built.{Level, named}
use Rattle.table_builder.specs.Image.{AreRows, Built, pairs_for}

-- How many of so many pairs the next page of a level gets: `fill`. But what one page can take stays in one, and what would leave fewer than
-- 15 for the last page is shared by the last two.
unfoldable pub page_size : ℕ → ℕ → ℕ
page_size fill left =
    if nat_le left fill then left
    else if nat_lt left 30 then left
    else if nat_lt left (fill + 15) then left / 2
    else fill

-- n pages at most, which get so many pairs
abbrev pub cut : ℕ → ℕ → List Pair → Level
cut fill zero pairs = []
cut fill (suc n) [] = []
cut fill (suc n) (p ∷ ps) = take (page_size fill (length (p ∷ ps))) (p ∷ ps) ∷ cut fill n (drop (page_size fill (length (p ∷ ps))) (p ∷ ps))

-- all pairs in pages
unfoldable pub pages_of : ℕ → List Pair → Level
pages_of fill pairs = cut fill (length pairs) pairs

-- the levels below the root, n at most, whose pages lie side by side from one on: as long as the pairs are too many for the root
abbrev pub levels_of : ℕ → ℕ → ℕ → List Pair → List Level
levels_of fill zero first pairs = []
levels_of fill (suc n) first pairs =
    if nat_le (length pairs) 30 then []
    else pages_of fill pairs ∷ levels_of fill n (first + length (pages_of fill pairs)) (named 0 first (pages_of fill pairs))

-- the pairs of the root
abbrev pub top_of : ℕ → List Pair → List Level → List Pair
top_of first pairs [] = pairs
top_of first pairs (pages ∷ levels) = top_of (first + length pages) (named 0 first pages) levels

-- the bytes of the pages of levels, from this level on
abbrev pub level_bytes : ℕ → List Level → List (List ℕ)
level_bytes level [] = []
level_bytes level (pages ∷ levels) = map (written_page level 0) pages ++ level_bytes (suc level) levels

-- the levels of rows that lie in the slots from one on, and their pages from one on
unfoldable pub levels_for : ℕ → ℕ → ℕ → List Row → List Level
levels_for fill slot first rows = levels_of fill 7 first (pairs_for slot rows)

-- the tables, whose roots lie side by side from one page on, as do their slots, and their pages below the roots
abbrev pub built_from : ℕ → ℕ → ℕ → ℕ → List NamedRows → List Built
built_from fill root slot first [] = []
built_from fill root slot first (table ∷ tables) =
    record { entry = record { name = table.0; root = root }; rows = table.1; first = first; levels = levels_for fill slot first table.1 }
    ∷ built_from fill (suc root) (slot + length table.1) (first + length (level_bytes 0 (levels_for fill slot first table.1))) tables

-- those of an array: behind the super page are the roots, and behind these all other pages
unfoldable pub built_for : ℕ → List NamedRows → List Built
built_for fill tables = built_from fill 1 0 (suc (length tables)) tables

-- the root of a table whose rows lie in the slots from one on, those of all tables, and all pages below them
abbrev pub root_bytes : ℕ → Built → List ℕ
root_bytes slot table = written_page (length table.levels) 0 (top_of table.first (pairs_for slot table.rows) table.levels)

abbrev pub roots_bytes : ℕ → List Built → List (List ℕ)
roots_bytes slot [] = []
roots_bytes slot (table ∷ tables) = root_bytes slot table ∷ roots_bytes (slot + length table.rows) tables

abbrev pub below_bytes : List Built → List (List ℕ)
below_bytes [] = []
below_bytes (table ∷ tables) = level_bytes 0 table.levels ++ below_bytes tables

-- the entries of tables whose roots lie side by side from one page on, and their bytes
abbrev pub entries_from : ℕ → List NamedRows → List TableEntry
entries_from root [] = []
entries_from root (table ∷ tables) = record { name = table.0; root = root } ∷ entries_from (suc root) tables

abbrev pub entries_bytes : List TableEntry → List ℕ
entries_bytes [] = []
entries_bytes (entry ∷ entries) = entry_bytes entry ++ entries_bytes entries

-- the same as they stand in the super page, with zeros behind them
unfoldable pub entries_for : List NamedRows → List ℕ
entries_for tables = entries_bytes (entries_from 1 tables) ++ replicate (256 - length (entries_bytes (entries_from 1 tables))) 0

-- how many rows the tables have
abbrev pub rows_count : List NamedRows → ℕ
rows_count [] = 0
rows_count (table ∷ tables) = length table.1 + rows_count tables

-- a super page with these tables, whose rows and so many pages are given
abbrev pub front_for : List NamedRows → ℕ → Super
front_for tables pages = record (main_super 1 (rows_count tables) pages) { entries = entries_for tables }

-- the pages of the index: the super page, the roots, and those below them
abbrev pub index_with : List NamedRows → List Built → List (List ℕ)
index_with tables built =
    super_bytes (front_for tables (suc (length tables) + length (below_bytes built))) ∷ (roots_bytes 0 built ++ below_bytes built)

unfoldable pub index_for : ℕ → List NamedRows → List (List ℕ)
index_for fill tables = index_with tables (built_for fill tables)

-- the slots of rows, each with the number of its table, from this number on, and their bytes
abbrev pub slots_from : ℕ → List NamedRows → List Slot
slots_from number [] = []
slots_from number (table ∷ tables) = map (λ (row : Row). Present number row.0 row.1) table.1 ++ slots_from (suc number) tables

abbrev pub slots_bytes : List Slot → List ℕ
slots_bytes [] = []
slots_bytes (slot ∷ slots) = slot_bytes slot ++ slots_bytes slots

-- a page of slots, eight in each, with zeros behind them
abbrev pub padded : List ℕ → List ℕ
padded bytes = bytes ++ replicate (512 - length bytes) 0

unfoldable pub slots_page : List NamedRows → ℕ → List ℕ
slots_page tables k = padded (slots_bytes (take 8 (drop (8 * k) (slots_from 0 tables))))

-- a page of the data, of whose pages half are for the index: those of the index, zeros behind them, and the slots
abbrev pub page_at : ℕ → List (List ℕ) → List NamedRows → ℕ → List ℕ
page_at half index tables page = if nat_lt page half then unwrap_or (slice_get index page) (replicate 512 0) else slots_page tables (page - half)

-- the first table is `main`
abbrev pub BeginsWithMain : List NamedRows → Type 0
BeginsWithMain [] = ⊥
BeginsWithMain (table ∷ tables) = table.0 ≡ main_name

-- no table before table j has its name
abbrev pub HasOwnName : List NamedRows → ℕ → Type 0
HasOwnName tables j = (i : ℕ) (one two : NamedRows) → i < j → slice_get tables i ≡ Some one → slice_get tables j ≡ Some two → one.0 ≢ two.0

-- each has a name, and its keys rise
abbrev pub AreSorted : List NamedRows → Type 0
AreSorted [] = Unit {0}
AreSorted (table ∷ tables) = IsName table.0 × AreRows 0 table.1 × AreSorted tables

-- there are as many pages for the index, and as many slots, as the tables need
pub record HasRoom (fill half : ℕ) (tables : List NamedRows) : Type 0 where
  pub pages : length (index_for fill tables) ≤ half
  pub slots : rows_count tables ≤ 8 * half

-- what an image is made of: how many pairs a page gets, how many pages there are for the index, and the tables with their rows
pub record Plan : Type 0 where
  pub fill : ℕ
  pub half : ℕ
  pub tables : List NamedRows

-- page i of its data
abbrev pub planned_page : Plan → ℕ → List ℕ
planned_page plan page = page_at plan.half (index_for plan.fill plan.tables) plan.tables page

-- it can be made: there are eight tables at most, of which the first is `main`, each has a name of its own, keys rise, and there is room
pub record CanMake (plan : Plan) : Type 0 where
  pub some : 15 ≤ plan.fill
  pub most : plan.fill ≤ 30
  pub small : plan.half < 2 ^ 22
  pub main : BeginsWithMain plan.tables
  pub few : length plan.tables ≤ 8
  pub apart : (j : ℕ) → HasOwnName plan.tables j
  pub sorted : AreSorted plan.tables
  pub room : HasRoom plan.fill plan.half plan.tables

-- the data has just the pages of the plan
pub record IsMade (plan : Plan) (bytes : List ℕ) : Type 0 where
  pub long : length bytes ≡ 512 * (plan.half + plan.half)
  pub pages : (page : ℕ) → page < plan.half + plan.half → page_bytes bytes page ≡ planned_page plan page

-- the tables of the plan as they are built
abbrev pub tables_built : Plan → List Built
tables_built plan = built_for plan.fill plan.tables
