-- What the 512 bytes of the super page say, and the bytes that are written.
use Rattle.std.specs.Prelude.{ℕ, zero, suc, ◌≡◌, ◌≢◌, ◌-◌, ◌^◌, ◌<◌, ◌≤◌, Bool, true, false, IsTrue, nat_eq, nat_le, ◌&&◌, if◌then◌else◌, List, [], ◌∷◌, ◌++◌, length, take, drop, codes, replicate, slice_index, slice_get, Option, Some}
use Rattle.std.specs.List.{list_all}
use Rattle.std.specs.Option.{IsSomeAnd}
use Rattle.byteorder.specs.Endian.{little_from, little_bytes}
use Rattle.mars_base.specs.Bytes.{range}
use Rattle.record_slots.specs.Text.{is_letter}
use Rattle.record_slots.specs.declared.super_page.Super.{Super}
use Rattle.record_slots.specs.declared.super_page.TableEntry.{TableEntry}

-- the version in byte 4, the form of the index in byte 5
unfoldable pub version_said : List ℕ → ℕ
version_said bytes = slice_index bytes 4

unfoldable pub form_said : List ℕ → ℕ
form_said bytes = slice_index bytes 5

-- the mark in the first four bytes, and version 1 or 2
pub record HasSuperMark (bytes : List ℕ) : Type 0 where
  pub mark : take 4 bytes ≡ codes "MREC"
  pub some : 1 ≤ version_said bytes
  pub known : version_said bytes ≤ 2

-- the next slot to give out, in bytes 8 to 11, and the next page, in bytes 12 to 15: told by its place
unfoldable pub next_said : ℕ → List ℕ → ℕ
next_said place bytes = little_from place 4 bytes

-- the eight entries of tables, in bytes 16 to 271
unfoldable pub entries_said : List ℕ → List ℕ
entries_said bytes = range bytes 16 256

-- an entry of 32 bytes: the length of the name in byte 0, which is 0 if the entry is free, the name behind it, and the root in bytes 20 to 23
abbrev pub entry_said : List ℕ → TableEntry
entry_said entry = record { name = take (slice_index entry 0) (drop 1 entry); root = little_from 20 4 entry }

-- its name
abbrev pub name_said : List ℕ → List ℕ
name_said entry = (entry_said entry).name

-- the used ones of n entries, up to the first that is free
abbrev pub used_entries : ℕ → List ℕ → List TableEntry
used_entries zero entries = []
used_entries (suc n) entries = if nat_eq (slice_index entries 0) 0 then [] else entry_said entries ∷ used_entries n (drop 32 entries)

-- those of all eight
unfoldable pub tables_used : List ℕ → List TableEntry
tables_used entries = used_entries 8 entries

-- the table of version 1
abbrev pub main_table : TableEntry
main_table = record { name = codes "main"; root = 1 }

-- the tables: of version 1 just `main` with root 1, of version 2 those of the used entries
unfoldable pub tables_said : List ℕ → List TableEntry
tables_said bytes = if nat_eq (version_said bytes) 1 then main_table ∷ [] else tables_used (entries_said bytes)

-- the same of what a super page says
abbrev pub tables_in : ℕ → List ℕ → List TableEntry
tables_in version entries = if nat_eq version 1 then main_table ∷ [] else tables_used entries

-- 1 to 16 letters
abbrev pub is_name : List ℕ → Bool
is_name text = nat_le 1 (length text) && (nat_le (length text) 16 && list_all is_letter text)

-- of n entries each used one has a name, and behind a free one all are free, as all are if none may be used
abbrev pub are_entries : Bool → ℕ → List ℕ → Bool
are_entries may zero entries = true
are_entries may (suc n) entries =
    if nat_eq (slice_index entries 0) 0 then are_entries false n (drop 32 entries)
    else may && (is_name (entry_said entries).name && are_entries may n (drop 32 entries))

-- all eight are such
unfoldable pub are_named : List ℕ → Bool
are_named entries = are_entries true 8 entries

-- the table `main`, whose root is page 1
abbrev pub IsMain : Option TableEntry → Type 0
IsMain table = IsSomeAnd table (λ entry. (entry.name ≡ codes "main") × (entry.root ≡ 1))

-- no table before table j has its name or its root
abbrev pub IsApart : List TableEntry → ℕ → Type 0
IsApart tables j =
    (i : ℕ) (one two : TableEntry) → i < j → slice_get tables i ≡ Some one → slice_get tables j ≡ Some two → (one.name ≢ two.name) × (one.root ≢ two.root)

-- The first is `main` with root 1. Each other root is one of so many pages, and neither the super page nor page 1. No two have one name, and
-- no two have one root.
pub record AreTables (pages : ℕ) (tables : List TableEntry) : Type 0 where
  pub main : IsSomeAnd (slice_get tables 0) (λ table. (table.name ≡ codes "main") × (table.root ≡ 1))
  pub inside : (j : ℕ) (table : TableEntry) → 1 ≤ j → slice_get tables j ≡ Some table → (2 ≤ table.root) × (table.root < pages)
  pub other : (j i : ℕ) (one two : TableEntry) → i < j → slice_get tables i ≡ Some one → slice_get tables j ≡ Some two
      → (one.name ≢ two.name) × (one.root ≢ two.root)

-- The entries of version 2 are those of tables; version 1 has none.
abbrev pub HasTables : ℕ → ℕ → List ℕ → Type 0
HasTables version pages entries = version ≡ 2 → IsTrue (are_named entries) × AreTables pages (tables_used entries)

-- The first free slot and the first free page by their numbers plus 1, and how many there are of each, told by their places: bytes 272 to 287.
-- Version 1 has none.
unfoldable pub free_in : ℕ → List ℕ → ℕ
free_in place bytes = if nat_eq (version_said bytes) 1 then 0 else little_from place 4 bytes

-- the super page says this version, form, counts, entries and free ones; its other bytes say nothing
pub record SaysSuper (bytes : List ℕ) (front : Super) : Type 0 where
  pub has_mark : HasSuperMark bytes
  pub version : front.version ≡ version_said bytes
  pub form : front.form ≡ form_said bytes
  pub next_slot : front.next_slot ≡ next_said 8 bytes
  pub next_page : front.next_page ≡ next_said 12 bytes
  pub entries : front.entries ≡ entries_said bytes
  pub free_slot : front.free_slot ≡ free_in 272 bytes
  pub free_page : front.free_page ≡ free_in 276 bytes
  pub free_slots : front.free_slots ≡ free_in 280 bytes
  pub free_pages : front.free_pages ≡ free_in 284 bytes

-- bytes 8 to 287 of a super page: the counts, the entries, the free ones
unfoldable pub part_bytes : Super → List ℕ
part_bytes front =
    little_bytes 4 front.next_slot ++ (little_bytes 4 front.next_page ++ (front.entries ++ (little_bytes 4 front.free_slot
    ++ (little_bytes 4 front.free_page ++ (little_bytes 4 front.free_slots ++ little_bytes 4 front.free_pages)))))

-- the 512 bytes of a super page: the mark, the version, the form, that part, and zeros
abbrev pub super_bytes : Super → List ℕ
super_bytes front = codes "MREC" ++ front.version ∷ front.form ∷ 0 ∷ 0 ∷ (part_bytes front ++ replicate 224 0)

-- numbers of 32 bits, and entries of 256 bytes
pub record IsWhole (front : Super) : Type 0 where
  pub next_slot : front.next_slot < 2 ^ 32
  pub next_page : front.next_page < 2 ^ 32
  pub entries : length front.entries ≡ 256
  pub free_slot : front.free_slot < 2 ^ 32
  pub free_page : front.free_page < 2 ^ 32
  pub free_slots : front.free_slots < 2 ^ 32
  pub free_pages : front.free_pages < 2 ^ 32

-- a page with the mark, with the version and the form of a super page, and with these bytes as the part
pub record IsPartOf (piece bytes : List ℕ) (front : Super) : Type 0 where
  pub has_mark : HasSuperMark bytes
  pub version : front.version ≡ version_said bytes
  pub form : front.form ≡ form_said bytes
  pub part : range bytes 8 280 ≡ piece

-- an entry of a table, and a free one
abbrev pub entry_bytes : TableEntry → List ℕ
entry_bytes table = length table.name ∷ (table.name ++ (replicate (19 - length table.name) 0 ++ (little_bytes 4 table.root ++ replicate 8 0)))

-- the entries of the table `main` alone
abbrev pub main_entries : List ℕ
main_entries = entry_bytes main_table ++ replicate 224 0

-- version 2 with this form and these counts, the table `main` alone, and nothing free
abbrev pub main_super : (form slot page : ℕ) → Super
main_super form slot page = record {
  version = 2;
  form = form;
  next_slot = slot;
  next_page = page;
  entries = main_entries;
  free_slot = 0;
  free_page = 0;
  free_slots = 0;
  free_pages = 0;
}

-- its bytes: the mark, the version, the form, the next slot and the next page, the length of the name `main`, the name and its root 1, and zeros
abbrev pub main_bytes : (form slot page : ℕ) → List ℕ
main_bytes form slot page =
    codes "MREC" ++ 2 ∷ form ∷ 0 ∷ 0 ∷ (little_bytes 4 slot ++ (little_bytes 4 page ++ 4 ∷ (codes "main" ++ (replicate 15 0 ++ 1 ∷ replicate 475 0))))
