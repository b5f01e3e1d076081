-- Tables in memory, and what they stand for.
use Rattle.std.proofs.Common.{◌≡◌, ℕ, ◌+◌, ◌-◌, ◌<◌, ◌≤◌, nat_lt, nat_le, length, take, drop, get_or, arith, Bool, true, false, cond, ◌&&◌, List, [], ◌∷◌, ◌++◌, map, Option, Some, refl, sym, ap, ◌∙◌}
use Rattle.std.specs.Prelude.{slice_index_or, if◌then◌else◌, filter}
use Rattle.std.specs.Ordering.{nat_cmp, is_eq, on, then_cmp}
use Rattle.std.specs.Cmp.Lexicographic.{slice_cmp}
use Rattle.std.specs.declared.cmp.Ordering.{Ordering}
use Rattle.std.specs.declared.cmp.Ordering.TheVariants.{Less}
use Rattle.std.specs.FinMap.{get, find, put, entries, insert, from_entries, get-from_entries, entries-insert, len-entries, len-empty}
use Rattle.std.specs.List.Sorted.{IsStrictlySortedBy}
use Rattle.std.specs.BTreeMap as tree
use Rattle.std.specs.BTreeMap.{BTreeMap, is_at}
use Rattle.std.specs.Map.{lookup, keys_of}
use Rattle.history.specs.Key.{key_cmp, of_table, is_same_key, is_of_table}
use Rattle.history.specs.declared.key.Key.{Key}
use Rattle.history.specs.Writes.{Table, Row, is_within, set_or_remove}
use Rattle.history.specs.Rows.{NamedRows, all_keyed, records_in, table_of}
use Rattle.history.specs.Table.{Work, has_save, after}
use Rattle.history_replay.specs.Replay.{table_in, with_rows, is_listed}
use Rattle.history.specs.declared.call.TableCall.TheVariants.{Back}
use Rattle.std.proofs.lemmas.Bool.{and_parts, ltb-true, leb-true}
use Rattle.std.proofs.lemmas.List.{length-map, take-map, get_or-map, drop_more}
use Rattle.history.proofs.Keys.{key_cmp_total, tied, same_turned}
use Rattle.history.proofs.Agreeing.{get-set, same_table}

-- the order that a map in memory has
abbrev pub memory_cmp : Key → Key → Ordering
memory_cmp = then_cmp (on (λ (k : Key). k.table) (slice_cmp nat_cmp)) (on (λ (k : Key). k.key) nat_cmp)

pub same_order : (one other : Key) → memory_cmp one other ≡ key_cmp one other
unfolding key_cmp
same_order one other = refl

-- to search the records in order is to look them up
found_alike : (k : Key) (es : List (Key × List ℕ)) → find key_cmp k es ≡ lookup (is_at (memory_cmp k)) es
unfolding key_cmp
found_alike k [] = refl
found_alike k (e ∷ es) = ap (cond (is_eq (memory_cmp k e.0)) (Some e.1)) (found_alike k es)

-- under a key stands what the memory has under it
pub get-table_in : (memory : BTreeMap Key (List ℕ)) (k : Key) → get (table_in memory) k ≡ tree.get memory_cmp memory k
get-table_in memory k = get-from_entries key_cmp_total memory.entries k ∙ found_alike k memory.entries

tied_in_memory : (q k : Key) → is_at (memory_cmp q) k ≡ is_same_key k q
unfolding key_cmp
tied_in_memory q k = tied q k

-- a write in memory is a write into the table
pub table_in-written : (old new : BTreeMap Key (List ℕ)) (key : Key) (value : Option (List ℕ)) → tree.Updates memory_cmp old new key value → table_in new ≡ set_or_remove (table_in old) key value
table_in-written old new key value updates = same_table (table_in new) (set_or_remove (table_in old) key value) (λ q.
    get-table_in new q ∙ updates.0 q ∙ ap (λ (b : Bool). cond b value (tree.get memory_cmp old q)) (tied_in_memory key q ∙ same_turned q key)
    ∙ ap (cond (is_same_key key q) value) (sym (get-table_in old q)) ∙ sym (get-set (table_in old) key value q))

-- a save of the table is one in memory
pub within_saves : (saves : List (BTreeMap Key (List ℕ))) (n : ℕ) → has_save (map table_in saves) n ≡ true → (0 < n) × (n ≤ length saves)
within_saves saves n is =
    let both : (nat_lt 0 n ≡ true) × (nat_le n (length saves) ≡ true) = and_parts (nat_lt 0 n) (nat_le n (length saves)) (sym (ap (λ (k : ℕ). nat_lt 0 n && nat_le n k) (length-map saves table_in)) ∙ is) in
    (ltb-true 0 n both.0, leb-true n (length saves) both.1)

-- a copy of a save is that save, if there is one
pub back_in_memory : (table copy item : BTreeMap Key (List ℕ)) (saves : List (BTreeMap Key (List ℕ))) (n : ℕ) → has_save (map table_in saves) n ≡ true
    → item ≡ get_or saves (n - 1) item → copy.entries ≡ item.entries
    → ◌≡◌ {A = Work} (record { table = table_in copy; saves = map table_in (take n saves) }) (after (record { table = table_in table; saves = map table_in saves }) (Back n))
back_in_memory table copy item saves n is at same =
    let bounds : (0 < n) × (n ≤ length saves) = within_saves saves n is in
    let found : table_in copy ≡ slice_index_or (map table_in saves) (n - 1) (table_in table) =
    ap from_entries same ∙ ap table_in at ∙ sym (get_or-map table_in saves (n - 1) item (table_in table) (omega (arith, bounds.0, bounds.1))) in
    let kept : map table_in (take n saves) ≡ take n (map table_in saves) = sym (take-map table_in n saves) in
    let both : ◌≡◌ {A = Work} (record { table = table_in copy; saves = map table_in (take n saves) }) (record { table = slice_index_or (map table_in saves) (n - 1) (table_in table); saves = take n (map table_in saves) }) =
    (λ i. record { table = found i; saves = kept i }) in
    both ∙ sym (ap (λ (b : Bool). if b then record { table = slice_index_or (map table_in saves) (n - 1) (table_in table); saves = take n (map table_in saves) } else record { table = table_in table; saves = map table_in saves }) is)

map-push : (memories : List (BTreeMap Key (List ℕ))) (memory : BTreeMap Key (List ℕ)) → map table_in (memories ++ memory ∷ []) ≡ map table_in memories ++ table_in memory ∷ []
map-push [] memory = refl
map-push (first ∷ memories) memory = ap (λ (l : List Table). table_in first ∷ l) (map-push memories memory)

-- a copy of the table becomes the last save
pub saved_in_memory : (table copy : BTreeMap Key (List ℕ)) (saves : List (BTreeMap Key (List ℕ))) → copy.entries ≡ table.entries → map table_in (saves ++ copy ∷ []) ≡ map table_in saves ++ table_in table ∷ []
saved_in_memory table copy saves same = map-push saves copy ∙ ap (λ (es : List (Key × List ℕ)). map table_in saves ++ from_entries es ∷ []) same

no_records : (es : List (Key × List ℕ)) → length es ≡ 0 → es ≡ []
no_records [] none = refl
no_records (e ∷ es) none = absurd (omega (arith, none))

-- records by strictly rising key are those of their map
pub entries_of : (es : List (Key × List ℕ)) → IsStrictlySortedBy memory_cmp (keys_of es) → entries (from_entries {R = key_cmp} es) ≡ es
unfolding IsStrictlySortedBy key_cmp
entries_of [] rises = no_records (entries (from_entries [])) (sym (len-entries (from_entries [])) ∙ len-empty key_cmp (List ℕ))
entries_of (e ∷ []) rises = entries-insert key_cmp_total (from_entries []) e.0 e.1 ∙ ap (put key_cmp e.0 e.1) (entries_of [] rises.1)
entries_of (e ∷ (next ∷ es)) rises =
    entries-insert key_cmp_total (from_entries (next ∷ es)) e.0 e.1 ∙ ap (put key_cmp e.0 e.1) (entries_of (next ∷ es) rises.1) ∙ first rises.0.0
  where
    first : key_cmp e.0 next.0 ≡ Less → put key_cmp e.0 e.1 (next ∷ es) ≡ e ∷ (next ∷ es)
    first below = rw below refl

-- the listed ones of some records, as rows
abbrev pub listed : List ℕ → ℕ → ℕ → List (Key × List ℕ) → List Row
listed name low high es = filter (is_within low high) (map (λ (e : Key × List ℕ). (e.0.key, e.1)) (filter (λ (e : Key × List ℕ). is_of_table name e.0) es))

pub listed_next : (name : List ℕ) (low high : ℕ) (key : Key) (value : List ℕ) (es : List (Key × List ℕ)) (b : Bool) → is_listed name low high key ≡ b
    → listed name low high ((key, value) ∷ es) ≡ (if b then (key.key, value) ∷ listed name low high es else listed name low high es)
listed_next name low high key value es b is = go (is_of_table name key) refl ∙ ap (λ (c : Bool). if c then (key.key, value) ∷ listed name low high es else listed name low high es) is
  where
    go : (c : Bool) → is_of_table name key ≡ c → listed name low high ((key, value) ∷ es) ≡ (if is_listed name low high key then (key.key, value) ∷ listed name low high es else listed name low high es)
    go true at = rw at refl
    go false at = rw at refl

-- rows before other records are put before them, from the last one on
rows_before : (name : List ℕ) (rows : List Row) (es : List (Key × List ℕ)) → from_entries {R = key_cmp} (all_keyed name rows ++ es) ≡ with_rows (from_entries es) name rows
rows_before name [] es = refl
rows_before name (row ∷ rows) es = ap (λ (t : Table). insert t (of_table name row.0) row.1) (rows_before name rows es)

-- one more table in front
pub table_of-next : (tables : List NamedRows) (i : ℕ) (table : NamedRows) → i < length tables → table ≡ get_or tables (length tables - 1 - i) table
    → table_of (drop (length tables - (i + 1)) tables) ≡ with_rows (table_of (drop (length tables - i) tables)) table.0 table.1
table_of-next tables i table within at =
    let place : length tables - 1 - i ≡ length tables - (i + 1) = omega arith in
    let behind : length tables - (i + 1) + 1 ≡ length tables - i = omega (arith, within) in
    let table_is : get_or tables (length tables - (i + 1)) table ≡ table = sym (at ∙ ap (λ (j : ℕ). get_or tables j table) place) in
    ap table_of (drop_more tables (length tables - (i + 1)) table (omega (arith, within)))
    ∙ rows_before (get_or tables (length tables - (i + 1)) table).0 (get_or tables (length tables - (i + 1)) table).1 (records_in (drop (length tables - (i + 1) + 1) tables))
    ∙ (λ k. with_rows (table_of (drop (behind k) tables)) (table_is k).0 (table_is k).1)

-- one more row in front
pub with_rows-next : (table : Table) (name : List ℕ) (rows : List Row) (i : ℕ) (row : Row) → i < length rows → row ≡ get_or rows (length rows - 1 - i) row
    → with_rows table name (drop (length rows - (i + 1)) rows) ≡ insert (with_rows table name (drop (length rows - i) rows)) (of_table name row.0) row.1
with_rows-next table name rows i row within at =
    let place : length rows - 1 - i ≡ length rows - (i + 1) = omega arith in
    let behind : length rows - (i + 1) + 1 ≡ length rows - i = omega (arith, within) in
    let row_is : get_or rows (length rows - (i + 1)) row ≡ row = sym (at ∙ ap (λ (j : ℕ). get_or rows j row) place) in
    ap (with_rows table name) (drop_more rows (length rows - (i + 1)) row (omega (arith, within)))
    ∙ (λ k. insert (with_rows table name (drop (behind k) rows)) (of_table name (row_is k).0) (row_is k).1)
