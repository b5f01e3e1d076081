-- Tables by rising name have the records of all tables in the order of their keys.
use Rattle.std.proofs.Common.{◌≡◌, ◌≢◌, ℕ, zero, suc, ◌+◌, ◌<◌, ◌≤◌, Bool, true, false, cond, ◌&&◌, ◌||◌, ◌⊎◌, inl, inr, ⊎_elim, List, [], ◌∷◌, ◌++◌, length, length-append, append_assoc, get_or, drop, refl, sym, ◌∙◌, ap, subst, arith}
use Rattle.std.specs.Prelude.{nat_eq, if◌then◌else◌, map, slice_get, Option, Some, None}
use Rattle.std.specs.List.{zip, insert}
use Rattle.std.specs.declared.cmp.Ordering.{Ordering}
use Rattle.std.specs.declared.cmp.Ordering.TheVariants.{Less, Equal, Greater}
use Rattle.std.specs.Ordering.{nat_cmp, ordering_then, ordering_reverse, is_lt, is_eq}
use Rattle.std.specs.Cmp.{IsTotalOrder, tied_itself}
use Rattle.std.specs.Cmp.Lexicographic.{slice_cmp, nat_list_cmp_total, texts_ties}
use Rattle.std.specs.FinMap.{get, entries, find, is_sorted, from_entries, get-from_entries}
use Rattle.std.specs.FinMap.Entries.{below_all}
use Rattle.std.proofs.lemmas.Bool.{cases_Bool}
use Rattle.std.proofs.Math.Seq.{drop-cons}
use lib.Dec.{T}
use lib.Pointwise.{pointwise}
use Rattle.record_slots.specs.Names.{names_in}
use Rattle.record_slots.specs.Super.{IsApart}
use Rattle.record_slots.specs.Places.{tables_of}
use Rattle.record_slots.specs.declared.super_page.TableEntry.{TableEntry}
use Rattle.history.specs.declared.key.Key.{Key}
use Rattle.history.specs.Key.{key_cmp, is_of_table}
use Rattle.history.specs.Rows.{all_keyed}
use Rattle.history.specs.Writes.{Table, Row}
use Rattle.history.proofs.Keys.{key_cmp_total, name_decides}
use Rattle.history.proofs.Keyed.{entries-from_entries, find-keyed, sorted-keyed}
use Rattle.history.proofs.Agreeing.{same_table}
use Rattle.page_store.specs.Index.{Index}
use Rattle.page_store.specs.Records.{rows_of, records_of}
use Rattle.record_table.specs.AllTables.{is_before, place, put_in, by_name}
use Rattle.history.specs.Rows.{NamedRows, records_in}
use Rattle.record_table.specs.Shown.{table_of}
use Rattle.record_table.specs.Names.{names_of}
use Rattle.record_table.proofs.AllRows.{IsOf, AreOf, gathered_are, all_named, apart_in}
use Rattle.record_table.proofs.Sharing.{Laws}

-- ---- where a table is put

-- an insertion at the place of a name
pub put_at : (table : NamedRows) (tables : List NamedRows) → insert tables (place table.0 tables) table ≡ put_in table tables
put_at table [] = refl
put_at table (other ∷ tables) = go (put_at table tables) (is_before table.0 other.0)
  where
    go : insert tables (place table.0 tables) table ≡ put_in table tables → (b : Bool) → insert (other ∷ tables) (cond b zero (suc (place table.0 tables))) table ≡ cond b (table ∷ other ∷ tables) (other ∷ put_in table tables)
    go rest true = refl
    go rest false = ap (λ (l : List NamedRows). other ∷ l) rest

pub place_within : (name : List ℕ) (tables : List NamedRows) → place name tables ≤ length tables
place_within name [] = omega arith
place_within name (other ∷ tables) = go (place_within name tables) (is_before name other.0)
  where
    go : place name tables ≤ length tables → (b : Bool) → cond b zero (suc (place name tables)) ≤ suc (length tables)
    go rest true = omega arith
    go rest false = omega (arith, rest)

-- ---- names

-- some of the tables has the name
abbrev has_name : List ℕ → List NamedRows → Bool
has_name name [] = false
has_name name (table ∷ tables) = pointwise nat_eq table.0 name || has_name name tables

or_swapped : (a b c : Bool) → (a || (b || c)) ≡ (b || (a || c))
or_swapped true true c = refl
or_swapped true false c = refl
or_swapped false true c = refl
or_swapped false false c = refl

has-put : (name : List ℕ) (table : NamedRows) (tables : List NamedRows) → has_name name (put_in table tables) ≡ (pointwise nat_eq table.0 name || has_name name tables)
has-put name table [] = refl
has-put name table (other ∷ tables) = go (has-put name table tables) (is_before table.0 other.0)
  where
    go : has_name name (put_in table tables) ≡ (pointwise nat_eq table.0 name || has_name name tables) → (b : Bool) → has_name name (cond b (table ∷ other ∷ tables) (other ∷ put_in table tables)) ≡ (pointwise nat_eq table.0 name || (pointwise nat_eq other.0 name || has_name name tables))
    go rest true = refl
    go rest false = ap (λ (x : Bool). pointwise nat_eq other.0 name || x) rest ∙ or_swapped (pointwise nat_eq other.0 name) (pointwise nat_eq table.0 name) (has_name name tables)

has-by_name : (name : List ℕ) (tables : List NamedRows) → has_name name (by_name tables) ≡ has_name name tables
has-by_name name [] = refl
has-by_name name (table ∷ tables) = has-put name table (by_name tables) ∙ ap (λ (x : Bool). pointwise nat_eq table.0 name || x) (has-by_name name tables)

-- ---- names that rise

abbrev Above : List ℕ → List NamedRows → Type 0
Above name [] = Unit {0}
Above name (table ∷ tables) = (slice_cmp nat_cmp name table.0 ≡ Less) × Above name tables

abbrev AreRising : List NamedRows → Type 0
AreRising [] = Unit {0}
AreRising (table ∷ tables) = Above table.0 tables × AreRising tables

above_on : (one other : List ℕ) → slice_cmp nat_cmp one other ≡ Less → (tables : List NamedRows) → Above other tables → Above one tables
above_on one other less [] above = tt
above_on one other less (table ∷ tables) above = (nat_list_cmp_total.trans one other table.0 less above.0, above_on one other less tables above.1)

above-put : (name : List ℕ) (table : NamedRows) → slice_cmp nat_cmp name table.0 ≡ Less → (tables : List NamedRows) → Above name tables → Above name (put_in table tables)
above-put name table less [] above = (less, tt)
above-put name table less (other ∷ tables) above = go (above-put name table less tables above.1) (is_before table.0 other.0)
  where
    go : Above name (put_in table tables) → (b : Bool) → Above name (cond b (table ∷ other ∷ tables) (other ∷ put_in table tables))
    go rest true = (less, above)
    go rest false = (above.0, rest)

-- of two names one is before the other, or they are the same
before : (one other : List ℕ) → is_before one other ≡ true → slice_cmp nat_cmp one other ≡ Less
before one other is = go (slice_cmp nat_cmp one other) is
  where
    go : (o : Ordering) → is_lt o ≡ true → o ≡ Less
    go Less is = refl
    go Equal is = absurd (cc)
    go Greater is = absurd (cc)

behind : (one other : List ℕ) → is_before one other ≡ false → pointwise nat_eq other one ≡ false → slice_cmp nat_cmp other one ≡ Less
behind one other is apart = go (slice_cmp nat_cmp one other) refl is
  where
    turned : slice_cmp nat_cmp other one ≡ ordering_reverse (slice_cmp nat_cmp one other)
    turned = nat_list_cmp_total.antisymm other one

    go : (o : Ordering) → slice_cmp nat_cmp one other ≡ o → is_lt o ≡ false → slice_cmp nat_cmp other one ≡ Less
    go Less at is = absurd (cc)
    go Equal at is = absurd (let tied : is_eq (slice_cmp nat_cmp other one) ≡ pointwise nat_eq other one = sym (texts_ties other one) in let e : is_eq (slice_cmp nat_cmp other one) ≡ true = ap is_eq (turned ∙ ap ordering_reverse at) in cc)
    go Greater at is = turned ∙ ap ordering_reverse at

rising-put : (table : NamedRows) (tables : List NamedRows) → has_name table.0 tables ≡ false → AreRising tables → AreRising (put_in table tables)
rising-put table [] fresh rising = (tt, tt)
rising-put table (other ∷ tables) fresh rising = go (λ apart. rising-put table tables apart rising.1) (is_before table.0 other.0) refl
  where
    parts : (a b : Bool) → (a || b) ≡ false → (a ≡ false) × (b ≡ false)
    parts false b is = (refl, is)
    parts true b is = absurd (cc)

    go : (has_name table.0 tables ≡ false → AreRising (put_in table tables)) → (b : Bool) → is_before table.0 other.0 ≡ b → AreRising (cond b (table ∷ other ∷ tables) (other ∷ put_in table tables))
    go rest true is = let less = before table.0 other.0 is in ((less, above_on table.0 other.0 less tables rising.0), rising)
    go rest false is =
        let apart = parts (pointwise nat_eq other.0 table.0) (has_name table.0 tables) fresh in
        (above-put other.0 table (behind table.0 other.0 is apart.0) tables rising.0, rest apart.1)

-- no table has the name of a later one
abbrev AreApart : List NamedRows → Type 0
AreApart [] = Unit {0}
AreApart (table ∷ tables) = (has_name table.0 tables ≡ false) × AreApart tables

rising-by_name : (tables : List NamedRows) → AreApart tables → AreRising (by_name tables)
rising-by_name [] apart = tt
rising-by_name (table ∷ tables) apart = rising-put table (by_name tables) (has-by_name table.0 tables ∙ apart.0) (rising-by_name tables apart.1)

-- ---- what is found in tables

are_of-put : (all : Table) (table : NamedRows) (tables : List NamedRows) → IsOf all table → AreOf all tables → AreOf all (put_in table tables)
are_of-put all table [] is are = (is, tt)
are_of-put all table (other ∷ tables) is are = go (are_of-put all table tables is are.1) (is_before table.0 other.0)
  where
    go : AreOf all (put_in table tables) → (b : Bool) → AreOf all (cond b (table ∷ other ∷ tables) (other ∷ put_in table tables))
    go rest true = (is, are)
    go rest false = (are.0, rest)

are_of-by_name : (all : Table) (tables : List NamedRows) → AreOf all tables → AreOf all (by_name tables)
are_of-by_name all [] are = tt
are_of-by_name all (table ∷ tables) are = are_of-put all table (by_name tables) are.0 (are_of-by_name all tables are.1)

abbrev first_value : Option (List ℕ) → Option (List ℕ) → Option (List ℕ)
first_value None other = other
first_value (Some value) other = Some value

find-behind : (q : Key) (one other : List (Key × List ℕ)) → find key_cmp q (one ++ other) ≡ first_value (find key_cmp q one) (find key_cmp q other)
find-behind q [] other = refl
find-behind q (entry ∷ one) other = ap (λ (o : Option (List ℕ)). cond (is_eq (key_cmp q entry.0)) (Some entry.1) o) (find-behind q one other) ∙ go (is_eq (key_cmp q entry.0))
  where
    go : (b : Bool) → cond b (Some entry.1) (first_value (find key_cmp q one) (find key_cmp q other)) ≡ first_value (cond b (Some entry.1) (find key_cmp q one)) (find key_cmp q other)
    go true = refl
    go false = refl

find-in : (all : Table) (q : Key) (tables : List NamedRows) → AreOf all tables → find key_cmp q (records_in tables) ≡ cond (has_name q.table tables) (get all q) None
find-in all q [] are = refl
find-in all q (table ∷ tables) are =
    find-behind q (all_keyed table.0 table.1) (records_in tables)
    ∙ (λ i. first_value (find-keyed table.0 table.1 q i) (find-in all q tables are.1 i))
    ∙ go (is_of_table table.0 q) refl
  where
    same_first : (o : Option (List ℕ)) (b : Bool) → first_value o (cond b o None) ≡ o
    same_first None true = refl
    same_first None false = refl
    same_first (Some v) b = refl

    go : (b : Bool) → is_of_table table.0 q ≡ b → first_value (cond b (find nat_cmp q.key table.1) None) (cond (has_name q.table tables) (get all q) None) ≡ cond (b || has_name q.table tables) (get all q) None
    go true is =
        let name : table.0 ≡ q.table = (name_decides table.0 q.table).0 is in
        let here : find nat_cmp q.key table.1 ≡ get all q = sym (are.0.1 q.key) ∙ ap (λ (n : List ℕ). get all (record { table = n; key = q.key })) name in
        ap (λ (o : Option (List ℕ)). first_value o (cond (has_name q.table tables) (get all q) None)) here ∙ same_first (get all q) (has_name q.table tables)
    go false is = refl

-- ---- the order of the records

T_and : (a b : Bool) → T a → T b → T (a && b)
T_and true b x y = y
T_and false b x y = absurd x

below-behind : (key : Key) (one other : List (Key × List ℕ)) → T (below_all key_cmp key one) → T (below_all key_cmp key other) → T (below_all key_cmp key (one ++ other))
below-behind key [] other a b = b
below-behind key (entry ∷ one) other a b = T_and _ _ (left (is_lt (key_cmp key entry.0)) (below_all key_cmp key one) a) (below-behind key one other (right (is_lt (key_cmp key entry.0)) (below_all key_cmp key one) a) b)
  where
    left : (x y : Bool) → T (x && y) → T x
    left true y t = tt
    left false y t = t

    right : (x y : Bool) → T (x && y) → T y
    right true y t = t
    right false y t = absurd t

-- a key of a name before all of these
below-later : (name : List ℕ) (number : ℕ) (tables : List NamedRows) → Above name tables → T (below_all key_cmp (record { table = name; key = number }) (records_in tables))
unfolding key_cmp
below-later name number [] above = tt
below-later name number (table ∷ tables) above = below-behind (record { table = name; key = number }) (all_keyed table.0 table.1) (records_in tables) (here table.1) (below-later name number tables above.1)
  where
    less : (k : ℕ) → T (is_lt (key_cmp (record { table = name; key = number }) (record { table = table.0; key = k })))
    less k = subst (λ (o : Ordering). T (is_lt (ordering_then o (nat_cmp number k)))) (sym above.0) tt

    here : (rows : List Row) → T (below_all key_cmp (record { table = name; key = number }) (all_keyed table.0 rows))
    here [] = tt
    here (row ∷ rows) = T_and _ _ (less row.0) (here rows)

sorted-in : (all : Table) (tables : List NamedRows) → AreRising tables → AreOf all tables → T (is_sorted key_cmp (records_in tables))
sorted-in all [] rising are = tt
sorted-in all (table ∷ tables) rising are = front (sorted-in all tables rising.1 are.1) table.1 (subst T (sorted-keyed table.0 table.1) are.0.0)
  where
    left : (x y : Bool) → T (x && y) → T x
    left true y t = tt
    left false y t = t

    right : (x y : Bool) → T (x && y) → T y
    right true y t = t
    right false y t = absurd t

    front : T (is_sorted key_cmp (records_in tables)) → (rows : List Row) → T (is_sorted key_cmp (all_keyed table.0 rows)) → T (is_sorted key_cmp (all_keyed table.0 rows ++ records_in tables))
    front rest [] sorted = rest
    front rest (row ∷ rows) sorted =
        let key : Key = record { table = table.0; key = row.0 } in
        T_and _ _ (below-behind key (all_keyed table.0 rows) (records_in tables) (left (below_all key_cmp key (all_keyed table.0 rows)) (is_sorted key_cmp (all_keyed table.0 rows)) sorted) (below-later table.0 row.0 tables rising.0))
        (front rest rows (right (below_all key_cmp key (all_keyed table.0 rows)) (is_sorted key_cmp (all_keyed table.0 rows)) sorted))

-- ---- all tables of sound data

-- what a check gathered has the names of the tables
has_gathered : (name : List ℕ) (names : List (List ℕ)) (rows : List (List Row)) → length names ≡ length rows → (j : ℕ) → slice_get names j ≡ Some name → has_name name (zip names rows) ≡ true
has_gathered name [] rows same j is = absurd (cc)
has_gathered name (n ∷ names) [] same j is = absurd (omega (arith, same))
has_gathered name (n ∷ names) (r ∷ rows) same zero is = ap (λ (b : Bool). b || has_name name (zip names rows)) ((name_decides n name).1 (let here : n ≡ name = cc in here))
has_gathered name (n ∷ names) (r ∷ rows) same (suc j) is = ap (λ (b : Bool). pointwise nat_eq n name || b) (has_gathered name names rows (omega (arith, same)) j is) ∙ or_true (pointwise nat_eq n name)
  where
    or_true : (b : Bool) → (b || true) ≡ true
    or_true true = refl
    or_true false = refl

none_named : (name : List ℕ) (tables : List TableEntry) (rows : List (List Row)) → ((j : ℕ) (entry : TableEntry) → slice_get tables j ≡ Some entry → entry.name ≢ name) → has_name name (zip (names_in tables) rows) ≡ false
none_named name [] rows other = refl
none_named name (entry ∷ tables) [] other = refl
none_named name (entry ∷ tables) (r ∷ rows) other = go (pointwise nat_eq entry.name name) (λ it. other 0 entry refl ((name_decides entry.name name).0 it)) (none_named name tables rows (λ j e is. other (suc j) e is))
  where
    go : (b : Bool) → (b ≡ true → ⊥) → has_name name (zip (names_in tables) rows) ≡ false → (b || has_name name (zip (names_in tables) rows)) ≡ false
    go true never rest = absurd (never refl)
    go false never rest = rest

are_apart : (tables : List TableEntry) (rows : List (List Row)) → ((j : ℕ) → IsApart tables j) → AreApart (zip (names_in tables) rows)
are_apart [] rows apart = tt
are_apart (entry ∷ tables) [] apart = tt
are_apart (entry ∷ tables) (r ∷ rows) apart = (
  none_named entry.name tables rows (λ j e is same. (apart (suc j) 0 entry e (omega arith) refl is).0 (sym same)),
  are_apart tables rows (λ j i one two lt first second. apart (suc j) (suc i) one two (omega (arith, lt)) first second),
)

as_many : (f : TableEntry → List Row) (tables : List TableEntry) → length (names_in tables) ≡ length (map f tables)
as_many f [] = refl
as_many f (entry ∷ tables) = ap suc (as_many f tables)

-- what a check gathered is as much as there are names
pub as_many_rows : (index : Index) (bytes : List ℕ) → length (names_of bytes) ≡ length (records_of index bytes)
as_many_rows index bytes = as_many (λ entry. rows_of bytes (index.pairs bytes entry.root)) (tables_of bytes)

pub records_are : (index : Index) → Laws index → (bytes : List ℕ) → index.sound bytes → records_in (by_name (zip (names_of bytes) (records_of index bytes))) ≡ entries (table_of index bytes)
records_are index laws bytes sound = sym (entries-from_entries (records_in named) (sorted-in all named (rising-by_name gathered (are_apart (tables_of bytes) (records_of index bytes) (apart_in bytes (laws.counts bytes sound)))) are)) ∙ ap entries same
  where
    all : Table
    all = table_of index bytes

    gathered : List NamedRows
    gathered = zip (names_of bytes) (records_of index bytes)

    named : List NamedRows
    named = by_name gathered

    are : AreOf all named
    are = are_of-by_name all gathered (gathered_are index laws bytes sound)

    -- a record that is there is of a table with a name
    none : (q : Key) → has_name q.table named ≡ false → (o : Option (List ℕ)) → get all q ≡ o → o ≡ None
    none q off None is = refl
    none q off (Some value) is =
        let at = all_named index bytes q value is in
        absurd (let there : has_name q.table gathered ≡ true = has_gathered q.table (names_of bytes) (records_of index bytes) (as_many_rows index bytes) at.0 at.1 in
        let both : has_name q.table named ≡ true = has-by_name q.table gathered ∙ there in cc)

    found : (q : Key) → get (from_entries {R = key_cmp} (records_in named)) q ≡ get all q
    found q = get-from_entries key_cmp_total (records_in named) q ∙ find-in all q named are ∙ go (has_name q.table named) refl
      where
        go : (b : Bool) → has_name q.table named ≡ b → cond b (get all q) None ≡ get all q
        go true is = refl
        go false is = sym (none q is (get all q) refl)

    same : from_entries {R = key_cmp} (records_in named) ≡ all
    same = same_table (from_entries (records_in named)) all found

-- ---- the loops

-- the place among those from an index on
pub place-next : (name : List ℕ) (tables : List NamedRows) (i : ℕ) (table : NamedRows) → i < length tables → table ≡ get_or tables i table
    → place name (drop i tables) ≡ (if is_before name table.0 then zero else suc (place name (drop (i + 1) tables)))
place-next name tables i table lt is = ap (place name) (drop-cons tables i table lt) ∙ (λ j. if is_before name (sym is j).0 then zero else suc (place name (drop (one j) tables)))
  where
    one : suc i ≡ i + 1
    one = omega arith

-- a table in front of those behind it
drop_at : (names : List (List ℕ)) (i : ℕ) (name : List ℕ) → slice_get names i ≡ Some name → drop i names ≡ name ∷ drop (suc i) names
drop_at [] i name is = absurd (cc)
drop_at (n ∷ names) zero name is = (let here : n ≡ name = cc in λ i. here i ∷ names)
drop_at (n ∷ names) (suc i) name is = drop_at names i name is

pub one_more : (names : List (List ℕ)) (all left later done : List (List Row)) (rows : List Row) (name : List ℕ) (named more : List NamedRows) → all ≡ left ++ done → left ≡ later ++ rows ∷ [] → slice_get names (length later) ≡ Some name
    → named ≡ by_name (zip (drop (length left) names) done) → more ≡ put_in (name, rows) named
    → (x : List (List Row)) × (all ≡ later ++ x) × (more ≡ by_name (zip (drop (length later) names) x)) × (names ≡ names)
one_more names all left later done rows name named more split popped called so put = (
  rows ∷ done,
  split ∙ ap (λ (l : List (List Row)). l ++ done) popped ∙ append_assoc later (rows ∷ []) done,
  put ∙ ap (put_in (name, rows)) (so ∙ ap (λ (n : ℕ). by_name (zip (drop n names) done)) (ap length popped ∙ length-append later (rows ∷ []) ∙ one))
      ∙ ap (λ (ns : List (List ℕ)). by_name (zip ns (rows ∷ done))) (sym (drop_at names (length later) name called)),
  refl,
)
  where
    one : length later + length (rows ∷ []) ≡ suc (length later)
    one = omega arith
