-- Records that are added to tables in memory.
use Rattle.std.proofs.Common.{◌≡◌, ℕ, zero, suc, ◌+◌, ◌<◌, ◌≤◌, Bool, true, false, cond, List, [], ◌∷◌, ◌++◌, length, map, take, get_or, Option, Some, None, refl, sym, ap, subst, ◌∙◌, arith, append-nil}
use Rattle.std.specs.Prelude.{if◌then◌else◌, is_some, slice_set, slice_get, IsPermutation}
use Rattle.std.specs.BTreeMap.{insert_entry, is_at}
use Rattle.std.specs.List.{All, Contains, list_any}
use Rattle.std.specs.Map.{lookup}
use Rattle.std.specs.Ordering.{nat_cmp, is_eq, match_ordering}
use Rattle.std.specs.declared.cmp.Ordering.{Ordering}
use Rattle.std.specs.declared.cmp.Ordering.TheVariants.{Less, Equal, Greater}
use Rattle.std.specs.Cmp.{ranked}
use Rattle.std.proofs.lemmas.List.{take_all, take_more, get_or-map}
use Rattle.std.proofs.lemmas.List.Elements.{Contains-append_left, Contains-append_right}
use Rattle.std.proofs.lemmas.List.Sorted.{IsPermutation-refl, IsPermutation-sym, IsPermutation-trans, IsPermutation-cons, IsPermutation-middle, IsPermutation-map, IsPermutation-append_left, IsPermutation-append_right}
use Rattle.std.proofs.lemmas.Cmp.{nat_list_eq_equiv}
use Rattle.std.proofs.lemmas.Map.Entries.{place_from_lookup}
use Rattle.std.proofs.lemmas.Map.Views.{list_any-from_Contains}
use Rattle.std.proofs.lemmas.Option.{slice_get_within, get_or_from_slice_get}
use Rattle.history.specs.Key.{of_table}
use Rattle.history.specs.declared.key.Key.{Key}
use Rattle.history.specs.Writes.{Row}
use Rattle.history.specs.Rows.{NamedRows, keyed, all_keyed, records_in}
use Rattle.dump_text.specs.Dump.{is_same_name}
use Rattle.dump_text.specs.Dump.{with_name}
use Rattle.dump_text.specs.Gathering.{IsPut, names_of}

-- ---- rows of a table

-- a row under a new key is there with the others
pub with_row : (key : ℕ) (value : List ℕ) (rows : List Row) → lookup (is_at (nat_cmp key)) rows ≡ None → IsPermutation ((key, value) ∷ rows) (insert_entry nat_cmp rows key value)
with_row key value [] none = IsPermutation-refl _
with_row key value (row ∷ rows) none = go (nat_cmp key row.0) none (with_row key value rows)
  where
    go : (order : Ordering) → cond (is_eq order) (Some row.1) (lookup (is_at (nat_cmp key)) rows) ≡ None
        → (lookup (is_at (nat_cmp key)) rows ≡ None → IsPermutation ((key, value) ∷ rows) (insert_entry nat_cmp rows key value))
        → IsPermutation ((key, value) ∷ row ∷ rows) (match_ordering order ((key, value) ∷ row ∷ rows) ((row.0, value) ∷ rows) (row ∷ insert_entry nat_cmp rows key value))
    go Less is more = IsPermutation-refl _
    go Equal is more = absurd cc
    go Greater is more =
        IsPermutation-trans _ _ _ (IsPermutation-sym _ _ (IsPermutation-middle (row ∷ []) (key, value) rows)) (IsPermutation-cons row _ _ (more is))

-- a row that is found is there
pub found_row : (key : ℕ) (value : List ℕ) (rows : List Row) → lookup (is_at (nat_cmp key)) rows ≡ Some value → Contains rows (key, value)
found_row key value rows is =
    let place = place_from_lookup (is_at (nat_cmp key)) rows value is in
    let same : key ≡ place.1 = go (nat_cmp key place.1) refl place.3 in
    let at : slice_get rows place.0 ≡ Some (key, value) = place.2 ∙ ap (λ (k : ℕ). Some (k, value)) (sym same) in
    (place.0, slice_get_within rows place.0 (key, value) at, get_or_from_slice_get rows place.0 (key, value) (key, value) at)
  where
    go : {other : ℕ} (order : Ordering) → nat_cmp key other ≡ order → is_eq order ≡ true → key ≡ other
    go {other} Less at passes = absurd cc
    go {other} Equal at passes = ranked key other Equal (sym at)
    go {other} Greater at passes = absurd cc

keyed_row : (name : List ℕ) (rows : List Row) (row : Row) → Contains rows row → Contains (all_keyed name rows) (keyed name row)
keyed_row name rows row (i, within, is) =
    (i, omega (arith, length_keyed rows, within), get_or-map (keyed name) rows i row (keyed name row) within ∙ ap (keyed name) is)
  where
    length_keyed : (others : List Row) → length (all_keyed name others) ≡ length others
    length_keyed [] = refl
    length_keyed (other ∷ others) = ap suc (length_keyed others)

-- ---- tables, one of which is changed

-- a row more in a table is a record more
pub put_at : (tables : List NamedRows) (i : ℕ) (table : NamedRows) (memory : List Row) (row : Row) → i < length tables → table ≡ get_or tables i table
    → IsPermutation (row ∷ table.1) memory
    → IsPermutation (keyed table.0 row ∷ records_in tables) (records_in (slice_set tables i (table.0, memory)))
put_at [] i table memory row within is more = absurd (omega (arith, within))
put_at (first ∷ tables) zero table memory row within is more =
    subst (λ (t : NamedRows). IsPermutation (keyed table.0 row ∷ (all_keyed t.0 t.1 ++ records_in tables)) (all_keyed table.0 memory ++ records_in tables)) is
    (IsPermutation-append_left (records_in tables) _ _ (IsPermutation-map (keyed table.0) _ _ more))
put_at (first ∷ tables) (suc i) table memory row within is more =
    let front = all_keyed first.0 first.1 in
    IsPermutation-trans _ _ _ (IsPermutation-sym _ _ (IsPermutation-middle front (keyed table.0 row) (records_in tables)))
    (IsPermutation-append_right front _ _ (put_at tables i table memory row (omega (arith, within)) is more))

-- the names stay
pub same_names : (tables : List NamedRows) (i : ℕ) (table : NamedRows) (memory : List Row) → table ≡ get_or tables i table
    → names_of (slice_set tables i (table.0, memory)) ≡ names_of tables
same_names [] i table memory is = refl
same_names (first ∷ tables) zero table memory is = ap (λ (t : NamedRows). t.0 ∷ names_of tables) is
same_names (first ∷ tables) (suc i) table memory is = ap (λ (names : List (List ℕ)). first.0 ∷ names) (same_names tables i table memory is)

pub as_many_names : (tables : List NamedRows) → length (names_of tables) ≡ length tables
as_many_names [] = refl
as_many_names (table ∷ tables) = ap suc (as_many_names tables)

-- the name in a place is that of the table there
pub name_at : (tables : List NamedRows) (i : ℕ) (table : NamedRows) → i < length tables → table ≡ get_or tables i table → slice_get (names_of tables) i ≡ Some table.0
name_at [] i table within is = absurd (omega (arith, within))
name_at (first ∷ tables) zero table within is = ap (λ (t : NamedRows). Some t.0) (sym is)
name_at (first ∷ tables) (suc i) table within is = name_at tables i table (omega (arith, within)) is

pub within_names : (tables : List NamedRows) (i : ℕ) (name : List ℕ) → slice_get (names_of tables) i ≡ Some name → i < length tables
within_names tables i name at = omega (arith, slice_get_within (names_of tables) i name at, as_many_names tables)

-- a record of a table is one of all
pub found_at : (tables : List NamedRows) (i : ℕ) (table : NamedRows) (row : Row) → i < length tables → table ≡ get_or tables i table → Contains table.1 row
    → Contains (records_in tables) (keyed table.0 row)
found_at [] i table row within is has = absurd (omega (arith, within))
found_at (first ∷ tables) zero table row within is has =
    subst (λ (t : NamedRows). Contains (all_keyed t.0 t.1 ++ records_in tables) (keyed table.0 row)) is
    (Contains-append_left (all_keyed table.0 table.1) (records_in tables) (keyed table.0 row) (keyed_row table.0 table.1 row has))
found_at (first ∷ tables) (suc i) table row within is has =
    Contains-append_right (all_keyed first.0 first.1) (records_in tables) (keyed table.0 row) (found_at tables i table row (omega (arith, within)) is has)

-- ---- a table more

pub names-push : (tables : List NamedRows) (table : NamedRows) → names_of (tables ++ table ∷ []) ≡ names_of tables ++ table.0 ∷ []
names-push [] table = refl
names-push (first ∷ tables) table = ap (λ (names : List (List ℕ)). first.0 ∷ names) (names-push tables table)

pub records-empty : (tables : List NamedRows) (table : NamedRows) → table.1 ≡ [] → records_in (tables ++ table ∷ []) ≡ records_in tables
records-empty [] table none = ap (λ (rows : List Row). all_keyed table.0 rows ++ []) none
records-empty (first ∷ tables) table none = ap (λ (entries : List (Key × List ℕ)). all_keyed first.0 first.1 ++ entries) (records-empty tables table none)

pub last_name : (names : List (List ℕ)) (name : List ℕ) → slice_get (names ++ name ∷ []) (length names) ≡ Some name
last_name [] name = refl
last_name (first ∷ names) name = last_name names name

-- ---- names

-- a name that stands in a place is one of the names
pub is_among : (names : List (List ℕ)) (i : ℕ) (name : List ℕ) → slice_get names i ≡ Some name → names ≡ with_name names name
is_among names i name at =
    let has : Contains names name = (i, slice_get_within names i name at, get_or_from_slice_get names i name name at) in
    sym (ap (λ (b : Bool). if b then names else names ++ name ∷ []) (list_any-from_Contains nat_list_eq_equiv name names has))

pub is_new : (names : List (List ℕ)) (name : List ℕ) → list_any (is_same_name name) names ≡ false → names ++ name ∷ [] ≡ with_name names name
is_new names name other = sym (ap (λ (b : Bool). if b then names else names ++ name ∷ []) other)

-- what stood under the key of a row that was put
pub is_put : (tables : List NamedRows) (i : ℕ) (table : NamedRows) (memory : List Row) (key : ℕ) (value : List ℕ) (had : Option (List ℕ)) → i < length tables → table ≡ get_or tables i table
    → had ≡ lookup (is_at (nat_cmp key)) table.1 → memory ≡ insert_entry nat_cmp table.1 key value
    → (name : List ℕ) → slice_get (names_of tables) i ≡ Some name
    → IsPut tables name (key, value) had (slice_set tables i (table.0, memory))
is_put tables i table memory key value had within is was now name at = go had was
  where
    same : table.0 ≡ name
    same = let e = sym (name_at tables i table within is) ∙ at in cc

    go : (had : Option (List ℕ)) → had ≡ lookup (is_at (nat_cmp key)) table.1 → IsPut tables name (key, value) had (slice_set tables i (table.0, memory))
    go None was =
        subst (λ (n : List ℕ). IsPermutation (keyed n (key, value) ∷ records_in tables) (records_in (slice_set tables i (table.0, memory)))) same
        (put_at tables i table memory (key, value) within is (subst (λ (rows : List Row). IsPermutation ((key, value) ∷ table.1) rows) (sym now) (with_row key value table.1 (sym was))))
    go (Some old) was = subst (λ (n : List ℕ). Contains (records_in tables) (of_table n key, old)) same (found_at tables i table (key, old) within is (found_row key old table.1 (sym was)))

pub nothing_had : (old new : List NamedRows) (name : List ℕ) (row : Row) (had : Option (List ℕ)) → is_some had ≡ false → IsPut old name row had new → IsPermutation (keyed name row ∷ records_in old) (records_in new)
nothing_had old new name row None none put = put
nothing_had old new name row (Some value) none put = absurd cc

pub something_had : (old new : List NamedRows) (name : List ℕ) (row : Row) (had : Option (List ℕ)) → is_some had ≡ true → IsPut old name row had new
    → (value : List ℕ) × Contains (records_in old) (of_table name row.0, value)
something_had old new name row None some put = absurd cc
something_had old new name row (Some value) some put = (value, put)
