-- The rows of each table, as a check of the index gathers them, are those of its name among the records of all tables.
use Rattle.std.proofs.Common.{◌≡◌, ◌≢◌, ◌^◌, ℕ, zero, suc, ◌+◌, ◌<◌, ◌≤◌, Bool, true, false, cond, ◌⊎◌, inl, inr, ⊎_elim, List, [], ◌∷◌, ◌++◌, refl, sym, ◌∙◌, ap, subst, arith}
use Rattle.std.specs.Prelude.{nat_eq, if◌then◌else◌, map, slice_get, Option, Some, None}
use Rattle.std.specs.Option.{option_map}
use lib.Pointwise.{pointwise}
use Rattle.std.specs.List.{zip}
use Rattle.std.specs.Ordering.{nat_cmp}
use Rattle.std.specs.FinMap.{get, find, is_sorted}
use lib.Dec.{T}
use Rattle.std.proofs.lemmas.Bool.{cases_eq, cases_Bool, ne_eqb}
use Rattle.record_slots.specs.Names.{names_in}
use Rattle.record_slots.specs.Places.{version_of, tables_of}
use Rattle.record_slots.specs.Super.{main_table, tables_in, tables_said, tables_used, entries_said, IsApart}
use Rattle.record_slots.specs.Places.{page_bytes}
use Rattle.record_slots.specs.declared.super_page.TableEntry.{TableEntry}
use Rattle.history.specs.declared.key.Key.{Key}
use Rattle.history.specs.Key.{is_same_key}
use Rattle.history.proofs.Keys.{name_decides}
use Rattle.history.specs.Writes.{Table}
use Rattle.page_store.specs.Pairs.{Pair, Rise, found}
use Rattle.page_store.specs.Index.{Index, HasCounts, IsTable}
use Rattle.page_store.specs.Records.{rows_of, records_of}
use Rattle.history.specs.Rows.{NamedRows}
use Rattle.record_table.specs.Names.{names_of}
use Rattle.record_table.specs.Shown.{found_key, in_table, pairs_from, pairs_of, table_in, table_of}
use Rattle.record_table.proofs.Joint.{found_named}
use Rattle.record_table.proofs.RowsOf.{sorted, find_rows}
use Rattle.record_table.proofs.Sharing.{Laws}
use Rattle.record_table.proofs.Tables.{record_at, get-table_in}

-- ---- what is found under a key

-- the first of two that is there
abbrev first_of : Option ℕ → Option ℕ → Option ℕ
first_of None other = other
first_of (Some slot) other = Some slot

found_behind : (one other : List (Key × ℕ)) (q : Key) → found_key (one ++ other) q ≡ first_of (found_key one q) (found_key other q)
found_behind [] other q = refl
found_behind (pair ∷ one) other q = ap (λ (o : Option ℕ). if is_same_key pair.0 q then Some pair.1 else o) (found_behind one other q) ∙ go (is_same_key pair.0 q)
  where
    go : (b : Bool) → cond b (Some pair.1) (first_of (found_key one q) (found_key other q)) ≡ first_of (cond b (Some pair.1) (found_key one q)) (found_key other q)
    go true = refl
    go false = refl

module _ (index : Index) (d : List ℕ) where
  -- in the table of another name
  elsewhere : (name other : List ℕ) (ps : List Pair) (k : ℕ) → other ≢ name → found_key (map (in_table other) ps) (record { table = name; key = k }) ≡ None
  elsewhere name other ps k ne = found_named other ps (record { table = name; key = k }) ∙ ap (λ (b : Bool). cond b (found ps k) None) (is_other other name ne)
    where
      is_other : (a b : List ℕ) → a ≢ b → pointwise nat_eq a b ≡ false
      is_other a b ne = elim (cases_Bool (pointwise nat_eq a b)) [ inl same ↦ absurd (ne ((name_decides a b).0 same)) | inr other ↦ other ]

  own : (name : List ℕ) (ps : List Pair) (k : ℕ) → found_key (map (in_table name) ps) (record { table = name; key = k }) ≡ found ps k
  own name ps k = found_named name ps (record { table = name; key = k }) ∙ ap (λ (b : Bool). cond b (found ps k) None) ((name_decides name name).1 refl)

  none_there : (tables : List TableEntry) (name : List ℕ) (k : ℕ) → ((j : ℕ) (entry : TableEntry) → slice_get tables j ≡ Some entry → entry.name ≢ name) → found_key (pairs_from index d tables) (record { table = name; key = k }) ≡ None
  none_there [] name k other = refl
  none_there (entry ∷ tables) name k other =
      let q : Key = record { table = name; key = k } in
      found_behind (map (in_table entry.name) (index.pairs d entry.root)) (pairs_from index d tables) q
      ∙ ap (λ (o : Option ℕ). first_of o (found_key (pairs_from index d tables) q)) (elsewhere name entry.name (index.pairs d entry.root) k (other 0 entry refl))
      ∙ none_there tables name k (λ j e is. other (suc j) e is)

  shifted : (entry : TableEntry) (tables : List TableEntry) → ((j : ℕ) → IsApart (entry ∷ tables) j) → (j : ℕ) → IsApart tables j
  shifted entry tables apart j = λ i one two lt first second. apart (suc j) (suc i) one two (omega (arith, lt)) first second

  found_at : (tables : List TableEntry) → ((j : ℕ) → IsApart tables j) → (j : ℕ) (entry : TableEntry) → slice_get tables j ≡ Some entry → (k : ℕ)
      → found_key (pairs_from index d tables) (record { table = entry.name; key = k }) ≡ found (index.pairs d entry.root) k
  found_at [] apart j entry is k = absurd (cc)
  found_at (first ∷ tables) apart zero entry is k =
      let here : first ≡ entry = cc in
      subst (λ (e : TableEntry). found_key (pairs_from index d (first ∷ tables)) (record { table = e.name; key = k }) ≡ found (index.pairs d e.root) k) here
      (found_behind (map (in_table first.name) (index.pairs d first.root)) (pairs_from index d tables) (record { table = first.name; key = k })
      ∙ ap (λ (o : Option ℕ). first_of o (found_key (pairs_from index d tables) (record { table = first.name; key = k }))) (own first.name (index.pairs d first.root) k)
      ∙ alone (found (index.pairs d first.root) k) (none_there tables first.name k (λ j e there same. (apart (suc j) 0 first e (omega arith) refl there).0 (sym same))))
    where
      alone : (o : Option ℕ) {other : Option ℕ} → other ≡ None → first_of o other ≡ o
      alone None none = none
      alone (Some slot) none = refl
  found_at (first ∷ tables) apart (suc j) entry is k =
      let q : Key = record { table = entry.name; key = k } in
      found_behind (map (in_table first.name) (index.pairs d first.root)) (pairs_from index d tables) q
      ∙ ap (λ (o : Option ℕ). first_of o (found_key (pairs_from index d tables) q)) (elsewhere entry.name first.name (index.pairs d first.root) k (apart (suc j) 0 first entry (omega arith) refl is).0)
      ∙ found_at tables (shifted first tables apart) j entry is k

-- no two tables have one name
pub apart_in : (d : List ℕ) → HasCounts d → (j : ℕ) → IsApart (tables_of d) j
unfolding tables_said
apart_in d counts = elim (cases_eq (version_of d) 1) [
  | inl one ↦ subst (λ (v : ℕ). (j : ℕ) → IsApart (tables_in v (entries_said (page_bytes d 0))) j) (sym one) single
  | inr other ↦
      subst (λ (b : Bool). (j : ℕ) → IsApart (cond b (main_table ∷ []) (tables_used (entries_said (page_bytes d 0)))) j) (sym (ne_eqb (version_of d) 1 other))
      (counts.tables (omega (arith, other, counts.oldest, counts.newest))).1.other
]
  where
    single : (j : ℕ) → IsApart (main_table ∷ []) j
    single zero i one two lt first second = absurd (omega (arith, lt))
    single (suc j) i one two lt first second = absurd (cc)

-- ---- what a check gathered of each table

-- it is what the table of all records has under the table's name
abbrev pub IsOf : Table → NamedRows → Type 0
IsOf all table = T (is_sorted nat_cmp table.1) × ((k : ℕ) → get all (record { table = table.0; key = k }) ≡ find nat_cmp k table.1)

abbrev pub AreOf : Table → List NamedRows → Type 0
AreOf all [] = Unit {0}
AreOf all (table ∷ tables) = IsOf all table × AreOf all tables

module _ (index : Index) (d : List ℕ) (all : List TableEntry) (apart : (j : ℕ) → IsApart all j) (rise : (j : ℕ) (entry : TableEntry) → slice_get all j ≡ Some entry → Rise 0 (2 ^ 64) (index.pairs d entry.root)) where
  is_of_entry : (j : ℕ) (entry : TableEntry) → slice_get all j ≡ Some entry → IsOf (table_in d (pairs_from index d all)) (entry.name, rows_of d (index.pairs d entry.root))
  is_of_entry j entry is =
      let up = rise j entry is in (
        sorted d 0 (2 ^ 64) (index.pairs d entry.root) up,
        λ k. get-table_in d (pairs_from index d all) (record { table = entry.name; key = k }) ∙ ap (record_at d) (found_at index d all apart j entry is k) ∙ sym (find_rows d 0 (2 ^ 64) k (index.pairs d entry.root) up),
      )

  pub are_of : (tables : List TableEntry) → ((j : ℕ) (entry : TableEntry) → slice_get tables j ≡ Some entry → IsOf (table_in d (pairs_from index d all)) (entry.name, rows_of d (index.pairs d entry.root)))
      → AreOf (table_in d (pairs_from index d all)) (zip (names_in tables) (map (λ (entry : TableEntry). rows_of d (index.pairs d entry.root)) tables))
  are_of [] each = tt
  are_of (entry ∷ tables) each = (each 0 entry refl, are_of tables (λ j e is. each (suc j) e is))

pub gathered_are : (index : Index) → Laws index → (bytes : List ℕ) → index.sound bytes → AreOf (table_of index bytes) (zip (names_of bytes) (records_of index bytes))
unfolding table_of pairs_of
gathered_are index laws bytes sound =
    let counts = laws.counts bytes sound in
    let apart = apart_in bytes counts in
    let rise = λ (j : ℕ) (entry : TableEntry) (is : slice_get (tables_of bytes) j ≡ Some entry). laws.rises bytes j entry.root sound (ap (option_map (λ (e : TableEntry). e.root)) is) in
    are_of index bytes (tables_of bytes) apart rise (tables_of bytes) (is_of_entry index bytes (tables_of bytes) apart rise)

-- ---- each record is of a table that is named

some_or : (a b : Option ℕ) (slot : ℕ) → first_of a b ≡ Some slot → (a ≡ Some slot) ⊎ (b ≡ Some slot)
some_or None b slot is = inr is
some_or (Some s) b slot is = inl is

module _ (index : Index) (d : List ℕ) (q : Key) (slot : ℕ) where
  here_named : (name : List ℕ) (ps : List Pair) → found_key (map (in_table name) ps) q ≡ Some slot → name ≡ q.table
  here_named name ps is = go (pointwise nat_eq name q.table) (λ it. (name_decides name q.table).0 it) (sym (found_named name ps q) ∙ is)
    where
      go : (b : Bool) → (b ≡ true → name ≡ q.table) → cond b (found ps q.key) None ≡ Some slot → name ≡ q.table
      go true same there = same refl
      go false same there = absurd (cc)

  named_in : (tables : List TableEntry) → found_key (pairs_from index d tables) q ≡ Some slot → (j : ℕ) × (slice_get (names_in tables) j ≡ Some q.table)
  named_in [] is = absurd (cc)
  named_in (entry ∷ tables) is =
      ⊎_elim (λ here. (0, ap Some (here_named entry.name (index.pairs d entry.root) here))) (λ later. let rest = named_in tables later in (suc rest.0, rest.1))
      (some_or (found_key (map (in_table entry.name) (index.pairs d entry.root)) q) (found_key (pairs_from index d tables) q) slot
      (sym (found_behind (map (in_table entry.name) (index.pairs d entry.root)) (pairs_from index d tables) q) ∙ is))

pub all_named : (index : Index) (bytes : List ℕ) (q : Key) (value : List ℕ) → get (table_of index bytes) q ≡ Some value → (j : ℕ) × (slice_get (names_of bytes) j ≡ Some q.table)
unfolding table_of pairs_of
all_named index bytes q value is = go (found_key (pairs_from index bytes (tables_of bytes)) q) refl (sym (get-table_in bytes (pairs_from index bytes (tables_of bytes)) q) ∙ is)
  where
    go : (o : Option ℕ) → found_key (pairs_from index bytes (tables_of bytes)) q ≡ o → record_at bytes o ≡ Some value → (j : ℕ) × (slice_get (names_of bytes) j ≡ Some q.table)
    go None found there = absurd (cc)
    go (Some slot) found there = named_in index bytes q slot (tables_of bytes) found
