-- The records of one table among those of all: rows under its name.
use Rattle.std.proofs.Common.{◌≡◌, ℕ, Bool, true, false, cond, ◌&&◌, List, [], ◌∷◌, map, Some, None, refl, sym, ap, subst, ◌∙◌}
use Rattle.std.specs.Prelude.{nat_eq, T}
use lib.Pointwise.{pointwise}
use Rattle.std.specs.Ordering.{nat_cmp, ordering_then, is_lt, eq_by_cmp}
use Rattle.std.specs.Cmp.{unsigned_ties, tied_itself, nat_eq_equiv}
use Rattle.std.specs.Cmp.Lexicographic.{nat_list_cmp_total}
use Rattle.std.specs.FinMap.{get, entries, from_entries, entries_sorted, get-entries, get-from_entries}
use Rattle.std.specs.FinMap.Entries.{find, below_all, is_sorted, where_key, is_sorted-where_key, find-where_key, same_entries}
use Rattle.history.specs.Key.{Key, key_cmp, is_of_table}
use Rattle.history.specs.Writes.{Table, Row, rows_of}
use Rattle.history.specs.Rows.{keyed, all_keyed}
use Rattle.history.proofs.Keys.{key_cmp_total, key_cmp-IsAntisymmetric, tied, name_decides}

-- records by strictly rising key are those of their table
pub entries-from_entries : (es : List (Key × List ℕ)) → T (is_sorted key_cmp es) → entries (from_entries {R = key_cmp} es) ≡ es
entries-from_entries es sorted =
    same_entries key_cmp key_cmp_total key_cmp-IsAntisymmetric (entries (from_entries es)) es (entries_sorted (from_entries es)) sorted
    (λ q. sym (get-entries (from_entries es) q) ∙ get-from_entries key_cmp_total es q)

module _ (name : List ℕ) where
  own_name : pointwise nat_eq name name ≡ true
  own_name = (name_decides name name).1 refl

  -- what is found under the name is found under the number
  pub find-keyed : (rows : List Row) (q : Key) → find key_cmp q (all_keyed name rows) ≡ cond (is_of_table name q) (find nat_cmp q.key rows) None
  find-keyed [] q = none (is_of_table name q)
    where
      none : (b : Bool) → find key_cmp q [] ≡ cond b (find {X = List ℕ} nat_cmp q.key []) None
      none true = refl
      none false = refl
  find-keyed (row ∷ rows) q =
      ap (λ (b : Bool). cond b (Some row.1) (find key_cmp q (all_keyed name rows))) (tied q (keyed name row).0)
      ∙ ap (cond (is_of_table name q && nat_eq row.0 q.key) (Some row.1)) (find-keyed rows q)
      ∙ go (is_of_table name q) (nat_eq row.0 q.key)
      ∙ ap (λ (b : Bool). cond (is_of_table name q) (cond b (Some row.1) (find nat_cmp q.key rows)) None) (turned row.0 q.key)
    where
      go : (b c : Bool) → cond (b && c) (Some row.1) (cond b (find nat_cmp q.key rows) None) ≡ cond b (cond c (Some row.1) (find nat_cmp q.key rows)) None
      go true c = refl
      go false c = refl

      turned : (a b : ℕ) → nat_eq a b ≡ eq_by_cmp nat_cmp b a
      turned a b = nat_eq_equiv.symm a b ∙ unsigned_ties b a

  -- a table of rows by strictly rising number has its records by strictly rising key
  below-keyed : (number : ℕ) (rows : List Row) → below_all nat_cmp number rows ≡ below_all key_cmp (record { table = name; key = number }) (all_keyed name rows)
  unfolding key_cmp
  below-keyed number [] = refl
  below-keyed number (row ∷ rows) = λ i. is_lt (ordering_then (sym (tied_itself nat_list_cmp_total name) i) (nat_cmp number row.0)) && below-keyed number rows i

  pub sorted-keyed : (rows : List Row) → is_sorted nat_cmp rows ≡ is_sorted key_cmp (all_keyed name rows)
  sorted-keyed [] = refl
  sorted-keyed (row ∷ rows) = λ i. below-keyed row.0 rows i && sorted-keyed rows i

  rows_keyed : (rows : List Row) → map (λ (entry : Key × List ℕ). (entry.0.key, entry.1)) (all_keyed name rows) ≡ rows
  rows_keyed [] = refl
  rows_keyed (row ∷ rows) = ap (λ (l : List Row). row ∷ l) (rows_keyed rows)

  -- The records of the table of this name are these rows, if under each number the same is found.
  pub rows_of-found : (table : Table) (rows : List Row) → T (is_sorted nat_cmp rows) → ((k : ℕ) → get table (record { table = name; key = k }) ≡ find nat_cmp k rows) → rows_of name table ≡ rows
  rows_of-found table rows sorted same =
      ap (map (λ (entry : Key × List ℕ). (entry.0.key, entry.1)))
      (same_entries key_cmp key_cmp_total key_cmp-IsAntisymmetric (where_key key_cmp (is_of_table name) (entries table)) (all_keyed name rows)
      (is_sorted-where_key key_cmp (is_of_table name) (entries table) (entries_sorted table)) (subst T (sorted-keyed rows) sorted)
      (λ q. find-where_key key_cmp (is_of_table name) q (λ x t. ap (is_of_table name) (sym (key_cmp-IsAntisymmetric q x t))) (entries table)
      ∙ here q (is_of_table name q) refl ∙ sym (find-keyed rows q)))
      ∙ rows_keyed rows
    where
      here : (q : Key) (b : Bool) → is_of_table name q ≡ b → cond b (find key_cmp q (entries table)) None ≡ cond b (find nat_cmp q.key rows) None
      here q false is = refl
      here q true is =
          let at : name ≡ q.table = (name_decides name q.table).0 is in
          sym (get-entries table q) ∙ ap (get table) (λ i. record { table = sym at i; key = q.key }) ∙ same q.key
