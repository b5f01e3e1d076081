-- The lines of tables are those of their records.
use Rattle.std.proofs.Common.{◌≡◌, suc, ◌+◌, List, ℕ, [], ◌∷◌, ◌++◌, length, length-append, refl, sym, ap, ◌∙◌, arith}
use Rattle.std.specs.List.{flat_map, sum_by}
use Rattle.std.proofs.lemmas.List.Concat.{flat_map-append}
use Rattle.std.proofs.lemmas.List.Sums.{sum_by-append}
use Rattle.history.specs.Rows.{NamedRows, keyed, all_keyed, records_in}
use Rattle.history.specs.Writes.{Row}
use Rattle.history_text.specs.Text.{record_line}

-- the line of a row of the table of this name, and those of a table's rows
abbrev pub row_line : List ℕ → Row → List ℕ
row_line name row = record_line (keyed name row)

abbrev pub table_lines : NamedRows → List ℕ
table_lines table = flat_map record_line (all_keyed table.0 table.1)

pub keyed_lines : (name : List ℕ) (rows : List Row) → flat_map (row_line name) rows ≡ flat_map record_line (all_keyed name rows)
keyed_lines name [] = refl
keyed_lines name (row ∷ rows) = ap (λ (l : List ℕ). row_line name row ++ l) (keyed_lines name rows)

pub all_lines : (tables : List NamedRows) → flat_map table_lines tables ≡ flat_map record_line (records_in tables)
all_lines [] = refl
all_lines (table ∷ tables) = ap (λ (l : List ℕ). table_lines table ++ l) (all_lines tables) ∙ sym (flat_map-append record_line (all_keyed table.0 table.1) (records_in tables))

-- how many records rows are
pub as_many : (name : List ℕ) (rows : List Row) → length (all_keyed name rows) ≡ length rows
as_many name [] = refl
as_many name (row ∷ rows) = ap suc (as_many name rows)

pub all_counted : (tables : List NamedRows) → sum_by (λ (table : NamedRows). length table.1) tables ≡ length (records_in tables)
all_counted [] = refl
all_counted (table ∷ tables) =
    sum_by-append (λ (t : NamedRows). length t.1) (table ∷ []) tables ∙ (λ i. one i + all_counted tables i) ∙ sym (length-append (all_keyed table.0 table.1) (records_in tables))
  where
    one : 0 + length table.1 ≡ length (all_keyed table.0 table.1)
    one = omega (arith, as_many table.0 table.1)
