-- One more record behind those of tables.
use Rattle.std.proofs.Common.{◌≡◌, ℕ, zero, suc, ◌+◌, ◌<◌, List, [], ◌∷◌, ◌++◌, length, get_or, refl, sym, ap, ◌∙◌, arith, append_assoc, append-nil}
use Rattle.std.specs.Prelude.{slice_set}
use Rattle.history.specs.Key.{Key}
use Rattle.history.specs.Writes.{Row}
use Rattle.history.specs.Rows.{NamedRows, keyed, all_keyed, records_in}

keyed_more : (name : List ℕ) (rows : List Row) (row : Row) → all_keyed name (rows ++ row ∷ []) ≡ all_keyed name rows ++ keyed name row ∷ []
keyed_more name [] row = refl
keyed_more name (other ∷ rows) row = ap (λ (es : List (Key × List ℕ)). keyed name other ∷ es) (keyed_more name rows row)

-- what stands in a place is one thing
pub same_item : (tables : List NamedRows) (n : ℕ) (one other : NamedRows) → n < length tables → one ≡ get_or tables n one → other ≡ get_or tables n other → one ≡ other
same_item [] n one other within first second = absurd (omega (arith, within))
same_item (table ∷ tables) zero one other within first second = first ∙ sym second
same_item (table ∷ tables) (suc n) one other within first second = same_item tables n one other (omega (arith, within)) first second

-- in the last table
pub records-add : (tables : List NamedRows) (n : ℕ) (last : NamedRows) (row : Row) → length tables ≡ n + 1 → last ≡ get_or tables n last
    → records_in (slice_set tables n (last.0, last.1 ++ row ∷ [])) ≡ records_in tables ++ keyed last.0 row ∷ []
records-add [] n last row count is = absurd (omega (arith, count))
records-add (table ∷ []) zero last row count is =
    append-nil (all_keyed last.0 (last.1 ++ row ∷ [])) ∙ keyed_more last.0 last.1 row
    ∙ (λ i. (all_keyed (is i).0 (is i).1 ++ keyed last.0 row ∷ []))
    ∙ ap (λ (es : List (Key × List ℕ)). es ++ keyed last.0 row ∷ []) (sym (append-nil (all_keyed table.0 table.1)))
records-add (table ∷ (other ∷ tables)) zero last row count is = absurd (omega (arith, count))
records-add (table ∷ tables) (suc n) last row count is =
    ap (λ (es : List (Key × List ℕ)). all_keyed table.0 table.1 ++ es) (records-add tables n last row (omega (arith, count)) is)
    ∙ sym (append_assoc (all_keyed table.0 table.1) (records_in tables) (keyed last.0 row ∷ []))

-- in a table more
pub records-push : (tables : List NamedRows) (name : List ℕ) (row : Row) → records_in (tables ++ (name, row ∷ []) ∷ []) ≡ records_in tables ++ keyed name row ∷ []
records-push [] name row = refl
records-push (table ∷ tables) name row =
    ap (λ (es : List (Key × List ℕ)). all_keyed table.0 table.1 ++ es) (records-push tables name row)
    ∙ sym (append_assoc (all_keyed table.0 table.1) (records_in tables) (keyed name row ∷ []))
