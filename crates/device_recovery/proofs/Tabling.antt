-- A table of rows that gains one.
use Rattle.std.proofs.Common.{◌≡◌, ℕ, ◌+◌, ◌*◌, ◌<◌, List, length, get_or, set, sym, ◌∙◌, ap, arith}
use Rattle.std.proofs.lemmas.List.{get_or-set_same, get_or-set_other}
use Rattle.row_bytes.specs.declared.row.Row.{Row}
use Rattle.device_recovery.specs.Table.{no_row, row_in}

module _ (rows : List Row) (at g t : ℕ) (row : Row) (long : length rows ≡ 512) (is : at ≡ 8 * t + g) (below : at < 512) where
  pub row_put : row_in (set rows at row) g t ≡ row
  row_put = ap (λ (k : ℕ). get_or (set rows at row) k no_row) (sym is) ∙ get_or-set_same rows at row no_row (omega arith)

  pub row_kept : (h u : ℕ) → h < 8 → g < 8 → (h ≡ g → u ≡ t → ⊥) → row_in (set rows at row) h u ≡ row_in rows h u
  row_kept h u lt lt' ne = get_or-set_other rows at (8 * u + h) row no_row (λ same. ne (omega arith) (omega arith))
