-- What the table and heads that were read say of the image.
use Rattle.std.proofs.Common.{◌≡◌, ℕ, ◌+◌, ◌<◌, ◌≤◌, List, sym, ◌∙◌, ap, subst, arith}
use Rattle.std.specs.Prelude.{not, ◌&&◌, nat_eq}
use Rattle.array_shape.specs.declared.shape.Shape.{Shape}
use Rattle.row_bytes.specs.declared.row.Row.{Row}
use Rattle.row_bytes.specs.declared.head.Head.{Head}
use Rattle.array_shape.specs.Logged.{IsOwned}
use Rattle.array_image.specs.Image.{row_of, cell_of, cell_head, IsGoodCell}
use Rattle.array_image.specs.Decided.{decided, decided_as}
use Rattle.array_image.specs.Votes.{dropped}
use Rattle.array_image.specs.Standing.{IsGoodRow}
use Rattle.array_image.proofs.Deciding.{decides_same}
use Rattle.device_recovery.specs.Table.{row_in, RowsAre, decided_in, is_one_of}
use Rattle.device_recovery.specs.declared.which.Which.TheVariants.{Dropped, DecidedAs}

module _ (shape : Shape) (image : List ℕ) (rows : List Row) (are : RowsAre shape image shape.numbers rows) (g t : ℕ) (lt : g < shape.loggers) (lt' : t < shape.numbers) where
  pub table_decided : decided_in shape rows g t ≡ decided shape image g t
  table_decided = decides_same shape.loggers shape.numbers (row_of shape image) (row_in rows) are g t lt lt'

  pub table_decided_as : (order : ℕ) → is_one_of shape rows (DecidedAs order) g t ≡ decided_as shape image order g t
  table_decided_as order = (λ i. table_decided i && nat_eq (are g t lt lt' i).order order)

  pub table_dropped : is_one_of shape rows Dropped g t ≡ dropped shape image g t
  table_dropped = (λ i. (are g t lt lt' i).voted && not (table_decided i))

  pub table_fits : IsGoodRow shape image g t → (row_in rows g t).first + (row_in rows g t).count ≤ shape.entries
  table_fits good = subst (λ (r : Row). r.first + r.count ≤ shape.entries) (sym (are g t lt lt')) good.fits

  pub table_good : (row : Row) → row ≡ row_in rows g t → row.first + row.count ≤ shape.entries → ((e : ℕ) → row.first ≤ e → e < row.first + row.count → IsGoodCell shape g (cell_of shape image g t e)) → IsGoodRow shape image g t
  table_good row is fits cells =
      let same = is ∙ are g t lt lt' in
      let first = ap (λ (r : Row). r.first) same in
      let count = ap (λ (r : Row). r.count) same in
      record { fits = omega (arith, first, count); cells = λ e from below. cells e (omega (arith, first)) (omega (arith, first, count)) }

  pub table_bad : (row : Row) → row ≡ row_in rows g t → (e : ℕ) → row.first ≤ e → e < row.first + row.count → (IsGoodCell shape g (cell_of shape image g t e) → ⊥) → IsGoodRow shape image g t → ⊥
  table_bad row is e from below bad good =
      let same = is ∙ are g t lt lt' in
      let first = ap (λ (r : Row). r.first) same in
      let count = ap (λ (r : Row). r.count) same in
      bad (good.cells e (omega (arith, first)) (omega (arith, first, count)))

-- the logger that was asked is this one
pub owned_same : (shape shape' : Shape) (g g' addr len : ℕ) → shape ≡ shape' → g ≡ g' → IsOwned shape g addr len → IsOwned shape' g' addr len
owned_same shape shape' g g' addr len is is' owned = subst (λ (k : ℕ). IsOwned shape' k addr len) is' (subst (λ (s : Shape). IsOwned s g addr len) is owned)

pub owned_is : (shape : Shape) (g : ℕ) (cell : List ℕ) (head : Head) → head ≡ cell_head cell → IsOwned shape g head.addr head.len → IsGoodCell shape g cell
owned_is shape g cell head is owned = subst (λ (h : Head). IsOwned shape g h.addr h.len) is owned

pub owned_from : (shape : Shape) (g : ℕ) (cell : List ℕ) (head : Head) → head ≡ cell_head cell → IsGoodCell shape g cell → IsOwned shape g head.addr head.len
owned_from shape g cell head is good = subst (λ (h : Head). IsOwned shape g h.addr h.len) (sym is) good
