-- Order numbers that no decided row has, and sums over all order numbers.
use Rattle.std.proofs.Common.{◌≡◌, ℕ, ◌+◌, ◌<◌, ◌≤◌, cond, ◌&&◌, true, false, List, length, sym, ap, subst, arith}
use Rattle.std.specs.Prelude.{nat_eq, not}
use Rattle.std.proofs.lemmas.Bool.{and_parts, and_left, false_from_ne_true, eqb-true, eq-eqb}
use Rattle.array_shape.specs.declared.shape.Shape.{Shape}
use Rattle.row_bytes.specs.declared.row.Row.{Row}
use Rattle.array_image.specs.Image.{row_of}
use Rattle.array_image.specs.Decided.{decided, decided_as, orders}
use Rattle.device_recovery.specs.declared.which.Which.TheVariants.{DecidedAs, Dropped}
use Rattle.device_recovery.specs.Table.{row_in, RowsAre, HasOrder, decided_in, is_one_of, cells_in_order, rows_in_order, settle_calls}
use Rattle.device_recovery.specs.Recovered.{at_rows, row_name, cells_if, row_sum, total, clear_calls, apply_calls, cells_named, cells_as, rows_as, decided_rows, dropped_rows, recovery_calls, quiet_calls, HasNoVote}
use Rattle.device_recovery.proofs.Applying.{orders_are}
use Rattle.device_recovery.proofs.Lists.{counted_row, none_counted, same_rows, decided_count, dropped_count, none_without_votes, no_clear_calls}
use Rattle.device_recovery.proofs.Read.{table_decided, table_decided_as}
use Rattle.device_recovery.proofs.Totals.{total_past, total_same, row_sum_same, row_sum_none, cells_none, no_apply_calls}

module _ (shape : Shape) (rows : List Row) where
  module _ (o : ℕ) (none : (g t : ℕ) → g < shape.loggers → t < shape.numbers → decided_in shape rows g t ≡ true → (row_in rows g t).order ≡ o → ⊥) where
    not_as : (g t : ℕ) → g < shape.loggers → t < shape.numbers → is_one_of shape rows (DecidedAs o) g t ≡ false
    not_as g t lt lt' = false_from_ne_true (is_one_of shape rows (DecidedAs o) g t) (λ so.
        let both = and_parts (decided_in shape rows g t) (nat_eq (row_in rows g t).order o) so in none g t lt lt' both.0 (eqb-true (row_in rows g t).order o both.1))

    pub no_cells : cells_in_order shape rows o ≡ 0
    no_cells = row_sum_none shape (cells_if (is_one_of shape rows (DecidedAs o)) (row_in rows)) (λ g t lt lt'. cells_none (is_one_of shape rows (DecidedAs o)) (row_in rows) g t (not_as g t lt lt'))

    pub no_rows : rows_in_order shape rows o ≡ 0
    no_rows = none_counted shape (is_one_of shape rows (DecidedAs o)) not_as

  -- between one order number and the next that there is
  module _ (from order : ℕ) (le : from ≤ order) (least : (t : ℕ) → t < shape.numbers → (g : ℕ) → g < shape.loggers → decided_in shape rows g t ≡ true → from ≤ (row_in rows g t).order → (order ≤ (row_in rows g t).order) × ((row_in rows g t).order < 65536)) where
    between : (u : ℕ) → from ≤ u → u < order → (g t : ℕ) → g < shape.loggers → t < shape.numbers → decided_in shape rows g t ≡ true → (row_in rows g t).order ≡ u → ⊥
    between u past below g t lt lt' so is = let found = least t lt' g lt so (omega (arith, past, is)) in omega (arith, found.0, is, below)

    pub cells_past : total (cells_in_order shape rows) order ≡ total (cells_in_order shape rows) from
    cells_past = total_past from order le (cells_in_order shape rows) (λ u past below. no_cells u (between u past below))

    pub rows_past : total (λ o. clear_calls (rows_in_order shape rows o)) order ≡ total (λ o. clear_calls (rows_in_order shape rows o)) from
    rows_past = total_past from order le (λ o. clear_calls (rows_in_order shape rows o)) (λ u past below. no_clear_calls _ (no_rows u (between u past below)))

  -- behind the last
  module _ (from : ℕ) (most : from ≤ 65536) (none : (g t : ℕ) → g < shape.loggers → t < shape.numbers → decided_in shape rows g t ≡ true → (row_in rows g t).order < from) where
    all : from ≤ orders
    all = subst (λ (n : ℕ). from ≤ n) (sym orders_are) most

    behind : (u : ℕ) → from ≤ u → (g t : ℕ) → g < shape.loggers → t < shape.numbers → decided_in shape rows g t ≡ true → (row_in rows g t).order ≡ u → ⊥
    behind u past g t lt lt' so is = omega (arith, none g t lt lt' so, is, past)

    pub cells_behind : total (cells_in_order shape rows) orders ≡ total (cells_in_order shape rows) from
    cells_behind = total_past from orders all (cells_in_order shape rows) (λ u past below. no_cells u (behind u past))

    pub rows_behind : total (λ o. clear_calls (rows_in_order shape rows o)) orders ≡ total (λ o. clear_calls (rows_in_order shape rows o)) from
    rows_behind = total_past from orders all (λ o. clear_calls (rows_in_order shape rows o)) (λ u past below. no_clear_calls _ (no_rows u (behind u past)))

  -- a decided row with an order number is counted
  pub rows_some : (o : ℕ) → HasOrder shape rows o → 0 < rows_in_order shape rows o
  rows_some o has = counted_row shape (is_one_of shape rows (DecidedAs o)) has.logger has.tid has.one_logger has.one_number
      (λ i. has.is_decided i && eq-eqb (row_in rows has.logger has.tid).order o has.order_is i)

  pub decided_some : (o : ℕ) → HasOrder shape rows o → 0 < length (at_rows shape (decided_in shape rows) row_name)
  decided_some o has = counted_row shape (decided_in shape rows) has.logger has.tid has.one_logger has.one_number has.is_decided

-- what the table says of the image
module _ (shape : Shape) (image : List ℕ) (rows : List Row) (are : RowsAre shape image shape.numbers rows) where
  pub named_same : row_sum shape (cells_if (decided_in shape rows) (row_in rows)) ≡ cells_named shape image
  named_same = row_sum_same shape (cells_if (decided_in shape rows) (row_in rows)) (cells_if (decided shape image) (row_of shape image))
      (λ g t lt lt'. (λ i. cond (table_decided shape image rows are g t lt lt' i) (are g t lt lt' i).count 0))

  cells_same : (o : ℕ) → cells_in_order shape rows o ≡ cells_as shape image o
  cells_same o = row_sum_same shape (cells_if (is_one_of shape rows (DecidedAs o)) (row_in rows)) (cells_if (decided_as shape image o) (row_of shape image))
      (λ g t lt lt'. (λ i. cond (table_decided_as shape image rows are g t lt lt' o i) (are g t lt lt' i).count 0))

  rows_same : (o : ℕ) → rows_in_order shape rows o ≡ rows_as shape image o
  rows_same o = ap length (same_rows shape (is_one_of shape rows (DecidedAs o)) (decided_as shape image o) (λ g t lt lt'. table_decided_as shape image rows are g t lt lt' o))

  pub settle_same : quiet_calls shape + cells_named shape image + settle_calls shape rows ≡ recovery_calls shape image
  settle_same =
      let cells = total_same (cells_in_order shape rows) (cells_as shape image) orders (λ o lt. cells_same o) in
      let votes = total_same (λ o. clear_calls (rows_in_order shape rows o)) (λ o. clear_calls (rows_as shape image o)) orders (λ o lt. ap clear_calls (rows_same o)) in
      let parts : apply_calls (length (at_rows shape (decided_in shape rows) row_name)) (total (cells_in_order shape rows) orders) ≡ apply_calls (length (decided_rows shape image)) (total (cells_as shape image) orders) =
      (λ i. apply_calls (decided_count shape image rows are i) (cells i)) in
      let dropped : clear_calls (length (at_rows shape (is_one_of shape rows Dropped) row_name)) ≡ clear_calls (length (dropped_rows shape image)) = ap clear_calls (dropped_count shape image rows are) in
      omega (arith, parts, dropped, votes)

-- Without a vote nothing is named.
pub silent_named : (shape : Shape) (image : List ℕ) → HasNoVote shape image → cells_named shape image ≡ 0
silent_named shape image none = row_sum_none shape (cells_if (decided shape image) (row_of shape image)) (λ g t lt lt'. cells_none (decided shape image) (row_of shape image) g t (none_without_votes shape image none g t lt lt'))

pub silent_calls : (shape : Shape) (image : List ℕ) → HasNoVote shape image → recovery_calls shape image ≡ quiet_calls shape
silent_calls shape image none =
    let undecided = none_without_votes shape image none in
    let rows = none_counted shape (decided shape image) undecided in
    let dropped = none_counted shape (λ g t. (row_of shape image g t).voted && not (decided shape image g t)) (λ g t lt lt'. and_left (row_of shape image g t).voted _ (none g t lt lt')) in
    let none_as : (o : ℕ) → rows_as shape image o ≡ 0 = λ o. none_counted shape (decided_as shape image o) (λ g t lt lt'. and_left (decided shape image g t) _ (undecided g t lt lt')) in
    let votes : total (λ o. clear_calls (rows_as shape image o)) orders ≡ total (λ o. clear_calls (rows_as shape image o)) 0 =
    total_past 0 orders (omega arith) (λ o. clear_calls (rows_as shape image o)) (λ o past below. no_clear_calls _ (none_as o)) in
    omega (arith, silent_named shape image none, no_apply_calls _ (total (cells_as shape image) orders) rows, no_clear_calls _ dropped, votes)
