-- Sums over rows and over order numbers.
use Rattle.std.proofs.Common.{◌≡◌, ℕ, zero, suc, ◌+◌, ◌-◌, ◌*◌, ◌/◌, ◌%◌, ◌<◌, ◌≤◌, Bool, true, false, cond, map, refl, sym, ◌∙◌, ap, arith}
use Rattle.std.specs.Prelude.{sum}
use Rattle.std.specs.List.{range_with_len}
use Rattle.std.proofs.lemmas.Bool.{ne_eqb}
use Rattle.std.proofs.lemmas.List.FromFn.{sum_by-map-range_with_len_more, take-map-range_with_len}
use Rattle.std.proofs.lemmas.List.Sums.{sum_by-take-le}
use Rattle.std.proofs.lemmas.Nat.{div_below}
use Rattle.std.proofs.Math.Nat.{mod-lt}
use Rattle.array_shape.specs.declared.shape.Shape.{Shape}
use Rattle.row_bytes.specs.declared.row.Row.{Row}
use Rattle.device_recovery.specs.Recovered.{total, row_sum, cells_if, apply_calls}

pub total_more : (f : ℕ → ℕ) (n : ℕ) → total f (n + 1) ≡ total f n + f n
total_more f n = sum_by-map-range_with_len_more (λ (k : ℕ). k) f 0 n n (omega arith)

pub total_le : (f : ℕ → ℕ) (n m : ℕ) → n ≤ m → total f n ≤ total f m
total_le f n m le = omega (arith, sum_by-take-le (λ (k : ℕ). k) (map f (range_with_len 0 m)) n, ap sum (take-map-range_with_len f 0 m n le))

total_by : (f : ℕ → ℕ) (from k : ℕ) → ((u : ℕ) → from ≤ u → u < from + k → f u ≡ 0) → total f (from + k) ≡ total f from
total_by f from zero none = ap (total f) (let same : from + 0 ≡ from = omega arith in same)
total_by f from (suc k) none =
    let next : from + suc k ≡ from + k + 1 = omega arith in
    ap (total f) next ∙ omega (arith, total_more f (from + k), none (from + k) (omega arith) (omega arith), total_by f from k (λ u past below. none u past (omega arith)))

-- over numbers at which there is nothing
pub total_past : (from to : ℕ) → from ≤ to → (f : ℕ → ℕ) → ((u : ℕ) → from ≤ u → u < to → f u ≡ 0) → total f to ≡ total f from
total_past from to le f none = ap (total f) (let far : to ≡ from + (to - from) = omega arith in far) ∙ total_by f from (to - from) (λ u past below. none u past (omega arith))

pub total_same : (f h : ℕ → ℕ) (n : ℕ) → ((k : ℕ) → k < n → f k ≡ h k) → total f n ≡ total h n
total_same f h zero same = refl
total_same f h (suc n) same =
    let next : suc n ≡ n + 1 = omega arith in
    ap (total f) next ∙ omega (arith, total_more f n, total_more h n, same n (omega arith), total_same f h n (λ k lt. same k (omega arith))) ∙ ap (total h) (sym next)

module _ (shape : Shape) where
  pub row_sum_same : (f h : ℕ → ℕ → ℕ) → ((g t : ℕ) → g < shape.loggers → t < shape.numbers → f g t ≡ h g t) → row_sum shape f ≡ row_sum shape h
  row_sum_same f h same = total_same (λ n. f (n % shape.loggers) (n / shape.loggers)) (λ n. h (n % shape.loggers) (n / shape.loggers)) (shape.loggers * shape.numbers) (λ n lt.
      same (n % shape.loggers) (n / shape.loggers) (mod-lt n (omega arith)) (div_below n shape.loggers shape.numbers (omega arith) (omega (arith, lt))))

  row_sum_zero : (n : ℕ) → total (λ k. 0) n ≡ 0
  row_sum_zero n = total_past 0 n (omega arith) (λ k. 0) (λ u past below. refl)

  pub row_sum_none : (f : ℕ → ℕ → ℕ) → ((g t : ℕ) → g < shape.loggers → t < shape.numbers → f g t ≡ 0) → row_sum shape f ≡ 0
  row_sum_none f none = row_sum_same f (λ g t. 0) none ∙ row_sum_zero (shape.loggers * shape.numbers)

  -- one row more
  pub row_sum_more : (f : ℕ → ℕ → ℕ) (n g t k : ℕ) → g ≡ n % shape.loggers → t ≡ n / shape.loggers → f g t ≡ k → total (λ m. f (m % shape.loggers) (m / shape.loggers)) (n + 1) ≡ total (λ m. f (m % shape.loggers) (m / shape.loggers)) n + k
  row_sum_more f n g t k is is' here =
      let at : f (n % shape.loggers) (n / shape.loggers) ≡ k = (λ i. f (sym is i) (sym is' i)) ∙ here in
      omega (arith, total_more (λ m. f (m % shape.loggers) (m / shape.loggers)) n, at)

  pub row_sum_le : (f : ℕ → ℕ → ℕ) (n : ℕ) → n ≤ shape.loggers * shape.numbers → total (λ m. f (m % shape.loggers) (m / shape.loggers)) n ≤ row_sum shape f
  row_sum_le f n le = total_le (λ m. f (m % shape.loggers) (m / shape.loggers)) n (shape.loggers * shape.numbers) le

-- the cells of a row that passes the test, and of one that does not
pub cells_some : (test : ℕ → ℕ → Bool) (rows : ℕ → ℕ → Row) (g t : ℕ) → test g t ≡ true → cells_if test rows g t ≡ (rows g t).count
cells_some test rows g t is = ap (λ (b : Bool). cond b (rows g t).count 0) is

pub cells_none : (test : ℕ → ℕ → Bool) (rows : ℕ → ℕ → Row) (g t : ℕ) → test g t ≡ false → cells_if test rows g t ≡ 0
cells_none test rows g t is = ap (λ (b : Bool). cond b (rows g t).count 0) is

pub no_apply_calls : (rows cells : ℕ) → rows ≡ 0 → apply_calls rows cells ≡ 0
no_apply_calls rows cells none = ap (λ (n : ℕ). apply_calls n cells) none

pub some_apply_calls : (rows cells : ℕ) → 0 < rows → apply_calls rows cells ≡ 2 * cells + 1
some_apply_calls rows cells some = ap (λ (b : Bool). cond b 0 (2 * cells + 1)) (ne_eqb rows 0 (λ none. omega arith))
