-- Sums over loggers and numbers.
use Rattle.std.proofs.Common.{◌≡◌, ℕ, ◌+◌, ◌≤◌, Bool, true, false, cond, ap, map, arith}
use Rattle.std.specs.Prelude.{sum}
use Rattle.std.specs.List.{range_with_len}
use Rattle.std.proofs.lemmas.List.FromFn.{sum_by-map-range_with_len_more, take-map-range_with_len}
use Rattle.std.proofs.lemmas.List.Sums.{sum_by-take-le}
use Rattle.coordinator.specs.Costs.{total}

pub total_more : (f : ℕ → ℕ) (n : ℕ) → total f (n + 1) ≡ total f n + f n
total_more f n = sum_by-map-range_with_len_more (λ (k : ℕ). k) f 0 n n (omega arith)

-- if the next one is known
pub total_next : (f : ℕ → ℕ) (n k : ℕ) → f n ≡ k → total f (n + 1) ≡ total f n + k
total_next f n k is = omega (arith, total_more f n, is)

pub total_le : (f : ℕ → ℕ) (n m : ℕ) → n ≤ m → total f n ≤ total f m
total_le f n m le = omega (arith, sum_by-take-le (λ (k : ℕ). k) (map f (range_with_len 0 m)) n, ap sum (take-map-range_with_len f 0 m n le))

-- one that a test takes, and one that it does not
pub counted : (b : Bool) (n : ℕ) → b ≡ true → cond b n 0 ≡ n
counted b n is = ap (λ (c : Bool). cond c n 0) is

pub not_counted : (b : Bool) (n : ℕ) → b ≡ false → cond b n 0 ≡ 0
not_counted b n is = ap (λ (c : Bool). cond c n 0) is
