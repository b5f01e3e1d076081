use Rattle.std.proofs.Common.{sym, subst, ℕ, suc, ◌≡◌, ◌-◌, ◌^◌, ◌≤◌, ◌<◌, ◌*◌, ap, ◌∙◌, arith}
use Rattle.std.proofs.Math.Nat.{pow-suc, pow-le-pow_right, one-le-pow, mul-le-mul_left}
use Rattle.mirror.proofs.partial_number.PartialNumber.take.Goals as goal
use Rattle.mirror.proofs.partial_number.PartialNumber.take.Goals.{then-left-gt0, else-left-gt0}

-- the weight of the byte behind the next one is not beyond eight bytes
room : (left weight : ℕ) → 0 < left → weight * 256 ^ left ≤ 256 ^ 8 → weight * 256 * 256 ^ (left - 1) ≤ 256 ^ 8
room left weight some fits =
    let is : suc (left - 1) ≡ left = omega arith in
    let power : 256 ^ left ≡ 256 ^ (left - 1) * 256 = ap (λ (l : ℕ). 256 ^ l) (sym is) ∙ pow-suc 256 (left - 1) in
    let same : weight * 256 ^ left ≡ weight * 256 * 256 ^ (left - 1) = ap (λ (p : ℕ). weight * p) power ∙ omega arith in
    omega (arith, same, fits)

below : (left weight : ℕ) → weight * 256 * 256 ^ (left - 1) ≤ 256 ^ 8 → weight * 256 ≤ 256 ^ 8
below left weight fits = omega (arith, fits, mul-le-mul_left (weight * 256) (one-le-pow (left - 1) 256 (omega arith)))

high : (weight byte : ℕ) → byte < 256 → weight * byte ≤ weight * 255
high weight byte small = mul-le-mul_left weight (omega arith)

two_at_least : (k : ℕ) → 0 < k → 256 ≤ 256 ^ k
two_at_least k some = pow-le-pow_right {n = 256} (omega arith) {i = 1} {j = k} (omega arith)

pub overflow_mul-weight : goal.overflow_mul-weight
overflow_mul-weight c =
    let partial = c.args.self.partial c.requires in
    let fits = room c.args.self.left c.args.self.weight c.requires partial.1 in
    let more : 256 ≤ 256 ^ (c.args.self.left - 1) = two_at_least (c.args.self.left - 1) (omega (arith, c.if-left-gt0.true)) in
    omega (arith, fits, mul-le-mul_left (c.args.self.weight * 256) more, partial.0)

pub overflow_mul-result : goal.overflow_mul-result
overflow_mul-result c =
    let partial = c.args.self.partial c.requires in
    let most = below c.args.self.left c.args.self.weight (room c.args.self.left c.args.self.weight c.requires partial.1) in
    let product : c.args.self.weight * c.from.result ≤ c.args.self.weight * 255 = high c.args.self.weight c.from.result (omega (arith, c.from.ensures, c.ranges.byte.fits)) in
    omega (arith, most, product, partial.0)

pub overflow_add-result : goal.overflow_add-result
overflow_add-result c =
    let partial = c.args.self.partial c.requires in
    let most = below c.args.self.left c.args.self.weight (room c.args.self.left c.args.self.weight c.requires partial.1) in
    let product : c.args.self.weight * c.from.result ≤ c.args.self.weight * 255 = high c.args.self.weight c.from.result (omega (arith, c.from.ensures, c.ranges.byte.fits)) in
    omega (arith, most, product, partial.0)

pub invariant_of-result : goal.invariant_of-result
invariant_of-result c = record {
  partial = λ more.
      let partial = c.args.self.partial c.requires in
      let fits = room c.args.self.left c.args.self.weight c.requires partial.1 in
      let product : c.args.self.weight * c.from.result ≤ c.args.self.weight * 255 = high c.args.self.weight c.from.result (omega (arith, c.from.ensures, c.ranges.byte.fits)) in
      elim c.if-left-gt0.branch [
        | then-left-gt0 w ↦ (omega (arith, product, partial.0, w.weight-is), subst (λ (v : ℕ). v * 256 ^ (c.args.self.left - 1) ≤ 256 ^ 8) (sym w.weight-is) fits)
        | else-left-gt0 w ↦ absurd (omega (arith, w.if-left-gt0.false, more))
      ];
}
