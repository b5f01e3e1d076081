use Rattle.std.proofs.Common.{arith, refl, ap, ◌∙◌, ◌≡◌, ◌≤◌, ◌+◌, ◌-◌, ◌*◌, ◌/◌, ◌<◌, ◌^◌, ℕ, get_or}
use Rattle.texts.proofs.Numbers.{one_digit, not_a_digit, too_large}
use Rattle.texts.proofs.number.read_digits.Goals as goal

past : (n d b : ℕ) → d ≡ b - 48 → b ≤ 57 → (18446744073709551615 - d) / 10 < n → 2 ^ 64 ≤ n * 10 + (b - 48)
past n d b is small more = omega arith

pub returns-then-not-is_ascii_digit : goal.returns-then-not-is_ascii_digit
returns-then-not-is_ascii_digit c = λ p. not_a_digit c.args.bytes.now c.loop-byte.byte-index _ c.loop-byte-test.true refl (λ r. grind (arith, c.if-not-is_ascii_digit.ensures.cases)) p.0

pub returns-then-n-digit : goal.returns-then-n-digit
returns-then-n-digit c = λ p.
    let range = c.if-not-is_ascii_digit.ensures.cases in
    let large = too_large c.args.bytes.now c.loop-byte.byte-index c.loop-byte.n (get_or c.args.bytes.now c.loop-byte.byte-index 0) c.loop-byte-test.true refl range c.loop-byte.invariant.value
    (past c.loop-byte.n c.from-digit.result _ c.from-digit.ensures range.1 c.if-n-digit.true) in
    omega (arith, large, p.1)

pub loop-byte-preserved : goal.loop-byte-preserved
loop-byte-preserved c =
    let both = one_digit c.args.bytes.now c.loop-byte.byte-index c.loop-byte.n _ c.loop-byte-test.true refl c.if-not-is_ascii_digit.ensures.cases c.loop-byte.invariant.all c.loop-byte.invariant.value in
    record { all = both.0; value = ap (λ d. c.loop-byte.n * 10 + d) c.from-digit.ensures ∙ both.1 }
