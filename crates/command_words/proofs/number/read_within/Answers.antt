use Rattle.std.proofs.Common.{◌≡◌, sym, ◌∙◌, arith}
use Rattle.std.proofs.lemmas.Fmt.{decimal_injective}
use Rattle.command_words.proofs.number.read_within.Goals as goal

pub returns-in_err-read : goal.returns-in_err-read
returns-in_err-read c = rw c.from_residual.ensures (λ n within is. c.in_err-read.ensures n (omega (arith, within.1, c.from.ensures)) (c.as_bytes.ensures.value ∙ is))

pub returns-then-number-least : goal.returns-then-number-least
returns-then-number-least c = λ n within is.
    let read = c.in_ok-read.ensures in
    let same : c.in_ok-read.read ≡ n =
    decimal_injective c.in_ok-read.read n (omega (arith, read.0, c.from.ensures)) (omega (arith, within.1, c.ranges.most.fits)) (sym read.1 ∙ c.as_bytes.ensures.value ∙ is) in
    omega (arith, within.0, same, c.if-number-least.true)

pub returns : goal.returns
returns c = (
  (omega (arith, c.if-number-least.false), omega (arith, c.in_ok-read.ensures.0, c.from.ensures)),
  sym c.as_bytes.ensures.value ∙ c.in_ok-read.ensures.1,
)
