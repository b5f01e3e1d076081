use Rattle.std.proofs.Common.{arith, sym, eqb-true}
use Rattle.std.proofs.lemmas.Bool.{eqb-false}
use Rattle.texts.proofs.Numbers.{empty_is_none, leading_zero_is_none, number_or_none}
use Rattle.texts.proofs.number.read_u64.Goals as goal
use Rattle.texts.proofs.number.read_u64.Goals.{else-bytes-gt1-via-then-bytes-gt1+else-bytes-eq48, else-bytes-gt1-via-else-bytes-gt1}

pub returns-then-is_empty : goal.returns-then-is_empty
returns-then-is_empty c = λ n fits is. empty_is_none c.args.bytes.now n (eqb-true _ _ (sym c.if-is_empty.ensures)) fits is

pub returns-then-bytes-eq48 : goal.returns-then-bytes-eq48
returns-then-bytes-eq48 c = λ n fits is. leading_zero_is_none n c.args.bytes.now c.if-bytes-gt1.true c.if-bytes-eq48.true fits is

pub returns : goal.returns
returns c =
    let filled = eqb-false _ _ (sym c.if-is_empty.ensures) in
    number_or_none c.args.bytes.now c.read_digits.result (omega (arith, filled))
    (λ long zero. elim c.else-bytes-gt1.branch [
      | else-bytes-gt1-via-then-bytes-gt1+else-bytes-eq48 w ↦ w.if-bytes-eq48.false zero
      | else-bytes-gt1-via-else-bytes-gt1 w ↦ omega (arith, w.if-bytes-gt1.false, long)
    ]) c.read_digits.ensures
