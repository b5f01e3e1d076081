use Rattle.std.proofs.Common.{◌≤◌, ◌<◌, ◌-◌, ℕ, List, ◌++◌, length, take, ap, ◌∙◌, arith}
use Rattle.std.proofs.lemmas.List.{length-append, length-take}
use Rattle.script_run.proofs.input.read_input.Goals as goal

long : (input buf left : List ℕ) (n : ℕ) → n ≤ length buf → 16777216 - length input < n → 16777216 < length (input ++ (take n buf ++ left))
long input buf left n fits more = omega (arith, length-append input (take n buf ++ left), length-append (take n buf) left, length-take n buf)

pub returns-then-count-len-clause-too_long : goal.returns-then-count-len-clause-too_long
returns-then-count-len-clause-too_long g c = λ is.
    let left = g.S.Source.left c.read.new.self in (
      c.loop-count.input.items ++ (take c.in-Ok.count c.read.new.buf ++ left),
      long c.loop-count.input.items c.read.new.buf left c.in-Ok.count c.in-Ok.ensures.bound (omega (arith, c.if-count-len.true, c.len.ensures)),
      λ tells. c.loop-count.invariant.told tells ∙ ap (λ x. c.loop-count.input.items ++ x) (c.in-Ok.ensures.bytes tells).0,
    )
