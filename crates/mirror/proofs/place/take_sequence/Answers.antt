use Rattle.std.proofs.Common.{◌<◌, inl, inr, arith}
use Rattle.mirror.specs.Rest.{AfterSequence, AfterGroupCount}
use Rattle.mirror.proofs.Numbers.{number_goes, number_ends, number_begins, both_ways}
use Rattle.mirror.proofs.place.take_sequence.Goals as goal

pub returns-then-number-gt0-clause-same : goal.returns-then-number-gt0-clause-same
returns-then-number-gt0-clause-same c shape bytes =
    let n = c.args.number in
    let next = c.take-number.result in
    number_goes (AfterSequence shape) n.left next.left n.value n.weight next.value next.weight c.args.byte c.ranges.byte.fits c.requires c.take-number.ensures.left c.take-number.ensures.value c.take-number.ensures.weight bytes

pub returns-clause-same : goal.returns-clause-same
returns-clause-same c shape bytes =
    let n = c.args.number in
    let next = c.take-number.result in
    let last : 0 < next.left → ⊥ = λ some. omega (arith, some, c.if-number-gt0.false) in
    both_ways
    (number_ends (AfterSequence shape) n.left next.left n.value n.weight next.value c.args.byte c.ranges.byte.fits c.requires c.take-number.ensures.left last c.take-number.ensures.value bytes)
    (number_begins (AfterGroupCount shape) 2 c.new.result.left c.new.result.value c.new.result.weight c.new.ensures.left c.new.ensures.value c.new.ensures.weight bytes)

pub returns-then-number-gt0-clause-goes_on : goal.returns-then-number-gt0-clause-goes_on
returns-then-number-gt0-clause-goes_on c = inl (omega (arith, c.requires, c.take-number.ensures.left))

pub returns-clause-goes_on : goal.returns-clause-goes_on
returns-clause-goes_on c = inr (c.new.ensures.left, c.new.ensures.value, c.new.ensures.weight)
