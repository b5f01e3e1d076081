use Rattle.std.proofs.Common.{◌<◌, inl, inr, arith}
use Rattle.mirror.specs.Rest.{AfterGroupCount}
use Rattle.mirror.proofs.Numbers.{number_goes, number_ends, both_ways}
use Rattle.mirror.proofs.Parting.{group_splits, rise_most}
use Rattle.mirror.proofs.place.take_group_count.Goals as goal

pub returns-then-number-gt0 : goal.returns-then-number-gt0
returns-then-number-gt0 c =
    let n = c.args.number in
    let next = c.take-number.result in (
      c.if-number-gt0.true,
      inl (omega (arith, c.requires, c.take-number.ensures.left)),
      λ bytes.
          number_goes (AfterGroupCount c.args.shape) n.left next.left n.value n.weight next.value next.weight c.args.byte c.ranges.byte.fits c.requires c.take-number.ensures.left c.take-number.ensures.value c.take-number.ensures.weight bytes,
    )

pub returns-then-number-from : goal.returns-then-number-from
returns-then-number-from c bytes r =
    let n = c.args.number in
    let next = c.take-number.result in
    let last : 0 < next.left → ⊥ = λ some. omega (arith, some, c.if-number-gt0.false) in
    let all = ((number_ends (AfterGroupCount c.args.shape) n.left next.left n.value n.weight next.value c.args.byte c.ranges.byte.fits c.requires c.take-number.ensures.left last c.take-number.ensures.value bytes).0 r).1 in
    let most = rise_most c.args.shape 0 all.list (omega arith) all.rise all.good in
    omega (arith, most, all.count, c.if-number-from.true, c.from.ensures)

pub returns : goal.returns
returns c =
    let n = c.args.number in
    let next = c.take-number.result in
    let last : 0 < next.left → ⊥ = λ some. omega (arith, some, c.if-number-gt0.false) in
    let some : 0 < next.value = omega (arith, c.if-number-eq0.false) in (
      (some, omega (arith, c.if-number-from.false, c.from.ensures)),
      inr tt,
      λ bytes.
          let split = group_splits c.args.shape c.args.shape.in_range (record { count = next.value; low = 0 }) some bytes in
          both_ways
          (number_ends (AfterGroupCount c.args.shape) n.left next.left n.value n.weight next.value c.args.byte c.ranges.byte.fits c.requires c.take-number.ensures.left last c.take-number.ensures.value bytes)
          ((λ all. split.0 all.1), (λ first. (some, split.1 first))),
    )
