use Rattle.std.proofs.Common.{inl, inr, ◌<◌, ◌≤◌, ◌+◌, ◌%◌, arith}
use Rattle.mirror.specs.Rest.{AfterLength}
use Rattle.mirror.proofs.Numbers.{number_goes, number_ends, both_ways}
use Rattle.mirror.proofs.place.take_length.Goals as goal

pub returns-then-number-gt0 : goal.returns-then-number-gt0
returns-then-number-gt0 c shape entries =
    let n = c.args.number in
    let next = c.take-number.result in
    let parts = c.args.parts in (
      (c.if-number-gt0.true, entries),
      inl (omega (arith, c.requires, c.take-number.ensures.left)),
      λ bytes.
          number_goes (AfterLength shape c.args.addr parts.count parts.held parts.behind) n.left next.left n.value n.weight next.value next.weight c.args.byte c.ranges.byte.fits c.requires c.take-number.ensures.left c.take-number.ensures.value c.take-number.ensures.weight bytes,
    )

pub returns : goal.returns
returns c shape entries =
    let n = c.args.number in
    let next = c.take-number.result in
    let parts = c.args.parts in
    let last : 0 < next.left → ⊥ = λ some. omega (arith, some, c.if-number-gt0.false) in
    let some : 0 < next.value = omega (arith, c.if-number-eq0.false) in
    let stripe : c.args.addr % 512 + next.value ≤ 512 = omega (arith, c.if-number-addr.false, some) in (
      (some, entries),
      inr tt,
      λ bytes.
          both_ways
          (number_ends (AfterLength shape c.args.addr parts.count parts.held parts.behind) n.left next.left n.value n.weight next.value c.args.byte c.ranges.byte.fits c.requires c.take-number.ensures.left last c.take-number.ensures.value bytes)
          ((λ all. all.2), (λ rest. (some, stripe, rest))),
    )
