use Rattle.std.proofs.Common.{◌≡◌, ◌<◌, ◌*◌, inl, inr, arith}
use Rattle.std.specs.Prelude.{replicate}
use Rattle.mirror.specs.Rest.{AfterPartCount}
use Rattle.mirror.proofs.Numbers.{number_goes, number_ends, both_ways}
use Rattle.mirror.proofs.Holding.{room_most, all_free}
use Rattle.mirror.proofs.place.take_part_count.Goals as goal

pub returns-then-number-gt0 : goal.returns-then-number-gt0
returns-then-number-gt0 c =
    let n = c.args.number in
    let next = c.take-number.result in (
      (c.if-number-gt0.true, c.requires.groups),
      inl (omega (arith, c.requires.number, c.take-number.ensures.left)),
      λ bytes.
          number_goes (AfterPartCount c.args.shape c.args.groups) n.left next.left n.value n.weight next.value next.weight c.args.byte c.ranges.byte.fits c.requires.number c.take-number.ensures.left c.take-number.ensures.value c.take-number.ensures.weight bytes,
    )

pub returns-then-number-most : goal.returns-then-number-most
returns-then-number-most c bytes r =
    let n = c.args.number in
    let next = c.take-number.result in
    let last : 0 < next.left → ⊥ = λ some. omega (arith, some, c.if-number-gt0.false) in
    let all = ((number_ends (AfterPartCount c.args.shape c.args.groups) n.left next.left n.value n.weight next.value c.args.byte c.ranges.byte.fits c.requires.number c.take-number.ensures.left last c.take-number.ensures.value bytes).0 r).1 in
    let most = room_most c.args.shape (omega (arith, c.args.shape.in_range.some_loggers)) (replicate 8 0) all.list all.room in
    let product : c.from.result * c.from-2.result ≡ c.args.shape.loggers * c.args.shape.entries = λ i. c.from.ensures i * c.from-2.ensures i in
    omega (arith, most, all.count, c.if-number-most.true, product)

pub returns : goal.returns
returns c =
    let n = c.args.number in
    let next = c.take-number.result in
    let last : 0 < next.left → ⊥ = λ some. omega (arith, some, c.if-number-gt0.false) in
    let product : c.from.result * c.from-2.result ≡ c.args.shape.loggers * c.args.shape.entries = λ i. c.from.ensures i * c.from-2.ensures i in
    let some : 0 < next.value = omega (arith, c.if-number-eq0.false) in (
      c.after_part.ensures.ready c.args.shape (omega (arith, c.if-number-most.false, product, all_free c.args.shape c.args.shape.in_range.most_loggers), c.requires.groups),
      inr c.after_part.ensures.begins,
      λ bytes.
          both_ways
          (number_ends (AfterPartCount c.args.shape c.args.groups) n.left next.left n.value n.weight next.value c.args.byte c.ranges.byte.fits c.requires.number c.take-number.ensures.left last c.take-number.ensures.value bytes)
          (let same = c.after_part.ensures.same c.args.shape c.args.shape.in_range bytes in
          ((λ all. same.0 all.1), (λ rest. (some, same.1 rest)))),
    )
