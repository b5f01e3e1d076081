use Rattle.std.proofs.Common.{◌≡◌, arith}
use Rattle.mirror.specs.Rest.{AfterAddress}
use Rattle.mirror.proofs.Numbers.{number_begins, both_ways}
use Rattle.mirror.proofs.Parting.{part_splits, no_parts, group_splits, no_groups}
use Rattle.mirror.proofs.place.after_part.Goals as goal

pub returns-then-parts-gt0-clause-same : goal.returns-then-parts-gt0-clause-same
returns-then-parts-gt0-clause-same c shape shaped bytes =
    both_ways (part_splits shape shaped c.args.parts c.if-parts-gt0.true bytes)
    (number_begins (AfterAddress shape c.args.parts) 8 c.new.result.left c.new.result.value c.new.result.weight c.new.ensures.left c.new.ensures.value c.new.ensures.weight bytes)

pub returns-then-parts-gt0-2-clause-same : goal.returns-then-parts-gt0-2-clause-same
returns-then-parts-gt0-2-clause-same c shape shaped bytes =
    let none : c.args.parts.count ≡ 0 = omega (arith, c.if-parts-gt0.false) in
    both_ways (no_parts shape c.args.parts none bytes) (group_splits shape shaped c.args.parts.behind c.if-parts-gt0-2.true bytes)

pub returns-clause-same : goal.returns-clause-same
returns-clause-same c shape shaped bytes =
    let none : c.args.parts.count ≡ 0 = omega (arith, c.if-parts-gt0.false) in
    let last : c.args.parts.behind.count ≡ 0 = omega (arith, c.if-parts-gt0-2.false) in
    both_ways (no_parts shape c.args.parts none bytes) (no_groups shape c.args.parts.behind last bytes)

pub returns-then-parts-gt0-clause-ready : goal.returns-then-parts-gt0-clause-ready
returns-then-parts-gt0-clause-ready c shape entries = (omega (arith, c.new.ensures.left), c.if-parts-gt0.true, entries)

pub returns-then-parts-gt0-clause-begins : goal.returns-then-parts-gt0-clause-begins
returns-then-parts-gt0-clause-begins c = (c.new.ensures.left, c.new.ensures.value, c.new.ensures.weight)

pub returns-then-parts-gt0-2-clause-ready : goal.returns-then-parts-gt0-2-clause-ready
returns-then-parts-gt0-2-clause-ready c shape entries = (c.if-parts-gt0-2.true, entries.1)
