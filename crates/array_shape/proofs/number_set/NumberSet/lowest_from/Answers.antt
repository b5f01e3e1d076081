use Rattle.std.proofs.Common.{◌≡◌, ◌-◌, ◌/◌, ◌^◌, ◌<◌, ap, ◌∙◌, arith}
use Rattle.array_shape.specs.NumberSet.{numbers_from}
use Rattle.array_shape.proofs.Sets.{from_end, from_none, first_below, from_first}
use Rattle.array_shape.proofs.number_set.NumberSet.lowest_from.Goals as goal

pub returns-then-from-eq-NUMBERS_MAX-clause-none : goal.returns-then-from-eq-NUMBERS_MAX-clause-none
returns-then-from-eq-NUMBERS_MAX-clause-none c none =
    let last : c.args.from ≡ 64 = omega arith in
    ap (λ t. numbers_from c.args.self.bits t (64 - t)) last ∙ from_end c.args.self.bits

pub returns-then-rest-eq0-clause-none : goal.returns-then-rest-eq0-clause-none
returns-then-rest-eq0-clause-none c none = from_none c.args.self.bits c.args.from c.requires (omega arith)

pub returns-clause-some : goal.returns-clause-some
returns-clause-some c =
    let some : 0 < c.args.self.bits / 2 ^ c.args.from = omega arith in
    let small : c.args.self.bits < 2 ^ 64 = omega (arith, c.well_formed) in
    (first_below c.args.self.bits c.args.from small some, from_first c.args.self.bits c.args.from small some)
