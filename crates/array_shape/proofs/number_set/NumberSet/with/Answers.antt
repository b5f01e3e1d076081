use Rattle.std.proofs.Common.{ap, arith, w64}
use Rattle.std.specs.Prelude.{nat_eq}
use Rattle.std.proofs.lemmas.Bool.{eq-eqb}
use Rattle.std.proofs.lemmas.Nat.Bits.{bit_at_set_same, bit_at_set_other}
use Rattle.array_shape.proofs.number_set.NumberSet.with.Goals as goal

pub returns-clause-here : goal.returns-clause-here
returns-clause-here c = eq-eqb _ 1 (bit_at_set_same w64 c.args.self.bits c.args.tid (omega arith))

pub returns-clause-others : goal.returns-clause-others
returns-clause-others c t ne = ap (λ b. nat_eq b 1) (bit_at_set_other w64 c.args.self.bits c.args.tid (omega arith) t ne)
