use Rattle.std.proofs.Common.{◌^◌, ◌≤◌, arith}
use Rattle.std.proofs.Math.Nat.{pow-le-pow_right}
use Rattle.mirror.proofs.partial_number.PartialNumber.new.Goals as goal

pub invariant_of-result : goal.invariant_of-result
invariant_of-result c = record { partial = λ some. (omega arith, (let most : 256 ^ c.args.len ≤ 256 ^ 8 = pow-le-pow_right {n = 256} (omega arith) c.requires in omega (arith, most))) }
