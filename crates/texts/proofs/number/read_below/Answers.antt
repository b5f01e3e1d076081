use Rattle.std.proofs.Common.{arith}
use Rattle.texts.proofs.Numbers.{same_number}
use Rattle.texts.proofs.number.read_below.Goals as goal

pub returns-else-n-limit : goal.returns-else-n-limit
returns-else-n-limit c = λ n below is.
    let same = same_number c.args.bytes.now c.in_ok-n.n n c.args.limit (omega arith) c.in_ok-n.ensures.0 c.in_ok-n.ensures.1 below is in
    omega arith
