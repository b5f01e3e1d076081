use Rattle.std.proofs.Common.{bit_and, bit_or, nat_eq}
use Rattle.std.proofs.lemmas.Bool.{eqb-true, eqb-false}
use Rattle.mars_core.proofs.Touching.{clash_bits, clash_word}
use Rattle.mars_core.proofs.masks.Masks.clash.Goals as goal

pub returns : goal.returns
returns c = λ one these is are.
    let a = c.args.self in
    let b = c.args.other in
    clash_word one these (bit_or (bit_and a.writes (bit_or b.reads b.writes)) (bit_and (bit_or a.reads a.writes) b.writes))
    (nat_eq (bit_or (bit_and a.writes (bit_or b.reads b.writes)) (bit_and (bit_or a.reads a.writes) b.writes)) 0) (clash_bits one these a b is are)
    (eqb-true (bit_or (bit_and a.writes (bit_or b.reads b.writes)) (bit_and (bit_or a.reads a.writes) b.writes)) 0)
    (eqb-false (bit_or (bit_and a.writes (bit_or b.reads b.writes)) (bit_and (bit_or a.reads a.writes) b.writes)) 0)
