use Rattle.std.proofs.Common.{arith}
use Rattle.resident_media.proofs.Places.{stands_fresh}
use Rattle.resident_media.proofs.blocks.Blocks.new.Goals as goal

pub invariant_of-result : goal.invariant_of-result
invariant_of-result c =
    let n = c.div_ceil-count.result in
    stands_fresh c.args.len n _ _ _ _ c.in_ok-with_capacity.ensures.items (c.in_ok-from_elem.ensures.items_if_clones_equal (λ y is. is)) (c.in_ok-from_elem-2.ensures.items_if_clones_equal (λ y is. is))
    (omega arith) (omega arith) (omega (arith, c.in_ok-with_capacity.ensures.capacity, c.in-Some.ensures))
