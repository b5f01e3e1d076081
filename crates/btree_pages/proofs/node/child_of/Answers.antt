use Rattle.std.proofs.Common.{◌≡◌, ◌+◌, ◌-◌, ℕ, sym, ◌∙◌, ap, get_or, arith}
use Rattle.btree_pages.proofs.Cutting.{child_next}
use Rattle.btree_pages.proofs.node.child_of.Goals as goal

pub loop-i-preserved : goal.loop-i-preserved
loop-i-preserved c =
    let on : c.loop-i.i ≡ c.loop-i.i + 1 - 1 = omega arith in
    record {
      child = ap (λ (j : ℕ). (get_or c.args.pairs.now j (0, 0)).1) on;
      rest = (let back = child_next c.args.pairs.now c.loop-i.i c.args.key (omega (arith, c.loop-i.auto.i)) c.loop-i-test.true c.if-key-pairs.false in sym back ∙ c.loop-i.invariant.rest);
    }
