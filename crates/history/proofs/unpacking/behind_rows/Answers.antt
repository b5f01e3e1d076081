use Rattle.std.proofs.Common.{◌≡◌, ◌-◌, ap, ◌∙◌, arith, ℕ}
use Rattle.history.specs.Packed.{rows_at}
use Rattle.history.proofs.ReadAgain.{behind_more}
use Rattle.history.proofs.unpacking.behind_rows.Goals as goal

pub loop-row-init : goal.loop-row-init
loop-row-init c =
    let whole : c.args.count - 0 ≡ c.args.count = omega arith in
    ap (λ (n : ℕ). (rows_at n c.args.bytes.now).1) whole

pub loop-row-preserved : goal.loop-row-preserved
loop-row-preserved c = behind_more c.args.count c.loop-row._row c.loop-row.rest.now c.behind_row-rest.result.now c.loop-row-test.true c.behind_row-rest.ensures ∙ c.loop-row.invariant

pub returns : goal.returns
returns c =
    let none : 0 ≡ c.args.count - c.loop-row._row = omega (arith, c.loop-row-test.false) in
    ap (λ (n : ℕ). (rows_at n c.loop-row.rest.now).1) none ∙ c.loop-row.invariant
