use Rattle.std.proofs.Common.{ℕ, ◌*◌, ◌<◌, ◌≤◌, inl, inr, refl, arith, below_more}
use Rattle.restore_runs.proofs.sizing.fewest_pages.Goals as goal

pub loop-per-init : goal.loop-per-init
loop-per-init c = λ fewer low high. absurd (omega arith)

pub loop-per-preserved : goal.loop-per-preserved
loop-per-preserved c = λ fewer low high.
    let here : c.args.loggers * c.loop-per.per < c.args.half = rw (c.from.ensures, c.from-in-loop-per.ensures) at c.if-half-from.false in
    below_more (λ (k : ℕ). 2 ≤ k → c.args.loggers * k < c.args.half) c.loop-per.per (λ k less least. c.loop-per.invariant k least less) (λ least. here) fewer high low

pub returns-then-half-from : goal.returns-then-half-from
returns-then-half-from c =
    let here : c.args.half ≤ c.args.loggers * c.loop-per.per = rw (c.from.ensures, c.from-in-loop-per.ensures) at c.if-half-from.true in
    record {
      per = c.loop-per.per;
      even = refl;
      least = omega arith;
      most = omega arith;
      enough = inl here;
      fewest = c.loop-per.invariant;
    }

pub returns : goal.returns
returns c = record {
  per = 2048;
  even = refl;
  least = omega arith;
  most = omega arith;
  enough = inr refl;
  fewest = λ fewer low high. c.loop-per.invariant fewer low (omega (arith, high, c.loop-per-test.false));
}
