use Rattle.std.proofs.Common.{ℕ, ◌%◌, get_or, ap, arith}
use Rattle.page_store.proofs.Counted.{counts_few, counts_more}
use Rattle.page_store.proofs.pages.counts_of.Goals as goal

pub overflow_add-counts : goal.overflow_add-counts
overflow_add-counts c =
    let at = c.loop-page.page-index in
    let on = ap (λ (k : ℕ). get_or c.args.pages.now at 0 % k) c.from.ensures in
    let few = counts_few c.args.loggers c.requires.loggers c.requires.most c.args.pages.now at c.loop-page-test.true c.loop-page.counts c.loop-page.invariant _ on in
    omega (arith, few, c.loop-page-test.true, c.requires.few)

pub loop-page-preserved : goal.loop-page-preserved
loop-page-preserved c =
    let at = c.loop-page.page-index in
    let on = ap (λ (k : ℕ). get_or c.args.pages.now at 0 % k) c.from.ensures in
    counts_more c.args.loggers c.requires.loggers c.requires.most c.args.pages.now at c.loop-page-test.true c.loop-page.counts c.loop-page.invariant _ on
