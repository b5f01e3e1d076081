use Rattle.std.proofs.Common.{sym, arith}
use Rattle.table_builder.proofs.Planning.{all_in_one, fits_in_one, full_page, shared_by_two}
use Rattle.table_builder.proofs.counting.page_size.Goals as goal

pub returns-then-left-fill-clause-size : goal.returns-then-left-fill-clause-size
returns-then-left-fill-clause-size c = sym (all_in_one c.args.fill c.args.left (omega (arith, c.if-left-fill.true)))

pub returns-then-left-lt-PAIRS_MAX-clause-size : goal.returns-then-left-lt-PAIRS_MAX-clause-size
returns-then-left-lt-PAIRS_MAX-clause-size c = sym (fits_in_one c.args.fill c.args.left (omega (arith, c.if-left-fill.false)) (omega (arith, c.if-left-lt-PAIRS_MAX.true)))

pub returns-then-left-fill-2-clause-size : goal.returns-then-left-fill-2-clause-size
returns-then-left-fill-2-clause-size c =
    sym (shared_by_two c.args.fill c.args.left (omega (arith, c.if-left-fill.false)) (omega (arith, c.if-left-lt-PAIRS_MAX.false)) (omega (arith, c.if-left-fill-2.true)))

pub returns-clause-size : goal.returns-clause-size
returns-clause-size c =
    sym (full_page c.args.fill c.args.left (omega (arith, c.if-left-fill.false)) (omega (arith, c.if-left-lt-PAIRS_MAX.false)) (omega (arith, c.if-left-fill-2.false)))
