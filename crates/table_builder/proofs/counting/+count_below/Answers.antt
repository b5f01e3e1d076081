use Rattle.std.proofs.Common.{ℕ, suc, ◌≡◌, ◌+◌, ◌-◌, length, sym, ◌∙◌, ap, arith}
use Rattle.table_builder.specs.Built.{named}
use Rattle.table_builder.specs.Plan.{level_bytes, levels_of, pages_of}
use Rattle.table_builder.proofs.Building.{length-named}
use Rattle.table_builder.proofs.Cutting.{length-levels}
use Rattle.table_builder.proofs.counting.+count_below.Goals as goal

pub returns-clause-count : goal.returns-clause-count
returns-clause-count t c = λ level first ps long.
    let here = c.count_pages-pages.ensures.count ps long in
    let pages = pages_of c.args.fill ps in
    let rest = c.count_below.ensures.count (suc level) (first + length (pages_of c.args.fill ps)) (named 0 first (pages_of c.args.fill ps)) (length-named 0 first (pages_of c.args.fill ps) ∙ sym here) in
    let all = length-levels c.args.fill (c.args.left - 1) level first ps (omega (arith, long, c.if-pairs-le-PAIRS_MAX.false)) in
    let same = ap (λ (n : ℕ). length (level_bytes level (levels_of c.args.fill n first ps))) (let e : c.args.left ≡ suc (c.args.left - 1) = omega (arith, c.if-left-eq0.false) in e) in
    omega (arith, here, rest, all, same)
