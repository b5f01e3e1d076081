use Rattle.std.proofs.Common.{◌+◌, ◌<◌, ◌≤◌, ◌++◌, List, length, map, ◌∙◌, ap, arith}
use Rattle.page_store.specs.Pairs.{Pair}
use Rattle.table_builder.specs.Built.{named}
use Rattle.index_pages.specs.Written.{written_page}
use Rattle.table_builder.specs.Plan.{pages_of}
use Rattle.table_builder.proofs.Cutting.{if_ok, level_count, level_top}
use Rattle.table_builder.proofs.levels.+push_levels.Goals as goal

pub returns-clause-level : goal.returns-clause-level
returns-clause-level t c =
    let many : 30 < length c.args.pairs.items = omega (arith, c.len.ensures, c.if-len-le-PAIRS_MAX.false) in
    let some : 1 ≤ c.args.left = omega (arith, c.if-left-eq0.false) in
    let pushed = c.in_ok-names.ensures.pages ∙ ap (λ (ps : List Pair). c.args.pages.now.items ++ map (written_page c.args.level 0) (pages_of c.args.fill ps)) c.deref.ensures.value in
    let names = c.in_ok-names.ensures.names ∙ ap (λ (ps : List Pair). named 0 (c.args.first + length c.args.pages.now.items) (pages_of c.args.fill ps)) c.deref.ensures.value in
    if_ok c.push_levels.result _ _
    (λ top. level_count c.args.fill c.args.level c.args.left c.args.first c.args.pairs.items c.in_ok-names.names.items c.args.pages.now.items c.push_level.new.pages.items many some pushed names top.0)
    c.push_levels.ensures.level

pub returns-clause-top : goal.returns-clause-top
returns-clause-top t c =
    let many : 30 < length c.args.pairs.items = omega (arith, c.len.ensures, c.if-len-le-PAIRS_MAX.false) in
    let some : 1 ≤ c.args.left = omega (arith, c.if-left-eq0.false) in
    let pushed = c.in_ok-names.ensures.pages ∙ ap (λ (ps : List Pair). c.args.pages.now.items ++ map (written_page c.args.level 0) (pages_of c.args.fill ps)) c.deref.ensures.value in
    let names = c.in_ok-names.ensures.names ∙ ap (λ (ps : List Pair). named 0 (c.args.first + length c.args.pages.now.items) (pages_of c.args.fill ps)) c.deref.ensures.value in
    if_ok c.push_levels.result _ _
    (λ top. level_top c.args.fill c.args.level c.args.left c.args.first c.args.pairs.items c.in_ok-names.names.items c.args.pages.now.items c.push_level.new.pages.items many some pushed names top.1.items)
    c.push_levels.ensures.top
