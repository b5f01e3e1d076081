use Rattle.std.proofs.Common.{List, ◌≡◌, ◌+◌, ◌≤◌, ◌++◌, length, sym, ◌∙◌, ap, subst, arith}
use Rattle.page_store.specs.Pairs.{Pair}
use Rattle.index_pages.specs.Written.{written_page}
use Rattle.table_builder.specs.Plan.{level_bytes, levels_for, levels_of, top_of}
use Rattle.table_builder.proofs.Cutting.{top_few}
use Rattle.table_builder.proofs.Making.{length-pairs_for}
use Rattle.table_builder.proofs.index.push_table.Goals as goal

pub page_of-requires : goal.page_of-requires
page_of-requires c =
    let at = c.args.first + length c.args.below.now.items in
    let many = ap length c.in_ok-pairs.ensures ∙ length-pairs_for c.args.slot c.args.rows.now in
    subst (λ (l : List Pair). length l ≤ 30) (sym (c.deref.ensures.value ∙ c.in_ok-level.ensures.top))
    (top_few c.args.fill c.requires.some c.requires.most 7 (c.args.first + length c.args.below.now.items) c.in_ok-pairs.pairs.items (omega (arith, many, c.requires.slots)))

pub returns-clause-pages : goal.returns-clause-pages
unfolding levels_for
returns-clause-pages c =
    c.in_ok-level.ensures.pages
    ∙ ap (λ (ps : List Pair). c.args.below.now.items ++ level_bytes 0 (levels_of c.args.fill 7 (c.args.first + length c.args.below.now.items) ps)) c.in_ok-pairs.ensures

pub returns-clause-root : goal.returns-clause-root
unfolding levels_for
returns-clause-root c =
    let at = c.args.first + length c.args.below.now.items in
    let level : c.in_ok-level.level ≡ length (levels_of c.args.fill 7 (c.args.first + length c.args.below.now.items) c.in_ok-pairs.pairs.items) = omega (arith, c.in_ok-level.ensures.level) in
    c.page_of.ensures
    ∙ (λ i. written_page (level i) 0 ((c.deref.ensures.value ∙ c.in_ok-level.ensures.top) i))
    ∙ ap (λ (ps : List Pair). written_page (length (levels_of c.args.fill 7 (c.args.first + length c.args.below.now.items) ps)) 0
    (top_of (c.args.first + length c.args.below.now.items) ps (levels_of c.args.fill 7 (c.args.first + length c.args.below.now.items) ps))) c.in_ok-pairs.ensures
