use Rattle.std.proofs.Common.{◌≡◌, ◌+◌, length, sym, ◌∙◌, arith}
use Rattle.table_builder.proofs.Cutting.{page_within, page_short, page_moves, page_more, name_more, pages_done, names_done, one_longer}
use Rattle.table_builder.proofs.levels.push_level.Goals as goal

pub loop-at-preserved : goal.loop-at-preserved
loop-at-preserved c = record {
  within = page_within c.args.fill c.requires.some c.requires.most c.args.level c.loop-at.at c.args.pairs.now c.page_from-page.result.now c.loop-at-test.true c.page_from-page.ensures;
  pages = page_more c.args.fill c.requires.some c.requires.most c.args.level c.loop-at.at c.args.pairs.now c.page_from-page.result.now c.loop-at-test.true c.page_from-page.ensures
      c.loop-at.pages.items c.push-in-loop-at.new.self.items c.page_of.result c.page_of.ensures c.in_ok-push-2.ensures.items ∙ c.loop-at.invariant.pages;
  names =
      let count : c.args.first + c.len.result ≡ c.args.first + length c.loop-at.pages.items = omega (arith, c.len.ensures, c.loop-at.pages.ok) in
      let longer = one_longer c.loop-at.pages.items c.push-in-loop-at.new.self.items c.page_of.result c.in_ok-push-2.ensures.items in
      name_more c.args.fill c.requires.some c.requires.most c.args.level c.loop-at.at c.args.pairs.now c.page_from-page.result.now c.loop-at-test.true c.page_from-page.ensures
      c.loop-at.names.items c.push.new.self.items c.low_of.result (c.args.first + c.len.result) (c.args.first + length c.loop-at.pages.items) (c.args.first + length c.push-in-loop-at.new.self.items) c.low_of.ensures count c.in_ok-push.ensures.items
      (omega (arith, longer)) ∙ c.loop-at.invariant.names;
}

pub returns-clause-pages : goal.returns-clause-pages
returns-clause-pages c =
    sym (pages_done c.args.fill c.requires.some c.requires.most c.args.level c.loop-at.at c.args.pairs.now c.loop-at.pages.items c.loop-at-test.false) ∙ c.loop-at.invariant.pages

pub returns-clause-names : goal.returns-clause-names
returns-clause-names c =
    sym (names_done c.args.fill c.requires.some c.requires.most _ _ c.loop-at.at c.args.pairs.now c.loop-at.names.items c.loop-at-test.false) ∙ c.loop-at.invariant.names

pub page_of-requires : goal.page_of-requires
page_of-requires c = page_short c.args.fill c.requires.some c.requires.most c.args.level c.loop-at.at c.args.pairs.now c.page_from-page.result.now c.loop-at-test.true c.page_from-page.ensures

pub loop-at-smaller : goal.loop-at-smaller
loop-at-smaller c = page_moves c.args.fill c.requires.some c.requires.most c.args.level c.loop-at.at c.args.pairs.now c.page_from-page.result.now c.loop-at-test.true c.page_from-page.ensures
