use Rattle.std.proofs.Common.{suc, List, ◌≡◌, ◌+◌, ◌++◌, length, drop, sym, ◌∙◌, ap, arith}
use Rattle.std.proofs.lemmas.List.{length-append}
use Rattle.history.specs.Rows.{NamedRows}
use Rattle.history.specs.Writes.{Row}
use Rattle.index_pages.specs.Written.{written_page}
use Rattle.table_builder.specs.Image.{pairs_for}
use Rattle.table_builder.specs.Plan.{below_bytes, built_from, level_bytes, levels_for, roots_bytes, rows_count, top_of}
use Rattle.table_builder.proofs.Indexing.{begun_below, begun_roots, below_more, roots_more}
use Rattle.table_builder.proofs.Pieces.{drop_item}
use Rattle.table_builder.proofs.index.index_of.Goals as goal

pub loop-table-init : goal.loop-table-init
loop-table-init c =
    let first : 1 + length c.args.tables.now + length c.new-below.result.items ≡ suc (length c.args.tables.now) = (let none = ap length c.new-below.ensures.items in omega (arith, none)) in
    record {
      roots = begun_roots c.args.fill (1 + length c.args.tables.now + length c.new-below.result.items) c.args.tables.now c.new-roots.result.items c.new-roots.ensures.items first;
      below = begun_below c.args.fill (1 + length c.args.tables.now + length c.new-below.result.items) c.args.tables.now c.new-below.result.items c.new-below.ensures.items first;
      slots = omega arith;
    }

pub push_table-requires-clause-slots : goal.push_table-requires-clause-slots
push_table-requires-clause-slots c =
    let split = ap rows_count (drop_item c.args.tables.now c.loop-table.table-index c.table-item.result _ c.loop-table-test.true c.table-item.is) in
    let rows = ap length c.as_slice-rows.ensures in
    omega (arith, split, rows, c.loop-table.invariant.slots, c.requires.rows)

pub loop-table-preserved : goal.loop-table-preserved
loop-table-preserved c =
    let item = c.table-item.result in
    let at = 1 + length c.args.tables.now + length c.loop-table.below.items in
    let left = drop (c.loop-table.table-index + 1) c.args.tables.now in
    let split = drop_item c.args.tables.now c.loop-table.table-index c.table-item.result _ c.loop-table-test.true c.table-item.is in
    let rows : c.as_slice-rows.result.now ≡ c.table-item.result.1 = c.as_slice-rows.ensures in
    let slots : c.loop-table.slot + length c.as_slice-rows.result.now ≡ c.loop-table.slot + length c.table-item.result.1 = ap (λ (rs : List Row). c.loop-table.slot + length rs) rows in
    let pushed : c.push_table.new.below.items ≡ c.loop-table.below.items ++ level_bytes 0 (levels_for c.args.fill c.loop-table.slot at c.table-item.result.1) =
    c.in_ok-root.ensures.pages ∙ ap (λ (rs : List Row). c.loop-table.below.items ++ level_bytes 0 (levels_for c.args.fill c.loop-table.slot at rs)) rows in
    let behind : 1 + length c.args.tables.now + length c.push_table.new.below.items ≡ at + length (level_bytes 0 (levels_for c.args.fill c.loop-table.slot at c.table-item.result.1)) =
    (let long = ap length pushed ∙ length-append c.loop-table.below.items (level_bytes 0 (levels_for c.args.fill c.loop-table.slot at c.table-item.result.1)) in omega (arith, long)) in
    let page = c.in_ok-root.ensures.root ∙ ap (λ (rs : List Row). written_page (length (levels_for c.args.fill c.loop-table.slot at rs)) 0 (top_of at (pairs_for c.loop-table.slot rs) (levels_for c.args.fill c.loop-table.slot at rs))) rows in
    let follows : suc (c.loop-table.table-index + 1) ≡ suc (suc c.loop-table.table-index) = omega arith in
    record {
      roots = roots_more c.args.fill (suc c.loop-table.table-index) c.loop-table.slot at (suc (c.loop-table.table-index + 1)) (c.loop-table.slot + length c.as_slice-rows.result.now)
          (1 + length c.args.tables.now + length c.push_table.new.below.items) c.table-item.result left follows slots behind c.loop-table.roots.items c.push.new.self.items _ c.in_ok-root.root page c.in_ok-push.ensures.items
          (ap (λ (ts : List NamedRows). c.loop-table.roots.items ++ roots_bytes c.loop-table.slot (built_from c.args.fill (suc c.loop-table.table-index) c.loop-table.slot at ts)) (sym split) ∙ c.loop-table.invariant.roots);
      below = below_more c.args.fill (suc c.loop-table.table-index) c.loop-table.slot at (suc (c.loop-table.table-index + 1)) (c.loop-table.slot + length c.as_slice-rows.result.now)
          (1 + length c.args.tables.now + length c.push_table.new.below.items) c.table-item.result left follows slots behind c.loop-table.below.items c.push_table.new.below.items _ pushed
          (ap (λ (ts : List NamedRows). c.loop-table.below.items ++ below_bytes (built_from c.args.fill (suc c.loop-table.table-index) c.loop-table.slot at ts)) (sym split) ∙ c.loop-table.invariant.below);
      slots = (let one = ap rows_count split in omega (arith, one, slots, c.loop-table.invariant.slots));
    }
