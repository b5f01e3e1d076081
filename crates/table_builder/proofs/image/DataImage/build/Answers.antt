use Rattle.std.proofs.Common.{List, subst}
use Rattle.history.specs.Rows.{NamedRows}
use Rattle.table_builder.specs.Plan.{CanMake}
use Rattle.table_builder.proofs.Indexing.{index_made}
use Rattle.table_builder.proofs.image.DataImage.build.Goals as goal

pub invariant_of-result : goal.invariant_of-result
invariant_of-result c = (
  subst (λ (ts : List NamedRows). CanMake (record { fill = c.args.fill; half = c.args.half; tables = ts })) c.as_slice.ensures c.in_ok-rows.ensures.can,
  index_made c.args.fill c.args.tables c.as_slice.result.now c.as_slice-2.result.now c.as_slice-3.result.now c.in_ok-rows.pages c.front_page-front.result c.in_ok-index.index.roots.items c.in_ok-index.index.below.items
      c.as_slice.ensures c.as_slice-2.ensures c.as_slice-3.ensures c.in_ok-rows.ensures.pages c.front_page-front.ensures c.in_ok-index.ensures.roots c.in_ok-index.ensures.below,
)
