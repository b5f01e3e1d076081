use Rattle.std.proofs.Common.{◌≡◌, ℕ, List, length, ap, subst, ◌∙◌}
use Rattle.history.specs.Rows.{NamedRows, records_in}
use Rattle.page_store.specs.Index.{index_pages_of}
use Rattle.table_builder.specs.Causes.{BuildCause}
use Rattle.table_builder.specs.Plan.{index_for}
use Rattle.restore_runs.specs.Sizing.{IsHalf}
use Rattle.restore_runs.proofs.making.make_of.Goals as goal

pub returns-in-Ok-image_of : goal.returns-in-Ok-image_of
returns-in-Ok-image_of c =
    let index : c.pages_needed.result ≡ length (index_for c.args.asked.now.fill c.args.tables) = c.pages_needed.ensures ∙ (λ i. length (index_for (c.from-fill.ensures i) (c.as_slice-2.ensures i))) in
    let count : c.in_ok-records.records ≡ length (records_in c.args.tables) = c.in_ok-records.ensures ∙ ap (λ (tables : List NamedRows). length (records_in tables)) c.as_slice.ensures in (
      record {
        half = c.half_for-half.result;
        half_is = subst (λ (p : ℕ × ℕ). IsHalf p.0 p.1 c.half_for-half.result) (λ i. (index i, count i)) c.half_for-half.ensures;
        shape = c.in-Ok.shape;
        shape_is = c.in-Ok.ensures.shape;
        whole = c.in-Ok-image_of.ensures.first;
        restored = c.in-Ok-image_of.ensures.restored;
      },
      count,
    )

pub returns-in-Err-image_of : goal.returns-in-Err-image_of
returns-in-Err-image_of c =
    let index : c.pages_needed.result ≡ length (index_for c.args.asked.now.fill c.args.tables) = c.pages_needed.ensures ∙ (λ i. length (index_for (c.from-fill.ensures i) (c.as_slice-2.ensures i))) in
    let count : c.in_ok-records.records ≡ length (records_in c.args.tables) = c.in_ok-records.ensures ∙ ap (λ (tables : List NamedRows). length (records_in tables)) c.as_slice.ensures in (
      c.half_for-half.result,
      subst (λ (p : ℕ × ℕ). IsHalf p.0 p.1 c.half_for-half.result) (λ i. (index i, count i)) c.half_for-half.ensures,
      c.in-Ok.shape,
      c.in-Ok.ensures.shape,
      subst (λ (f : ℕ). BuildCause f (index_pages_of c.in-Ok.shape) c.args.tables c.in-Err-image_of.fault) c.from-fill.ensures c.in-Err-image_of.ensures.cause,
    )
