use Rattle.std.proofs.Common.{refl, ◌≡◌, ◌+◌, ◌*◌, ◌/◌, ◌%◌, ℕ, ◌∙◌, sym, ap, subst, length, arith}
use Rattle.std.specs.Prelude.{nat_eq}
use Rattle.std.proofs.lemmas.Bool.{and_parts}
use Rattle.std.proofs.lemmas.Result.{IfOk-from_err}
use Rattle.pcm_media.specs.Images.{IsOutside}
use Rattle.array_shape.specs.declared.shape.Shape.{Shape}
use Rattle.array_shape.specs.Places.{media_len}
use Rattle.array_shape.specs.Logged.{applied, places_of}
use Rattle.array_image.specs.Image.{cell_of, parts_from, data_of, IsGoodCell}
use Rattle.array_image.proofs.Calls.{goes_on, hands_on}
use Rattle.device_recovery.specs.Table.{row_in, decided_in, is_one_of}
use Rattle.row_bytes.specs.declared.row.Row.{Row}
use Rattle.mars_base.proofs.Costing.{costs_err, costs_more, costs_ok}
use Rattle.device_recovery.specs.declared.which.Which.TheVariants.{DecidedAs}
use Rattle.device_recovery.specs.Recovered.{cells_if, total}
use Rattle.device_recovery.proofs.Totals.{row_sum_more, row_sum_le, cells_some, cells_none}
use Rattle.device_recovery.proofs.Done.{all_done}
use Rattle.device_recovery.proofs.Goods.{all_good}
use Rattle.device_recovery.proofs.Read.{table_decided_as}
use Rattle.device_recovery.proofs.Applying.{rows_applied, row_skipped, good_cells, parts_within, row_applied}
use Rattle.device_recovery.proofs.settling.apply_order.Goals as goal

pub loop-nth-preserved-then-not-is_one_of : goal.loop-nth-preserved-then-not-is_one_of
loop-nth-preserved-then-not-is_one_of g c =
    let m = g.M.Media in
    let base = (m.view c.args.media.now).content.bytes in
    let shape = c.args.shape.now in
    let at = c.nth_row-at.result in
    let is = c.nth_row-at.ensures in
    let none = row_sum_more shape (cells_if (is_one_of shape c.args.rows.now (DecidedAs c.args.order)) (row_in c.args.rows.now)) c.loop-nth.nth at.logger at.tid 0 is.logger is.tid
    (cells_none (is_one_of shape c.args.rows.now (DecidedAs c.args.order)) (row_in c.args.rows.now) at.logger at.tid (sym c.if-not-is_one_of.ensures)) in
    record {
      costs = costs_ok m.tells _ _ _ _ tt (omega (arith, none)) c.loop-nth.invariant.costs;
      does = c.loop-nth.invariant.does;
      applied = λ told.
          let not_so = sym (table_decided_as shape base c.args.rows.now (c.requires.rows told) at.logger at.tid is.one_logger is.one_number c.args.order) ∙ sym c.if-not-is_one_of.ensures in
          row_skipped shape base c.args.order c.loop-nth.nth at.logger at.tid is.logger is.tid _ not_so (c.loop-nth.invariant.applied told);
    }

pub apply-requires-clause-entries : goal.apply-requires-clause-entries
apply-requires-clause-entries g c =
    let shape = c.args.shape.now in
    let at = c.nth_row-at.result in
    let is = c.nth_row-at.ensures in
    let fits = c.requires.fits at.logger at.tid is.one_logger is.one_number (and_parts (decided_in shape c.args.rows.now at.logger at.tid) (nat_eq (row_in c.args.rows.now at.logger at.tid).order c.args.order) (sym c.if-not-is_one_of.ensures)).0 in
    omega (arith, fits, ap (λ r. r.first + r.count) c.row_in-row.ensures, ap (λ (s : Shape). s.entries) c.new-logger.ensures.shape)

pub apply-requires-clause-good : goal.apply-requires-clause-good
apply-requires-clause-good g c told e from below =
    let m = g.M.Media in
    let base = (m.view c.args.media.now).content.bytes in
    let cur = (m.view c.loop-nth.media).content.bytes in
    let shape = c.args.shape.now in
    let at = c.nth_row-at.result in
    let is = c.nth_row-at.ensures in
    let long : length base ≡ media_len shape = g.met.M.Media.long c.args.media.now told ∙ c.requires.size in
    let so = sym (table_decided_as shape base c.args.rows.now (c.requires.rows told) at.logger at.tid is.one_logger is.one_number c.args.order) ∙ sym c.if-not-is_one_of.ensures in
    let row = c.row_in-row.ensures ∙ c.requires.rows told at.logger at.tid is.one_logger is.one_number in
    let good = good_cells shape base c.args.order c.loop-nth.nth at.logger at.tid is.logger is.tid long (all_good shape base (c.requires.good told)) cur (c.loop-nth.invariant.does.touched told).bytes is.one_logger is.one_number c.row_in-row.result row so e from below in
    subst (λ (p : Shape × ℕ). IsGoodCell p.0 p.1 (cell_of p.0 cur p.1 at.tid e)) (λ i. (sym c.new-logger.ensures.shape i, sym c.new-logger.ensures.number i)) good

pub returns-in_err-apply-clause-does : goal.returns-in_err-apply-clause-does
returns-in_err-apply-clause-does g c =
    let m = g.M.Media in
    let base = (m.view c.args.media.now).content.bytes in
    let cur = (m.view c.loop-nth.media).content.bytes in
    let shape = c.args.shape.now in
    let at = c.nth_row-at.result in
    let is = c.nth_row-at.ensures in
    let logger = c.new-logger.ensures in
    let row = c.row_in-row.result in
    let places : places_of c.new-logger.result.shape (parts_from c.new-logger.result.shape cur c.new-logger.result.number at.tid row.first row.count) ≡ places_of shape (parts_from shape cur at.logger at.tid row.first row.count) =
    (λ i. places_of (logger.shape i) (parts_from (logger.shape i) cur (logger.number i) at.tid row.first row.count)) in
    hands_on m.tells _ _ _ _ _ (λ told i out.
    let long : length base ≡ media_len shape = g.met.M.Media.long c.args.media.now told ∙ c.requires.size in
    let so = sym (table_decided_as shape base c.args.rows.now (c.requires.rows told) at.logger at.tid is.one_logger is.one_number c.args.order) ∙ sym c.if-not-is_one_of.ensures in
    let row_is = c.row_in-row.ensures ∙ c.requires.rows told at.logger at.tid is.one_logger is.one_number in
    subst (λ rs. IsOutside rs i) (sym places)
    (parts_within shape base c.args.order c.loop-nth.nth at.logger at.tid is.logger is.tid long (all_good shape base (c.requires.good told)) cur (c.loop-nth.invariant.does.touched told).bytes is.one_logger is.one_number row row_is so i out))
    c.loop-nth.invariant.does c.from_residual.result c.from_residual.ensures.0 c.in_err-apply.ensures.does

pub returns-in_err-apply-clause-costs : goal.returns-in_err-apply-clause-costs
returns-in_err-apply-clause-costs g c =
    let shape = c.args.shape.now in
    let at = c.nth_row-at.result in
    let is = c.nth_row-at.ensures in
    let here = row_sum_more shape (cells_if (is_one_of shape c.args.rows.now (DecidedAs c.args.order)) (row_in c.args.rows.now)) c.loop-nth.nth at.logger at.tid _ is.logger is.tid
    (cells_some (is_one_of shape c.args.rows.now (DecidedAs c.args.order)) (row_in c.args.rows.now) at.logger at.tid (sym c.if-not-is_one_of.ensures)) in
    let most = row_sum_le shape (cells_if (is_one_of shape c.args.rows.now (DecidedAs c.args.order)) (row_in c.args.rows.now)) (c.loop-nth.nth + 1) (omega arith) in
    costs_err g.M.Media.tells _ _ _ c.from_residual.result c.from_residual.ensures.0 (omega (arith, c.apply.ensures.costs.most, c.loop-nth.invariant.costs.most, here, most, ap (λ (r : Row). r.count) c.row_in-row.ensures))

pub loop-nth-preserved : goal.loop-nth-preserved
loop-nth-preserved g c =
    let m = g.M.Media in
    let base = (m.view c.args.media.now).content.bytes in
    let cur = (m.view c.loop-nth.media).content.bytes in
    let shape = c.args.shape.now in
    let at = c.nth_row-at.result in
    let is = c.nth_row-at.ensures in
    let logger = c.new-logger.ensures in
    let row = c.row_in-row.result in
    let places : places_of c.new-logger.result.shape (parts_from c.new-logger.result.shape cur c.new-logger.result.number at.tid row.first row.count) ≡ places_of shape (parts_from shape cur at.logger at.tid row.first row.count) =
    (λ i. places_of (logger.shape i) (parts_from (logger.shape i) cur (logger.number i) at.tid row.first row.count)) in
    let here = row_sum_more shape (cells_if (is_one_of shape c.args.rows.now (DecidedAs c.args.order)) (row_in c.args.rows.now)) c.loop-nth.nth at.logger at.tid _ is.logger is.tid
    (cells_some (is_one_of shape c.args.rows.now (DecidedAs c.args.order)) (row_in c.args.rows.now) at.logger at.tid (sym c.if-not-is_one_of.ensures)) in
    record {
      costs = costs_more m.tells _ (2 * total (λ k. cells_if (is_one_of shape c.args.rows.now (DecidedAs c.args.order)) (row_in c.args.rows.now) (k % shape.loggers) (k / shape.loggers)) c.loop-nth.nth) _ _ _ _ _ (omega (arith, here, ap (λ (r : Row). r.count) c.row_in-row.ensures)) c.loop-nth.invariant.costs c.in_ok-apply.ensures.costs;
      does = goes_on m.tells _ _ _ _ _ (λ told i out.
          let long : length base ≡ media_len shape = g.met.M.Media.long c.args.media.now told ∙ c.requires.size in
          let so = sym (table_decided_as shape base c.args.rows.now (c.requires.rows told) at.logger at.tid is.one_logger is.one_number c.args.order) ∙ sym c.if-not-is_one_of.ensures in
          let row_is = c.row_in-row.ensures ∙ c.requires.rows told at.logger at.tid is.one_logger is.one_number in
          subst (λ rs. IsOutside rs i) (sym places)
          (parts_within shape base c.args.order c.loop-nth.nth at.logger at.tid is.logger is.tid long (all_good shape base (c.requires.good told)) cur (c.loop-nth.invariant.does.touched told).bytes is.one_logger is.one_number row row_is so i out))
          c.loop-nth.invariant.does c.in_ok-apply.ensures.does refl;
      applied = λ told.
          let long : length base ≡ media_len shape = g.met.M.Media.long c.args.media.now told ∙ c.requires.size in
          let so = sym (table_decided_as shape base c.args.rows.now (c.requires.rows told) at.logger at.tid is.one_logger is.one_number c.args.order) ∙ sym c.if-not-is_one_of.ensures in
          let row_is = c.row_in-row.ensures ∙ c.requires.rows told at.logger at.tid is.one_logger is.one_number in
          let new = (m.view c.apply.new.media).content.bytes in
          row_applied shape base c.args.order c.loop-nth.nth at.logger at.tid is.logger is.tid long (all_good shape base (c.requires.good told)) cur (c.loop-nth.invariant.does.touched told).bytes is.one_logger is.one_number row row_is so new (c.loop-nth.invariant.applied told)
          ((λ i. data_of (sym logger.shape i) new) ∙ c.in_ok-apply.ensures.data_after told ∙ (λ i. applied (parts_from (logger.shape i) cur (logger.number i) at.tid row.first row.count) (data_of (logger.shape i) cur)));
    }

pub returns-in_err-apply-clause-applied : goal.returns-in_err-apply-clause-applied
returns-in_err-apply-clause-applied g c told = IfOk-from_err c.from_residual.result _ c.from_residual.ensures.0

pub returns : goal.returns
returns g c =
    let m = g.M.Media in
    let base = (m.view c.args.media.now).content.bytes in
    let shape = c.args.shape.now in
    let all : c.loop-nth.nth ≡ shape.loggers * shape.numbers = omega arith in
    record {
      applied = λ told. c.loop-nth.invariant.applied told ∙ rows_applied shape base c.args.order c.loop-nth.nth all;
      costs = costs_ok m.tells _ _ _ _ tt (omega (arith, ap (total (λ k. cells_if (is_one_of shape c.args.rows.now (DecidedAs c.args.order)) (row_in c.args.rows.now) (k % shape.loggers) (k / shape.loggers))) all)) c.loop-nth.invariant.costs;
      does = all_done m.tells _ _ _ _ c.loop-nth.invariant.does;
    }
