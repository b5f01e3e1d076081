use Rattle.std.proofs.Common.{refl, ◌≡◌, ◌+◌, ◌*◌, ◌/◌, ◌%◌, ◌≤◌, ap, true, [], sym, subst, arith}
use Rattle.std.proofs.lemmas.Result.{err_from_is_err_and}
use Rattle.pcm_media.proofs.Left.{same_bytes}
use Rattle.array_image.specs.Decided.{decided}
use Rattle.array_image.specs.Standing.{IsGoodRow}
use Rattle.array_image.proofs.Calls.{goes_on, hands_on}
use Rattle.device_recovery.proofs.Done.{all_done}
use Rattle.device_recovery.specs.Table.{row_in, RowsAre, decided_in}
use Rattle.mars_base.proofs.Costing.{costs_all, costs_err}
use Rattle.device_recovery.specs.Recovered.{cells_if, total}
use Rattle.device_recovery.proofs.Totals.{row_sum_more, row_sum_le}
use Rattle.device_recovery.proofs.Goods.{IsFirstBad, good_rows, first_bad}
use Rattle.device_recovery.proofs.Order.{place_of_row, before_more, before_all, lower_number}
use Rattle.device_recovery.proofs.checking.check_rows.Goals as goal

pub loop-nth-preserved : goal.loop-nth-preserved
loop-nth-preserved g c =
    let m = g.M.Media in
    let shape = c.args.shape.now in
    let base = (m.view c.args.media.now).content.bytes in
    let so_far = c.loop-nth.invariant in
    let at = c.nth_row-at.result in
    let is = c.nth_row-at.ensures in
    record {
      does = goes_on m.tells [] [] _ _ _ (λ told i out. out) so_far.does c.in_ok-is_bad.ensures.does refl;
      good = λ told. before_more shape.loggers (λ h t. decided shape base h t ≡ true → IsGoodRow shape base h t) c.loop-nth.nth at.logger at.tid is.logger is.tid (so_far.good told)
          (subst (λ image. decided shape image at.logger at.tid ≡ true → IsGoodRow shape image at.logger at.tid) (same_bytes _ _ (so_far.does.touched told)) (c.in_ok-is_bad.ensures.none told c.if-branch.false));
      costs = let one = c.in_ok-is_bad.ensures.whole c.if-branch.false in omega (arith, one, so_far.costs, row_sum_more shape (cells_if (decided_in shape c.args.rows.now) (row_in c.args.rows.now)) c.loop-nth.nth at.logger at.tid _ is.logger is.tid refl);
      fits = before_more shape.loggers (λ h t. decided_in shape c.args.rows.now h t ≡ true → (row_in c.args.rows.now h t).first + (row_in c.args.rows.now h t).count ≤ shape.entries) c.loop-nth.nth at.logger at.tid is.logger is.tid so_far.fits
          (c.in_ok-is_bad.ensures.fits c.if-branch.false);
    }

pub is_bad-requires-clause-rows : goal.is_bad-requires-clause-rows
is_bad-requires-clause-rows g c told =
    let shape = c.args.shape.now in
    subst (λ image. RowsAre shape image shape.numbers c.args.rows.now) (sym (same_bytes _ _ (c.loop-nth.invariant.does.touched told))) (c.requires.rows told)

pub returns-in_err-is_bad : goal.returns-in_err-is_bad
returns-in_err-is_bad g c =
    let m = g.M.Media in
    let at = c.nth_row-at.result in
    let is = c.nth_row-at.ensures in
    let p = err_from_is_err_and c.from_residual.result c.from_residual.ensures.1 in
    rw (p.1, p.2) (record {
      good = λ told. tt;
      bad = λ told h t is. cc;
      costs = costs_err true _ _ _ _ refl (omega (arith, c.in_err-is_bad.ensures.most, c.loop-nth.invariant.costs, row_sum_more c.args.shape.now (cells_if (decided_in c.args.shape.now c.args.rows.now) (row_in c.args.rows.now)) c.loop-nth.nth at.logger at.tid _ is.logger is.tid refl, row_sum_le c.args.shape.now (cells_if (decided_in c.args.shape.now c.args.rows.now) (row_in c.args.rows.now)) (c.loop-nth.nth + 1) (omega arith)));
      fits = tt;
      does = hands_on m.tells [] [] _ _ _ (λ told i out. out) c.loop-nth.invariant.does _ refl c.in_err-is_bad.ensures.does;
    })

pub returns-then-branch : goal.returns-then-branch
returns-then-branch g c =
    let m = g.M.Media in
    let shape = c.args.shape.now in
    let base = (m.view c.args.media.now).content.bytes in
    let so_far = c.loop-nth.invariant in
    let at = c.nth_row-at.result in
    let is = c.nth_row-at.ensures in
    let here = place_of_row shape.loggers c.loop-nth.nth at.logger at.tid is.logger is.tid in
    let read = goes_on m.tells [] [] _ _ _ (λ told i out. out) so_far.does c.in_ok-is_bad.ensures.does refl in
    record {
      good = λ told. tt;
      bad = λ told h t named.
          let logger : at.logger ≡ h = cc in
          let tid : at.tid ≡ t = cc in
          let same = same_bytes _ _ (so_far.does.touched told) in
          let bad = c.in_ok-is_bad.ensures.some told c.if-branch.true in
          let found : IsFirstBad shape base at.logger at.tid = record {
            logger = is.one_logger;
            number = is.one_number;
            is_decided = subst (λ image. decided shape image at.logger at.tid ≡ true) same bad.0;
            bad = subst (λ image. IsGoodRow shape image at.logger at.tid → ⊥) same bad.1;
            below = λ k lt. so_far.good told k at.tid (omega (arith, lt, is.one_logger)) (omega (arith, here, lt));
            before = λ k u lt lt'. so_far.good told k u lt (lower_number shape.loggers c.loop-nth.nth at.logger at.tid k u here lt lt');
          } in
          first_bad shape base h t (subst (λ k. IsFirstBad shape base k t) logger (subst (λ k. IsFirstBad shape base at.logger k) tid found));
      costs = costs_err true _ _ _ _ refl (omega (arith, c.in_ok-is_bad.ensures.most, so_far.costs, row_sum_more shape (cells_if (decided_in shape c.args.rows.now) (row_in c.args.rows.now)) c.loop-nth.nth at.logger at.tid _ is.logger is.tid refl, row_sum_le shape (cells_if (decided_in shape c.args.rows.now) (row_in c.args.rows.now)) (c.loop-nth.nth + 1) (omega arith)));
      fits = tt;
      does = all_done m.tells _ _ _ _ read;
    }

pub returns : goal.returns
returns g c =
    let m = g.M.Media in
    let shape = c.args.shape.now in
    let base = (m.view c.args.media.now).content.bytes in
    let so_far = c.loop-nth.invariant in
    let all : c.loop-nth.nth ≡ shape.loggers * shape.numbers = omega arith in
    record {
      good = λ told. good_rows shape base (before_all shape.loggers (λ h t. decided shape base h t ≡ true → IsGoodRow shape base h t) c.loop-nth.nth shape.numbers all (so_far.good told));
      bad = λ told. tt;
      costs = costs_all true _ _ _ _ (omega (arith, so_far.costs, ap (total (λ k. cells_if (decided_in shape c.args.rows.now) (row_in c.args.rows.now) (k % shape.loggers) (k / shape.loggers))) all));
      fits = before_all shape.loggers (λ h t. decided_in shape c.args.rows.now h t ≡ true → (row_in c.args.rows.now h t).first + (row_in c.args.rows.now h t).count ≤ shape.entries) c.loop-nth.nth shape.numbers all so_far.fits;
      does = all_done m.tells _ _ _ _ so_far.does;
    }
