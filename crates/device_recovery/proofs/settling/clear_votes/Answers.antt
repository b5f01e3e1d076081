use Rattle.std.proofs.Common.{refl, ◌≡◌, ◌+◌, ◌*◌, ◌/◌, ◌%◌, ◌<◌, length, ℕ, [], ◌∷◌, ◌∙◌, sym, ap, subst, arith, true, false, IsTrue}
use Rattle.std.proofs.lemmas.Bool.{false≢true}
use Rattle.std.proofs.lemmas.Result.{IfOk-from_err, on_ok_weaker}
use Rattle.pcm_media.specs.Images.{Content, IsOutside, SameOutside, written}
use Rattle.array_shape.specs.Places.{media_len, row_at}
use Rattle.row_bytes.specs.declared.row.Row.{Row}
use Rattle.array_image.specs.Image.{row_of}
use Rattle.array_image.proofs.Calls.{goes_on, hands_on, barrier_keeps, then_barrier}
use Rattle.device_recovery.specs.Table.{is_one_of}
use Rattle.device_recovery.specs.Recovered.{OnlyCleared}
use Rattle.device_recovery.proofs.Clearing.{vote_within}
use Rattle.device_recovery.proofs.Moments.{none_unsettled}
use Rattle.mars_base.proofs.Costing.{costs_one, costs_err, costs_then, so_far as so_far_costs}
use Rattle.device_recovery.proofs.Lists.{first_rows, chosen_row, row_counts, row_counts_not, rows_counted, length_grows}
use Rattle.device_recovery.proofs.Order.{place_of_row, before_more, before_all, other_place, number_below}
use Rattle.device_recovery.proofs.Votes.{other_row}
use Rattle.device_recovery.proofs.Zeroing.{more_cleared, one_cleared}
use Rattle.device_recovery.proofs.settling.clear_votes.Goals as goal

pub loop-nth-preserved-then-not-is_one_of : goal.loop-nth-preserved-then-not-is_one_of
loop-nth-preserved-then-not-is_one_of g c =
    let m = g.M.Media in
    let shape = c.args.shape.now in
    let cur = (m.view c.loop-nth.media).content.bytes in
    let so_far = c.loop-nth.invariant in
    let at = c.nth_row-at.result in
    let is = c.nth_row-at.ensures in
    record {
      costs = omega (arith, so_far.costs, row_counts_not shape (is_one_of shape c.args.rows.now c.args.which) c.loop-nth.nth at.logger at.tid is.logger is.tid (sym c.if-not-is_one_of.ensures));
      does = so_far.does;
      zeros = so_far.zeros;
      cleared = λ told. before_more shape.loggers (λ h t. is_one_of shape c.args.rows.now c.args.which h t ≡ true → (row_of shape cur h t).voted ≡ false) c.loop-nth.nth at.logger at.tid is.logger is.tid (so_far.cleared told)
          (λ so. absurd (false≢true (c.if-not-is_one_of.ensures ∙ so)));
    }

pub returns-in_err-unvote-clause-does : goal.returns-in_err-unvote-clause-does
returns-in_err-unvote-clause-does g c =
    let m = g.M.Media in
    let shape = c.args.shape.now in
    let at = c.nth_row-at.result in
    let is = c.nth_row-at.ensures in
    let logger = c.new.ensures in
    let same : (row_at c.new.result.shape c.new.result.number at.tid, 1) ≡ (row_at shape at.logger at.tid, 1) = (λ i. (row_at (logger.shape i) (logger.number i) at.tid, 1)) in
    hands_on m.tells _ _ _ _ _ (λ told i out.
    subst (λ r. IsOutside (r ∷ []) i) (sym same) (vote_within shape (is_one_of shape c.args.rows.now c.args.which) at.logger at.tid is.one_logger is.one_number (sym c.if-not-is_one_of.ensures) i out))
    c.loop-nth.invariant.does c.from_residual.result c.from_residual.ensures.0 c.in_err-unvote.ensures.does

pub returns-in_err-unvote-clause-costs : goal.returns-in_err-unvote-clause-costs
returns-in_err-unvote-clause-costs g c =
    let shape = c.args.shape.now in
    let test = is_one_of shape c.args.rows.now c.args.which in
    let n = c.loop-nth.nth in
    let at = c.nth_row-at.result in
    let is = c.nth_row-at.ensures in
    let one = row_counts shape (is_one_of shape c.args.rows.now c.args.which) n at.logger at.tid is.logger is.tid (sym c.if-not-is_one_of.ensures) in
    let most = length_grows (λ k. chosen_row shape (is_one_of shape c.args.rows.now c.args.which) (k % shape.loggers) (k / shape.loggers)) (n + 1) (shape.loggers * shape.numbers) (omega arith) in
    let all = rows_counted shape (is_one_of shape c.args.rows.now c.args.which) (shape.loggers * shape.numbers) refl in
    costs_err true _ _ _ c.from_residual.result c.from_residual.ensures.0 (omega (arith, c.unvote.ensures.costs.most, c.loop-nth.invariant.costs, one, most, all))

pub loop-nth-preserved : goal.loop-nth-preserved
loop-nth-preserved g c =
    let m = g.M.Media in
    let cur = (m.view c.loop-nth.media).content.bytes in
    let new = (m.view c.unvote.new.media).content.bytes in
    let shape = c.args.shape.now in
    let n = c.loop-nth.nth in
    let so_far = c.loop-nth.invariant in
    let at = c.nth_row-at.result in
    let is = c.nth_row-at.ensures in
    let here = place_of_row shape.loggers n at.logger at.tid is.logger is.tid in
    let logger = c.new.ensures in
    let same : (row_at c.new.result.shape c.new.result.number at.tid, 1) ≡ (row_at shape at.logger at.tid, 1) = (λ i. (row_at (logger.shape i) (logger.number i) at.tid, 1)) in
    let stays : IsTrue m.tells → (h t : ℕ) → t < shape.numbers → (h ≡ at.logger → t ≡ at.tid → ⊥) → row_of shape new h t ≡ row_of shape cur h t =
    λ told h t lt ne. other_row shape h t at.logger at.tid cur new lt is.one_number ne (subst (λ r. SameOutside (r ∷ []) cur new) same (c.in_ok-unvote.ensures.does.touched told).bytes) in
    let one = c.in_ok-unvote.ensures.costs.done refl in
    record {
      costs = omega (arith, one, so_far.costs, row_counts shape (is_one_of shape c.args.rows.now c.args.which) n at.logger at.tid is.logger is.tid (sym c.if-not-is_one_of.ensures));
      does = goes_on m.tells _ _ _ _ _ (λ told i out.
          subst (λ r. IsOutside (r ∷ []) i) (sym same) (vote_within shape (is_one_of shape c.args.rows.now c.args.which) at.logger at.tid is.one_logger is.one_number (sym c.if-not-is_one_of.ensures) i out))
          so_far.does c.in_ok-unvote.ensures.does refl;
      zeros = λ told.
          let old = (m.view c.loop-nth.media).content in
          let long : length old.bytes ≡ media_len shape = g.met.M.Media.long c.loop-nth.media told ∙ so_far.does.size ∙ c.requires.size in
          let wrote : (m.view c.unvote.new.media).content ≡ written (row_at shape at.logger at.tid) (0 ∷ []) old = c.in_ok-unvote.ensures.written told ∙ (λ i. written (row_at (logger.shape i) (logger.number i) at.tid) (0 ∷ []) old) in
          more_cleared shape (m.view c.args.media.now).content.bytes old.bytes new (so_far.zeros told)
          (subst (λ (content : Content). OnlyCleared shape old.bytes content.bytes) (sym wrote) (one_cleared shape old.bytes at.logger at.tid long is.one_logger is.one_number));
      cleared = λ told. before_more shape.loggers (λ h t. is_one_of shape c.args.rows.now c.args.which h t ≡ true → (row_of shape new h t).voted ≡ false) n at.logger at.tid is.logger is.tid
          (λ h t lt below so.
          ap (λ (r : Row). r.voted) (stays told h t (number_below shape.loggers n h t shape.numbers below (omega arith)) (other_place shape.loggers n at.logger at.tid h t here below))
          ∙ so_far.cleared told h t lt below so)
          (λ so. ap (λ (r : Row). r.voted) ((λ i. row_of (sym logger.shape i) new (sym logger.number i) at.tid) ∙ c.in_ok-unvote.ensures.row told));
    }

pub returns-in_err-unvote-clause-zeros : goal.returns-in_err-unvote-clause-zeros
returns-in_err-unvote-clause-zeros g c told = IfOk-from_err c.from_residual.result _ c.from_residual.ensures.0

pub returns-in_err-unvote-clause-cleared : goal.returns-in_err-unvote-clause-cleared
returns-in_err-unvote-clause-cleared g c told = IfOk-from_err c.from_residual.result _ c.from_residual.ensures.0

pub returns : goal.returns
returns g c =
    let m = g.M.Media in
    let shape = c.args.shape.now in
    let mid = m.view c.loop-nth.media in
    let new = m.view c.barrier.new.self in
    let so_far = c.loop-nth.invariant in
    let all : c.loop-nth.nth ≡ shape.loggers * shape.numbers = omega arith in
    record {
      cleared = λ told. on_ok_weaker c.barrier.result (λ settled.
          let done = barrier_keeps (λ bytes. (h t : ℕ) → h < shape.loggers → t < shape.numbers → is_one_of shape c.args.rows.now c.args.which h t ≡ true → (row_of shape bytes h t).voted ≡ false) mid.content new.content
          (before_all shape.loggers (λ h t. is_one_of shape c.args.rows.now c.args.which h t ≡ true → (row_of shape mid.content.bytes h t).voted ≡ false) c.loop-nth.nth shape.numbers all (so_far.cleared told)) settled in
          (none_unsettled new.content done.0, done.1)) (c.barrier.ensures.settled told);
      zeros = λ told. on_ok_weaker c.barrier.result (λ settled. (barrier_keeps (λ bytes. OnlyCleared shape (m.view c.args.media.now).content.bytes bytes) mid.content new.content (so_far.zeros told) settled).1) (c.barrier.ensures.settled told);
      costs = costs_then true _ (length (first_rows shape (is_one_of shape c.args.rows.now c.args.which) c.loop-nth.nth)) 1 _ _ _ c.barrier.result (omega (arith, rows_counted shape (is_one_of shape c.args.rows.now c.args.which) c.loop-nth.nth all)) (so_far_costs true _ _ _ so_far.costs) (costs_one true _ _ _ c.barrier.ensures.ticks);
      does = then_barrier m.tells _ (m.view c.args.media.now) mid new c.barrier.result so_far.does c.barrier.ensures.does;
    }
