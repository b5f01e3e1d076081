use Rattle.std.proofs.Common.{◌≡◌, ◌*◌, ◌≤◌, true, false, not, ◌&&◌, sym, ◌∙◌, ap, arith}
use Rattle.std.proofs.lemmas.Bool.{not-true, not-false, and_left, and_right, and_from, not_from_true, not_from_false}
use Rattle.std.proofs.lemmas.Nat.{mul-le}
use Rattle.row_bytes.specs.declared.row.Row.{Row}
use Rattle.array_image.proofs.Deciding.{not_decided}
use Rattle.device_recovery.specs.Table.{row_in, decided_in}
use Rattle.device_recovery.proofs.Lists.{row_counts, row_counts_not, rows_counted}
use Rattle.device_recovery.proofs.counting.count_rows.Goals as goal

pub loop-nth-preserved-then-not-row_in : goal.loop-nth-preserved-then-not-row_in
loop-nth-preserved-then-not-row_in c =
    let shape = c.args.shape.now in
    let rows = c.args.rows.now in
    let g = c.nth_row-at.result.logger in
    let t = c.nth_row-at.result.tid in
    let so_far = c.loop-nth.invariant in
    let unvoted : (row_in rows g t).voted ≡ false = ap (λ (r : Row). r.voted) (sym c.row_in.ensures) ∙ not-true c.row_in.result.voted c.if-not-row_in.true in
    let undecided : decided_in shape rows g t ≡ false = not_decided shape.loggers shape.numbers (row_in rows) g t c.nth_row-at.ensures.one_logger c.nth_row-at.ensures.one_number unvoted in
    record {
      decided = so_far.decided ∙ sym (row_counts_not shape (λ h u. decided_in shape rows h u) c.loop-nth.nth g t c.nth_row-at.ensures.logger c.nth_row-at.ensures.tid undecided);
      dropped = so_far.dropped ∙ sym (row_counts_not shape (λ h u. (row_in rows h u).voted && not (decided_in shape rows h u)) c.loop-nth.nth g t c.nth_row-at.ensures.logger c.nth_row-at.ensures.tid (and_left (row_in rows g t).voted _ unvoted));
      few_decided = omega (arith, so_far.few_decided);
      few_dropped = omega (arith, so_far.few_dropped);
    }

pub loop-nth-preserved-then-is_decided : goal.loop-nth-preserved-then-is_decided
loop-nth-preserved-then-is_decided c =
    let shape = c.args.shape.now in
    let rows = c.args.rows.now in
    let g = c.nth_row-at.result.logger in
    let t = c.nth_row-at.result.tid in
    let so_far = c.loop-nth.invariant in
    let so : decided_in shape rows g t ≡ true = sym c.if-is_decided.ensures in
    record {
      decided = omega (arith, so_far.decided, row_counts shape (λ h u. decided_in shape rows h u) c.loop-nth.nth g t c.nth_row-at.ensures.logger c.nth_row-at.ensures.tid so);
      dropped = so_far.dropped ∙ sym (row_counts_not shape (λ h u. (row_in rows h u).voted && not (decided_in shape rows h u)) c.loop-nth.nth g t c.nth_row-at.ensures.logger c.nth_row-at.ensures.tid (and_right (row_in rows g t).voted _ (not_from_true (decided_in shape rows g t) so)));
      few_decided = omega (arith, so_far.few_decided);
      few_dropped = omega (arith, so_far.few_dropped);
    }

pub loop-nth-preserved : goal.loop-nth-preserved
loop-nth-preserved c =
    let shape = c.args.shape.now in
    let rows = c.args.rows.now in
    let g = c.nth_row-at.result.logger in
    let t = c.nth_row-at.result.tid in
    let so_far = c.loop-nth.invariant in
    let voted : (row_in rows g t).voted ≡ true = ap (λ (r : Row). r.voted) (sym c.row_in.ensures) ∙ not-false c.row_in.result.voted c.if-not-row_in.false in
    let not_so : decided_in shape rows g t ≡ false = sym c.if-is_decided.ensures in
    record {
      decided = so_far.decided ∙ sym (row_counts_not shape (λ h u. decided_in shape rows h u) c.loop-nth.nth g t c.nth_row-at.ensures.logger c.nth_row-at.ensures.tid not_so);
      dropped = omega (arith, so_far.dropped, row_counts shape (λ h u. (row_in rows h u).voted && not (decided_in shape rows h u)) c.loop-nth.nth g t c.nth_row-at.ensures.logger c.nth_row-at.ensures.tid (and_from (row_in rows g t).voted _ voted (not_from_false (decided_in shape rows g t) not_so)));
      few_decided = omega (arith, so_far.few_decided);
      few_dropped = omega (arith, so_far.few_dropped);
    }

pub returns : goal.returns
returns c =
    let shape = c.args.shape.now in
    let rows = c.args.rows.now in
    let so_far = c.loop-nth.invariant in
    let all : c.loop-nth.nth ≡ shape.loggers * shape.numbers = omega arith in
    let few : shape.loggers * shape.numbers ≤ 8 * 64 = mul-le shape.loggers shape.numbers 8 64 (omega arith) (omega arith) in
    record {
      decided = so_far.decided ∙ rows_counted shape (λ h u. decided_in shape rows h u) c.loop-nth.nth all;
      dropped = so_far.dropped ∙ rows_counted shape (λ h u. (row_in rows h u).voted && not (decided_in shape rows h u)) c.loop-nth.nth all;
      few_decided = omega (arith, so_far.few_decided, few);
      few_dropped = omega (arith, so_far.few_dropped, few);
    }
