use Rattle.std.proofs.Common.{true, refl, ◌≡◌, ℕ, ◌+◌, ◌≤◌, sym, ap, subst, arith}
use Rattle.std.specs.Prelude.{nat_eq}
use Rattle.std.proofs.lemmas.Bool.{and_parts}
use Rattle.mars_base.specs.Bytes.{range}
use Rattle.mars_base.proofs.Going.{weaker, then}
use Rattle.array_image.specs.Votes.{votes_of}
use Rattle.array_image.proofs.Calls.{goes_on, hands_on}
use Rattle.array_image.proofs.Headers.{header_stays}
use Rattle.device_recovery.specs.declared.which.Which.TheVariants.{DecidedAs}
use Rattle.device_recovery.specs.Table.{row_in, rows_in_order, RowsLeft, decided_in, is_one_of}
use Rattle.mars_base.proofs.Costing.{costs_all, costs_err}
use Rattle.array_image.specs.Decided.{orders}
use Rattle.device_recovery.specs.Recovered.{clear_calls, total}
use Rattle.device_recovery.proofs.Applying.{orders_are}
use Rattle.device_recovery.proofs.Totals.{total_more, total_le}
use Rattle.device_recovery.proofs.OrderSums.{rows_past, rows_behind, rows_some}
use Rattle.device_recovery.proofs.Clearing.{fewer_votes}
use Rattle.device_recovery.proofs.Lists.{some_clear_calls}
use Rattle.device_recovery.proofs.Leaving.{cleared_left}
use Rattle.device_recovery.proofs.Moments.{votes_behind}
use Rattle.device_recovery.proofs.Phases.{order_left, clearing, still_recovering}
use Rattle.device_recovery.proofs.Zeroing.{more_cleared}
use Rattle.device_recovery.proofs.settling.clear_decided.Goals as goal

pub returns-in_err-clear_votes-clause-any_moment : goal.returns-in_err-clear_votes-clause-any_moment
returns-in_err-clear_votes-clause-any_moment g c told bytes recovering =
    let m = g.M.Media in
    let shape = c.args.shape.now in
    let rows = c.args.rows.now in
    let old = m.view c.args.media.now in
    let mid = m.view c.loop-order.media in
    let so_far = c.loop-order.invariant in
    let some = c.in-Some.ensures.some in
    let here = header_stays (votes_of shape (decided_in shape rows)) old.content.bytes mid.content.bytes (votes_behind shape (decided_in shape rows)) (so_far.does.touched told).bytes in
    then (so_far.time told bytes recovering)
    (weaker (clearing shape rows mid.content c.loop-order.from c.in-Some.order (so_far.left told) some.0 some.2 some.1 (so_far.settled told) bytes (so_far.recovering told bytes recovering) (range old.content.bytes 0 512) here) (c.clear_votes.ensures.does.time told))

pub returns-in_err-clear_votes-clause-does : goal.returns-in_err-clear_votes-clause-does
returns-in_err-clear_votes-clause-does g c =
    let m = g.M.Media in
    let shape = c.args.shape.now in
    let rows = c.args.rows.now in
    let order = c.in-Some.order in
    hands_on m.tells _ _ _ _ _ (λ told. fewer_votes shape (decided_in shape rows) (is_one_of shape rows (DecidedAs order)) (λ h t lt lt' so. (and_parts (decided_in shape rows h t) (nat_eq (row_in rows h t).order order) so).0))
    c.loop-order.invariant.does c.from_residual.result c.from_residual.ensures.0 c.in_err-clear_votes.ensures.does

pub returns-in_err-clear_votes-clause-costs : goal.returns-in_err-clear_votes-clause-costs
returns-in_err-clear_votes-clause-costs g c =
    let shape = c.args.shape.now in
    let rows = c.args.rows.now in
    let order = c.in-Some.order in
    let some = c.in-Some.ensures.some in
    let past = rows_past shape rows c.loop-order.from order some.0 some.2 in
    let one = total_more (λ o. clear_calls (rows_in_order shape rows o)) order in
    let votes = some_clear_calls (rows_in_order shape rows order) (rows_some shape rows order c.in-Some.ensures.found) in
    let most = total_le (λ o. clear_calls (rows_in_order shape rows o)) (order + 1) orders (subst (λ (n : ℕ). order + 1 ≤ n) (sym orders_are) (omega (arith, some.1))) in
    costs_err true _ _ _ c.from_residual.result c.from_residual.ensures.0 (omega (arith, c.clear_votes.ensures.costs.most, c.loop-order.invariant.costs, past, one, votes, most))

pub loop-order-preserved : goal.loop-order-preserved
loop-order-preserved g c =
    let m = g.M.Media in
    let shape = c.args.shape.now in
    let rows = c.args.rows.now in
    let old = m.view c.args.media.now in
    let mid = m.view c.loop-order.media in
    let new = m.view c.clear_votes.new.media in
    let so_far = c.loop-order.invariant in
    let order = c.in-Some.order in
    let some = c.in-Some.ensures.some in
    let cleared = c.in_ok-clear_votes.ensures in
    let next : order + 1 ≡ c.from-from.result + 1 = omega (arith, c.from-from.ensures) in
    record {
      most = omega (arith, next, some.1);
      costs =
          let past = rows_past shape rows c.loop-order.from order some.0 some.2 in
          let one = total_more (λ o. clear_calls (rows_in_order shape rows o)) order in
          let here = ap (total (λ o. clear_calls (rows_in_order shape rows o))) next in
          let votes = some_clear_calls (rows_in_order shape rows order) (rows_some shape rows order c.in-Some.ensures.found) in
          omega (arith, past, one, here, votes, so_far.costs, cleared.costs.done refl);
      does = goes_on m.tells _ _ _ _ _ (λ told. fewer_votes shape (decided_in shape rows) (is_one_of shape rows (DecidedAs order)) (λ h t lt lt' so. (and_parts (decided_in shape rows h t) (nat_eq (row_in rows h t).order order) so).0))
          so_far.does cleared.does refl;
      settled = λ told. (cleared.cleared told).0;
      zeros = λ told. more_cleared shape old.content.bytes mid.content.bytes new.content.bytes (so_far.zeros told) (cleared.zeros told);
      left = λ told. subst (RowsLeft shape new.content.bytes rows) next
          (cleared_left shape rows order mid.content.bytes new.content.bytes (order_left shape rows mid.content c.loop-order.from order (so_far.left told) some.0 some.2) (cleared.does.touched told).bytes (cleared.cleared told).1);
      recovering = λ told bytes recovering.
          still_recovering shape rows mid.content c.loop-order.from order (so_far.left told) some.0 some.2 some.1 (so_far.settled told) bytes (so_far.recovering told bytes recovering) new.content (cleared.does.touched told) (cleared.cleared told).0;
      time = λ told bytes recovering.
          let here = header_stays (votes_of shape (decided_in shape rows)) old.content.bytes mid.content.bytes (votes_behind shape (decided_in shape rows)) (so_far.does.touched told).bytes in
          then (so_far.time told bytes recovering)
          (weaker (clearing shape rows mid.content c.loop-order.from order (so_far.left told) some.0 some.2 some.1 (so_far.settled told) bytes (so_far.recovering told bytes recovering) (range old.content.bytes 0 512) here) (cleared.does.time told));
    }

pub returns-clause-costs : goal.returns-clause-costs
returns-clause-costs g c =
    let all = rows_behind c.args.shape.now c.args.rows.now c.loop-order.from c.loop-order.invariant.most (c.in_default.ensures.none refl) in
    costs_all true _ _ _ _ (omega (arith, all, c.loop-order.invariant.costs))
