use Rattle.std.proofs.Common.{refl, ◌≡◌, ◌+◌, ◌*◌, ◌<◌, ◌≤◌, ℕ, true, List, ◌∙◌, sym, ap, subst, length, arith}
use Rattle.array_shape.specs.Places.{media_len}
use Rattle.array_shape.specs.Logged.{Part, applied}
use Rattle.row_bytes.specs.declared.row.Row.{Row}
use Rattle.array_image.specs.Joined.{joined}
use Rattle.array_image.specs.Image.{row_of, data_of}
use Rattle.array_image.specs.Decided.{decided, order_parts, orders}
use Rattle.array_image.proofs.Calls.{goes_on, hands_on}
use Rattle.array_image.proofs.Recovery.{no_more_orders}
use Rattle.device_recovery.specs.Table.{row_in, cells_in_order}
use Rattle.mars_base.proofs.Costing.{costs_err, costs_more, costs_ok}
use Rattle.device_recovery.specs.Recovered.{total}
use Rattle.device_recovery.proofs.Totals.{total_more, total_le}
use Rattle.device_recovery.proofs.OrderSums.{cells_past, cells_behind}
use Rattle.device_recovery.proofs.Applying.{is_order, orders_are, rows_stay, good_stays, order_within, order_applied}
use Rattle.device_recovery.proofs.Goods.{all_good, good_rows}
use Rattle.device_recovery.proofs.Read.{table_decided}
use Rattle.device_recovery.proofs.settling.apply_all.Goals as goal

pub apply_order-requires-clause-rows : goal.apply_order-requires-clause-rows
apply_order-requires-clause-rows g c told h t lt lt' =
    let m = g.M.Media in
    let shape = c.args.shape.now in
    let base = (m.view c.args.media.now).content.bytes in
    let long : length base ≡ media_len shape = g.met.M.Media.long c.args.media.now told ∙ c.requires.size in
    c.requires.rows told h t lt lt' ∙ sym (rows_stay shape base long (all_good shape base (c.requires.good told)) (m.view c.loop-order.media).content.bytes (c.loop-order.invariant.does.touched told).bytes h t lt lt')

pub apply_order-requires-clause-good : goal.apply_order-requires-clause-good
apply_order-requires-clause-good g c told =
    let m = g.M.Media in
    let shape = c.args.shape.now in
    let base = (m.view c.args.media.now).content.bytes in
    let cur = (m.view c.loop-order.media).content.bytes in
    let long : length base ≡ media_len shape = g.met.M.Media.long c.args.media.now told ∙ c.requires.size in
    good_rows shape cur (good_stays shape base long (all_good shape base (c.requires.good told)) cur (c.loop-order.invariant.does.touched told).bytes)

pub returns-in_err-apply_order-clause-does : goal.returns-in_err-apply_order-clause-does
returns-in_err-apply_order-clause-does g c =
    let m = g.M.Media in
    let shape = c.args.shape.now in
    let base = (m.view c.args.media.now).content.bytes in
    let cur = (m.view c.loop-order.media).content.bytes in
    hands_on m.tells _ _ _ _ _ (λ told.
    let long : length base ≡ media_len shape = g.met.M.Media.long c.args.media.now told ∙ c.requires.size in
    order_within shape base long (all_good shape base (c.requires.good told)) cur (c.loop-order.invariant.does.touched told).bytes c.in-Some.order (is_order c.in-Some.order c.in-Some.ensures.some.1))
    c.loop-order.invariant.does c.from_residual.result c.from_residual.ensures.0 c.in_err-apply_order.ensures.does

pub returns-in_err-apply_order-clause-costs : goal.returns-in_err-apply_order-clause-costs
returns-in_err-apply_order-clause-costs g c =
    let shape = c.args.shape.now in
    let order = c.in-Some.order in
    let some = c.in-Some.ensures.some in
    let past = cells_past shape c.args.rows.now c.loop-order.from order some.0 some.2 in
    let one = total_more (cells_in_order shape c.args.rows.now) order in
    let most = total_le (cells_in_order shape c.args.rows.now) (order + 1) orders (subst (λ (n : ℕ). order + 1 ≤ n) (sym orders_are) (omega (arith, some.1))) in
    costs_err g.M.Media.tells _ _ _ c.from_residual.result c.from_residual.ensures.0 (omega (arith, c.apply_order.ensures.costs.most, c.loop-order.invariant.costs.most, past, one, most))

pub loop-order-preserved : goal.loop-order-preserved
loop-order-preserved g c =
    let m = g.M.Media in
    let shape = c.args.shape.now in
    let base = (m.view c.args.media.now).content.bytes in
    let cur = (m.view c.loop-order.media).content.bytes in
    let order = c.in-Some.order in
    let some = c.in-Some.ensures.some in
    let next : order + 1 ≡ c.from-from.result + 1 = omega (arith, c.from-from.ensures) in
    record {
      most = omega (arith, next, some.1);
      costs =
          let past = cells_past shape c.args.rows.now c.loop-order.from order some.0 some.2 in
          let one = total_more (cells_in_order shape c.args.rows.now) order in
          let here = ap (total (cells_in_order shape c.args.rows.now)) next in
          costs_more m.tells _ (2 * total (cells_in_order shape c.args.rows.now) c.loop-order.from) _ _ _ _ _ (omega (arith, past, one, here)) c.loop-order.invariant.costs c.in_ok-apply_order.ensures.costs;
      does = goes_on m.tells _ _ _ _ _ (λ told.
          let long : length base ≡ media_len shape = g.met.M.Media.long c.args.media.now told ∙ c.requires.size in
          order_within shape base long (all_good shape base (c.requires.good told)) cur (c.loop-order.invariant.does.touched told).bytes order (is_order order some.1))
          c.loop-order.invariant.does c.in_ok-apply_order.ensures.does refl;
      applied = λ told.
          let long : length base ≡ media_len shape = g.met.M.Media.long c.args.media.now told ∙ c.requires.size in
          let are = c.requires.rows told in
          let least : (h t : ℕ) → h < shape.loggers → t < shape.numbers → decided shape base h t ≡ true → c.loop-order.from ≤ (row_of shape base h t).order → order ≤ (row_of shape base h t).order =
          λ h t lt lt' so le.
          let same : (row_in c.args.rows.now h t).order ≡ (row_of shape base h t).order = ap (λ (r : Row). r.order) (are h t lt lt') in
          let found = some.2 t lt' h lt (table_decided shape base c.args.rows.now are h t lt lt' ∙ so) (omega (arith, same, le)) in
          omega (arith, same, found.0) in
          order_applied shape base long (all_good shape base (c.requires.good told)) cur (c.loop-order.invariant.does.touched told).bytes c.loop-order.from order (m.view c.apply_order.new.media).content.bytes some.0 least
          (c.loop-order.invariant.applied told) (c.in_ok-apply_order.ensures.applied told)
          ∙ ap (λ (n : ℕ). applied (joined (order_parts shape base) 0 n) (data_of shape base)) next;
    }

pub returns-clause-applied : goal.returns-clause-applied
returns-clause-applied g c told =
    let m = g.M.Media in
    let shape = c.args.shape.now in
    let base = (m.view c.args.media.now).content.bytes in
    let are = c.requires.rows told in
    let most : c.loop-order.from ≤ orders = subst (λ n. c.loop-order.from ≤ n) (sym orders_are) c.loop-order.invariant.most in
    c.loop-order.invariant.applied told
    ∙ ap (λ (ps : List Part). applied ps (data_of shape base)) (sym (no_more_orders shape base c.loop-order.from most (λ h t lt lt' so.
    let same : (row_in c.args.rows.now h t).order ≡ (row_of shape base h t).order = ap (λ (r : Row). r.order) (are h t lt lt') in
    let none = c.in_default.ensures.none refl h t lt lt' (table_decided shape base c.args.rows.now are h t lt lt' ∙ so) in
    omega (arith, same, none))))

pub returns-clause-costs : goal.returns-clause-costs
returns-clause-costs g c =
    let all = cells_behind c.args.shape.now c.args.rows.now c.loop-order.from c.loop-order.invariant.most (c.in_default.ensures.none refl) in
    costs_ok g.M.Media.tells _ _ _ _ tt (omega (arith, all)) c.loop-order.invariant.costs
