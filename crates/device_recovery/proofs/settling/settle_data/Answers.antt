use Rattle.std.proofs.Common.{◌≡◌, ℕ, true, List, [], ◌∙◌, ap, sym, arith, ◌*◌, ◌<◌, length}
use Rattle.std.specs.Prelude.{Option, Some, None, is_ok, is_some, IfSome}
use Rattle.std.proofs.lemmas.Bool.{false_from_ne_true, false≢true}
use Rattle.array_image.specs.Decided.{all_decided, decided, orders}
use Rattle.array_shape.specs.Logged.{places_of}
use Rattle.pcm_media.proofs.Writing.{writes_on}
use Rattle.array_shape.specs.declared.shape.Shape.{Shape}
use Rattle.row_bytes.specs.declared.row.Row.{Row}
use Rattle.device_recovery.specs.Table.{HasOrder, cells_in_order, decided_in}
use Rattle.device_recovery.proofs.Lists.{none_counted}
use Rattle.mars_base.proofs.Costing.{costs_all, costs_err, costs_one, costs_then}
use Rattle.device_recovery.specs.Recovered.{at_rows, row_name, total}
use Rattle.device_recovery.proofs.Totals.{no_apply_calls, some_apply_calls}
use Rattle.device_recovery.proofs.OrderSums.{decided_some}
use Rattle.device_recovery.proofs.Clearing.{none_settled}
use Rattle.device_recovery.proofs.Read.{table_decided}
use Rattle.device_recovery.proofs.settling.settle_data.Goals as goal

pub returns-then-is_none-clause-applied : goal.returns-then-is_none-clause-applied
returns-then-is_none-clause-applied g c told =
    let shape = c.args.shape.now in
    let base = (g.M.Media.view c.args.media.now).content.bytes in (
      c.requires.sure told,
      sym (none_settled shape base (λ h t lt lt'. false_from_ne_true (decided shape base h t) (λ so.
          let none = c.next_order.ensures.none c.if-is_none.ensures h t lt lt' (table_decided shape base c.args.rows.now (c.requires.rows told) h t lt lt' ∙ so) in
          omega (arith, none)))),
    )

-- an order number that was found is that of a decided row
found_some : (shape : Shape) (rows : List Row) (next : Option ℕ) → is_some next ≡ true → IfSome next (HasOrder shape rows) → 0 < length (at_rows shape (decided_in shape rows) row_name)
found_some shape rows None some found = absurd (false≢true some)
found_some shape rows (Some order) some found = decided_some shape rows order found

pub returns-then-is_none-clause-costs : goal.returns-then-is_none-clause-costs
returns-then-is_none-clause-costs g c =
    let none = none_counted c.args.shape.now (decided_in c.args.shape.now c.args.rows.now) (λ h t lt lt'. false_from_ne_true (decided_in c.args.shape.now c.args.rows.now h t) (λ so. omega (arith, c.next_order.ensures.none c.if-is_none.ensures h t lt lt' so))) in
    costs_all g.M.Media.tells _ _ _ _ (omega (arith, no_apply_calls _ (total (cells_in_order c.args.shape.now c.args.rows.now) orders) none))

pub returns-in_err-apply_all-clause-costs : goal.returns-in_err-apply_all-clause-costs
returns-in_err-apply_all-clause-costs g c =
    let calls = some_apply_calls _ (total (cells_in_order c.args.shape.now c.args.rows.now) orders) (found_some c.args.shape.now c.args.rows.now c.next_order.result c.if-is_none.ensures c.next_order.ensures.found) in
    costs_err g.M.Media.tells _ _ _ c.from_residual.result c.from_residual.ensures.0 (omega (arith, calls, c.apply_all.ensures.costs.most))

pub returns-clause-costs : goal.returns-clause-costs
returns-clause-costs g c =
    let calls = some_apply_calls _ (total (cells_in_order c.args.shape.now c.args.rows.now) orders) (found_some c.args.shape.now c.args.rows.now c.next_order.result c.if-is_none.ensures c.next_order.ensures.found) in
    costs_then g.M.Media.tells _ (2 * total (cells_in_order c.args.shape.now c.args.rows.now) orders) 1 _ _ _ c.barrier.result calls (record { done = λ told. c.in_ok-apply_all.ensures.costs.done told; most = c.in_ok-apply_all.ensures.costs.most }) (costs_one g.M.Media.tells _ _ _ c.barrier.ensures.ticks)

pub returns-clause-does : goal.returns-clause-does
returns-clause-does g c =
    let view = g.M.Media.view in
    let all = places_of c.args.shape.now (all_decided c.args.shape.now (view c.args.media.now).content.bytes) in
    writes_on g.M.Media.tells all [] (view c.args.media.now) (view c.apply_all.new.media) (view c.barrier.new.self) c.apply_all.result c.barrier.result (ap is_ok c.in_ok-apply_all.was) (λ i out. tt) c.apply_all.ensures.does c.barrier.ensures.does
