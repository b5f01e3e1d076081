use Rattle.std.proofs.Common.{refl, ◌≡◌, ◌+◌, ◌∙◌, length, arith}
use Rattle.std.proofs.lemmas.Result.{on_ok_weaker}
use Rattle.mars_base.proofs.Costing.{CostsSoFar, costs_err, costs_then}
use Rattle.array_image.specs.Decided.{orders}
use Rattle.device_recovery.specs.declared.which.Which.TheVariants.{Dropped}
use Rattle.device_recovery.specs.Table.{decided_in, is_one_of, cells_in_order, rows_in_order}
use Rattle.mars_base.proofs.Going.{then}
use Rattle.array_shape.specs.Places.{media_len}
use Rattle.array_image.proofs.Calls.{none_yet, goes_on, ends_with, hands_on}
use Rattle.device_recovery.specs.Recovered.{recovered_places, at_rows, row_name, apply_calls, clear_calls, total}
use Rattle.device_recovery.proofs.Goods.{all_good}
use Rattle.device_recovery.proofs.Moments.{data_law, mid_rows, drop_law, low_recovering, clear_law, data_stays, data_within, dropped_within, decided_within, clean_from}
use Rattle.device_recovery.proofs.Zeroing.{more_cleared, parts_clear_nothing}
use Rattle.device_recovery.proofs.recovery.settle.Goals as goal

pub returns-in_err-settle_data-clause-any_moment : goal.returns-in_err-settle_data-clause-any_moment
returns-in_err-settle_data-clause-any_moment g c told lawful =
    let m = g.M.Media in
    let shape = c.args.shape.now in
    let old = m.view c.args.media.now in
    let long : length old.content.bytes ≡ media_len shape = g.met.M.Media.long c.args.media.now told ∙ c.requires.size in
    data_law shape old long (c.requires.sure told) (all_good shape old.content.bytes (c.requires.good told)) (m.view c.settle_data.new.media) lawful (c.settle_data.ensures.does.time told)

pub returns-in_err-settle_data-clause-does : goal.returns-in_err-settle_data-clause-does
returns-in_err-settle_data-clause-does g c =
    let m = g.M.Media in
    hands_on m.tells _ _ _ _ _ (λ told. data_within c.args.shape.now (m.view c.args.media.now).content.bytes) (none_yet m.tells _ (m.view c.args.media.now)) c.from_residual.result c.from_residual.ensures.0 c.in_err-settle_data.ensures.does

pub drop_votes-requires-clause-sure : goal.drop_votes-requires-clause-sure
drop_votes-requires-clause-sure g c told = (c.in_ok-settle_data.ensures.applied told).0

pub drop_votes-requires-clause-rows : goal.drop_votes-requires-clause-rows
drop_votes-requires-clause-rows g c told =
    let m = g.M.Media in
    let shape = c.args.shape.now in
    let old = m.view c.args.media.now in
    let long : length old.content.bytes ≡ media_len shape = g.met.M.Media.long c.args.media.now told ∙ c.requires.size in
    mid_rows shape old long (c.requires.sure told) (all_good shape old.content.bytes (c.requires.good told)) (m.view c.settle_data.new.media) (c.in_ok-settle_data.ensures.does.touched told) (c.in_ok-settle_data.ensures.applied told) c.args.rows.now (c.requires.rows told)

pub returns-in_err-drop_votes-clause-any_moment : goal.returns-in_err-drop_votes-clause-any_moment
returns-in_err-drop_votes-clause-any_moment g c told lawful =
    let m = g.M.Media in
    let shape = c.args.shape.now in
    let old = m.view c.args.media.now in
    let mid = m.view c.settle_data.new.media in
    let long : length old.content.bytes ≡ media_len shape = g.met.M.Media.long c.args.media.now told ∙ c.requires.size in
    let good = all_good shape old.content.bytes (c.requires.good told) in
    then (data_law shape old long (c.requires.sure told) good mid lawful (c.settle_data.ensures.does.time told))
    (drop_law shape old long (c.requires.sure told) good mid (c.in_ok-settle_data.ensures.does.touched told) (c.in_ok-settle_data.ensures.applied told) c.args.rows.now (c.requires.rows told) (m.view c.drop_votes.new.media) lawful (c.drop_votes.ensures.does.time told))

pub returns-in_err-drop_votes-clause-does : goal.returns-in_err-drop_votes-clause-does
returns-in_err-drop_votes-clause-does g c =
    let m = g.M.Media in
    let shape = c.args.shape.now in
    let old = m.view c.args.media.now in
    let all = recovered_places shape old.content.bytes in
    let data_done = goes_on m.tells all _ _ _ _ (λ told. data_within shape old.content.bytes) (none_yet m.tells all old) c.in_ok-settle_data.ensures.does refl in
    hands_on m.tells _ _ _ _ _ (λ told. dropped_within shape old.content.bytes c.args.rows.now (c.requires.rows told)) data_done c.from_residual-in_err-drop_votes.result c.from_residual-in_err-drop_votes.ensures.0 c.in_err-drop_votes.ensures.does

pub clear_decided-requires-clause-sure : goal.clear_decided-requires-clause-sure
clear_decided-requires-clause-sure g c told = (c.in_ok-drop_votes.ensures.left told).0

pub clear_decided-requires-clause-left : goal.clear_decided-requires-clause-left
clear_decided-requires-clause-left g c told = (c.in_ok-drop_votes.ensures.left told).1

pub returns-clause-clean : goal.returns-clause-clean
returns-clause-clean g c told =
    let m = g.M.Media in
    let shape = c.args.shape.now in
    let old = m.view c.args.media.now in
    let mid = m.view c.settle_data.new.media in
    let low = m.view c.drop_votes.new.media in
    let now = m.view c.clear_decided.new.media in
    let before : length old.content.bytes ≡ media_len shape = g.met.M.Media.long c.args.media.now told ∙ c.requires.size in
    let long : length now.content.bytes ≡ media_len shape = g.met.M.Media.long c.clear_decided.new.media told ∙ c.clear_decided.ensures.does.size ∙ c.drop_votes.ensures.does.size ∙ c.settle_data.ensures.does.size ∙ c.requires.size in
    on_ok_weaker c.clear_decided.result (λ done. clean_from shape _ now.content long done.0 done.1
    (data_stays shape old before (c.requires.sure told) (all_good shape old.content.bytes (c.requires.good told)) mid (c.in_ok-settle_data.ensures.does.touched told) (c.in_ok-settle_data.ensures.applied told) c.args.rows.now (c.requires.rows told)
    low (c.in_ok-drop_votes.ensures.does.touched told) (c.in_ok-drop_votes.ensures.left told).0 now.content (c.clear_decided.ensures.does.touched told))) (c.clear_decided.ensures.cleared told)

pub returns-clause-settled : goal.returns-clause-settled
returns-clause-settled g c told =
    let m = g.M.Media in
    let shape = c.args.shape.now in
    let old = m.view c.args.media.now in
    let mid = m.view c.settle_data.new.media in
    let low = m.view c.drop_votes.new.media in
    let now = m.view c.clear_decided.new.media in
    let long : length old.content.bytes ≡ media_len shape = g.met.M.Media.long c.args.media.now told ∙ c.requires.size in
    on_ok_weaker c.clear_decided.result (λ done. data_stays shape old long (c.requires.sure told) (all_good shape old.content.bytes (c.requires.good told)) mid (c.in_ok-settle_data.ensures.does.touched told) (c.in_ok-settle_data.ensures.applied told) c.args.rows.now (c.requires.rows told)
    low (c.in_ok-drop_votes.ensures.does.touched told) (c.in_ok-drop_votes.ensures.left told).0 now.content (c.clear_decided.ensures.does.touched told)) (c.clear_decided.ensures.cleared told)

pub returns-clause-sure : goal.returns-clause-sure
returns-clause-sure g c told = on_ok_weaker c.clear_decided.result (λ done. done.0) (c.clear_decided.ensures.cleared told)

pub returns-clause-any_moment : goal.returns-clause-any_moment
returns-clause-any_moment g c told lawful =
    let m = g.M.Media in
    let shape = c.args.shape.now in
    let old = m.view c.args.media.now in
    let mid = m.view c.settle_data.new.media in
    let low = m.view c.drop_votes.new.media in
    let now = m.view c.clear_decided.new.media in
    let long : length old.content.bytes ≡ media_len shape = g.met.M.Media.long c.args.media.now told ∙ c.requires.size in
    let sure = c.requires.sure told in
    let good = all_good shape old.content.bytes (c.requires.good told) in
    let touched = c.in_ok-settle_data.ensures.does.touched told in
    let applied = c.in_ok-settle_data.ensures.applied told in
    let are = c.requires.rows told in
    let fewer = c.in_ok-drop_votes.ensures.does.touched told in
    let settled = (c.in_ok-drop_votes.ensures.left told).0 in
    then (then (data_law shape old long sure good mid lawful (c.settle_data.ensures.does.time told)) (drop_law shape old long sure good mid touched applied c.args.rows.now are low lawful (c.drop_votes.ensures.does.time told)))
    (clear_law shape old long sure good mid touched applied c.args.rows.now are low fewer settled now
    (c.clear_decided.ensures.any_moment told _ (low_recovering shape old long sure good mid touched applied c.args.rows.now are low fewer settled lawful)))

pub returns-clause-does : goal.returns-clause-does
returns-clause-does g c =
    let m = g.M.Media in
    let shape = c.args.shape.now in
    let old = m.view c.args.media.now in
    let all = recovered_places shape old.content.bytes in
    let data_done = goes_on m.tells all _ _ _ _ (λ told. data_within shape old.content.bytes) (none_yet m.tells all old) c.in_ok-settle_data.ensures.does refl in
    let dropped_done = goes_on m.tells all _ _ _ _ (λ told. dropped_within shape old.content.bytes c.args.rows.now (c.requires.rows told)) data_done c.in_ok-drop_votes.ensures.does refl in
    ends_with m.tells all _ _ _ _ (λ told. decided_within shape old.content.bytes c.args.rows.now (c.requires.rows told)) dropped_done c.clear_decided.result c.clear_decided.ensures.does

pub returns-in_err-settle_data-clause-costs : goal.returns-in_err-settle_data-clause-costs
returns-in_err-settle_data-clause-costs g c = costs_err g.M.Media.tells _ _ _ c.from_residual.result c.from_residual.ensures.0 (omega (arith, c.settle_data.ensures.costs.most))

pub returns-in_err-drop_votes-clause-costs : goal.returns-in_err-drop_votes-clause-costs
returns-in_err-drop_votes-clause-costs g c = costs_err g.M.Media.tells _ _ _ c.from_residual-in_err-drop_votes.result c.from_residual-in_err-drop_votes.ensures.0 (omega (arith, c.settle_data.ensures.costs.most, c.drop_votes.ensures.costs.most))

pub returns-clause-costs : goal.returns-clause-costs
returns-clause-costs g c =
    let m = g.M.Media in
    let shape = c.args.shape.now in
    let rows = c.args.rows.now in
    let written = c.in_ok-settle_data.ensures.costs in
    let dropped = c.in_ok-drop_votes.ensures.costs in
    let both : CostsSoFar m.tells (apply_calls (length (at_rows shape (decided_in shape rows) row_name)) (total (cells_in_order shape rows) orders) + clear_calls (length (at_rows shape (is_one_of shape rows Dropped) row_name))) (m.view c.args.media.now).moment (m.view c.drop_votes.new.media).moment =
    record { done = λ told. let one = written.done told in let two = dropped.done refl in omega (arith, one, two); most = omega (arith, written.most, dropped.most) } in
    costs_then m.tells _ _ (total (λ o. clear_calls (rows_in_order shape rows o)) orders) _ _ _ c.clear_decided.result refl both (record { done = λ told. c.clear_decided.ensures.costs.done refl; most = c.clear_decided.ensures.costs.most })

pub returns-clause-zeros : goal.returns-clause-zeros
returns-clause-zeros g c told =
    let m = g.M.Media in
    let shape = c.args.shape.now in
    let old = (m.view c.args.media.now).content.bytes in
    let mid = (m.view c.settle_data.new.media).content.bytes in
    let low = (m.view c.drop_votes.new.media).content.bytes in
    let now = (m.view c.clear_decided.new.media).content.bytes in
    let long : length old ≡ media_len shape = g.met.M.Media.long c.args.media.now told ∙ c.requires.size in
    let parts = parts_clear_nothing shape old mid long (all_good shape old (c.requires.good told)) (c.in_ok-settle_data.ensures.does.touched told).bytes in
    let dropped = more_cleared shape old mid low parts (c.in_ok-drop_votes.ensures.zeros told) in
    on_ok_weaker c.clear_decided.result (more_cleared shape old low now dropped) (c.clear_decided.ensures.zeros told)

pub returns-clause-unvoted : goal.returns-clause-unvoted
returns-clause-unvoted g c told = on_ok_weaker c.clear_decided.result (λ done. done.1) (c.clear_decided.ensures.cleared told)
