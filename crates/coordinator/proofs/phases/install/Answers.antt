use Rattle.std.proofs.Common.{◌≡◌, ℕ, ◌+◌, ◌*◌, List, refl, sym, ◌∙◌, ap, length, arith}
use Rattle.std.proofs.lemmas.Result.{on_ok_weaker}
use Rattle.array_shape.specs.NumberSet.{numbers_from}
use Rattle.array_shape.specs.Places.{media_len}
use Rattle.array_shape.specs.Logged.{Part, applied}
use Rattle.array_image.specs.Image.{data_of}
use Rattle.array_image.proofs.Calls.{goes_on, hands_on, none_yet, then_barrier, barrier_keeps}
use Rattle.mars_base.proofs.Costing.{costs_one, costs_more, costs_err, costs_then, none_yet as no_costs}
use Rattle.coordinator.specs.Costs.{parts_at, total}
use Rattle.coordinator.proofs.Applying.{good_same, all_cells, number_within, number_applied}
use Rattle.coordinator.proofs.Costing.{total_le, total_more}
use Rattle.coordinator.specs.Commits.{number_parts, parts_named}
use Rattle.coordinator.proofs.Absent.{no_counts, no_parts}
use Rattle.coordinator.proofs.Members.{all_left, list_past, total_past, number_here, numbers_between, number_reached, number_below, numbers_left, numbers_behind}
use Rattle.coordinator.proofs.phases.install.Goals as goal

pub loop-tid-init : goal.loop-tid-init
loop-tid-init g c = (
  0,
  record {
    left = all_left c.args.table.now.shape.now.numbers c.args.ballot.group (omega arith) c.requires.there.small_group _ (c.into_iter-tid-iterator.ensures.into_iter_gives ∙ c.members-tid-items.ensures ∙ ap (λ (bits : ℕ). numbers_from bits 0 64) c.group_of.ensures);
    costs = no_costs g.M.Media.tells _ _ (omega arith);
    does = none_yet g.M.Media.tells _ _;
    applied = λ told. refl;
  },
)

pub install_of-requires-clause-tid : goal.install_of-requires-clause-tid
install_of-requires-clause-tid g c = number_below c.args.table.now.shape.now c.args.ballot c.requires.there.small_group c.loop-tid.invariant.0 _ c.loop-tid.invariant.1.left c.in-Some.tid _ c.in-Some.ensures.steps

pub install_of-requires-clause-has : goal.install_of-requires-clause-has
install_of-requires-clause-has g c = number_here c.args.table.now.shape.now c.args.ballot c.requires.there.small_group c.loop-tid.invariant.0 _ c.loop-tid.invariant.1.left c.in-Some.tid _ c.in-Some.ensures.steps

pub install_of-requires-clause-good : goal.install_of-requires-clause-good
install_of-requires-clause-good g c told =
    let m = g.M.Media in
    let base = (m.view c.args.media.now).content.bytes in
    let cur = (m.view c.loop-tid.media).content.bytes in
    let shape = c.args.table.now.shape.now in
    let ballot = c.args.ballot in
    let cells = c.args.table.now.cells.now in
    let long : length base ≡ media_len shape = g.met.M.Media.long c.args.media.now told ∙ c.requires.size in
    good_same shape ballot cells c.requires.there base cur (all_cells shape ballot cells c.requires.there base long (c.requires.good told) cur (c.loop-tid.invariant.1.does.touched told).bytes) (c.requires.good told)

pub returns-in_err-install_of-clause-does : goal.returns-in_err-install_of-clause-does
returns-in_err-install_of-clause-does g c =
    let m = g.M.Media in
    let base = (m.view c.args.media.now).content.bytes in
    let cur = (m.view c.loop-tid.media).content.bytes in
    let shape = c.args.table.now.shape.now in
    let ballot = c.args.ballot in
    let cells = c.args.table.now.cells.now in
    hands_on m.tells _ _ _ _ _ (λ told i out.
    let long : length base ≡ media_len shape = g.met.M.Media.long c.args.media.now told ∙ c.requires.size in
    number_within shape ballot cells c.requires.there base long (c.requires.good told) cur (c.loop-tid.invariant.1.does.touched told).bytes c.in-Some.tid (number_below c.args.table.now.shape.now c.args.ballot c.requires.there.small_group c.loop-tid.invariant.0 _ c.loop-tid.invariant.1.left c.in-Some.tid _ c.in-Some.ensures.steps) i out)
    c.loop-tid.invariant.1.does c.from_residual.result c.from_residual.ensures.0 c.in_err-install_of.ensures.does

pub loop-tid-preserved : goal.loop-tid-preserved
loop-tid-preserved g c =
    let m = g.M.Media in
    let base = (m.view c.args.media.now).content.bytes in
    let cur = (m.view c.loop-tid.media).content.bytes in
    let shape = c.args.table.now.shape.now in
    let ballot = c.args.ballot in
    let cells = c.args.table.now.cells.now in
    let at = c.loop-tid.invariant.0 in
    let n = c.in-Some.tid in
    let reached = number_reached c.args.table.now.shape.now c.args.ballot c.requires.there.small_group c.loop-tid.invariant.0 _ c.loop-tid.invariant.1.left c.in-Some.tid _ c.in-Some.ensures.steps in
    let between = numbers_between c.args.table.now.shape.now c.args.ballot c.requires.there.small_group c.loop-tid.invariant.0 _ c.loop-tid.invariant.1.left c.in-Some.tid _ c.in-Some.ensures.steps in
    let past = total_past at n reached (parts_at shape ballot cells) (λ u from under. no_counts shape ballot u (between u from under) cells) in
    let one = total_more (parts_at shape ballot cells) n in (
      n + 1,
      record {
        left = numbers_left c.args.table.now.shape.now c.args.ballot c.requires.there.small_group c.loop-tid.invariant.0 _ c.loop-tid.invariant.1.left c.in-Some.tid _ c.in-Some.ensures.steps;
        costs = costs_more m.tells _ (2 * total (parts_at shape ballot cells) at) _ _ _ _ _ (omega (arith, past, one)) c.loop-tid.invariant.1.costs c.in_ok-install_of.ensures.costs;
        does = goes_on m.tells _ _ _ _ _ (λ told i out.
            let long : length base ≡ media_len shape = g.met.M.Media.long c.args.media.now told ∙ c.requires.size in
            number_within shape ballot cells c.requires.there base long (c.requires.good told) cur (c.loop-tid.invariant.1.does.touched told).bytes c.in-Some.tid (number_below c.args.table.now.shape.now c.args.ballot c.requires.there.small_group c.loop-tid.invariant.0 _ c.loop-tid.invariant.1.left c.in-Some.tid _ c.in-Some.ensures.steps) i out)
            c.loop-tid.invariant.1.does c.in_ok-install_of.ensures.does refl;
        applied = λ told.
            let long : length base ≡ media_len shape = g.met.M.Media.long c.args.media.now told ∙ c.requires.size in
            number_applied shape ballot cells c.requires.there base long (c.requires.good told) cur (c.loop-tid.invariant.1.does.touched told).bytes c.in-Some.tid (number_below c.args.table.now.shape.now c.args.ballot c.requires.there.small_group c.loop-tid.invariant.0 _ c.loop-tid.invariant.1.left c.in-Some.tid _ c.in-Some.ensures.steps) (m.view c.install_of.new.media).content.bytes (c.loop-tid.invariant.1.applied told ∙ ap (λ (ps : List Part). applied ps (data_of shape base)) (sym (list_past at n reached (number_parts shape base ballot cells) (λ u from under. no_parts shape ballot u (between u from under) cells base)))) (c.in_ok-install_of.ensures.applied told);
      },
    )

pub returns-in_err-install_of-clause-costs : goal.returns-in_err-install_of-clause-costs
returns-in_err-install_of-clause-costs g c =
    let shape = c.args.table.now.shape.now in
    let ballot = c.args.ballot in
    let cells = c.args.table.now.cells.now in
    let at = c.loop-tid.invariant.0 in
    let n = c.in-Some.tid in
    let between = numbers_between c.args.table.now.shape.now c.args.ballot c.requires.there.small_group c.loop-tid.invariant.0 _ c.loop-tid.invariant.1.left c.in-Some.tid _ c.in-Some.ensures.steps in
    let past = total_past at n (number_reached c.args.table.now.shape.now c.args.ballot c.requires.there.small_group c.loop-tid.invariant.0 _ c.loop-tid.invariant.1.left c.in-Some.tid _ c.in-Some.ensures.steps) (parts_at shape ballot cells) (λ u from under. no_counts shape ballot u (between u from under) cells) in
    let most = total_le (parts_at shape ballot cells) (n + 1) shape.numbers (omega (arith, number_below c.args.table.now.shape.now c.args.ballot c.requires.there.small_group c.loop-tid.invariant.0 _ c.loop-tid.invariant.1.left c.in-Some.tid _ c.in-Some.ensures.steps)) in
    costs_err g.M.Media.tells _ _ _ c.from_residual.result c.from_residual.ensures.0 (omega (arith, c.install_of.ensures.costs.most, c.loop-tid.invariant.1.costs.most, past, total_more (parts_at shape ballot cells) n, most))

pub returns-clause-costs : goal.returns-clause-costs
returns-clause-costs g c =
    let shape = c.args.table.now.shape.now in
    let ballot = c.args.ballot in
    let cells = c.args.table.now.cells.now in
    let at = c.loop-tid.invariant.0 in
    let behind = numbers_behind shape ballot c.requires.there.small_group at _ c.loop-tid.invariant.1.left c.in-None.ensures.steps.0 in
    let all = total_past at shape.numbers c.loop-tid.invariant.1.left.most (parts_at shape ballot cells) (λ u from under. no_counts shape ballot u (behind u from under) cells) in
    costs_then g.M.Media.tells _ (2 * total (parts_at shape ballot cells) at) 1 _ _ _ c.barrier.result (omega (arith, all)) c.loop-tid.invariant.1.costs (costs_one g.M.Media.tells _ _ _ c.barrier.ensures.ticks)

pub returns-clause-does : goal.returns-clause-does
returns-clause-does g c = then_barrier g.M.Media.tells _ _ _ _ c.barrier.result c.loop-tid.invariant.1.does c.barrier.ensures.does

pub returns-clause-applied : goal.returns-clause-applied
returns-clause-applied g c told =
    let m = g.M.Media in
    let base = (m.view c.args.media.now).content.bytes in
    let shape = c.args.table.now.shape.now in
    let ballot = c.args.ballot in
    let cells = c.args.table.now.cells.now in
    let at = c.loop-tid.invariant.0 in
    let behind = numbers_behind shape ballot c.requires.there.small_group at _ c.loop-tid.invariant.1.left c.in-None.ensures.steps.0 in
    let all = list_past at shape.numbers c.loop-tid.invariant.1.left.most (number_parts shape base ballot cells) (λ u from under. no_parts shape ballot u (behind u from under) cells base) in
    on_ok_weaker c.barrier.result (barrier_keeps (λ bytes. data_of shape bytes ≡ applied (parts_named shape base ballot cells) (data_of shape base)) (m.view c.loop-tid.media).content (m.view c.barrier.new.self).content
    (c.loop-tid.invariant.1.applied told ∙ ap (λ (ps : List Part). applied ps (data_of shape base)) (sym all))) (c.barrier.ensures.settled told)
