use Rattle.std.proofs.Common.{true, ◌≡◌, ℕ, ◌+◌, ◌<◌, refl, ◌∙◌, ap, arith}
use Rattle.std.proofs.lemmas.Result.{on_ok_weaker}
use Rattle.array_shape.specs.NumberSet.{numbers_from}
use Rattle.row_bytes.specs.Ballots.{has_row}
use Rattle.array_image.proofs.Joined.{outside_at}
use Rattle.array_image.proofs.Calls.{goes_on, hands_on, none_yet, then_barrier, barrier_keeps}
use Rattle.mars_base.proofs.Costing.{costs_one, costs_err, costs_then, so_far}
use Rattle.commit_queue.specs.Rows.{bytes_of}
use Rattle.coordinator.specs.Costs.{rows_at, rows_in_all}
use Rattle.coordinator.specs.Places.{votes_at}
use Rattle.coordinator.specs.Rows.{HasVote}
use Rattle.coordinator.proofs.Absent.{no_row, no_rows}
use Rattle.coordinator.proofs.Calls.{votes_in_rows, numbers_more}
use Rattle.coordinator.proofs.Costing.{total_le, total_more}
use Rattle.coordinator.proofs.Members.{all_left, each_past, total_past, number_here, numbers_between, number_reached, number_below, numbers_left, numbers_behind}
use Rattle.coordinator.proofs.phases.set_votes.Goals as goal

pub loop-tid-init : goal.loop-tid-init
loop-tid-init g c = (
  0,
  record {
    left = all_left c.args.table.now.shape.now.numbers c.args.ballot.group (omega arith) c.requires.group _ (c.into_iter-tid-iterator.ensures.into_iter_gives ∙ c.members-tid-items.ensures ∙ ap (λ (bits : ℕ). numbers_from bits 0 64) c.group_of.ensures);
    costs = omega arith;
    does = none_yet g.M.Media.tells _ _;
    votes = λ told h t lt lt'. absurd (omega arith);
  },
)

pub set_votes_of-requires-clause-tid : goal.set_votes_of-requires-clause-tid
set_votes_of-requires-clause-tid g c =
    number_below c.args.table.now.shape.now c.args.ballot c.requires.group c.loop-tid.invariant.0 _ c.loop-tid.invariant.1.left c.in-Some.tid _ c.in-Some.ensures.steps

pub set_votes_of-requires-clause-has : goal.set_votes_of-requires-clause-has
set_votes_of-requires-clause-has g c =
    number_here c.args.table.now.shape.now c.args.ballot c.requires.group c.loop-tid.invariant.0 _ c.loop-tid.invariant.1.left c.in-Some.tid _ c.in-Some.ensures.steps

pub returns-in_err-set_votes_of-clause-does : goal.returns-in_err-set_votes_of-clause-does
returns-in_err-set_votes_of-clause-does g c =
    let n = c.in-Some.tid in
    let below = number_below c.args.table.now.shape.now c.args.ballot c.requires.group c.loop-tid.invariant.0 _ c.loop-tid.invariant.1.left n _ c.in-Some.ensures.steps in
    hands_on g.M.Media.tells _ _ _ _ _ (λ told i out. outside_at (votes_at c.args.table.now.shape.now c.args.ballot) i 0 c.args.table.now.shape.now.numbers out n (omega arith) (omega (arith, below))) c.loop-tid.invariant.1.does c.from_residual.result c.from_residual.ensures.0 c.in_err-set_votes_of.ensures.does

pub loop-tid-preserved : goal.loop-tid-preserved
loop-tid-preserved g c =
    let shape = c.args.table.now.shape.now in
    let ballot = c.args.ballot in
    let at = c.loop-tid.invariant.0 in
    let done = c.loop-tid.invariant.1 in
    let n = c.in-Some.tid in
    let steps = c.in-Some.ensures.steps in
    let below = number_below shape ballot c.requires.group at _ done.left n _ steps in
    let reached = number_reached shape ballot c.requires.group at _ done.left n _ steps in
    let between = numbers_between shape ballot c.requires.group at _ done.left n _ steps in
    let past = total_past at n reached (rows_at shape ballot) (λ u from under. no_rows shape ballot u (between u from under)) in
    let one = c.in_ok-set_votes_of.ensures.costs.done refl in (
      n + 1,
      record {
        left = numbers_left shape ballot c.requires.group at _ done.left n _ steps;
        costs = omega (arith, one, done.costs, past, total_more (rows_at shape ballot) n);
        does = goes_on g.M.Media.tells _ _ _ _ _ (λ told i out. outside_at (votes_at shape ballot) i 0 shape.numbers out n (omega arith) (omega (arith, below))) done.does c.in_ok-set_votes_of.ensures.does refl;
        votes = λ told. numbers_more shape (has_row ballot) (λ h t r. HasVote c.args.voted r) n below (votes_at shape ballot n) (votes_in_rows shape ballot n)
            _ _ (c.in_ok-set_votes_of.ensures.does.touched told).bytes
            (λ h t lt. each_past at n reached (has_row ballot h) (λ u. HasVote c.args.voted (bytes_of shape (g.M.Media.view c.loop-tid.media).content.bytes h u)) (λ u from under. no_row shape ballot u (between u from under) h) (λ u. done.votes told h u lt) t)
            (c.in_ok-set_votes_of.ensures.votes told);
      },
    )

pub returns-clause-does : goal.returns-clause-does
returns-clause-does g c = then_barrier g.M.Media.tells _ _ _ _ c.barrier.result c.loop-tid.invariant.1.does c.barrier.ensures.does

pub returns-clause-votes : goal.returns-clause-votes
returns-clause-votes g c told =
    let shape = c.args.table.now.shape.now in
    let ballot = c.args.ballot in
    let at = c.loop-tid.invariant.0 in
    let done = c.loop-tid.invariant.1 in
    let behind = numbers_behind shape ballot c.requires.group at _ done.left c.in-None.ensures.steps.0 in
    on_ok_weaker c.barrier.result (barrier_keeps (λ bytes. (h t : ℕ) → h < shape.loggers → t < shape.numbers → has_row ballot h t ≡ true → HasVote c.args.voted (bytes_of shape bytes h t)) (g.M.Media.view c.loop-tid.media).content (g.M.Media.view c.barrier.new.self).content
    (λ h t lt. each_past at shape.numbers done.left.most (has_row ballot h) (λ u. HasVote c.args.voted (bytes_of shape (g.M.Media.view c.loop-tid.media).content.bytes h u)) (λ u from under. no_row shape ballot u (behind u from under) h) (λ u. done.votes told h u lt) t)) (c.barrier.ensures.settled told)

pub returns-in_err-set_votes_of-clause-costs : goal.returns-in_err-set_votes_of-clause-costs
returns-in_err-set_votes_of-clause-costs g c =
    let shape = c.args.table.now.shape.now in
    let ballot = c.args.ballot in
    let at = c.loop-tid.invariant.0 in
    let done = c.loop-tid.invariant.1 in
    let n = c.in-Some.tid in
    let steps = c.in-Some.ensures.steps in
    let below = number_below shape ballot c.requires.group at _ done.left n _ steps in
    let reached = number_reached shape ballot c.requires.group at _ done.left n _ steps in
    let between = numbers_between shape ballot c.requires.group at _ done.left n _ steps in
    let past = total_past at n reached (rows_at shape ballot) (λ u from under. no_rows shape ballot u (between u from under)) in
    let most = total_le (rows_at shape ballot) (n + 1) shape.numbers (omega (arith, below)) in
    costs_err true _ _ _ c.from_residual.result c.from_residual.ensures.0 (omega (arith, c.set_votes_of.ensures.costs.most, done.costs, past, total_more (rows_at shape ballot) n, most))

pub returns-clause-costs : goal.returns-clause-costs
returns-clause-costs g c =
    let shape = c.args.table.now.shape.now in
    let ballot = c.args.ballot in
    let at = c.loop-tid.invariant.0 in
    let done = c.loop-tid.invariant.1 in
    let behind = numbers_behind shape ballot c.requires.group at _ done.left c.in-None.ensures.steps.0 in
    let all = total_past at shape.numbers done.left.most (rows_at shape ballot) (λ u from under. no_rows shape ballot u (behind u from under)) in
    costs_then true _ (rows_in_all shape ballot) 1 _ _ _ c.barrier.result refl (so_far true _ _ _ (omega (arith, done.costs, all))) (costs_one true _ _ _ c.barrier.ensures.ticks)
