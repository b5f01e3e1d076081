use Rattle.std.proofs.Common.{◌≡◌, ℕ, ◌+◌, true, cond, [], ◌∷◌, length, get_or, refl, sym, ◌∙◌, ap, subst, arith}
use Rattle.pcm_media.specs.Images.{Content, IsOutside, Touched, written}
use Rattle.array_shape.specs.NumberSet.{numbers_from}
use Rattle.array_shape.specs.Places.{media_len, row_at}
use Rattle.row_bytes.specs.Ballots.{has_row}
use Rattle.row_bytes.specs.Written.{vote_byte}
use Rattle.array_image.proofs.Calls.{goes_on, hands_on, none_yet}
use Rattle.mars_base.proofs.Costing.{costs_err, costs_all}
use Rattle.commit_queue.specs.Rows.{bytes_of}
use Rattle.coordinator.specs.Rows.{HasVote}
use Rattle.coordinator.proofs.Calls.{vote_within, rows_more}
use Rattle.coordinator.proofs.Costing.{counted, not_counted, total_le, total_next}
use Rattle.coordinator.proofs.Members.{all_left, each_past, total_past, row_here, rows_between, row_reached, row_below, rows_left, rows_behind}
use Rattle.coordinator.proofs.RowBytes.{put_vote}
use Rattle.coordinator.proofs.phases.set_votes_of.Goals as goal

pub loop-number-init : goal.loop-number-init
loop-number-init g c = (
  0,
  record {
    left = all_left c.args.table.now.shape.now.loggers c.args.ballot.mask (omega arith) c.requires.mask _ (c.into_iter-number-iterator.ensures.into_iter_gives ∙ c.members-number-items.ensures ∙ ap (λ (bits : ℕ). numbers_from bits 0 64) c.mask_of.ensures);
    costs = omega arith;
    does = none_yet g.M.Media.tells _ _;
    votes = λ told h lt. absurd (omega arith);
  },
)

pub new-requires : goal.new-requires
new-requires g c = row_below c.args.table.now.shape.now c.args.ballot c.requires.mask c.args.tid c.loop-number.invariant.0 _ c.loop-number.invariant.1.left c.in-Some.number _ c.in-Some.ensures.steps

pub returns-in_err-set_vote-clause-costs : goal.returns-in_err-set_vote-clause-costs
returns-in_err-set_vote-clause-costs g c =
    let ballot = c.args.ballot in
    let t = c.args.tid in
    let n = c.in-Some.number in
    let at = c.loop-number.invariant.0 in
    let left = c.loop-number.invariant.1.left in
    let steps = c.in-Some.ensures.steps in
    let count = λ (h : ℕ). cond (has_row c.args.ballot h c.args.tid) 1 0 in
    let past = total_past at n (row_reached c.args.table.now.shape.now ballot c.requires.mask t at _ left n _ steps) count (λ u from below. not_counted (has_row ballot u t) 1 (rows_between c.args.table.now.shape.now ballot c.requires.mask t at _ left n _ steps u from below)) in
    let one = total_next count n 1 (counted (has_row ballot n t) 1 (row_here c.args.table.now.shape.now ballot c.requires.mask t at _ left n _ steps c.requires.has)) in
    let most = total_le count (n + 1) c.args.table.now.shape.now.loggers (omega (arith, row_below c.args.table.now.shape.now ballot c.requires.mask t at _ left n _ steps)) in
    costs_err true _ _ _ c.from_residual.result c.from_residual.ensures.0 (omega (arith, c.set_vote.ensures.costs.most, c.loop-number.invariant.1.costs, past, one, most))

pub returns-in_err-set_vote-clause-does : goal.returns-in_err-set_vote-clause-does
returns-in_err-set_vote-clause-does g c =
    let logger = c.new.ensures in
    let ballot = c.args.ballot in
    let t = c.args.tid in
    let n = c.in-Some.number in
    let at = c.loop-number.invariant.0 in
    let left = c.loop-number.invariant.1.left in
    let steps = c.in-Some.ensures.steps in
    let has = row_here c.args.table.now.shape.now ballot c.requires.mask t at _ left n _ steps c.requires.has in
    let below = row_below c.args.table.now.shape.now ballot c.requires.mask t at _ left n _ steps in
    let same : (row_at c.new.result.shape c.new.result.number c.args.tid, 1) ≡ (row_at c.args.table.now.shape.now c.in-Some.number c.args.tid, 1) = (λ i. (row_at (logger.shape i) (logger.number i) c.args.tid, 1)) in
    hands_on g.M.Media.tells _ _ _ _ _ (λ told i out. subst (λ r. IsOutside (r ∷ []) i) (sym same) (vote_within c.args.table.now.shape.now ballot n t below has i out)) c.loop-number.invariant.1.does c.from_residual.result c.from_residual.ensures.0 c.in_err-set_vote.ensures.does

pub loop-number-preserved : goal.loop-number-preserved
loop-number-preserved g c =
    let logger = c.new.ensures in
    let ballot = c.args.ballot in
    let t = c.args.tid in
    let n = c.in-Some.number in
    let at = c.loop-number.invariant.0 in
    let so_far = c.loop-number.invariant.1 in
    let left = so_far.left in
    let steps = c.in-Some.ensures.steps in
    let reached = row_reached c.args.table.now.shape.now ballot c.requires.mask t at _ left n _ steps in
    let between = rows_between c.args.table.now.shape.now ballot c.requires.mask t at _ left n _ steps in
    let has = row_here c.args.table.now.shape.now ballot c.requires.mask t at _ left n _ steps c.requires.has in
    let below = row_below c.args.table.now.shape.now ballot c.requires.mask t at _ left n _ steps in
    let same : (row_at c.new.result.shape c.new.result.number c.args.tid, 1) ≡ (row_at c.args.table.now.shape.now c.in-Some.number c.args.tid, 1) = (λ i. (row_at (logger.shape i) (logger.number i) c.args.tid, 1)) in
    let bytes = (g.M.Media.view c.set_vote.new.media).content.bytes in
    let count = λ (h : ℕ). cond (has_row c.args.ballot h c.args.tid) 1 0 in
    let past = total_past at n reached count (λ u from under. not_counted (has_row ballot u t) 1 (between u from under)) in
    let one = c.in_ok-set_vote.ensures.costs.done refl in (
      n + 1,
      record {
        left = rows_left c.args.table.now.shape.now ballot c.requires.mask t at _ left n _ steps;
        costs = omega (arith, one, so_far.costs, past, total_next count n 1 (counted (has_row ballot n t) 1 has));
        does = goes_on g.M.Media.tells _ _ _ _ _ (λ told i out. subst (λ r. IsOutside (r ∷ []) i) (sym same) (vote_within c.args.table.now.shape.now ballot n t below has i out)) so_far.does c.in_ok-set_vote.ensures.does refl;
        votes = λ told.
            let touched = subst (λ r. Touched (r ∷ []) (g.M.Media.view c.loop-number.media).content (g.M.Media.view c.set_vote.new.media).content) same (c.in_ok-set_vote.ensures.does.touched told) in
            let old = (g.M.Media.view c.loop-number.media).content in
            let vote = vote_byte c.args.voted in
            let wrote : (g.M.Media.view c.set_vote.new.media).content ≡ written (row_at c.args.table.now.shape.now n t) (vote ∷ []) old = c.in_ok-set_vote.ensures.written told ∙ (λ i. written (row_at (logger.shape i) (logger.number i) t) (vote ∷ []) old) in
            let long : length old.bytes ≡ media_len c.args.table.now.shape.now = g.met.M.Media.long c.loop-number.media told ∙ so_far.does.size ∙ c.requires.size in
            let voted = ap (λ (content : Content). get_or (bytes_of c.args.table.now.shape.now content.bytes n t) 0 0) wrote ∙ put_vote c.args.table.now.shape.now old.bytes long n t below c.requires.tid vote in
            rows_more c.args.table.now.shape.now t c.requires.tid (λ h. has_row c.args.ballot h c.args.tid) (λ h r. HasVote c.args.voted r) n
            (row_at c.args.table.now.shape.now c.in-Some.number c.args.tid) 1 (λ i from under. (omega arith, omega arith)) _ bytes touched.bytes
            (each_past at n reached (λ h. has_row c.args.ballot h c.args.tid) (λ h. HasVote c.args.voted (bytes_of c.args.table.now.shape.now (g.M.Media.view c.loop-number.media).content.bytes h c.args.tid)) between (so_far.votes told))
            voted;
      },
    )

pub returns-clause-costs : goal.returns-clause-costs
returns-clause-costs g c =
    let ballot = c.args.ballot in
    let t = c.args.tid in
    let at = c.loop-number.invariant.0 in
    let so_far = c.loop-number.invariant.1 in
    let behind = rows_behind c.args.table.now.shape.now ballot c.requires.mask t at _ so_far.left c.in-None.ensures.steps.0 in
    let all = total_past at c.args.table.now.shape.now.loggers so_far.left.most (λ (h : ℕ). cond (has_row c.args.ballot h c.args.tid) 1 0) (λ u from under. not_counted (has_row ballot u t) 1 (behind u from under)) in
    costs_all true _ _ _ _ (omega (arith, all, so_far.costs))

pub returns-clause-votes : goal.returns-clause-votes
returns-clause-votes g c told =
    let ballot = c.args.ballot in
    let t = c.args.tid in
    let at = c.loop-number.invariant.0 in
    let so_far = c.loop-number.invariant.1 in
    let behind = rows_behind c.args.table.now.shape.now ballot c.requires.mask t at _ so_far.left c.in-None.ensures.steps.0 in
    each_past at c.args.table.now.shape.now.loggers so_far.left.most (λ h. has_row c.args.ballot h c.args.tid) (λ h. HasVote c.args.voted (bytes_of c.args.table.now.shape.now (g.M.Media.view c.loop-number.media).content.bytes h c.args.tid)) behind (so_far.votes told)
