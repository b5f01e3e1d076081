use Rattle.std.proofs.Common.{◌≡◌, ℕ, ◌+◌, true, false, cond, [], ◌∷◌, length, drop, refl, sym, ◌∙◌, ap, subst, arith}
use Rattle.pcm_media.specs.Images.{Content, IsOutside, Touched, written}
use Rattle.array_shape.specs.NumberSet.{numbers_from}
use Rattle.array_shape.specs.Places.{media_len, row_at}
use Rattle.row_bytes.specs.declared.ballot.Ballot.{Ballot}
use Rattle.row_bytes.specs.Ballots.{has_row}
use Rattle.row_bytes.specs.Written.{row_rest}
use Rattle.row_bytes.proofs.Saying.{row}
use Rattle.array_image.proofs.Calls.{goes_on, hands_on, none_yet}
use Rattle.mars_base.proofs.Costing.{costs_err, costs_all}
use Rattle.commit_queue.specs.Rows.{bytes_of}
use Rattle.coordinator.specs.declared.cells.Cells.{Cells}
use Rattle.coordinator.specs.Rows.{Says, row_with}
use Rattle.coordinator.proofs.Calls.{body_within, rows_more}
use Rattle.coordinator.proofs.Costing.{counted, not_counted, total_le, total_next}
use Rattle.coordinator.proofs.Members.{all_left, each_past, total_past, row_here, rows_between, row_reached, row_below, rows_left, rows_behind}
use Rattle.coordinator.proofs.RowBytes.{put_body}
use Rattle.coordinator.proofs.phases.put_rows_of.Goals as goal

pub loop-number-init : goal.loop-number-init
loop-number-init g c = (
  0,
  record {
    left = all_left c.args.table.now.shape.now.loggers c.args.ballot.mask (omega arith) c.requires.mask _ (c.into_iter-number-iterator.ensures.into_iter_gives ∙ c.members-number-items.ensures ∙ ap (λ (bits : ℕ). numbers_from bits 0 64) c.mask_of.ensures);
    costs = omega arith;
    does = none_yet g.M.Media.tells _ _;
    names = λ told h lt. absurd (omega arith);
  },
)

pub new-requires : goal.new-requires
new-requires g c = row_below c.args.table.now.shape.now c.args.ballot c.requires.mask c.args.tid c.loop-number.invariant.0 _ c.loop-number.invariant.1.left c.in-Some.number _ c.in-Some.ensures.steps

pub cells_in-first-requires-clause-logger : goal.cells_in-first-requires-clause-logger
cells_in-first-requires-clause-logger g c =
    omega (arith, row_below c.args.table.now.shape.now c.args.ballot c.requires.mask c.args.tid c.loop-number.invariant.0 _ c.loop-number.invariant.1.left c.in-Some.number _ c.in-Some.ensures.steps)

pub returns-in_err-put_row-clause-costs : goal.returns-in_err-put_row-clause-costs
returns-in_err-put_row-clause-costs g c =
    let ballot = c.args.ballot in
    let t = c.args.tid in
    let n = c.in-Some.number in
    let at = c.loop-number.invariant.0 in
    let left = c.loop-number.invariant.1.left in
    let steps = c.in-Some.ensures.steps in
    let count = λ (h : ℕ). cond (has_row c.args.ballot h c.args.tid) 1 0 in
    let past = total_past at n (row_reached c.args.table.now.shape.now ballot c.requires.mask t at _ left n _ steps) count (λ u from below. not_counted (has_row ballot u t) 1 (rows_between c.args.table.now.shape.now ballot c.requires.mask t at _ left n _ steps u from below)) in
    let one = total_next count n 1 (counted (has_row ballot n t) 1 (row_here c.args.table.now.shape.now ballot c.requires.mask t at _ left n _ steps c.requires.has)) in
    let most = total_le count (n + 1) c.args.table.now.shape.now.loggers (omega (arith, row_below c.args.table.now.shape.now ballot c.requires.mask t at _ left n _ steps)) in
    costs_err true _ _ _ c.from_residual.result c.from_residual.ensures.0 (omega (arith, c.put_row.ensures.costs.most, c.loop-number.invariant.1.costs, past, one, most))

pub returns-in_err-put_row-clause-does : goal.returns-in_err-put_row-clause-does
returns-in_err-put_row-clause-does g c =
    let logger = c.new.ensures in
    let ballot = c.args.ballot in
    let t = c.args.tid in
    let n = c.in-Some.number in
    let at = c.loop-number.invariant.0 in
    let left = c.loop-number.invariant.1.left in
    let steps = c.in-Some.ensures.steps in
    let has = row_here c.args.table.now.shape.now ballot c.requires.mask t at _ left n _ steps c.requires.has in
    let below = row_below c.args.table.now.shape.now ballot c.requires.mask t at _ left n _ steps in
    let same : (row_at c.new.result.shape c.new.result.number c.args.tid + 1, 15) ≡ (row_at c.args.table.now.shape.now c.in-Some.number c.args.tid + 1, 15) = (λ i. (row_at (logger.shape i) (logger.number i) c.args.tid + 1, 15)) in
    hands_on g.M.Media.tells _ _ _ _ _ (λ told i out. subst (λ r. IsOutside (r ∷ []) i) (sym same) (body_within c.args.table.now.shape.now ballot n t below has i out)) c.loop-number.invariant.1.does c.from_residual.result c.from_residual.ensures.0 c.in_err-put_row.ensures.does

pub loop-number-preserved : goal.loop-number-preserved
loop-number-preserved g c =
    let logger = c.new.ensures in
    let ballot = c.args.ballot in
    let t = c.args.tid in
    let n = c.in-Some.number in
    let at = c.loop-number.invariant.0 in
    let so_far = c.loop-number.invariant.1 in
    let left = so_far.left in
    let steps = c.in-Some.ensures.steps in
    let reached = row_reached c.args.table.now.shape.now ballot c.requires.mask t at _ left n _ steps in
    let between = rows_between c.args.table.now.shape.now ballot c.requires.mask t at _ left n _ steps in
    let has = row_here c.args.table.now.shape.now ballot c.requires.mask t at _ left n _ steps c.requires.has in
    let below = row_below c.args.table.now.shape.now ballot c.requires.mask t at _ left n _ steps in
    let same : (row_at c.new.result.shape c.new.result.number c.args.tid + 1, 15) ≡ (row_at c.args.table.now.shape.now c.in-Some.number c.args.tid + 1, 15) = (λ i. (row_at (logger.shape i) (logger.number i) c.args.tid + 1, 15)) in
    let bytes = (g.M.Media.view c.put_row.new.media).content.bytes in
    let count = λ (h : ℕ). cond (has_row c.args.ballot h c.args.tid) 1 0 in
    let past = total_past at n reached count (λ u from under. not_counted (has_row ballot u t) 1 (between u from under)) in
    let one = c.in_ok-put_row.ensures.costs.done refl in (
      n + 1,
      record {
        left = rows_left c.args.table.now.shape.now ballot c.requires.mask t at _ left n _ steps;
        costs = omega (arith, one, so_far.costs, past, total_next count n 1 (counted (has_row ballot n t) 1 has));
        does = goes_on g.M.Media.tells _ _ _ _ _ (λ told i out. subst (λ r. IsOutside (r ∷ []) i) (sym same) (body_within c.args.table.now.shape.now ballot n t below has i out)) so_far.does c.in_ok-put_row.ensures.does refl;
        names = λ told.
            let touched = subst (λ r. Touched (r ∷ []) (g.M.Media.view c.loop-number.media).content (g.M.Media.view c.put_row.new.media).content) same (c.in_ok-put_row.ensures.does.touched told) in
            let old = (g.M.Media.view c.loop-number.media).content in
            let its = c.row-row.result in
            let said : row_rest its ≡ row_rest (row_with ballot c.args.table.now.cells.now false n t) = (λ i. row_rest (row false
            (ap (λ (b : Ballot). b.mask) c.row-row.ensures.ballot i)
            ((c.row-row.ensures.first ∙ ap (λ (k : Cells). k.first) c.cells_in-first.ensures) i)
            ((c.row-row.ensures.count ∙ ap (λ (k : Cells). k.count) c.cells_in-first.ensures) i)
            (c.row-row.ensures.alone i)
            (ap (λ (b : Ballot). b.order) c.row-row.ensures.ballot i))) in
            let wrote : (g.M.Media.view c.put_row.new.media).content ≡ written (row_at c.args.table.now.shape.now n t + 1) (row_rest its) old = c.in_ok-put_row.ensures.written told ∙ (λ i. written (row_at (logger.shape i) (logger.number i) t + 1) (row_rest its) old) in
            let long : length old.bytes ≡ media_len c.args.table.now.shape.now = g.met.M.Media.long c.loop-number.media told ∙ so_far.does.size ∙ c.requires.size in
            let body = ap (λ (content : Content). drop 1 (bytes_of c.args.table.now.shape.now content.bytes n t)) wrote ∙ put_body c.args.table.now.shape.now old.bytes long n t below c.requires.tid its ∙ said in
            rows_more c.args.table.now.shape.now t c.requires.tid (λ h. has_row c.args.ballot h c.args.tid) (λ h r. Says c.args.ballot c.args.table.now.cells.now h c.args.tid r) n
            (row_at c.args.table.now.shape.now c.in-Some.number c.args.tid + 1) 15 (λ i from under. (omega arith, omega arith)) _ bytes touched.bytes
            (each_past at n reached (λ h. has_row c.args.ballot h c.args.tid) (λ h. Says c.args.ballot c.args.table.now.cells.now h c.args.tid (bytes_of c.args.table.now.shape.now (g.M.Media.view c.loop-number.media).content.bytes h c.args.tid)) between (so_far.names told))
            body;
      },
    )

pub returns-clause-costs : goal.returns-clause-costs
returns-clause-costs g c =
    let ballot = c.args.ballot in
    let t = c.args.tid in
    let at = c.loop-number.invariant.0 in
    let so_far = c.loop-number.invariant.1 in
    let behind = rows_behind c.args.table.now.shape.now ballot c.requires.mask t at _ so_far.left c.in-None.ensures.steps.0 in
    let all = total_past at c.args.table.now.shape.now.loggers so_far.left.most (λ (h : ℕ). cond (has_row c.args.ballot h c.args.tid) 1 0) (λ u from under. not_counted (has_row ballot u t) 1 (behind u from under)) in
    costs_all true _ _ _ _ (omega (arith, all, so_far.costs))

pub returns-clause-names : goal.returns-clause-names
returns-clause-names g c told =
    let ballot = c.args.ballot in
    let t = c.args.tid in
    let at = c.loop-number.invariant.0 in
    let so_far = c.loop-number.invariant.1 in
    let behind = rows_behind c.args.table.now.shape.now ballot c.requires.mask t at _ so_far.left c.in-None.ensures.steps.0 in
    each_past at c.args.table.now.shape.now.loggers so_far.left.most (λ h. has_row c.args.ballot h c.args.tid) (λ h. Says c.args.ballot c.args.table.now.cells.now h c.args.tid (bytes_of c.args.table.now.shape.now (g.M.Media.view c.loop-number.media).content.bytes h c.args.tid)) behind (so_far.names told)
