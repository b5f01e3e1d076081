use Rattle.std.proofs.Common.{◌≡◌, ℕ, ◌+◌, ◌*◌, cond, refl, sym, ◌∙◌, ap, subst, List, length, arith}
use Rattle.pcm_media.specs.Images.{IsOutside}
use Rattle.array_shape.specs.declared.shape.Shape.{Shape}
use Rattle.array_shape.specs.NumberSet.{numbers_from}
use Rattle.array_shape.specs.Places.{media_len}
use Rattle.array_shape.specs.Logged.{Part, applied, places_of}
use Rattle.row_bytes.specs.Ballots.{has_row}
use Rattle.array_image.specs.Image.{data_of, cell_of, parts_from, IsGoodCell}
use Rattle.array_image.proofs.Calls.{goes_on, hands_on, none_yet}
use Rattle.mars_base.proofs.Costing.{costs_more, costs_err, costs_ok, none_yet as no_costs}
use Rattle.coordinator.specs.declared.cells.Cells.{Cells}
use Rattle.coordinator.specs.Commits.{cells_in}
use Rattle.coordinator.specs.Costs.{total}
use Rattle.coordinator.proofs.Applying.{good_same, named as parts_here, named_none, row_cells, row_within, row_applied}
use Rattle.coordinator.proofs.Costing.{counted, not_counted, total_le, total_next}
use Rattle.coordinator.proofs.Members.{all_left, list_past, total_past, row_here, rows_between, row_reached, row_below, rows_left, rows_behind}
use Rattle.coordinator.proofs.phases.install_of.Goals as goal

pub loop-number-init : goal.loop-number-init
loop-number-init g c = (
  0,
  record {
    left = all_left c.args.table.now.shape.now.loggers c.args.ballot.mask (omega arith) c.requires.there.small_mask _ (c.into_iter-number-iterator.ensures.into_iter_gives ∙ c.members-number-items.ensures ∙ ap (λ (bits : ℕ). numbers_from bits 0 64) c.mask_of.ensures);
    costs = no_costs g.M.Media.tells _ _ (omega arith);
    does = none_yet g.M.Media.tells _ _;
    applied = λ told. refl;
  },
)

pub cells_in-first-requires-clause-logger : goal.cells_in-first-requires-clause-logger
cells_in-first-requires-clause-logger g c = omega (arith, row_below c.args.table.now.shape.now c.args.ballot c.requires.there.small_mask c.args.tid c.loop-number.invariant.0 _ c.loop-number.invariant.1.left c.in-Some.number _ c.in-Some.ensures.steps)

pub new-requires : goal.new-requires
new-requires g c = row_below c.args.table.now.shape.now c.args.ballot c.requires.there.small_mask c.args.tid c.loop-number.invariant.0 _ c.loop-number.invariant.1.left c.in-Some.number _ c.in-Some.ensures.steps

pub apply-requires-clause-entries : goal.apply-requires-clause-entries
apply-requires-clause-entries g c =
    let below = row_below c.args.table.now.shape.now c.args.ballot c.requires.there.small_mask c.args.tid c.loop-number.invariant.0 _ c.loop-number.invariant.1.left c.in-Some.number _ c.in-Some.ensures.steps in
    let has = row_here c.args.table.now.shape.now c.args.ballot c.requires.there.small_mask c.args.tid c.loop-number.invariant.0 _ c.loop-number.invariant.1.left c.in-Some.number _ c.in-Some.ensures.steps c.requires.has in
    let fit = c.requires.there.fit c.in-Some.number c.args.tid below c.requires.tid has in
    omega (arith, fit, ap (λ (k : Cells). k.first) c.cells_in-first.ensures, ap (λ (k : Cells). k.count) c.cells_in-first.ensures, ap (λ (s : Shape). s.entries) c.new.ensures.shape)

pub apply-requires-clause-good : goal.apply-requires-clause-good
apply-requires-clause-good g c told e from under =
    let m = g.M.Media in
    let base = (m.view c.args.media.now).content.bytes in
    let cur = (m.view c.loop-number.media).content.bytes in
    let shape = c.args.table.now.shape.now in
    let ballot = c.args.ballot in
    let cells = c.args.table.now.cells.now in
    let n = c.in-Some.number in
    let logger = c.new.ensures in
    let its = c.cells_in-first.ensures in
    let has = row_here c.args.table.now.shape.now c.args.ballot c.requires.there.small_mask c.args.tid c.loop-number.invariant.0 _ c.loop-number.invariant.1.left c.in-Some.number _ c.in-Some.ensures.steps c.requires.has in
    let below = row_below c.args.table.now.shape.now c.args.ballot c.requires.there.small_mask c.args.tid c.loop-number.invariant.0 _ c.loop-number.invariant.1.left c.in-Some.number _ c.in-Some.ensures.steps in
    let long : length base ≡ media_len shape = g.met.M.Media.long c.args.media.now told ∙ c.requires.size in
    let first = ap (λ (k : Cells). k.first) its in
    let count = ap (λ (k : Cells). k.count) its in
    let still = good_same shape ballot cells c.requires.there base cur (row_cells shape ballot cells c.requires.there base long (c.requires.good told) c.args.tid c.requires.tid cur (c.loop-number.invariant.1.does.touched told).bytes) (c.requires.good told) in
    let good = still n c.args.tid e below c.requires.tid has (omega (arith, first)) (omega (arith, first, count)) in
    subst (λ (p : Shape × ℕ). IsGoodCell p.0 p.1 (cell_of p.0 cur p.1 c.args.tid e)) (λ i. (sym logger.shape i, sym logger.number i)) good

pub returns-in_err-apply-clause-does : goal.returns-in_err-apply-clause-does
returns-in_err-apply-clause-does g c =
    let m = g.M.Media in
    let base = (m.view c.args.media.now).content.bytes in
    let cur = (m.view c.loop-number.media).content.bytes in
    let shape = c.args.table.now.shape.now in
    let ballot = c.args.ballot in
    let cells = c.args.table.now.cells.now in
    let n = c.in-Some.number in
    let logger = c.new.ensures in
    let its = c.cells_in-first.ensures in
    let has = row_here c.args.table.now.shape.now c.args.ballot c.requires.there.small_mask c.args.tid c.loop-number.invariant.0 _ c.loop-number.invariant.1.left c.in-Some.number _ c.in-Some.ensures.steps c.requires.has in
    let below = row_below c.args.table.now.shape.now c.args.ballot c.requires.there.small_mask c.args.tid c.loop-number.invariant.0 _ c.loop-number.invariant.1.left c.in-Some.number _ c.in-Some.ensures.steps in
    let named : parts_from c.new.result.shape cur c.new.result.number c.args.tid c.cells_in-first.result.first c.cells_in-first.result.count ≡ parts_from shape cur n c.args.tid (cells_in cells n c.args.tid).first (cells_in cells n c.args.tid).count =
    (λ i. parts_from (logger.shape i) cur (logger.number i) c.args.tid (its i).first (its i).count) in
    let places : places_of c.new.result.shape (parts_from c.new.result.shape cur c.new.result.number c.args.tid c.cells_in-first.result.first c.cells_in-first.result.count) ≡ places_of shape (parts_from shape cur n c.args.tid (cells_in cells n c.args.tid).first (cells_in cells n c.args.tid).count) =
    (λ i. places_of (logger.shape i) (named i)) in
    hands_on m.tells _ _ _ _ _ (λ told i out.
    let long : length base ≡ media_len shape = g.met.M.Media.long c.args.media.now told ∙ c.requires.size in
    subst (λ rs. IsOutside rs i) (sym places) (row_within shape ballot cells c.requires.there base long (c.requires.good told) c.args.tid c.requires.tid cur (c.loop-number.invariant.1.does.touched told).bytes n below has i out))
    c.loop-number.invariant.1.does c.from_residual.result c.from_residual.ensures.0 c.in_err-apply.ensures.does

pub returns-in_err-apply-clause-costs : goal.returns-in_err-apply-clause-costs
returns-in_err-apply-clause-costs g c =
    let count = λ (h : ℕ). cond (has_row c.args.ballot h c.args.tid) (cells_in c.args.table.now.cells.now h c.args.tid).count 0 in
    let has = row_here c.args.table.now.shape.now c.args.ballot c.requires.there.small_mask c.args.tid c.loop-number.invariant.0 _ c.loop-number.invariant.1.left c.in-Some.number _ c.in-Some.ensures.steps c.requires.has in
    let below = row_below c.args.table.now.shape.now c.args.ballot c.requires.there.small_mask c.args.tid c.loop-number.invariant.0 _ c.loop-number.invariant.1.left c.in-Some.number _ c.in-Some.ensures.steps in
    let at = c.loop-number.invariant.0 in
    let past = total_past at c.in-Some.number (row_reached c.args.table.now.shape.now c.args.ballot c.requires.there.small_mask c.args.tid c.loop-number.invariant.0 _ c.loop-number.invariant.1.left c.in-Some.number _ c.in-Some.ensures.steps) count (λ u from under. not_counted (has_row c.args.ballot u c.args.tid) (cells_in c.args.table.now.cells.now u c.args.tid).count (rows_between c.args.table.now.shape.now c.args.ballot c.requires.there.small_mask c.args.tid c.loop-number.invariant.0 _ c.loop-number.invariant.1.left c.in-Some.number _ c.in-Some.ensures.steps u from under)) in
    let one = total_next count c.in-Some.number _ (counted (has_row c.args.ballot c.in-Some.number c.args.tid) (cells_in c.args.table.now.cells.now c.in-Some.number c.args.tid).count has) in
    let most = total_le count (c.in-Some.number + 1) c.args.table.now.shape.now.loggers (omega (arith, below)) in
    let its = ap (λ (k : Cells). k.count) c.cells_in-first.ensures in
    costs_err g.M.Media.tells _ _ _ c.from_residual.result c.from_residual.ensures.0 (omega (arith, c.apply.ensures.costs.most, c.loop-number.invariant.1.costs.most, past, one, most, its))

pub loop-number-preserved : goal.loop-number-preserved
loop-number-preserved g c =
    let m = g.M.Media in
    let base = (m.view c.args.media.now).content.bytes in
    let cur = (m.view c.loop-number.media).content.bytes in
    let shape = c.args.table.now.shape.now in
    let ballot = c.args.ballot in
    let cells = c.args.table.now.cells.now in
    let n = c.in-Some.number in
    let logger = c.new.ensures in
    let its = c.cells_in-first.ensures in
    let has = row_here c.args.table.now.shape.now c.args.ballot c.requires.there.small_mask c.args.tid c.loop-number.invariant.0 _ c.loop-number.invariant.1.left c.in-Some.number _ c.in-Some.ensures.steps c.requires.has in
    let below = row_below c.args.table.now.shape.now c.args.ballot c.requires.there.small_mask c.args.tid c.loop-number.invariant.0 _ c.loop-number.invariant.1.left c.in-Some.number _ c.in-Some.ensures.steps in
    let named : parts_from c.new.result.shape cur c.new.result.number c.args.tid c.cells_in-first.result.first c.cells_in-first.result.count ≡ parts_from shape cur n c.args.tid (cells_in cells n c.args.tid).first (cells_in cells n c.args.tid).count =
    (λ i. parts_from (logger.shape i) cur (logger.number i) c.args.tid (its i).first (its i).count) in
    let places : places_of c.new.result.shape (parts_from c.new.result.shape cur c.new.result.number c.args.tid c.cells_in-first.result.first c.cells_in-first.result.count) ≡ places_of shape (parts_from shape cur n c.args.tid (cells_in cells n c.args.tid).first (cells_in cells n c.args.tid).count) =
    (λ i. places_of (logger.shape i) (named i)) in
    let count = λ (h : ℕ). cond (has_row c.args.ballot h c.args.tid) (cells_in c.args.table.now.cells.now h c.args.tid).count 0 in
    let at = c.loop-number.invariant.0 in
    let past = total_past at c.in-Some.number (row_reached c.args.table.now.shape.now c.args.ballot c.requires.there.small_mask c.args.tid c.loop-number.invariant.0 _ c.loop-number.invariant.1.left c.in-Some.number _ c.in-Some.ensures.steps) count (λ u from under. not_counted (has_row c.args.ballot u c.args.tid) (cells_in c.args.table.now.cells.now u c.args.tid).count (rows_between c.args.table.now.shape.now c.args.ballot c.requires.there.small_mask c.args.tid c.loop-number.invariant.0 _ c.loop-number.invariant.1.left c.in-Some.number _ c.in-Some.ensures.steps u from under)) in
    let one = total_next count c.in-Some.number _ (counted (has_row c.args.ballot c.in-Some.number c.args.tid) (cells_in c.args.table.now.cells.now c.in-Some.number c.args.tid).count has) in
    let number = ap (λ (k : Cells). k.count) its in (
      n + 1,
      record {
        left = rows_left c.args.table.now.shape.now c.args.ballot c.requires.there.small_mask c.args.tid c.loop-number.invariant.0 _ c.loop-number.invariant.1.left c.in-Some.number _ c.in-Some.ensures.steps;
        costs = costs_more m.tells _ (2 * total count at) _ _ _ _ _ (omega (arith, past, one, number)) c.loop-number.invariant.1.costs c.in_ok-apply.ensures.costs;
        does = goes_on m.tells _ _ _ _ _ (λ told i out.
            let long : length base ≡ media_len shape = g.met.M.Media.long c.args.media.now told ∙ c.requires.size in
            subst (λ rs. IsOutside rs i) (sym places) (row_within shape ballot cells c.requires.there base long (c.requires.good told) c.args.tid c.requires.tid cur (c.loop-number.invariant.1.does.touched told).bytes n below has i out))
            c.loop-number.invariant.1.does c.in_ok-apply.ensures.does refl;
        applied = λ told.
            let long : length base ≡ media_len shape = g.met.M.Media.long c.args.media.now told ∙ c.requires.size in
            let new = (m.view c.apply.new.media).content.bytes in
            row_applied shape ballot cells c.requires.there base long (c.requires.good told) c.args.tid c.requires.tid cur (c.loop-number.invariant.1.does.touched told).bytes n below has new
            (c.loop-number.invariant.1.applied told ∙ ap (λ (ps : List Part). applied ps (data_of shape base)) (sym (list_past at n (row_reached c.args.table.now.shape.now c.args.ballot c.requires.there.small_mask c.args.tid c.loop-number.invariant.0 _ c.loop-number.invariant.1.left c.in-Some.number _ c.in-Some.ensures.steps) (parts_here shape ballot cells c.requires.there base c.args.tid)
            (λ u from under. named_none shape ballot cells c.requires.there base c.args.tid u (rows_between c.args.table.now.shape.now c.args.ballot c.requires.there.small_mask c.args.tid c.loop-number.invariant.0 _ c.loop-number.invariant.1.left c.in-Some.number _ c.in-Some.ensures.steps u from under)))))
            ((λ i. data_of (sym logger.shape i) new) ∙ c.in_ok-apply.ensures.data_after told ∙ (λ i. applied (named i) (data_of (logger.shape i) cur)));
      },
    )

pub returns-clause-costs : goal.returns-clause-costs
returns-clause-costs g c =
    let at = c.loop-number.invariant.0 in
    let behind = rows_behind c.args.table.now.shape.now c.args.ballot c.requires.there.small_mask c.args.tid at _ c.loop-number.invariant.1.left c.in-None.ensures.steps.0 in
    let count = λ (h : ℕ). cond (has_row c.args.ballot h c.args.tid) (cells_in c.args.table.now.cells.now h c.args.tid).count 0 in
    let all = total_past at c.args.table.now.shape.now.loggers c.loop-number.invariant.1.left.most count (λ u from under. not_counted (has_row c.args.ballot u c.args.tid) (cells_in c.args.table.now.cells.now u c.args.tid).count (behind u from under)) in
    costs_ok g.M.Media.tells _ (2 * total count at) _ _ _ (omega (arith, all)) c.loop-number.invariant.1.costs

pub returns-clause-applied : goal.returns-clause-applied
returns-clause-applied g c told =
    let base = (g.M.Media.view c.args.media.now).content.bytes in
    let shape = c.args.table.now.shape.now in
    let ballot = c.args.ballot in
    let cells = c.args.table.now.cells.now in
    let at = c.loop-number.invariant.0 in
    let behind = rows_behind shape ballot c.requires.there.small_mask c.args.tid at _ c.loop-number.invariant.1.left c.in-None.ensures.steps.0 in
    c.loop-number.invariant.1.applied told
    ∙ ap (λ (ps : List Part). applied ps (data_of shape base)) (sym (list_past at shape.loggers c.loop-number.invariant.1.left.most (parts_here shape ballot cells c.requires.there base c.args.tid)
    (λ u from under. named_none shape ballot cells c.requires.there base c.args.tid u (behind u from under))))
