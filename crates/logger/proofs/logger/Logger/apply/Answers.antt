use Rattle.std.proofs.Common.{◌≡◌, ◌+◌, ◌-◌, ◌*◌, ◌∙◌, ap, length, arith}
use Rattle.std.specs.Prelude.{IsTrue, is_ok}
use Rattle.array_shape.specs.Places.{media_len}
use Rattle.array_shape.specs.Logged.{places_of}
use Rattle.array_image.specs.Image.{parts_from}
use Rattle.logger.proofs.Applying.{applied_more, writes_more, cell_good, data_after}
use Rattle.mars_base.proofs.Costing.{costs_more, costs_err, costs_ok}
use Rattle.logger.proofs.Ranges.{writes_failed}
use Rattle.logger.proofs.logger.Logger.apply.Goals as goal

pub apply_cell-requires-clause-good : goal.apply_cell-requires-clause-good
apply_cell-requires-clause-good g c =
    let view = g.M.Media.view in
    let long : IsTrue g.M.Media.tells → length (view c.args.media.now).content.bytes ≡ media_len c.args.self.shape = λ told. g.met.M.Media.long c.args.media.now told ∙ c.requires.size in
    cell_good c.args.self.shape c.args.self.number c.args.tid c.args.first c.args.count g.M.Media.tells (view c.args.media.now) c.args.self.there c.requires.tid c.requires.entries long c.requires.good (view c.loop-entry.media) c.loop-entry.entry (omega arith) (omega arith) c.loop-entry.invariant.applied

pub returns-in_err-apply_cell-clause-does : goal.returns-in_err-apply_cell-clause-does
returns-in_err-apply_cell-clause-does g c =
    let view = g.M.Media.view in
    let long : IsTrue g.M.Media.tells → length (view c.args.media.now).content.bytes ≡ media_len c.args.self.shape = λ told. g.met.M.Media.long c.args.media.now told ∙ c.requires.size in
    let all = places_of c.args.self.shape (parts_from c.args.self.shape (view c.args.media.now).content.bytes c.args.self.number c.args.tid c.args.first c.args.count) in
    let more = writes_more c.args.self.shape c.args.self.number c.args.tid c.args.first c.args.count g.M.Media.tells (view c.args.media.now) c.args.self.there c.requires.tid c.requires.entries long c.requires.good (view c.loop-entry.media) c.loop-entry.entry (omega arith) (omega arith) c.loop-entry.invariant.applied (view c.apply_cell.new.media) c.apply_cell.result c.apply_cell.ensures.does in
    writes_failed g.M.Media.tells all (view c.args.media.now) (view c.apply_cell.new.media) c.apply_cell.result c.in_err-apply_cell.field-0.0 c.from_residual.result c.from_residual.ensures.0 c.in_err-apply_cell.was more

pub loop-entry-preserved : goal.loop-entry-preserved
loop-entry-preserved g c =
    let view = g.M.Media.view in
    let long : IsTrue g.M.Media.tells → length (view c.args.media.now).content.bytes ≡ media_len c.args.self.shape = λ told. g.met.M.Media.long c.args.media.now told ∙ c.requires.size in
    record {
      applied = applied_more c.args.self.shape c.args.self.number c.args.tid c.args.first c.args.count g.M.Media.tells (view c.args.media.now) c.args.self.there c.requires.tid c.requires.entries long c.requires.good (view c.loop-entry.media) c.loop-entry.entry (omega arith) (omega arith) c.loop-entry.invariant.applied (view c.apply_cell.new.media) c.apply_cell.result c.apply_cell.ensures.does (ap is_ok c.in_ok-apply_cell.was) c.in_ok-apply_cell.ensures.written;
      costs = costs_more g.M.Media.tells (2 * (c.loop-entry.entry + 1 - c.args.first)) (2 * (c.loop-entry.entry - c.args.first)) 2 _ _ _ _ (omega arith) c.loop-entry.invariant.costs c.in_ok-apply_cell.ensures.costs;
    }

pub returns-clause-data_after : goal.returns-clause-data_after
returns-clause-data_after g c told =
    let view = g.M.Media.view in
    let long : IsTrue g.M.Media.tells → length (view c.args.media.now).content.bytes ≡ media_len c.args.self.shape = λ told. g.met.M.Media.long c.args.media.now told ∙ c.requires.size in
    data_after c.args.self.shape c.args.self.number c.args.tid c.args.first c.args.count g.M.Media.tells (view c.args.media.now) c.args.self.there c.requires.tid c.requires.entries long c.requires.good (view c.loop-entry.media) c.loop-entry.entry (omega arith) c.loop-entry.invariant.applied told

pub returns-in_err-apply_cell-clause-costs : goal.returns-in_err-apply_cell-clause-costs
returns-in_err-apply_cell-clause-costs g c = costs_err g.M.Media.tells _ _ _ c.from_residual.result c.from_residual.ensures.0 (omega (arith, c.loop-entry.invariant.costs.most, c.apply_cell.ensures.costs.most))

pub returns-clause-costs : goal.returns-clause-costs
returns-clause-costs g c = costs_ok g.M.Media.tells _ _ _ _ _ (omega arith) c.loop-entry.invariant.costs
