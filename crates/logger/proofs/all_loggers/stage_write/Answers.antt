use Rattle.std.proofs.Common.{◌≡◌, ℕ, ◌+◌, List, [], ◌∷◌, true, refl, ◌-◌, drop, sym, ◌∙◌, ap, subst, length, arith}
use Rattle.std.specs.Prelude.{is_ok, slice_index, slice_set}
use Rattle.std.proofs.lemmas.List.{length-map, length-take}
use Rattle.mars_base.proofs.Costing.{costs_all, costs_err}
use Rattle.pcm_media.specs.View.{Writes}
use Rattle.array_shape.specs.declared.shape.Shape.{Shape}
use Rattle.array_shape.specs.Places.{cell_at}
use Rattle.array_shape.specs.Parts.{parts_of, part_of_write, parts_of_write}
use Rattle.array_shape.specs.Logged.{applied}
use Rattle.array_shape.proofs.Cutting.{parts_of_write-parts}
use Rattle.logger.specs.Cells.{cell_writes}
use Rattle.logger.specs.Staging.{staged_places}
use Rattle.logger.proofs.Ranges.{writes_failed}
use Rattle.logger.proofs.Dealing.{DealsAt, deals_first, deals_more, deals_next, deals_last, part_within, logger_there, cell_there}
use Rattle.logger.proofs.all_loggers.stage_write.Goals as goal

pub loop-part-init : goal.loop-part-init
loop-part-init g c =
    let old = g.M.Media.view c.args.media.now in
    let parts = c.into_iter-part-iterator.ensures.into_iter_gives ∙ c.parts-part-items.ensures.parts in
    record {
      deals = subst (DealsAt c.args.shape.now c.args.tid c.args.held.now c.args.addr c.args.bytes.now g.M.Media.tells old old c.args.held.now) (sym parts)
          (deals_first c.args.shape.now c.args.tid c.requires.tid c.args.held.now c.args.addr c.args.bytes.now g.M.Media.tells old c.requires.room c.requires.range c.told-held);
      costs = omega (arith, ap length parts);
    }

pub bytes_of-piece-requires-clause-from : goal.bytes_of-piece-requires-clause-from
bytes_of-piece-requires-clause-from g c =
    (part_within c.args.shape.now c.args.tid c.requires.tid c.args.held.now c.args.addr c.args.bytes.now g.M.Media.tells (g.M.Media.view c.args.media.now) c.requires.room (g.M.Media.view c.loop-part.media) c.loop-part.next c.in-Some.part c.loop-part.part-iterator c.next.new.self c.in-Some.ensures.steps c.loop-part.invariant.deals).from

pub bytes_of-piece-requires-clause-to : goal.bytes_of-piece-requires-clause-to
bytes_of-piece-requires-clause-to g c =
    (part_within c.args.shape.now c.args.tid c.requires.tid c.args.held.now c.args.addr c.args.bytes.now g.M.Media.tells (g.M.Media.view c.args.media.now) c.requires.room (g.M.Media.view c.loop-part.media) c.loop-part.next c.in-Some.part c.loop-part.part-iterator c.next.new.self c.in-Some.ensures.steps c.loop-part.invariant.deals).to

pub new-logger-requires : goal.new-logger-requires
new-logger-requires g c =
    logger_there c.args.shape.now c.args.tid c.requires.tid c.args.held.now c.args.addr c.args.bytes.now g.M.Media.tells (g.M.Media.view c.args.media.now) c.requires.room (g.M.Media.view c.loop-part.media) c.loop-part.next c.in-Some.part c.loop-part.part-iterator c.next.new.self c.in-Some.ensures.steps c.loop-part.invariant.deals

pub put_cell-requires-clause-long : goal.put_cell-requires-clause-long
put_cell-requires-clause-long g c =
    let within = part_within c.args.shape.now c.args.tid c.requires.tid c.args.held.now c.args.addr c.args.bytes.now g.M.Media.tells (g.M.Media.view c.args.media.now) c.requires.room (g.M.Media.view c.loop-part.media) c.loop-part.next c.in-Some.part c.loop-part.part-iterator c.next.new.self c.in-Some.ensures.steps c.loop-part.invariant.deals in
    omega (arith, within.whole.placed.page, ap length c.bytes_of-piece.ensures, length-take c.in-Some.part.len (drop (c.in-Some.part.addr - c.args.addr) c.args.bytes.now))

pub returns-in_err-put_cell-clause-does : goal.returns-in_err-put_cell-clause-does
returns-in_err-put_cell-clause-does g c =
    let view = g.M.Media.view in
    let logger = c.new-logger.ensures in
    let place = c.from-place.ensures in
    let next = c.loop-part.next in
    let part = c.in-Some.part in
    let tid = c.args.tid in
    let same : ((cell_at c.new-logger.result.shape c.new-logger.result.number tid (slice_index next c.from-place.result), 528) ∷ []) ≡ ((cell_at c.args.shape.now part.logger tid (slice_index next part.logger), 528) ∷ []) =
    (λ i. (cell_at (logger.shape i) (logger.number i) tid (slice_index next (place i)), 528) ∷ []) in
    let more = deals_more c.args.shape.now c.args.tid c.requires.tid c.args.held.now c.args.addr c.args.bytes.now g.M.Media.tells (g.M.Media.view c.args.media.now) c.requires.room (g.M.Media.view c.loop-part.media) c.loop-part.next c.in-Some.part c.loop-part.part-iterator c.next.new.self c.in-Some.ensures.steps c.loop-part.invariant.deals (view c.put_cell.new.media) c.put_cell.result
    (subst (λ rs. Writes g.M.Media.tells rs (view c.loop-part.media) (view c.put_cell.new.media) c.put_cell.result) same c.put_cell.ensures.does) in
    writes_failed g.M.Media.tells (staged_places c.args.shape.now c.args.tid c.args.held.now c.args.addr c.args.bytes.now) (view c.args.media.now) (view c.put_cell.new.media) c.put_cell.result c.in_err-put_cell.field-0.0 c.from_residual.result c.from_residual.ensures.0 c.in_err-put_cell.was more

pub loop-part-preserved : goal.loop-part-preserved
loop-part-preserved g c =
    let view = g.M.Media.view in
    let logger = c.new-logger.ensures in
    let place = c.from-place.ensures in
    let next = c.loop-part.next in
    let part = c.in-Some.part in
    let tid = c.args.tid in
    let shape = c.args.shape.now in
    let old = view c.args.media.now in
    let mid = view c.loop-part.media in
    let new = view c.put_cell.new.media in
    let piece = c.bytes_of-piece.result.now in
    let same : ((cell_at c.new-logger.result.shape c.new-logger.result.number tid (slice_index next c.from-place.result), 528) ∷ []) ≡ ((cell_at shape part.logger tid (slice_index next part.logger), 528) ∷ []) =
    (λ i. (cell_at (logger.shape i) (logger.number i) tid (slice_index next (place i)), 528) ∷ []) in
    record {
      deals = subst (λ (k : ℕ). DealsAt shape tid c.args.held.now c.args.addr c.args.bytes.now g.M.Media.tells old new (slice_set next k (slice_index next k + 1)) c.next.new.self) (sym place)
          (deals_next c.args.shape.now c.args.tid c.requires.tid c.args.held.now c.args.addr c.args.bytes.now g.M.Media.tells (g.M.Media.view c.args.media.now) c.requires.room (g.M.Media.view c.loop-part.media) c.loop-part.next c.in-Some.part c.loop-part.part-iterator c.next.new.self c.in-Some.ensures.steps c.loop-part.invariant.deals new c.put_cell.result
          (subst (λ rs. Writes g.M.Media.tells rs mid new c.put_cell.result) same c.put_cell.ensures.does)
          (ap is_ok c.in_ok-put_cell.was) (λ told. g.met.M.Media.long c.loop-part.media told ∙ c.loop-part.invariant.deals.does.size ∙ c.requires.size) piece c.bytes_of-piece.ensures
          (λ told. c.in_ok-put_cell.ensures.written told ∙ (λ i. applied (cell_writes (logger.shape i) (logger.number i) tid (slice_index next (place i)) ((part.addr, c.bytes_of-piece.result.now) ∷ [])) mid.content.bytes)));
      costs = let put = c.in_ok-put_cell.ensures.costs.done refl in omega (arith, put, c.loop-part.invariant.costs, ap length c.in-Some.ensures.steps);
    }

-- the pieces of a write are as many as the parts of its range
as_many : (shape : Shape) (addr : ℕ) (bytes : List ℕ) → length (parts_of_write addr bytes) ≡ length (parts_of shape addr (length bytes))
as_many shape addr bytes = ap length (parts_of_write-parts shape addr bytes) ∙ length-map (parts_of shape addr (length bytes)) (part_of_write addr bytes)

pub returns-in_err-put_cell-clause-costs : goal.returns-in_err-put_cell-clause-costs
returns-in_err-put_cell-clause-costs g c =
    costs_err true _ _ _ c.from_residual.result c.from_residual.ensures.0 (omega (arith, c.put_cell.ensures.costs.most, c.loop-part.invariant.costs, ap length c.in-Some.ensures.steps, as_many c.args.shape.now c.args.addr c.args.bytes.now))

pub returns-clause-costs : goal.returns-clause-costs
returns-clause-costs g c =
    costs_all true _ _ _ _ (omega (arith, c.loop-part.invariant.costs, ap length c.in-None.ensures.steps.0, as_many c.args.shape.now c.args.addr c.args.bytes.now))

pub put_cell-requires-clause-entry : goal.put_cell-requires-clause-entry
put_cell-requires-clause-entry g c =
    let there = cell_there c.args.shape.now c.args.tid c.requires.tid c.args.held.now c.args.addr c.args.bytes.now g.M.Media.tells (g.M.Media.view c.args.media.now) c.requires.room (g.M.Media.view c.loop-part.media) c.loop-part.next c.in-Some.part c.loop-part.part-iterator c.next.new.self c.in-Some.ensures.steps c.loop-part.invariant.deals in
    omega (arith, there, ap (slice_index c.loop-part.next) c.from-place.ensures, ap (λ (s : Shape). s.entries) c.new-logger.ensures.shape)

pub overflow_add-next : goal.overflow_add-next
overflow_add-next g c =
    let there = cell_there c.args.shape.now c.args.tid c.requires.tid c.args.held.now c.args.addr c.args.bytes.now g.M.Media.tells (g.M.Media.view c.args.media.now) c.requires.room (g.M.Media.view c.loop-part.media) c.loop-part.next c.in-Some.part c.loop-part.part-iterator c.next.new.self c.in-Some.ensures.steps c.loop-part.invariant.deals in
    omega (arith, there, ap (slice_index c.loop-part.next) c.from-place.ensures)

pub returns-clause-holds : goal.returns-clause-holds
returns-clause-holds g c =
    deals_last c.args.shape.now c.args.tid c.requires.tid c.args.held.now c.args.addr c.args.bytes.now g.M.Media.tells (g.M.Media.view c.args.media.now) c.requires.room (g.M.Media.view c.loop-part.media) c.loop-part.next c.loop-part.part-iterator c.in-None.ensures.steps.0 c.loop-part.invariant.deals
