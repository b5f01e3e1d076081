use Rattle.std.proofs.Common.{◌≡◌, ℕ, ◌-◌, ◌<◌, List, length, take, drop, refl, sym, ◌∙◌, ap, arith}
use Rattle.std.specs.Prelude.{Option, Some, None, IsSome}
use Rattle.eaw_face.specs.State.{listed, range_at, part_at}
use Rattle.eaw_face.specs.Command.{log_read}
use Rattle.page_store.proofs.Editing.{placed_at, data_small}
use Rattle.page_store.proofs.Laying.{range_of_part, missed, laid}
use Rattle.page_store.proofs.ReadCalls.{reads_of, reads_ok, reads_err, reads_none}
use Rattle.page_store.specs.Reads.{lay_cost}
use Rattle.page_store.proofs.Costing.{missed_cost, met_cost}
use Rattle.std.proofs.lemmas.Result.{err_from_is_err_and}
use Rattle.page_store.proofs.pages.lay_part.Goals as goal

pub overflow_add-start : goal.overflow_add-start
overflow_add-start g c =
    let view = g.S.EawStore.view c.args.store.now in
    let placed = placed_at view.shape (listed (view.ranges c.args.tid)) c.args.pos (g.met.S.EawStore.placed c.args.store.now c.args.tid) c.requires.pos in
    let small = data_small view.shape (g.met.S.EawStore.shaped c.args.store.now) in
    omega (arith, placed.inside, small, ap (λ (p : ℕ × ℕ). p.0) c.part_range-start.ensures, c.from.ensures ∙ ap (λ (p : ℕ × ℕ). p.1) c.part_range-start.ensures)

pub returns-then-first-last-clause-laid : goal.returns-then-first-last-clause-laid
returns-then-first-last-clause-laid g c tell bytes long read =
    let view = g.S.EawStore.view c.args.store.now in
    let log = view.state.logs c.args.tid in
    let part = part_at (listed log) c.args.pos in
    let is = range_of_part (view.ranges c.args.tid) log c.args.pos (g.met.S.EawStore.outlines c.args.store.now c.args.tid tell c.requires.alive) in
    let placed = placed_at view.shape (listed (view.ranges c.args.tid)) c.args.pos (g.met.S.EawStore.placed c.args.store.now c.args.tid) c.requires.pos in
    let start = ap (λ (p : ℕ × ℕ). p.0) c.part_range-start.ensures in
    let len = c.from.ensures ∙ ap (λ (p : ℕ × ℕ). p.1) c.part_range-start.ensures in
    missed bytes c.args.buf.now part c.args.addr (length c.args.buf.now) c.part_range-start.result.0 c.from.result c.max-first.result c.min-last.result
    (start ∙ ap (λ (p : ℕ × ℕ). p.0) is) (len ∙ ap (λ (p : ℕ × ℕ). p.1) is) c.max-first.ensures c.min-last.ensures
    (omega (arith, placed.inside, start, len, long)) (omega (arith, c.requires.inside, long)) read c.if-first-last.true (omega (arith, placed.some, len))

pub slice_bounds-overwrite-end : goal.slice_bounds-overwrite-end
slice_bounds-overwrite-end g c =
    let view = g.S.EawStore.view c.args.store.now in
    let placed = placed_at view.shape (listed (view.ranges c.args.tid)) c.args.pos (g.met.S.EawStore.placed c.args.store.now c.args.tid) c.requires.pos in
    let start = ap (λ (p : ℕ × ℕ). p.0) c.part_range-start.ensures in
    let len = c.from.ensures ∙ ap (λ (p : ℕ × ℕ). p.1) c.part_range-start.ensures in
    omega (arith, placed.page, len, c.min-last.ensures, c.max-first.ensures, c.if-first-last.false)

-- a number with parts is live
is_there : (o : Option (List (ℕ × ℕ))) (k : ℕ) → k < length (listed o) → IsSome o
is_there None k lt = absurd (omega (arith, lt))
is_there (Some xs) k lt = refl

pub returns-in_err-log_read-clause-does : goal.returns-in_err-log_read-clause-does
returns-in_err-log_read-clause-does g c =
    let exit = err_from_is_err_and c.from_residual.result c.from_residual.ensures.1 in
    rw (exit.1, exit.2) (
    let view = g.S.EawStore.view in
    let old = view c.args.store.now in
    let new = view c.log_read.new.self in
    reads_err g.S.EawStore.tells (g.S.EawStore.opens old.shape) c.args.tid old new c.in_err-log_read.field-0.0
    (reads_of g.S.EawStore.tells (g.S.EawStore.opens old.shape) c.args.tid (log_read c.args.tid) old new (λ s. refl) (λ rs. refl) refl
    (λ u no. no.0 (record { small = c.requires.tid; live = is_there (old.ranges c.args.tid) c.args.pos c.requires.pos })) (λ h i n no. no) (λ u ne. c.in_err-log_read.ensures.does.others u ne) _ c.in_err-log_read.ensures.does))

pub returns-clause-does : goal.returns-clause-does
returns-clause-does g c =
    let view = g.S.EawStore.view in
    let old = view c.args.store.now in
    let new = view c.log_read.new.self in
    reads_ok g.S.EawStore.tells (g.S.EawStore.opens old.shape) c.args.tid old new tt
    (reads_of g.S.EawStore.tells (g.S.EawStore.opens old.shape) c.args.tid (log_read c.args.tid) old new (λ s. refl) (λ rs. refl) refl
    (λ u no. no.0 (record { small = c.requires.tid; live = is_there (old.ranges c.args.tid) c.args.pos c.requires.pos })) (λ h i n no. no) (λ u ne. c.in_ok-log_read.ensures.does.others u ne) _ c.in_ok-log_read.ensures.does)

pub returns-then-first-last-clause-does : goal.returns-then-first-last-clause-does
returns-then-first-last-clause-does g c =
    let old = g.S.EawStore.view c.args.store.now in
    reads_none g.S.EawStore.tells (g.S.EawStore.opens old.shape) c.args.tid old tt c.requires.alive

pub returns-clause-laid : goal.returns-clause-laid
returns-clause-laid g c tell bytes long read =
    let view = g.S.EawStore.view c.args.store.now in
    let log = view.state.logs c.args.tid in
    let part = part_at (listed log) c.args.pos in
    let is = range_of_part (view.ranges c.args.tid) log c.args.pos (g.met.S.EawStore.outlines c.args.store.now c.args.tid tell c.requires.alive) in
    let placed = placed_at view.shape (listed (view.ranges c.args.tid)) c.args.pos (g.met.S.EawStore.placed c.args.store.now c.args.tid) c.requires.pos in
    let start = ap (λ (p : ℕ × ℕ). p.0) c.part_range-start.ensures in
    let len = c.from.ensures ∙ ap (λ (p : ℕ × ℕ). p.1) c.part_range-start.ensures in
    let told = c.in_ok-log_read.ensures.bytes tell in
    c.overwrite.ensures ∙
    laid bytes c.args.buf.now part c.args.addr (length c.args.buf.now) c.part_range-start.result.0 c.from.result c.max-first.result c.min-last.result
    (start ∙ ap (λ (p : ℕ × ℕ). p.0) is) (len ∙ ap (λ (p : ℕ × ℕ). p.1) is) c.max-first.ensures c.min-last.ensures
    (omega (arith, placed.inside, start, len, long)) (omega (arith, c.requires.inside, long)) read c.if-first-last.false c.log_read.new.buf _
    (ap (λ (k : ℕ). take k c.log_read.new.buf) (len ∙ sym (ap (λ (p : ℕ × ℕ). p.1) c.in_ok-log_read.ensures.part)) ∙ told)
    (omega (arith, placed.page, len, c.log_read.array_long))
    (let count : c.min-last.result - c.part_range-start.result.0 - (c.max-first.result - c.part_range-start.result.0) ≡ c.min-last.result - c.max-first.result = omega (arith, c.max-first.ensures, c.if-first-last.false) in
    ap (λ (k : ℕ). take k (drop (c.max-first.result - c.part_range-start.result.0) c.log_read.new.buf)) count)

pub returns-then-first-last-clause-costs : goal.returns-then-first-last-clause-costs
returns-then-first-last-clause-costs g c =
    let view = g.S.EawStore.view c.args.store.now in
    let none : lay_cost (g.S.EawStore.calls c.args.store.now) c.args.tid (c.args.addr, length c.args.buf.now) (range_at (listed (view.ranges c.args.tid)) c.args.pos) ≡ 0 =
    ap (λ (p : ℕ × ℕ). lay_cost (g.S.EawStore.calls c.args.store.now) c.args.tid (c.args.addr, length c.args.buf.now) p) (sym c.part_range-start.ensures) ∙
    missed_cost (g.S.EawStore.calls c.args.store.now) c.args.tid c.args.addr (length c.args.buf.now) c.part_range-start.result.0 c.part_range-start.result.1 c.max-first.result c.min-last.result
    c.max-first.ensures (omega (arith, c.min-last.ensures, c.from.ensures)) c.if-first-last.true in
    record { done = λ exact. omega (arith, none); most = omega (arith, none) }

pub returns-clause-costs : goal.returns-clause-costs
returns-clause-costs g c =
    let view = g.S.EawStore.view c.args.store.now in
    let one : lay_cost (g.S.EawStore.calls c.args.store.now) c.args.tid (c.args.addr, length c.args.buf.now) (range_at (listed (view.ranges c.args.tid)) c.args.pos) ≡ g.S.EawStore.calls c.args.store.now (log_read c.args.tid) =
    ap (λ (p : ℕ × ℕ). lay_cost (g.S.EawStore.calls c.args.store.now) c.args.tid (c.args.addr, length c.args.buf.now) p) (sym c.part_range-start.ensures) ∙
    met_cost (g.S.EawStore.calls c.args.store.now) c.args.tid c.args.addr (length c.args.buf.now) c.part_range-start.result.0 c.part_range-start.result.1 c.max-first.result c.min-last.result
    c.max-first.ensures (omega (arith, c.min-last.ensures, c.from.ensures)) (omega (arith, c.if-first-last.false)) in
    record { done = λ exact. omega (arith, one, c.in_ok-log_read.ensures.costs.done refl); most = omega (arith, one, c.in_ok-log_read.ensures.costs.most) }

pub returns-in_err-log_read-clause-costs : goal.returns-in_err-log_read-clause-costs
returns-in_err-log_read-clause-costs g c =
    let exit = err_from_is_err_and c.from_residual.result c.from_residual.ensures.1 in
    rw (exit.1) (
    let view = g.S.EawStore.view c.args.store.now in
    let one : lay_cost (g.S.EawStore.calls c.args.store.now) c.args.tid (c.args.addr, length c.args.buf.now) (range_at (listed (view.ranges c.args.tid)) c.args.pos) ≡ g.S.EawStore.calls c.args.store.now (log_read c.args.tid) =
    ap (λ (p : ℕ × ℕ). lay_cost (g.S.EawStore.calls c.args.store.now) c.args.tid (c.args.addr, length c.args.buf.now) p) (sym c.part_range-start.ensures) ∙
    met_cost (g.S.EawStore.calls c.args.store.now) c.args.tid c.args.addr (length c.args.buf.now) c.part_range-start.result.0 c.part_range-start.result.1 c.max-first.result c.min-last.result
    c.max-first.ensures (omega (arith, c.min-last.ensures, c.from.ensures)) (omega (arith, c.if-first-last.false)) in
    record { done = λ exact. tt; most = omega (arith, one, c.in_err-log_read.ensures.costs.most) })
