use Rattle.std.proofs.Common.{◌≡◌, ℕ, ◌+◌, ◌<◌, List, Ok, Err, Result, length, take, refl, sym, ◌∙◌, ap, subst, add-one, arith}
use Rattle.std.specs.Prelude.{Option}
use Rattle.std.proofs.Math.Seq.{take-length}
use Rattle.mars_base.specs.Bytes.{put, range}
use Rattle.array_shape.specs.declared.shape.Shape.{Shape}
use Rattle.array_shape.specs.Places.{data_len}
use Rattle.array_shape.specs.Logged.{Part, applied}
use Rattle.eaw_face.specs.State.{listed, part_at}
use Rattle.eaw_face.specs.StoreView.{ArePlaced}
use Rattle.eaw_face.specs.declared.fault.EawFault.{EawFault}
use Rattle.page_store.specs.Reads.{Reads}
use Rattle.page_store.proofs.Outline.{listed-ranges}
use Rattle.page_store.proofs.Shown.{placed_parts}
use Rattle.page_store.proofs.Laying.{more_applied, long_applied, length-ranges}
use Rattle.page_store.proofs.ReadCalls.{reads_on}
use Rattle.eaw_face.specs.State.{range_at}
use Rattle.page_store.specs.Reads.{lay_cost}
use Rattle.page_store.proofs.Costing.{laid_more, laid_most, laid_all, lay_same}
use Rattle.std.proofs.lemmas.Result.{err_from_is_err_and}
use Rattle.page_store.proofs.pages.read_seen.Goals as goal

pub loop-pos-preserved : goal.loop-pos-preserved
loop-pos-preserved g c =
    let view = g.S.EawStore.view in
    let first = view c.args.store.now in
    let mid = view c.loop-pos.store in
    let new = view c.lay_part.new.store in
    let tells = g.S.EawStore.tells in
    let so_far = c.loop-pos.invariant.reads in
    let done : Result (Unit {0}) EawFault = Ok tt in
    let more : Reads tells (g.S.EawStore.opens first.shape) c.args.tid mid new done =
    subst (λ (shape : Shape). Reads tells (g.S.EawStore.opens shape) c.args.tid mid new done) so_far.shape c.in_ok-lay_part.ensures.does in
    record {
      reads = reads_on tells (g.S.EawStore.opens first.shape) c.args.tid first mid new done refl so_far done more;
      cost =
          let ranges = ap (λ (rs : ℕ → Option (List (ℕ × ℕ))). listed (rs c.args.tid)) so_far.done.ranges in
          let there : c.loop-pos.pos < length (listed (first.ranges c.args.tid)) = omega (arith, c.loop-pos-test.true, c.log_len-pos-end.ensures ∙ ap (λ (rs : ℕ → Option (List (ℕ × ℕ))). length (listed (rs c.args.tid))) c.in_ok-read.ensures.does.done.ranges) in
          let calls = g.S.EawStore.calls c.args.store.now in
          let lay = ap (λ (rs : List (ℕ × ℕ)). lay_cost (g.S.EawStore.calls c.loop-pos.store) c.args.tid (c.args.addr, length c.loop-pos.buf) (range_at rs c.loop-pos.pos)) ranges
          ∙ lay_same calls c.args.tid (c.args.addr, length c.loop-pos.buf) (g.S.EawStore.calls c.loop-pos.store) (range_at (listed (first.ranges c.args.tid)) c.loop-pos.pos) c.loop-pos.invariant.steady
          ∙ ap (λ (n : ℕ). lay_cost calls c.args.tid (c.args.addr, n) (range_at (listed (first.ranges c.args.tid)) c.loop-pos.pos)) c.loop-pos.invariant.long in
          let more = laid_more calls c.args.tid (c.args.addr, length c.args.buf.now) (listed (first.ranges c.args.tid)) c.loop-pos.pos there in
          omega (arith, c.loop-pos.invariant.cost, c.in_ok-lay_part.ensures.costs.done refl, lay, more);
      steady = λ command. c.in_ok-lay_part.ensures.steady command ∙ c.loop-pos.invariant.steady command;
      long = c.lay_part.auto.buf ∙ c.loop-pos.invariant.long;
      seen = λ tell.
          let same : mid.state ≡ first.state = so_far.done.state tell in
          let log = listed (first.state.logs c.args.tid) in
          let pos = c.loop-pos.pos in
          let d = applied (take c.loop-pos.pos (listed (first.state.logs c.args.tid))) first.state.bytes in
          let outline = ap listed (g.met.S.EawStore.outlines c.args.store.now c.args.tid tell so_far.cause) ∙ listed-ranges (first.state.logs c.args.tid) in
          let placed = placed_parts first.shape log (subst (λ rs. ArePlaced first.shape rs) outline (g.met.S.EawStore.placed c.args.store.now c.args.tid)) in
          let long = long_applied first.shape log pos first.state.bytes placed (g.met.S.EawStore.long c.args.store.now tell) in
          let there : c.loop-pos.pos < length (listed (first.state.logs c.args.tid)) =
          omega (arith, c.loop-pos-test.true, c.log_len-pos-end.ensures ∙ ap (λ (rs : ℕ → Option (List (ℕ × ℕ))). length (listed (rs c.args.tid))) c.in_ok-read.ensures.does.done.ranges ∙ ap length outline ∙ length-ranges log) in
          c.in_ok-lay_part.ensures.laid tell d (long ∙ (λ i. data_len (sym so_far.shape i))) (c.loop-pos.invariant.seen tell)
          ∙ (λ i. let part = part_at (listed ((same i).logs c.args.tid)) c.loop-pos.pos in range (put d part.0 part.1) c.args.addr (length c.loop-pos.buf))
          ∙ ap (λ (bytes : List ℕ). range bytes c.args.addr (length c.loop-pos.buf))
          (sym (more_applied log pos first.state.bytes there) ∙ ap (λ (k : ℕ). applied (take k log) first.state.bytes) (sym (add-one pos)))
          ∙ ap (λ (n : ℕ). range (applied (take (c.loop-pos.pos + 1) (listed (first.state.logs c.args.tid))) first.state.bytes) c.args.addr n) (sym c.lay_part.auto.buf);
    }

pub returns-clause-bytes : goal.returns-clause-bytes
returns-clause-bytes g c tell =
    let view = g.S.EawStore.view in
    let first = view c.args.store.now in
    let log = listed (first.state.logs c.args.tid) in
    let outline = ap listed (g.met.S.EawStore.outlines c.args.store.now c.args.tid tell c.loop-pos.invariant.reads.cause) ∙ listed-ranges (first.state.logs c.args.tid) in
    let count = c.log_len-pos-end.ensures ∙ ap (λ (rs : ℕ → Option (List (ℕ × ℕ))). length (listed (rs c.args.tid))) c.in_ok-read.ensures.does.done.ranges ∙ ap length outline ∙ length-ranges log in
    let all : c.loop-pos.pos ≡ length (listed (first.state.logs c.args.tid)) = omega (arith, c.loop-pos-test.false, c.loop-pos.auto.pos-end, count) in
    c.loop-pos.invariant.seen tell
    ∙ ap (λ (k : ℕ). range (applied (take k (listed (first.state.logs c.args.tid))) first.state.bytes) c.args.addr (length c.loop-pos.buf)) all
    ∙ ap (λ (ps : List Part). range (applied ps first.state.bytes) c.args.addr (length c.loop-pos.buf)) (take-length log)
    ∙ ap (λ (n : ℕ). range (applied log first.state.bytes) c.args.addr n) c.loop-pos.invariant.long

pub returns-in_err-read-clause-bytes : goal.returns-in_err-read-clause-bytes
returns-in_err-read-clause-bytes g c =
    let exit = err_from_is_err_and c.from_residual.result c.from_residual.ensures.1 in
    rw (exit.1) (
    λ told. tt)

pub returns-in_err-lay_part-clause-bytes : goal.returns-in_err-lay_part-clause-bytes
returns-in_err-lay_part-clause-bytes g c =
    let exit = err_from_is_err_and c.from_residual-in_err-lay_part.result c.from_residual-in_err-lay_part.ensures.1 in
    rw (exit.1) (
    λ told. tt)

pub returns-clause-refused : goal.returns-clause-refused
returns-clause-refused g c = tt

pub returns-clause-costs : goal.returns-clause-costs
returns-clause-costs g c =
    let first = g.S.EawStore.view c.args.store.now in
    let count = c.log_len-pos-end.ensures ∙ ap (λ (rs : ℕ → Option (List (ℕ × ℕ))). length (listed (rs c.args.tid))) c.in_ok-read.ensures.does.done.ranges in
    let all = laid_all (g.S.EawStore.calls c.args.store.now) c.args.tid (c.args.addr, length c.args.buf.now) (listed (first.ranges c.args.tid)) c.loop-pos.pos (omega (arith, c.loop-pos-test.false, c.loop-pos.auto.pos-end, count)) in
    record { done = λ exact. omega (arith, c.loop-pos.invariant.cost, all); most = omega (arith, c.loop-pos.invariant.cost, all) }

pub returns-in_err-read-clause-costs : goal.returns-in_err-read-clause-costs
returns-in_err-read-clause-costs g c =
    let exit = err_from_is_err_and c.from_residual.result c.from_residual.ensures.1 in
    rw (exit.1) (
    record { done = λ exact. tt; most = omega (arith, c.in_err-read.ensures.costs.most) })

pub returns-in_err-lay_part-clause-costs : goal.returns-in_err-lay_part-clause-costs
returns-in_err-lay_part-clause-costs g c =
    let exit = err_from_is_err_and c.from_residual-in_err-lay_part.result c.from_residual-in_err-lay_part.ensures.1 in
    rw (exit.1) (
    let first = g.S.EawStore.view c.args.store.now in
    let calls = g.S.EawStore.calls c.args.store.now in
    let ranges = ap (λ (rs : ℕ → Option (List (ℕ × ℕ))). listed (rs c.args.tid)) c.loop-pos.invariant.reads.done.ranges in
    let there : c.loop-pos.pos < length (listed (first.ranges c.args.tid)) = omega (arith, c.loop-pos-test.true, c.log_len-pos-end.ensures ∙ ap (λ (rs : ℕ → Option (List (ℕ × ℕ))). length (listed (rs c.args.tid))) c.in_ok-read.ensures.does.done.ranges) in
    let lay = ap (λ (rs : List (ℕ × ℕ)). lay_cost (g.S.EawStore.calls c.loop-pos.store) c.args.tid (c.args.addr, length c.loop-pos.buf) (range_at rs c.loop-pos.pos)) ranges
    ∙ lay_same calls c.args.tid (c.args.addr, length c.loop-pos.buf) (g.S.EawStore.calls c.loop-pos.store) (range_at (listed (first.ranges c.args.tid)) c.loop-pos.pos) c.loop-pos.invariant.steady
    ∙ ap (λ (n : ℕ). lay_cost calls c.args.tid (c.args.addr, n) (range_at (listed (first.ranges c.args.tid)) c.loop-pos.pos)) c.loop-pos.invariant.long in
    let more = laid_more calls c.args.tid (c.args.addr, length c.args.buf.now) (listed (first.ranges c.args.tid)) c.loop-pos.pos there in
    let most = laid_most calls c.args.tid (c.args.addr, length c.args.buf.now) (listed (first.ranges c.args.tid)) (c.loop-pos.pos + 1) in
    record { done = λ exact. tt; most = omega (arith, c.loop-pos.invariant.cost, c.in_err-lay_part.ensures.costs.most, lay, more, most) })

pub returns-in_err-lay_part-clause-does : goal.returns-in_err-lay_part-clause-does
returns-in_err-lay_part-clause-does g c =
    let exit = err_from_is_err_and c.from_residual-in_err-lay_part.result c.from_residual-in_err-lay_part.ensures.1 in
    rw (exit.1, exit.2) (
    let view = g.S.EawStore.view in
    let first = view c.args.store.now in
    let mid = view c.loop-pos.store in
    let new = view c.lay_part.new.store in
    let tells = g.S.EawStore.tells in
    let so_far = c.loop-pos.invariant.reads in
    let done : Result (Unit {0}) EawFault = Ok tt in
    let bad : Result (Unit {0}) EawFault = Err c.in_err-lay_part.field-0.0 in
    let more : Reads tells (g.S.EawStore.opens first.shape) c.args.tid mid new bad =
    subst (λ (shape : Shape). Reads tells (g.S.EawStore.opens shape) c.args.tid mid new bad) so_far.shape c.in_err-lay_part.ensures.does in
    reads_on tells (g.S.EawStore.opens first.shape) c.args.tid first mid new done refl so_far bad more)
