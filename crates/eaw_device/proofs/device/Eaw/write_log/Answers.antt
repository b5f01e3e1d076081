use Rattle.std.proofs.Common.{◌≡◌, ℕ, ◌*◌, ◌+◌, ◌^◌, ◌%◌, ◌<◌, ◌≤◌, true, false, List, length, get_or, map, drop, refl, sym, ◌∙◌, ap, subst, arith}
use Rattle.std.specs.Prelude.{IsTrue, None, Some, is_err, slice_get, slice_set}
use Rattle.std.proofs.lemmas.List.{get_or-set_same}
use Rattle.std.proofs.lemmas.Result.{err_from_is_err_and}
use Rattle.array_shape.specs.NumberSet.{has}
use Rattle.array_shape.specs.declared.part.Part.{Part}
use Rattle.array_shape.specs.declared.shape.Shape.{Shape}
use Rattle.array_shape.specs.Parts.{parts_of}
use Rattle.array_shape.specs.Places.{data_len, media_len}
use Rattle.write_back.specs.Turns.{has_some}
use Rattle.write_back.specs.Orders.{due_for}
use Rattle.write_back.proofs.Tying.{free_lacks}
use Rattle.eaw_face.specs.Command.{log_write}
use Rattle.eaw_device.specs.declared.log.Log.{Log}
use Rattle.eaw_device.specs.Costs.{back_cost}
use Rattle.eaw_device.specs.Logs.{Adds}
use Rattle.eaw_device.specs.Opens.{Opens}
use Rattle.eaw_device.specs.Sound.{view_of}
use Rattle.eaw_device.specs.Steps.{LogHasCells, CellsFit}
use Rattle.eaw_device.proofs.Alone.{has_own, own_bit}
use Rattle.eaw_device.proofs.Doing.{when_ok, when_err, one_log}
use Rattle.eaw_device.proofs.Gathering.{log_there}
use Rattle.eaw_device.proofs.Quiet.{quiet_fails, quiet_write}
use Rattle.eaw_device.proofs.Tables.{found_log}
use Rattle.eaw_device.proofs.Keeping.{log_short}
use Rattle.eaw_device.proofs.Writes.{write_fits, write_refused, write_parts_fit, write_failed, write_sound, write_done, write_len}
use Rattle.eaw_device.proofs.device.Eaw.write_log.Given.{Over}
use Rattle.eaw_device.proofs.device.Eaw.write_log.Goals.{After-add_range, After-index-log, After-settle_for}
use Rattle.eaw_device.proofs.device.Eaw.write_log.Goals as goal

pub returns-in_err-at : goal.returns-in_err-at
returns-in_err-at g c =
    let m = g.M.Media in
    let s = c.args.self.now in
    let p = err_from_is_err_and c.from_residual.result c.from_residual.ensures.1 in
    rw p.1 (record {
      does = write_refused m.tells (m.view s.media) s.shape s.logs.items s.late s.is_dead s.sound c.args.tid c.args.addr c.args.bytes.now c.requires c.in_err-at.field-0.0 c.in_err-at.ensures.cause _ p.2;
      len = tt;
      left = tt;
      table = tt;
      depth = tt;
      costs = record { done = λ exact. tt; most = omega arith };
      refused = λ ne. refl;
    })

-- what waits of the number, by its bit as it is computed
settled_calls : (g : Over) (c : After-settle_for g) → (let s = c.args.self.now in back_cost s.shape s.late.queue (1 * 2 ^ c.args.tid % 2 ^ 64) ≡ back_cost s.shape s.late.queue (2 ^ c.args.tid))
settled_calls g c =
    let s = c.args.self.now in
    ap (back_cost s.shape s.late.queue) (own_bit s.shape c.args.tid c.in_ok-at.ensures.small)

pub returns-in_err-settle_for : goal.returns-in_err-settle_for
returns-in_err-settle_for g c =
    let m = g.M.Media in
    let s = c.args.self.now in
    let mid = c.settle_for.new.self in
    let failed = c.in_err-settle_for.ensures in
    let there = log_there s.logs.items c.args.tid (omega (arith, s.sound.many, c.in_ok-at.ensures.small)) in
    let room = write_fits m.tells (m.view s.media) s.shape s.logs.items s.late s.is_dead s.sound c.in_ok-at.ensures.alive c.args.tid c.in_ok-at.ensures.small there.0 there.1 c.args.addr c.args.bytes.now c.requires (c.in_ok-at.ensures.room there.0 there.1) in
    let p = err_from_is_err_and c.from_residual-in_err-settle_for.result c.from_residual-in_err-settle_for.ensures.1 in
    rw (p.1, p.2) (rw failed.quiet.failed.0 (record {
      does = quiet_fails m.tells (Opens s.shape) (log_write c.args.tid c.args.addr c.args.bytes.now) (view_of (m.view s.media) s.shape s.logs.items s.late s.is_dead) (view_of (m.view mid.media) mid.shape mid.logs.items mid.late mid.is_dead)
          c.in_err-settle_for.field-0.0 failed.quiet c.in_ok-at.ensures.alive c.in_ok-at.ensures.small room;
      len = tt;
      left = tt;
      table = tt;
      depth = tt;
      costs = record { done = λ exact. tt; most = omega (arith, failed.costs.most, settled_calls g (goal.at.returns-in_err-settle_for g c).After-settle_for) };
      refused = λ ne. absurd (ne refl);
    }))

-- the device when what waits of the number is written back: the log has room still, and the number has no commit that waits
module _ (g : Over) (c : After-index-log g) where
  small : c.args.tid < c.settle_for.new.self.shape.numbers
  small = omega (arith, ap (λ (s : Shape). s.numbers) c.in_ok-settle_for.ensures.shape, c.in_ok-at.ensures.small)

  inside : c.args.addr + length c.args.bytes.now ≤ data_len c.settle_for.new.self.shape
  inside = subst (λ (s : Shape). c.args.addr + length c.args.bytes.now ≤ data_len s) (sym c.in_ok-settle_for.ensures.shape) c.requires

  below : c.args.tid < length c.settle_for.new.self.logs.items
  below = omega (arith, c.settle_for.new.self.sound.many, small)

  there : slice_get c.settle_for.new.self.logs.items c.args.tid ≡ Some c.index-log.result.now
  there = found_log c.settle_for.new.self.logs.items c.in_ok-at.at c.args.tid c.index-log.result.now c.in_ok-at.ensures.at below c.index-log.ensures

  has_cells : LogHasCells c.settle_for.new.self.shape c.settle_for.new.self.logs.items c.args.tid c.args.addr (length c.args.bytes.now)
  has_cells = subst (λ (p : Shape × List Log). LogHasCells p.0 p.1 c.args.tid c.args.addr (length c.args.bytes.now))
      (λ i. (sym c.in_ok-settle_for.ensures.shape i, (sym c.in_ok-settle_for.ensures.logs i).items)) c.in_ok-at.ensures.room

  room : CellsFit c.settle_for.new.self.shape c.index-log.result.now.held c.args.addr (length c.args.bytes.now)
  room = has_cells c.index-log.result.now there

  apart : has_some c.settle_for.new.self.late.queue.ballots.items c.args.tid ≡ false
  apart = free_lacks c.settle_for.new.self.late.queue.ballots.items c.args.tid
      (c.in_ok-settle_for.ensures.free c.args.tid (ap (λ (k : ℕ). has k c.args.tid) (own_bit c.args.self.now.shape c.args.tid c.in_ok-at.ensures.small) ∙ has_own c.args.tid))

  long : IsTrue g.M.Media.tells → length (g.M.Media.view c.settle_for.new.self.media).content.bytes ≡ media_len c.settle_for.new.self.shape
  long told = g.met.M.Media.long c.settle_for.new.self.media told ∙ c.settle_for.new.self.sound.sized

pub stage_write-requires-clause-room : goal.stage_write-requires-clause-room
stage_write-requires-clause-room g c =
    let at = (goal.at.stage_write-requires-clause-room g c).After-index-log in
    let m = g.M.Media in
    let s = c.settle_for.new.self in
    write_parts_fit m.tells (m.view s.media) s.shape s.logs.items s.late s.is_dead s.sound c.in_ok-settle_for.ensures.quiet.alive c.args.tid (small g at) c.index-log.result.now (there g at) c.args.addr c.args.bytes.now (inside g at) (apart g at) (room g at)

pub returns-then-is_err-clause-does : goal.returns-then-is_err-clause-does
returns-then-is_err-clause-does g c =
    let at = (goal.at.returns-then-is_err-clause-does g c).After-index-log in
    let m = g.M.Media in
    let first = c.args.self.now in
    let s = c.settle_for.new.self in
    let quiet = c.in_ok-settle_for.ensures.quiet in
    quiet_write m.tells Opens c.args.tid c.args.addr c.args.bytes.now (view_of (m.view first.media) first.shape first.logs.items first.late first.is_dead) (view_of (m.view s.media) s.shape s.logs.items s.late s.is_dead)
    (view_of (m.view c.stage_write.new.media) s.shape s.logs.items s.late true) c.in_ok-at.ensures.alive refl c.in_ok-settle_for.field-0 quiet _
    (write_failed m.tells (m.view s.media) s.shape s.logs.items s.late s.is_dead s.sound quiet.alive c.args.tid (small g at) c.index-log.result.now (there g at) c.args.addr c.args.bytes.now (inside g at) (apart g at) (room g at)
    (m.view c.stage_write.new.media) c.stage_write.result c.stage_write.ensures.does (long g at) (when_err c.stage_write.result (sym c.is_err.ensures.value ∙ c.if-is_err.true) c.stage_write.ensures.does.cause.failed))

pub returns-then-is_err-clause-len : goal.returns-then-is_err-clause-len
returns-then-is_err-clause-len g c = tt

pub returns-then-is_err-clause-refused : goal.returns-then-is_err-clause-refused
returns-then-is_err-clause-refused g c = λ ne. absurd (ne refl)

pub returns-then-is_err-clause-costs : goal.returns-then-is_err-clause-costs
returns-then-is_err-clause-costs g c = record { done = λ exact. tt; most = omega (arith, c.in_ok-settle_for.ensures.costs.most, c.stage_write.ensures.costs.most, settled_calls g (goal.at.returns-then-is_err-clause-costs g c).After-settle_for) }

pub add_range-requires-clause-kept : goal.add_range-requires-clause-kept
add_range-requires-clause-kept g c =
    let at = (goal.at.add_range-requires-clause-kept g c).After-index-log in
    let s = c.settle_for.new.self in
    s.sound.kept c.args.tid c.index_mut.result.now (found_log s.logs.items c.in_ok-at.at c.args.tid c.index_mut.result.now c.in_ok-at.ensures.at (below g at) c.index_mut.ensures.value)

pub add_range-requires-clause-range : goal.add_range-requires-clause-range
add_range-requires-clause-range g c =
    let at = (goal.at.add_range-requires-clause-range g c).After-index-log in
    inside g at

pub add_range-requires-clause-room : goal.add_range-requires-clause-room
add_range-requires-clause-room g c =
    let at = (goal.at.add_range-requires-clause-room g c).After-index-log in
    let s = c.settle_for.new.self in
    has_cells g at c.index_mut.result.now (found_log s.logs.items c.in_ok-at.at c.args.tid c.index_mut.result.now c.in_ok-at.ensures.at (below g at) c.index_mut.ensures.value)

-- the log with the write
module _ (g : Over) (c : After-add_range g) where
  fine : is_err c.stage_write.result ≡ false
  fine = sym c.is_err.ensures.value ∙ c.if-is_err.false

  adds : Adds c.index-log.result.now.entries.items c.add_range.new.self.entries.items (map (λ (p : Part). (p.addr, p.len)) (parts_of c.settle_for.new.self.shape c.args.addr (length c.args.bytes.now)))
  adds =
      let s = c.settle_for.new.self in
      let within : c.args.tid < length s.logs.items = omega (arith, s.sound.many, ap (λ (h : Shape). h.numbers) c.in_ok-settle_for.ensures.shape, c.in_ok-at.ensures.small) in
      let one = found_log s.logs.items c.in_ok-at.at c.args.tid c.index-log.result.now c.in_ok-at.ensures.at within c.index-log.ensures in
      let again = found_log s.logs.items c.in_ok-at.at c.args.tid c.index_mut.result.now c.in_ok-at.ensures.at within c.index_mut.ensures.value in
      subst (λ (l : Log). Adds l.entries.items c.add_range.new.self.entries.items (map (λ (p : Part). (p.addr, p.len)) (parts_of s.shape c.args.addr (length c.args.bytes.now))))
      (one_log s.logs.items c.args.tid c.index_mut.result.now c.index-log.result.now again one) c.add_range.ensures.adds

pub invariant_of-self-2 : goal.invariant_of-self-2
invariant_of-self-2 g c =
    let at = (goal.at.invariant_of-self-2 g c).After-index-log in
    let m = g.M.Media in
    let s = c.settle_for.new.self in
    record {
      sound = write_sound m.tells (m.view s.media) s.shape s.logs.items s.late s.is_dead s.sound c.in_ok-settle_for.ensures.quiet.alive c.args.tid (small g at) c.index-log.result.now (there g at) c.args.addr c.args.bytes.now (inside g at) (apart g at) (room g at)
          (m.view c.stage_write.new.media) c.stage_write.result c.stage_write.ensures.does (long g at) (λ told. when_ok c.stage_write.result (fine g (goal.at.invariant_of-self-2 g c).After-add_range) (c.stage_write.ensures.holds told)) c.add_range.new.self c.add_range.ensures.kept c.add_range.ensures.live (adds g (goal.at.invariant_of-self-2 g c).After-add_range) c.in_ok-at.at c.in_ok-at.ensures.at;
      depth = s.depth;
    }

-- the log that is looked up again
written : (logs : List Log) (at t : ℕ) (log got : Log) → at ≡ t → t < length logs → got ≡ get_or (slice_set logs at log) at got → got ≡ log
written logs at t log got is lt seen = seen ∙ get_or-set_same logs at log got (omega arith)

pub overflow_cast-result : goal.overflow_cast-result
overflow_cast-result g c =
    let at = (goal.at.overflow_cast-result g c).After-index-log in
    let s = c.settle_for.new.self in
    let is = written s.logs.items c.in_ok-at.at c.args.tid c.add_range.new.self c.index.result.now c.in_ok-at.ensures.at (below g at) c.index.ensures in
    let long = ap (λ (l : Log). length l.entries.items) is in
    omega (arith, c.len.ensures, c.index.result.now.entries.ok.0, long, log_short s.shape s.sound.shaped c.add_range.new.self c.add_range.ensures.kept)

pub returns-clause-does : goal.returns-clause-does
returns-clause-does g c =
    let at = (goal.at.returns-clause-does g c).After-index-log in
    let m = g.M.Media in
    let first = c.args.self.now in
    let s = c.settle_for.new.self in
    let quiet = c.in_ok-settle_for.ensures.quiet in
    quiet_write m.tells Opens c.args.tid c.args.addr c.args.bytes.now (view_of (m.view first.media) first.shape first.logs.items first.late first.is_dead) (view_of (m.view s.media) s.shape s.logs.items s.late s.is_dead)
    (view_of (m.view c.stage_write.new.media) s.shape (slice_set s.logs.items c.in_ok-at.at c.add_range.new.self) s.late s.is_dead) c.in_ok-at.ensures.alive refl c.in_ok-settle_for.field-0 quiet _
    (write_done m.tells (m.view s.media) s.shape s.logs.items s.late s.is_dead s.sound quiet.alive c.args.tid (small g at) c.index-log.result.now (there g at) c.args.addr c.args.bytes.now (inside g at) (apart g at) (room g at)
    (m.view c.stage_write.new.media) c.stage_write.result c.stage_write.ensures.does (long g at) (λ told. when_ok c.stage_write.result (fine g (goal.at.returns-clause-does g c).After-add_range) (c.stage_write.ensures.holds told)) c.add_range.new.self c.add_range.ensures.kept c.add_range.ensures.live (adds g (goal.at.returns-clause-does g c).After-add_range) c.in_ok-at.at c.in_ok-at.ensures.at
    c.len.result (when_ok c.stage_write.result (fine g (goal.at.returns-clause-does g c).After-add_range) c.stage_write.ensures.does.cause.kept))

pub returns-clause-len : goal.returns-clause-len
returns-clause-len g c =
    let at = (goal.at.returns-clause-len g c).After-index-log in
    let m = g.M.Media in
    let s = c.settle_for.new.self in
    let is = written s.logs.items c.in_ok-at.at c.args.tid c.add_range.new.self c.index.result.now c.in_ok-at.ensures.at (below g at) c.index.ensures in
    c.len.ensures ∙ c.index.result.now.entries.ok.0 ∙ ap (λ (l : Log). length l.entries.items) is
    ∙ sym (write_len m.tells (m.view s.media) s.shape s.logs.items s.late s.is_dead s.sound c.in_ok-settle_for.ensures.quiet.alive c.args.tid (small g at) c.index-log.result.now (there g at) c.args.addr c.args.bytes.now (inside g at) (apart g at) (room g at)
    (m.view c.stage_write.new.media) c.stage_write.result c.stage_write.ensures.does (long g at) (λ told. when_ok c.stage_write.result (fine g (goal.at.returns-clause-len g c).After-add_range) (c.stage_write.ensures.holds told)) c.add_range.new.self c.add_range.ensures.kept c.add_range.ensures.live (adds g (goal.at.returns-clause-len g c).After-add_range) c.in_ok-at.at c.in_ok-at.ensures.at)

pub returns-clause-refused : goal.returns-clause-refused
returns-clause-refused g c = tt

pub returns-clause-left : goal.returns-clause-left
returns-clause-left g c =
    let s = c.args.self.now in
    let bs = s.late.queue.ballots.items in
    c.in_ok-settle_for.ensures.left ∙ ap (λ (k : ℕ). drop (due_for k bs) bs) (own_bit s.shape c.args.tid c.in_ok-at.ensures.small)

pub returns-clause-costs : goal.returns-clause-costs
returns-clause-costs g c =
    let settled = c.in_ok-settle_for.ensures.costs in
    let staged = when_ok c.stage_write.result (fine g (goal.at.returns-clause-costs g c).After-add_range) (c.stage_write.ensures.costs.done refl) in
    record { done = λ told. let one = settled.done told in omega (arith, one, staged, settled_calls g (goal.at.returns-clause-costs g c).After-settle_for); most = omega (arith, settled.most, staged, settled_calls g (goal.at.returns-clause-costs g c).After-settle_for) }
