use Rattle.std.proofs.Common.{◌≡◌, ℕ, ◌+◌, ◌^◌, ◌<◌, List, [], ◌∷◌, length, drop, refl, sym, ◌∙◌, ap, subst, arith}
use Rattle.std.specs.Option.{option_map}
use Rattle.std.proofs.lemmas.Result.{err_from_is_err_and}
use Rattle.mars_base.proofs.Costing.{none_yet, costs_more, costs_then}
use Rattle.array_shape.specs.Parts.{parts_of_write}
use Rattle.array_shape.specs.Logged.{ranges_of}
use Rattle.array_shape.proofs.Cutting.{parts_of_write-some}
use Rattle.write_back.specs.Orders.{due_for}
use Rattle.eaw_face.specs.State.{listed}
use Rattle.eaw_device.specs.Costs.{back_cost, commit_cost, group_of}
use Rattle.eaw_device.specs.Laws.{length-shown}
use Rattle.eaw_device.specs.Opens.{Opens}
use Rattle.eaw_device.specs.Logs.{entries_at}
use Rattle.write_back.specs.Entries.{ranges_in, parts_in}
use Rattle.eaw_device.specs.Sound.{view_of}
use Rattle.eaw_device.proofs.Atomic.{write_fails, atomic, mid_alive, mid_live, mid_ranges, commit_fails, media_alone, none_ranges}
use Rattle.eaw_device.proofs.GroupBits.{group_of_one}
use Rattle.eaw_device.proofs.SettledCost.{back_within, settled_cost}
use Rattle.eaw_device.proofs.device.EawEawStore.atomic_write.Given.{Over}
use Rattle.eaw_device.proofs.device.EawEawStore.atomic_write.Goals.{After-commit}
use Rattle.eaw_device.proofs.device.EawEawStore.atomic_write.Goals as goal

-- the write has a part
some_range : (addr : ℕ) (bytes : List ℕ) → 0 < length bytes → 0 < length (ranges_of (parts_of_write addr bytes))
some_range addr bytes some = subst (λ (ps : List (ℕ × List ℕ)). 0 < length (ranges_of ps)) (sym (parts_of_write-some addr bytes some)) (omega arith)

pub returns-in_err-write_log : goal.returns-in_err-write_log
returns-in_err-write_log g c =
    let m = g.M.Media in
    let s = c.args.self.now in
    let mid = c.write_log.new.self in
    let failed = c.in_err-write_log.ensures in
    let p = err_from_is_err_and c.from_residual.result c.from_residual.ensures.1 in
    rw (p.1, p.2) (record {
      does = write_fails m.tells (Opens s.shape) (view_of (m.view s.media) s.shape s.logs.items s.late s.is_dead) (view_of (m.view mid.media) mid.shape mid.logs.items mid.late mid.is_dead)
          c.args.tid c.args.addr c.args.bytes.now c.requires.free c.requires.tid c.in_err-write_log.field-0.0 failed.does;
      costs = record {
        done = λ exact. tt;
        most = omega (
          arith,
          failed.costs.most,
          ap (back_cost s.shape s.late.queue) (group_of_one c.args.tid),
          back_within s.shape s.late.queue (c.args.tid ∷ []) (ranges_of (parts_of_write c.args.addr c.args.bytes.now)) (some_range c.args.addr c.args.bytes.now c.requires.some),
        );
      };
      late = λ defers. tt;
      refused = failed.refused;
    })

pub returns-clause-does : goal.returns-clause-does
returns-clause-does g c =
    let m = g.M.Media in
    let s = c.args.self.now in
    let mid = c.write_log.new.self in
    let last = c.commit.new.self in
    atomic m.tells Opens (view_of (m.view s.media) s.shape s.logs.items s.late s.is_dead) (view_of (m.view mid.media) mid.shape mid.logs.items mid.late mid.is_dead) (view_of (m.view last.media) last.shape last.logs.items last.late last.is_dead)
    c.args.tid c.args.addr c.args.bytes.now c.requires.free
    (λ told fine. none_ranges ranges_in (parts_in s.shape (m.view s.media).content.bytes c.args.tid) (entries_at s.logs.items c.args.tid) c.requires.free)
    (λ told. omega (arith, c.requires.inside, length-shown m.tells (m.view s.media) s.shape s.logs.items s.late s.is_dead s.sound told)) c.in_ok-write_log.field-0 c.in_ok-write_log.ensures.does (refl, refl) c.commit.result c.commit.ensures.does

pub returns-clause-refused : goal.returns-clause-refused
returns-clause-refused g c =
    let m = g.M.Media in
    let s = c.args.self.now in
    let mid = c.write_log.new.self in
    let last = c.commit.new.self in
    media_alone _ c.commit.result (commit_fails (view_of (m.view mid.media) mid.shape mid.logs.items mid.late mid.is_dead) c.args.tid _ c.commit.result c.commit.ensures.does.cause
    (mid_alive m.tells Opens (view_of (m.view s.media) s.shape s.logs.items s.late s.is_dead) (view_of (m.view mid.media) mid.shape mid.logs.items mid.late mid.is_dead) (view_of (m.view last.media) last.shape last.logs.items last.late last.is_dead)
    c.args.tid c.args.addr c.args.bytes.now c.requires.free
    (λ told fine. none_ranges ranges_in (parts_in s.shape (m.view s.media).content.bytes c.args.tid) (entries_at s.logs.items c.args.tid) c.requires.free)
    (λ told. omega (arith, c.requires.inside, length-shown m.tells (m.view s.media) s.shape s.logs.items s.late s.is_dead s.sound told)) c.in_ok-write_log.field-0 c.in_ok-write_log.ensures.does)
    (mid_live m.tells Opens (view_of (m.view s.media) s.shape s.logs.items s.late s.is_dead) (view_of (m.view mid.media) mid.shape mid.logs.items mid.late mid.is_dead) (view_of (m.view last.media) last.shape last.logs.items last.late last.is_dead)
    c.args.tid c.args.addr c.args.bytes.now c.requires.free
    (λ told fine. none_ranges ranges_in (parts_in s.shape (m.view s.media).content.bytes c.args.tid) (entries_at s.logs.items c.args.tid) c.requires.free)
    (λ told. omega (arith, c.requires.inside, length-shown m.tells (m.view s.media) s.shape s.logs.items s.late s.is_dead s.sound told)) c.in_ok-write_log.field-0 c.in_ok-write_log.ensures.does))

module _ (g : Over) (c : After-commit g) where
  -- what the number has logged when it commits
  ranges : listed (option_map ranges_in (entries_at c.write_log.new.self.logs.items c.args.tid)) ≡ ranges_of (parts_of_write c.args.addr c.args.bytes.now)
  ranges =
      let m = g.M.Media in
      let s = c.args.self.now in
      let mid = c.write_log.new.self in
      let last = c.commit.new.self in
      mid_ranges m.tells Opens (view_of (m.view s.media) s.shape s.logs.items s.late s.is_dead) (view_of (m.view mid.media) mid.shape mid.logs.items mid.late mid.is_dead) (view_of (m.view last.media) last.shape last.logs.items last.late last.is_dead)
      c.args.tid c.args.addr c.args.bytes.now c.requires.free
      (λ told fine. none_ranges ranges_in (parts_in s.shape (m.view s.media).content.bytes c.args.tid) (entries_at s.logs.items c.args.tid) c.requires.free)
      (λ told. omega (arith, c.requires.inside, length-shown m.tells (m.view s.media) s.shape s.logs.items s.late s.is_dead s.sound told)) c.in_ok-write_log.field-0 c.in_ok-write_log.ensures.does

  -- what is left waiting, by the group of the number alone
  left : c.write_log.new.self.late.queue.ballots.items ≡ (let bs = c.args.self.now.late.queue.ballots.items in drop (due_for (group_of (c.args.tid ∷ [])) bs) bs)
  left =
      let bs = c.args.self.now.late.queue.ballots.items in
      c.in_ok-write_log.ensures.left ∙ ap (λ (k : ℕ). drop (due_for k bs) bs) (sym (group_of_one c.args.tid))

  -- the cost of both is that of the commit from the start on, and of the parts
  both : (let s = c.args.self.now in let mid = c.write_log.new.self in let parts = parts_of_write c.args.addr c.args.bytes.now in
      length parts + commit_cost s.shape s.late.queue (c.args.tid ∷ []) (ranges_of parts) ≡ back_cost s.shape s.late.queue (2 ^ c.args.tid) + length parts + commit_cost mid.shape mid.late.queue (c.args.tid ∷ []) (listed (option_map ranges_in (entries_at mid.logs.items c.args.tid))))
  both =
      let s = c.args.self.now in
      let mid = c.write_log.new.self in
      let wrote = c.in_ok-write_log.ensures in
      let settled = settled_cost s.shape s.late.queue mid.late.queue (c.args.tid ∷ []) left wrote.table wrote.depth (ranges_of (parts_of_write c.args.addr c.args.bytes.now)) (some_range c.args.addr c.args.bytes.now c.requires.some) in
      let own = ap (back_cost s.shape s.late.queue) (group_of_one c.args.tid) in
      let here : commit_cost mid.shape mid.late.queue (c.args.tid ∷ []) (listed (option_map ranges_in (entries_at mid.logs.items c.args.tid))) ≡ commit_cost s.shape mid.late.queue (c.args.tid ∷ []) (ranges_of (parts_of_write c.args.addr c.args.bytes.now)) =
      (λ i. commit_cost (wrote.does.shape i) mid.late.queue (c.args.tid ∷ []) (ranges i)) in
      omega (arith, settled, own, here)

pub returns-clause-costs : goal.returns-clause-costs
returns-clause-costs g c =
    let m = g.M.Media in
    let s = c.args.self.now in
    let mid = c.write_log.new.self in
    let staged = back_cost s.shape s.late.queue (2 ^ c.args.tid) + length (parts_of_write c.args.addr c.args.bytes.now) in
    costs_then m.tells _ staged (commit_cost mid.shape mid.late.queue (c.args.tid ∷ []) (listed (option_map ranges_in (entries_at mid.logs.items c.args.tid)))) _ _ _ c.commit.result (both g (goal.at.returns-clause-costs g c).After-commit)
    (costs_more m.tells staged 0 staged _ _ _ _ (omega arith) (none_yet m.tells 0 _ refl) c.in_ok-write_log.ensures.costs) c.commit.ensures.costs

pub returns-clause-late : goal.returns-clause-late
returns-clause-late g c = λ defers.
    let some = some_range c.args.addr c.args.bytes.now c.requires.some in
    let many = ap (λ (rs : List (ℕ × ℕ)). length rs) (ranges g (goal.at.returns-clause-late g c).After-commit) in
    c.commit.ensures.late defers (omega (arith, some, many))
