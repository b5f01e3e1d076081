use Rattle.std.proofs.Common.{◌≡◌, ◌∙◌, sym, refl, arith, ℕ, List, [], ◌∷◌, drop, ap}
use Rattle.std.proofs.lemmas.Result.{err_from_is_err_and}
use Rattle.eaw_face.specs.Command.{commit}
use Rattle.eaw_face.specs.declared.fault.EawFault.TheVariants.{Media}
use Rattle.eaw_device.specs.Opens.{Opens}
use Rattle.eaw_device.specs.Sound.{view_of}
use Rattle.eaw_device.proofs.Doing.{when_ok, lacking, lacking_other, Found, found, when_err}
use Rattle.eaw_device.specs.Costs.{commit_cost}
use Rattle.eaw_device.proofs.Costing.{costs_done}
use Rattle.eaw_device.proofs.Cutting.{order_cut}
use Rattle.eaw_device.proofs.Tables.{ranges_there, sound_dead}
use Rattle.eaw_device.proofs.Commits.{its_len, commit_failed, commit_sound, commit_done}
use Rattle.eaw_device.proofs.Depths.{keeps_depth, some_can_wait}
use Rattle.eaw_device.proofs.device.EawEawStore.commit.Given.{Over}
use Rattle.eaw_device.proofs.device.EawEawStore.commit.Goals as goal

pub returns-in_err-at : goal.returns-in_err-at
returns-in_err-at g c =
    let m = g.M.Media in
    let s = c.args.self.now in
    let store = view_of (m.view s.media) s.shape s.logs.items s.late s.is_dead in
    let fault = c.in_err-at.field-0.0 in
    let cause = c.in_err-at.ensures.cause in
    let p = err_from_is_err_and c.from_residual.result c.from_residual.ensures.1 in
    rw (p.1, p.2) (record {
      does = lacking m.tells (Opens s.shape) (commit c.args.tid) store c.args.tid (λ u lacks is. (lacks, is)) fault cause;
      due = λ is. absurd (lacking_other store c.args.tid fault cause (let same : fault ≡ Media = cc in same));
      idle = λ none. refl;
      costs = record { done = λ exact. tt; most = omega arith };
      late = λ defers more. tt;
      refused = λ ne. refl;
    })

-- the log that is found
log_found : (g : Over) (c : goal.After-index g) → Found g.M.Media.tells (g.M.Media.view c.args.self.now.media) c.args.self.now.shape c.args.self.now.logs.items c.args.self.now.late c.args.self.now.is_dead c.args.tid c.index.result.now
log_found g c =
    let s = c.args.self.now in
    found g.M.Media.tells (g.M.Media.view s.media) s.shape s.logs.items s.late s.is_dead s.sound c.in_ok-at.ensures.alive c.args.tid c.in_ok-at.at c.index.result.now c.in_ok-at.ensures.at c.in_ok-at.ensures.live c.index.ensures

pub commit_log-requires-clause-ready : goal.commit_log-requires-clause-ready
commit_log-requires-clause-ready g c = c.args.self.now.sound.ready

pub commit_log-requires-clause-tied : goal.commit_log-requires-clause-tied
commit_log-requires-clause-tied g c = (c.args.self.now.sound.in_order c.in_ok-at.ensures.alive).tied

pub commit_log-requires-clause-waiting : goal.commit_log-requires-clause-waiting
commit_log-requires-clause-waiting g c = λ told. (c.args.self.now.sound.told told c.in_ok-at.ensures.alive).sure.waiting

pub commit_log-requires-clause-kept : goal.commit_log-requires-clause-kept
commit_log-requires-clause-kept g c = (log_found g c).kept

pub commit_log-requires-clause-held : goal.commit_log-requires-clause-held
commit_log-requires-clause-held g c = (log_found g c).held

pub returns-then-is_err-clause-does : goal.returns-then-is_err-clause-does
returns-then-is_err-clause-does g c =
    let m = g.M.Media in
    let s = c.args.self.now in
    let there = found m.tells (m.view s.media) s.shape s.logs.items s.late s.is_dead s.sound c.in_ok-at.ensures.alive c.args.tid c.in_ok-at.at c.index.result.now c.in_ok-at.ensures.at c.in_ok-at.ensures.live c.index.ensures in
    let said = c.commit_log.ensures.does in
    commit_failed m.tells (m.view s.media) (m.view c.commit_log.new.media) s.shape s.logs.items s.late s.is_dead s.sound c.in_ok-at.ensures.alive c.args.tid c.in_ok-at.ensures.live c.index.result.now there
    c.commit_log.new.late 0 c.commit_log.result said.does said.depth (λ told. g.met.M.Media.long s.media told ∙ s.sound.sized) said.any_moment
    (when_err c.commit_log.result (sym c.is_err.ensures.value ∙ c.if-is_err.true) said.does.does.cause.failed) refl

pub returns-then-is_err-clause-idle : goal.returns-then-is_err-clause-idle
returns-then-is_err-clause-idle g c = λ none.
    let m = g.M.Media in
    let s = c.args.self.now in
    let there = found m.tells (m.view s.media) s.shape s.logs.items s.late s.is_dead s.sound c.in_ok-at.ensures.alive c.args.tid c.in_ok-at.at c.index.result.now c.in_ok-at.ensures.at c.in_ok-at.ensures.live c.index.ensures in
    let len = its_len m.tells (m.view s.media) (m.view c.commit_log.new.media) s.shape s.logs.items s.late s.is_dead s.sound c.in_ok-at.ensures.alive c.args.tid c.in_ok-at.ensures.live c.index.result.now there in
    let same = c.commit_log.ensures.idle (sym len ∙ none) in
    cc

pub clear-requires : goal.clear-requires
clear-requires g c =
    let m = g.M.Media in
    let s = c.args.self.now in
    (found m.tells (m.view s.media) s.shape s.logs.items s.late s.is_dead s.sound c.in_ok-at.ensures.alive c.args.tid c.in_ok-at.at c.index_mut.result.now c.in_ok-at.ensures.at c.in_ok-at.ensures.live c.index_mut.ensures.value).kept

pub invariant_of-self : goal.invariant_of-self
invariant_of-self g c =
    let m = g.M.Media in
    let s = c.args.self.now in
    let said = c.commit_log.ensures.does in
    record {
      sound = sound_dead m.tells (m.view s.media) (m.view c.commit_log.new.media) s.shape s.logs.items s.late c.commit_log.new.late s.is_dead s.sound said.does.does.size c.commit_log.ensures.stays.ready;
      depth = keeps_depth g.D.Depth.least g.D.Depth.most _ _ said.depth s.depth;
    }

pub invariant_of-self-2 : goal.invariant_of-self-2
invariant_of-self-2 g c =
    let m = g.M.Media in
    let s = c.args.self.now in
    let there = found m.tells (m.view s.media) s.shape s.logs.items s.late s.is_dead s.sound c.in_ok-at.ensures.alive c.args.tid c.in_ok-at.at c.index.result.now c.in_ok-at.ensures.at c.in_ok-at.ensures.live c.index.ensures in
    let said = c.commit_log.ensures.does in
    let fine = sym c.is_err.ensures.value ∙ c.if-is_err.false in
    record {
      sound = commit_sound m.tells (m.view s.media) (m.view c.commit_log.new.media) s.shape s.logs.items s.late s.is_dead s.sound c.in_ok-at.ensures.alive c.args.tid c.in_ok-at.ensures.live c.index.result.now there
          c.commit_log.new.late 0 c.commit_log.result said.does said.depth (λ told. g.met.M.Media.long s.media told ∙ s.sound.sized) said.any_moment
          c.commit_log.ensures.stays.ready (λ told. when_ok c.commit_log.result fine (said.waiting told)) (λ told. c.commit_log.ensures.stays.held told (s.sound.told told c.in_ok-at.ensures.alive).shown)
          (λ told. when_ok c.commit_log.result fine (said.committed told)) said.cells c.clear.new.self c.clear.ensures.kept c.clear.ensures.entries c.in_ok-at.at c.in_ok-at.ensures.at
          (order_cut s.shape s.late c.commit_log.new.late s.logs.items c.args.tid 0 c.index.result.now c.clear.new.self there.there there.below c.clear.ensures.kept c.clear.ensures.entries
          (s.sound.in_order c.in_ok-at.ensures.alive) (when_ok c.commit_log.result fine c.commit_log.ensures.tied) (when_ok c.commit_log.result fine c.commit_log.ensures.before) (when_ok c.commit_log.result fine c.commit_log.ensures.others));
      depth = keeps_depth g.D.Depth.least g.D.Depth.most _ _ said.depth s.depth;
    }

pub returns-clause-does : goal.returns-clause-does
returns-clause-does g c =
    let m = g.M.Media in
    let s = c.args.self.now in
    let there = found m.tells (m.view s.media) s.shape s.logs.items s.late s.is_dead s.sound c.in_ok-at.ensures.alive c.args.tid c.in_ok-at.at c.index.result.now c.in_ok-at.ensures.at c.in_ok-at.ensures.live c.index.ensures in
    let said = c.commit_log.ensures.does in
    let fine = sym c.is_err.ensures.value ∙ c.if-is_err.false in
    commit_done m.tells (m.view s.media) (m.view c.commit_log.new.media) s.shape s.logs.items s.late s.is_dead s.sound c.in_ok-at.ensures.alive c.args.tid c.in_ok-at.ensures.live c.index.result.now there
    c.commit_log.new.late 0 c.commit_log.result said.does said.depth (λ told. g.met.M.Media.long s.media told ∙ s.sound.sized) said.any_moment
    c.commit_log.ensures.stays.ready (λ told. when_ok c.commit_log.result fine (said.waiting told)) (λ told. c.commit_log.ensures.stays.held told (s.sound.told told c.in_ok-at.ensures.alive).shown)
    (λ told. when_ok c.commit_log.result fine (said.committed told)) said.cells c.clear.new.self c.clear.ensures.kept c.clear.ensures.entries c.in_ok-at.at c.in_ok-at.ensures.at
    (when_ok c.commit_log.result fine said.does.does.cause.kept) refl c.clear.ensures.free

pub returns-clause-idle : goal.returns-clause-idle
returns-clause-idle g c = λ none.
    let m = g.M.Media in
    let s = c.args.self.now in
    let there = found m.tells (m.view s.media) s.shape s.logs.items s.late s.is_dead s.sound c.in_ok-at.ensures.alive c.args.tid c.in_ok-at.at c.index.result.now c.in_ok-at.ensures.at c.in_ok-at.ensures.live c.index.ensures in
    let len = its_len m.tells (m.view s.media) (m.view c.commit_log.new.media) s.shape s.logs.items s.late s.is_dead s.sound c.in_ok-at.ensures.alive c.args.tid c.in_ok-at.ensures.live c.index.result.now there in
    let same = c.commit_log.ensures.idle (sym len ∙ none) in
    cc

pub returns-then-is_err-clause-due : goal.returns-then-is_err-clause-due
returns-then-is_err-clause-due g c = λ broke.
    let m = g.M.Media in
    let s = c.args.self.now in
    let there = found m.tells (m.view s.media) s.shape s.logs.items s.late s.is_dead s.sound c.in_ok-at.ensures.alive c.args.tid c.in_ok-at.at c.index.result.now c.in_ok-at.ensures.at c.in_ok-at.ensures.live c.index.ensures in
    let len = its_len m.tells (m.view s.media) (m.view c.commit_log.new.media) s.shape s.logs.items s.late s.is_dead s.sound c.in_ok-at.ensures.alive c.args.tid c.in_ok-at.ensures.live c.index.result.now there in
    let due = when_err c.commit_log.result (sym c.is_err.ensures.value ∙ c.if-is_err.true) c.commit_log.ensures.due in
    omega (arith, due, len)

pub returns-clause-costs : goal.returns-clause-costs
returns-clause-costs g c =
    let m = g.M.Media in
    let s = c.args.self.now in
    let there = found m.tells (m.view s.media) s.shape s.logs.items s.late s.is_dead s.sound c.in_ok-at.ensures.alive c.args.tid c.in_ok-at.at c.index.result.now c.in_ok-at.ensures.at c.in_ok-at.ensures.live c.index.ensures in
    let ranges = ranges_there s.shape s.logs.items c.args.tid c.index.result.now there.there there.kept in
    costs_done m.tells _ _ _ _ c.commit_log.result tt (sym c.is_err.ensures.value ∙ c.if-is_err.false)
    (ap (λ (rs : List (ℕ × ℕ)). commit_cost s.shape s.late.queue (c.args.tid ∷ []) (drop 0 rs)) (sym ranges)) c.commit_log.ensures.does.costs

pub returns-then-is_err-clause-refused : goal.returns-then-is_err-clause-refused
returns-then-is_err-clause-refused g c = λ ne. absurd (ne refl)

pub returns-clause-due : goal.returns-clause-due
returns-clause-due g c = λ is. cc

pub returns-clause-refused : goal.returns-clause-refused
returns-clause-refused g c = tt

pub returns-then-is_err-clause-costs : goal.returns-then-is_err-clause-costs
returns-then-is_err-clause-costs g c =
    let m = g.M.Media in
    let s = c.args.self.now in
    let there = found m.tells (m.view s.media) s.shape s.logs.items s.late s.is_dead s.sound c.in_ok-at.ensures.alive c.args.tid c.in_ok-at.at c.index.result.now c.in_ok-at.ensures.at c.in_ok-at.ensures.live c.index.ensures in
    let ranges = ranges_there s.shape s.logs.items c.args.tid c.index.result.now there.there there.kept in
    let same = ap (λ (rs : List (ℕ × ℕ)). commit_cost s.shape s.late.queue (c.args.tid ∷ []) (drop 0 rs)) ranges in
    record { done = λ exact. tt; most = omega (arith, c.commit_log.ensures.does.costs.most, same) }

pub returns-clause-late : goal.returns-clause-late
returns-clause-late g c = λ defers more.
    let m = g.M.Media in
    let s = c.args.self.now in
    let there = found m.tells (m.view s.media) s.shape s.logs.items s.late s.is_dead s.sound c.in_ok-at.ensures.alive c.args.tid c.in_ok-at.at c.index.result.now c.in_ok-at.ensures.at c.in_ok-at.ensures.live c.index.ensures in
    let len = its_len m.tells (m.view s.media) (m.view c.commit_log.new.media) s.shape s.logs.items s.late s.is_dead s.sound c.in_ok-at.ensures.alive c.args.tid c.in_ok-at.ensures.live c.index.result.now there in
    when_ok c.commit_log.result (sym c.is_err.ensures.value ∙ c.if-is_err.false) (c.commit_log.ensures.waits (some_can_wait g.D.Depth.least g.D.Depth.most _ s.depth defers) (omega (arith, more, len)))
