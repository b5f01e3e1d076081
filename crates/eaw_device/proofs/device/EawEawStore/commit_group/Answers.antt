use Rattle.std.proofs.Common.{◌≡◌, List, length, ◌∙◌, sym, refl, ap, arith}
use Rattle.std.specs.Prelude.{slice_get}
use Rattle.std.proofs.lemmas.Result.{err_from_is_err_and}
use Rattle.array_shape.specs.NumberSet.{members}
use Rattle.eaw_face.specs.declared.fault.EawFault.TheVariants.{Media}
use Rattle.eaw_face.proofs.Groups.{known_one}
use Rattle.eaw_device.specs.declared.log.Log.{Log}
use Rattle.eaw_device.specs.Opens.{Opens}
use Rattle.eaw_device.specs.Sound.{view_of}
use Rattle.eaw_device.proofs.Clearing.{group_order, written_over}
use Rattle.eaw_device.proofs.Costing.{costs_done}
use Rattle.eaw_device.proofs.Doing.{when_ok, lacking_group, lacking_group_other, when_err}
use Rattle.eaw_device.proofs.GroupCommits.{group_failed, group_now_sound, group_done}
use Rattle.eaw_device.proofs.Tables.{sound_dead}
use Rattle.eaw_device.proofs.Depths.{keeps_depth, some_can_wait}
use Rattle.eaw_device.proofs.device.EawEawStore.commit_group.Goals as goal

pub returns-in_err-find_group : goal.returns-in_err-find_group
returns-in_err-find_group g c =
    let m = g.M.Media in
    let s = c.args.self.now in
    let store = view_of (m.view s.media) s.shape s.logs.items s.late s.is_dead in
    let fault = c.in_err-find_group.field-0.0 in
    let cause = c.in_err-find_group.ensures.cause in
    let p = err_from_is_err_and c.from_residual.result c.from_residual.ensures.1 in
    rw (p.1, p.2) (record {
      does = lacking_group m.tells (Opens s.shape) store (members c.args.tids) fault cause;
      due = λ is. absurd (lacking_group_other store (members c.args.tids) fault cause (let same : fault ≡ Media = cc in same));
      idle = λ none. refl;
      costs = record { done = λ exact. tt; most = omega arith };
      late = λ defers more. tt;
      refused = λ ne. refl;
    })

pub commit_logs-requires-clause-ready : goal.commit_logs-requires-clause-ready
commit_logs-requires-clause-ready g c = c.args.self.now.sound.ready

pub commit_logs-requires-clause-tied : goal.commit_logs-requires-clause-tied
commit_logs-requires-clause-tied g c = (c.args.self.now.sound.in_order c.in_ok-find_group.ensures.alive).tied

pub commit_logs-requires-clause-waiting : goal.commit_logs-requires-clause-waiting
commit_logs-requires-clause-waiting g c = λ told. (c.args.self.now.sound.told told c.in_ok-find_group.ensures.alive).sure.waiting

pub commit_logs-requires-clause-held : goal.commit_logs-requires-clause-held
commit_logs-requires-clause-held g c = rw (c.deref.ensures.value) (λ told. (c.args.self.now.sound.told told c.in_ok-find_group.ensures.alive).held)

pub commit_logs-requires-clause-many : goal.commit_logs-requires-clause-many
commit_logs-requires-clause-many g c = rw (c.deref.ensures.value) c.args.self.now.sound.many

pub commit_logs-requires-clause-kept : goal.commit_logs-requires-clause-kept
commit_logs-requires-clause-kept g c = rw (c.deref.ensures.value) c.args.self.now.sound.kept

pub returns-then-is_err-clause-does : goal.returns-then-is_err-clause-does
returns-then-is_err-clause-does g c =
    let m = g.M.Media in
    let s = c.args.self.now in
    let said = (rw (c.deref.ensures.value) at c.commit_logs.ensures.does) in
    group_failed m.tells (m.view s.media) (m.view c.commit_logs.new.media) s.shape s.logs.items s.late s.is_dead s.sound c.in_ok-find_group.ensures.alive (members c.args.tids) c.in_ok-find_group.ensures.live
    c.commit_logs.new.late c.commit_logs.result said.does said.depth (λ told. g.met.M.Media.long s.media told ∙ s.sound.sized) said.any_moment
    (when_err c.commit_logs.result (sym c.is_err.ensures.value ∙ c.if-is_err.true) said.does.does.cause.failed)

pub returns-then-is_err-clause-idle : goal.returns-then-is_err-clause-idle
returns-then-is_err-clause-idle g c = λ none. let same = (rw (c.deref.ensures.value) at c.commit_logs.ensures.idle) none in cc

pub returns-then-is_err-clause-due : goal.returns-then-is_err-clause-due
returns-then-is_err-clause-due g c = λ broke. when_err c.commit_logs.result (sym c.is_err.ensures.value ∙ c.if-is_err.true) (rw (c.deref.ensures.value) at c.commit_logs.ensures.due)

pub returns-then-is_err-clause-refused : goal.returns-then-is_err-clause-refused
returns-then-is_err-clause-refused g c = λ ne. absurd (ne refl)

pub returns-then-is_err-clause-costs : goal.returns-then-is_err-clause-costs
returns-then-is_err-clause-costs g c = record { done = λ exact. tt; most = (rw (c.deref.ensures.value) at c.commit_logs.ensures.does).costs.most }

pub clear_logs-requires-clause-there : goal.clear_logs-requires-clause-there
clear_logs-requires-clause-there g c = rw (c.deref_mut.ensures.value) (λ t so.
    let s = c.args.self.now in
    let live = known_one (view_of (g.M.Media.view s.media) s.shape s.logs.items s.late s.is_dead) (members c.args.tids) c.in_ok-find_group.ensures.live t so in
    omega (arith, live.small, s.sound.many))

pub clear_logs-requires-clause-kept : goal.clear_logs-requires-clause-kept
clear_logs-requires-clause-kept g c = rw (c.deref_mut.ensures.value) c.args.self.now.sound.kept

pub invariant_of-self : goal.invariant_of-self
invariant_of-self g c =
    let m = g.M.Media in
    let s = c.args.self.now in
    let said = (rw (c.deref.ensures.value) at c.commit_logs.ensures.does) in
    record {
      sound = sound_dead m.tells (m.view s.media) (m.view c.commit_logs.new.media) s.shape s.logs.items s.late c.commit_logs.new.late s.is_dead s.sound said.does.does.size c.commit_logs.ensures.stays.ready;
      depth = keeps_depth g.D.Depth.least g.D.Depth.most _ _ said.depth s.depth;
    }

pub invariant_of-self-2-clause-sound : goal.invariant_of-self-2-clause-sound
invariant_of-self-2-clause-sound g c =
    let m = g.M.Media in
    let s = c.args.self.now in
    let said = (rw (c.deref.ensures.value) at c.commit_logs.ensures.does) in
    let left = c.clear_logs.ensures in
    let lent = c.deref_mut.ensures.value in
    let many = left.many ∙ ap length lent in
    let same = written_over s.logs.len s.logs.items c.clear_logs.new.logs s.logs.ok.0 many in
    let fine = sym c.is_err.ensures.value ∙ c.if-is_err.false in
    rw (same) (group_now_sound m.tells (m.view s.media) (m.view c.commit_logs.new.media) s.shape s.logs.items s.late s.is_dead s.sound c.in_ok-find_group.ensures.alive (members c.args.tids) c.in_ok-find_group.ensures.live
    c.commit_logs.new.late c.commit_logs.result said.does said.depth (λ told. g.met.M.Media.long s.media told ∙ s.sound.sized) said.any_moment
    c.commit_logs.ensures.stays.ready (λ told. when_ok c.commit_logs.result fine (said.waiting told)) (λ told. c.commit_logs.ensures.stays.held told (s.sound.told told c.in_ok-find_group.ensures.alive).shown)
    (λ told. when_ok c.commit_logs.result fine (said.committed told)) said.cells c.clear_logs.new.logs many left.kept left.freed (λ t away. left.others t away ∙ ap (λ (ls : List Log). slice_get ls t) lent)
    (group_order s.shape s.late c.commit_logs.new.late s.logs.items c.clear_logs.new.logs (members c.args.tids) left.kept left.freed (λ t away. left.others t away ∙ ap (λ (ls : List Log). slice_get ls t) lent)
    (s.sound.in_order c.in_ok-find_group.ensures.alive) (when_ok c.commit_logs.result fine c.commit_logs.ensures.tied) (when_ok c.commit_logs.result fine c.commit_logs.ensures.others)))

pub invariant_of-self-2-clause-depth : goal.invariant_of-self-2-clause-depth
invariant_of-self-2-clause-depth g c = keeps_depth g.D.Depth.least g.D.Depth.most _ _ c.commit_logs.ensures.does.depth c.args.self.now.depth

pub returns-clause-does : goal.returns-clause-does
returns-clause-does g c =
    let m = g.M.Media in
    let s = c.args.self.now in
    let said = (rw (c.deref.ensures.value) at c.commit_logs.ensures.does) in
    let left = c.clear_logs.ensures in
    let lent = c.deref_mut.ensures.value in
    let many = left.many ∙ ap length lent in
    let same = written_over s.logs.len s.logs.items c.clear_logs.new.logs s.logs.ok.0 many in
    let fine = sym c.is_err.ensures.value ∙ c.if-is_err.false in
    rw (same) (group_done m.tells (m.view s.media) (m.view c.commit_logs.new.media) s.shape s.logs.items s.late s.is_dead s.sound c.in_ok-find_group.ensures.alive (members c.args.tids) c.in_ok-find_group.ensures.live
    c.commit_logs.new.late c.commit_logs.result said.does said.depth (λ told. g.met.M.Media.long s.media told ∙ s.sound.sized) said.any_moment
    c.commit_logs.ensures.stays.ready (λ told. when_ok c.commit_logs.result fine (said.waiting told)) (λ told. c.commit_logs.ensures.stays.held told (s.sound.told told c.in_ok-find_group.ensures.alive).shown)
    (λ told. when_ok c.commit_logs.result fine (said.committed told)) said.cells c.clear_logs.new.logs many left.kept left.freed (λ t away. left.others t away ∙ ap (λ (ls : List Log). slice_get ls t) lent)
    (when_ok c.commit_logs.result fine said.does.does.cause.kept))

pub returns-clause-idle : goal.returns-clause-idle
returns-clause-idle g c = λ none. let same = (rw (c.deref.ensures.value) at c.commit_logs.ensures.idle) none in cc

pub returns-clause-due : goal.returns-clause-due
returns-clause-due g c = λ is. cc

pub returns-clause-refused : goal.returns-clause-refused
returns-clause-refused g c = tt

pub returns-clause-costs : goal.returns-clause-costs
returns-clause-costs g c = costs_done g.M.Media.tells _ _ _ _ c.commit_logs.result tt (sym c.is_err.ensures.value ∙ c.if-is_err.false) refl (rw (c.deref.ensures.value) at c.commit_logs.ensures.does).costs

pub returns-clause-late : goal.returns-clause-late
returns-clause-late g c = λ defers more.
    let s = c.args.self.now in
    let waits = (rw (c.deref.ensures.value) at c.commit_logs.ensures.waits) in
    when_ok c.commit_logs.result (sym c.is_err.ensures.value ∙ c.if-is_err.false) (waits (some_can_wait g.D.Depth.least g.D.Depth.most _ s.depth defers) more)
