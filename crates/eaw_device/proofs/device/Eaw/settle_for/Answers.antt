use Rattle.std.proofs.Common.{◌∙◌}
use Rattle.eaw_device.proofs.Quiet.{back_sound, quiet_done, quiet_failed}
use Rattle.eaw_device.proofs.Tables.{sound_dead}
use Rattle.eaw_device.proofs.Depths.{keeps_depth}
use Rattle.eaw_device.proofs.device.Eaw.settle_for.Goals as goal

pub write_back_for-requires-clause-ready : goal.write_back_for-requires-clause-ready
write_back_for-requires-clause-ready g c = c.args.self.now.sound.ready

pub write_back_for-requires-clause-tied : goal.write_back_for-requires-clause-tied
write_back_for-requires-clause-tied g c = (c.args.self.now.sound.in_order c.requires).tied

pub write_back_for-requires-clause-waiting : goal.write_back_for-requires-clause-waiting
write_back_for-requires-clause-waiting g c = λ told. (c.args.self.now.sound.told told c.requires).sure.waiting

pub invariant_of-self : goal.invariant_of-self
invariant_of-self g c =
    let m = g.M.Media in
    let s = c.args.self.now in
    let said = c.in-Ok.ensures in
    record {
      sound = back_sound m.tells (m.view s.media) (m.view c.write_back_for.new.media) s.shape s.logs.items s.late c.write_back_for.new.self s.is_dead s.sound c.requires _ _ said.back said.stays (λ told. g.met.M.Media.long s.media told ∙ s.sound.sized) said.tied said.back.waiting said.back.left;
      depth = keeps_depth g.D.Depth.least g.D.Depth.most _ _ said.back.depth s.depth;
    }

pub invariant_of-self-in-Err : goal.invariant_of-self-in-Err
invariant_of-self-in-Err g c =
    let m = g.M.Media in
    let s = c.args.self.now in
    let said = c.in-Err.ensures in
    record {
      sound = sound_dead m.tells (m.view s.media) (m.view c.write_back_for.new.media) s.shape s.logs.items s.late c.write_back_for.new.self s.is_dead s.sound said.back.does.does.size said.stays.ready;
      depth = keeps_depth g.D.Depth.least g.D.Depth.most _ _ said.back.depth s.depth;
    }

pub returns-in-Ok-clause-quiet : goal.returns-in-Ok-clause-quiet
returns-in-Ok-clause-quiet g c =
    let m = g.M.Media in
    let s = c.args.self.now in
    let said = c.in-Ok.ensures in
    quiet_done m.tells (m.view s.media) (m.view c.write_back_for.new.media) s.shape s.logs.items s.late c.write_back_for.new.self s.is_dead s.sound c.requires _ _ said.back said.stays (λ told. g.met.M.Media.long s.media told ∙ s.sound.sized)
    said.back.does.does.cause.kept said.back.same

pub returns-in-Err-clause-quiet : goal.returns-in-Err-clause-quiet
returns-in-Err-clause-quiet g c =
    let m = g.M.Media in
    let s = c.args.self.now in
    let said = c.in-Err.ensures in
    quiet_failed m.tells (m.view s.media) (m.view c.write_back_for.new.media) s.shape s.logs.items s.late c.write_back_for.new.self s.is_dead s.sound c.requires _ _ said.back said.stays (λ told. g.met.M.Media.long s.media told ∙ s.sound.sized)
    said.back.does.does.cause.failed
