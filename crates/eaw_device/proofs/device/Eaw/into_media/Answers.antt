use Rattle.std.proofs.Common.{refl, arith}
use Rattle.pcm_media.proofs.Left.{left_as_read}
use Rattle.eaw_device.specs.Laws.{only_now}
use Rattle.eaw_device.proofs.Counted.{counted}
use Rattle.eaw_device.proofs.Depths.{none_may_wait}
use Rattle.eaw_device.proofs.Empty.{unvoted}
use Rattle.eaw_device.proofs.device.Eaw.into_media.Goals as goal

pub returns-clause-behind : goal.returns-clause-behind
returns-clause-behind g c =
    let eaw = c.args.self in
    let now = (g.M.Media.view eaw.media).content in
    record {
      size = eaw.sound.sized;
      bytes = λ told alive. (only_now g.M.Media.tells (g.M.Media.view eaw.media) eaw.shape eaw.logs.items eaw.late eaw.is_dead now.bytes eaw.sound told alive (left_as_read now)).stands.gives;
      quiet = λ told alive waits. unvoted g.M.Media.tells (g.M.Media.view eaw.media) eaw.shape eaw.logs.items eaw.late eaw.is_dead eaw.sound (none_may_wait g.D.Depth.least g.D.Depth.most _ eaw.depth waits) told alive;
      faults = refl;
      moment = refl;
      device = refl;
      left = λ t image left. left;
    }

pub returns-clause-quiet : goal.returns-clause-quiet
returns-clause-quiet g c =
    let eaw = c.args.self in
    unvoted g.M.Media.tells (g.M.Media.view eaw.media) eaw.shape eaw.logs.items eaw.late eaw.is_dead eaw.sound

pub returns-clause-most : goal.returns-clause-most
returns-clause-most g c = omega (arith, c.args.self.sound.ready.fit.few, c.args.self.depth.1)

pub returns-clause-counted : goal.returns-clause-counted
returns-clause-counted g c =
    let eaw = c.args.self in
    counted g.M.Media.tells (g.M.Media.view eaw.media) eaw.shape eaw.logs.items eaw.late eaw.is_dead eaw.sound
