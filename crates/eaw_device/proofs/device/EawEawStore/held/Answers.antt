use Rattle.std.proofs.Common.{◌∙◌, ap}
use Rattle.std.specs.Prelude.{slice_index}
use Rattle.eaw_device.proofs.Looks.{look_held}
use Rattle.eaw_device.proofs.device.EawEawStore.held.Goals as goal

pub returns : goal.returns
returns g c =
    let m = g.M.Media in
    let s = c.args.self.now in
    ap (slice_index c.index.result.now.held) c.from-2.ensures
    ∙ look_held m.tells (m.view s.media) s.shape s.logs.items s.late s.is_dead s.sound c.args.tid c.from.result c.index.result.now c.requires.tid c.from.ensures c.index.ensures c.args.logger c.requires.logger
