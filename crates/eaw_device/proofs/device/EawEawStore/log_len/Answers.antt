use Rattle.std.proofs.Common.{◌∙◌, sym, arith}
use Rattle.eaw_device.proofs.Keeping.{log_short}
use Rattle.eaw_device.proofs.Looks.{look_kept, look_len}
use Rattle.eaw_device.proofs.device.EawEawStore.log_len.Goals as goal

pub overflow_cast-result : goal.overflow_cast-result
overflow_cast-result g c =
    let m = g.M.Media in
    let s = c.args.self.now in
    let kept = look_kept m.tells (m.view s.media) s.shape s.logs.items s.late s.is_dead s.sound c.args.tid c.from.result c.index.result.now c.requires c.from.ensures c.index.ensures in
    omega (arith, c.len.ensures, c.index.result.now.entries.ok.0, log_short s.shape s.sound.shaped c.index.result.now kept)

pub returns : goal.returns
returns g c =
    let m = g.M.Media in
    let s = c.args.self.now in
    c.len.ensures ∙ c.index.result.now.entries.ok.0 ∙ sym (look_len m.tells (m.view s.media) s.shape s.logs.items s.late s.is_dead s.sound c.args.tid c.from.result c.index.result.now c.requires c.from.ensures c.index.ensures)
