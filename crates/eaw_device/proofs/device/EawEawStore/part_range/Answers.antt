use Rattle.std.proofs.Common.{arith}
use Rattle.eaw_device.proofs.Looks.{look_len, look_range}
use Rattle.eaw_device.proofs.device.EawEawStore.part_range.Goals as goal

pub index-entry-requires : goal.index-entry-requires
index-entry-requires g c =
    let m = g.M.Media in
    let s = c.args.self.now in
    omega (arith, c.requires.pos, c.index.result.now.entries.ok.0, look_len m.tells (m.view s.media) s.shape s.logs.items s.late s.is_dead s.sound c.args.tid c.from.result c.index.result.now c.requires.tid c.from.ensures c.index.ensures)

pub returns : goal.returns
returns g c =
    let m = g.M.Media in
    let s = c.args.self.now in
    let len = look_len m.tells (m.view s.media) s.shape s.logs.items s.late s.is_dead s.sound c.args.tid c.from.result c.index.result.now c.requires.tid c.from.ensures c.index.ensures in
    look_range m.tells (m.view s.media) s.shape s.logs.items s.late s.is_dead s.sound c.args.tid c.from.result c.index.result.now c.requires.tid c.from.ensures c.index.ensures c.args.pos c.index-entry.result.now
    (omega (arith, c.requires.pos, len)) c.index-entry.ensures
