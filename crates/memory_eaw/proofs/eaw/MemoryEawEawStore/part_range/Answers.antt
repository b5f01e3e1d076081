use Rattle.std.proofs.Common.{◌<◌, length, sym, ◌∙◌, ap, arith}
use Rattle.array_shape.specs.Logged.{ranges_of}
use Rattle.eaw_face.specs.State.{range_at}
use Rattle.mirror.specs.Log.{Log}
use Rattle.memory_eaw.specs.Shown.{plain_of}
use Rattle.mirror.proofs.Parts.{log_is}
use Rattle.memory_eaw.proofs.Doing.{log_len_is, ranges_is}
use Rattle.memory_eaw.proofs.eaw.MemoryEawEawStore.part_range.Goals as goal

pub range-requires : goal.range-requires
range-requires c =
    let self = c.args.self.now in
    let lt : c.args.tid < length self.logs.items = omega (arith, self.sound.numbers) in
    omega (arith, c.requires.pos, log_len_is (plain_of self) self.sound c.args.tid c.requires.tid, ap (λ (log : Log). length log.parts) (log_is self.logs.items c.args.tid c.from.result c.index.result.now lt c.from.ensures c.index.ensures))

pub returns : goal.returns
returns c =
    let self = c.args.self.now in
    let lt : c.args.tid < length self.logs.items = omega (arith, self.sound.numbers) in
    c.range.ensures
    ∙ ap (λ (log : Log). range_at (ranges_of log.parts) c.args.pos) (log_is self.logs.items c.args.tid c.from.result c.index.result.now lt c.from.ensures c.index.ensures)
    ∙ sym (ap (λ rs. range_at rs c.args.pos) (ranges_is (plain_of self) self.sound c.args.tid c.requires.tid))
