use Rattle.std.proofs.Common.{◌<◌, length, sym, ◌∙◌, ap, arith}
use Rattle.array_shape.specs.Logged.{ranges_of}
use Rattle.eaw_face.specs.State.{count_on}
use Rattle.mirror.specs.Log.{Log}
use Rattle.memory_eaw.specs.Shown.{plain_of}
use Rattle.mirror.proofs.Parts.{log_is}
use Rattle.memory_eaw.proofs.Doing.{ranges_is}
use Rattle.memory_eaw.proofs.eaw.MemoryEawEawStore.held.Goals as goal

pub returns : goal.returns
returns c =
    let self = c.args.self.now in
    let lt : c.args.tid < length self.logs.items = omega (arith, self.sound.numbers) in
    c.count_on.ensures
    ∙ ap (λ (log : Log). count_on self.shape c.args.logger (ranges_of log.parts)) (log_is self.logs.items c.args.tid c.from.result c.index.result.now lt c.from.ensures c.index.ensures)
    ∙ sym (ap (count_on self.shape c.args.logger) (ranges_is (plain_of self) self.sound c.args.tid c.requires.tid))
