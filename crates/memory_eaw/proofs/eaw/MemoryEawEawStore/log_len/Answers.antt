use Rattle.std.proofs.Common.{◌<◌, length, sym, ◌∙◌, ap, arith}
use Rattle.mirror.specs.Log.{Log}
use Rattle.memory_eaw.specs.Shown.{plain_of}
use Rattle.mirror.proofs.Parts.{log_is}
use Rattle.memory_eaw.proofs.Doing.{log_len_is}
use Rattle.memory_eaw.proofs.eaw.MemoryEawEawStore.log_len.Goals as goal

pub returns : goal.returns
returns c =
    let self = c.args.self.now in
    let lt : c.args.tid < length self.logs.items = omega (arith, self.sound.numbers) in
    c.len.ensures ∙ ap (λ (log : Log). length log.parts) (log_is self.logs.items c.args.tid c.from.result c.index.result.now lt c.from.ensures c.index.ensures)
    ∙ sym (log_len_is (plain_of self) self.sound c.args.tid c.requires)
