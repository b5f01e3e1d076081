use Rattle.std.proofs.Common.{◌<◌, length, sym, ◌∙◌, ap, arith}
use Rattle.mirror.specs.Log.{Log}
use Rattle.mirror.proofs.Parts.{log_is}
use Rattle.memory_eaw.proofs.Views.{is_some-outline}
use Rattle.memory_eaw.proofs.eaw.MemoryEawEawStore.is_live.Goals as goal

pub returns : goal.returns
returns c =
    let logs = c.args.self.now.logs.items in
    let lt : c.args.tid < length logs = omega (arith, c.args.self.now.sound.numbers) in
    c.is_live.ensures ∙ ap (λ (log : Log). log.is_live) (log_is logs c.args.tid c.from.result c.index.result.now lt c.from.ensures c.index.ensures) ∙ sym (is_some-outline logs c.args.tid lt)
