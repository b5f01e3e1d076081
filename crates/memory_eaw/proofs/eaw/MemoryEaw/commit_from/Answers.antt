use Rattle.std.proofs.Common.{◌≡◌, ◌<◌, length, ◌∙◌, ap, arith}
use Rattle.mirror.specs.Log.{Log}
use Rattle.memory_eaw.specs.Shown.{plain_of}
use Rattle.mirror.specs.Log.{log_at}
use Rattle.memory_eaw.proofs.Sound.{commit_steps}
use Rattle.mirror.proofs.Parts.{log_is}
use Rattle.memory_eaw.proofs.eaw.MemoryEaw.commit_from.Goals as goal

pub returns-clause-done : goal.returns-clause-done
returns-clause-done c =
    let self = c.args.self.now in
    let lt : c.args.tid < length self.logs.items = omega (arith, self.sound.numbers) in
    let is = log_is self.logs.items c.args.tid c.from-at.result c.index.result.now lt c.from-at.ensures c.index.ensures in
    let count : c.len.result ≡ length (log_at self.logs.items c.args.tid).parts = c.len.ensures ∙ ap (λ (log : Log). length log.parts) is in
    let some : c.args.offset < length (log_at self.logs.items c.args.tid).parts = omega (arith, c.requires.offset, c.if-offset-len.false) in
    (λ more. c.in_ok-change.ensures.done.0, commit_steps (plain_of self) (plain_of c.change.new.self) (plain_of c.apply_from.new.self) c.args.tid c.from-at.result c.args.offset c.from-at.ensures c.in_ok-change.ensures.done.1 c.apply_from.ensures some)
