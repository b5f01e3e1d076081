use Rattle.std.proofs.Common.{◌≡◌, ◌<◌, inr, false, length, refl, sym, ◌∙◌, ap, arith}
use Rattle.mirror.specs.Log.{Log}
use Rattle.mirror.specs.Log.{log_at}
use Rattle.mirror.proofs.Parts.{log_is}
use Rattle.memory_eaw.proofs.Views.{is_live_from, some_from}
use Rattle.memory_eaw.proofs.eaw.MemoryEaw.check_live.Goals as goal
use Rattle.memory_eaw.proofs.eaw.MemoryEaw.check_live.Goals.{then-tid-self-via-then-tid-self, then-tid-self-via-else-tid-self+then-not-is_live}

pub returns-then-tid-self-clause-refused : goal.returns-then-tid-self-clause-refused
returns-then-tid-self-clause-refused c =
    let logs = c.args.self.now.logs.items in
    elim c.then-tid-self.branch [
      | then-tid-self-via-then-tid-self w ↦ inr (refl, c.in_ok-check_alive.ensures.alive, λ live. absurd (omega (arith, live.small)))
      | then-tid-self-via-else-tid-self+then-not-is_live w ↦
          (let lt : c.args.tid < length logs = omega (arith, c.args.self.now.sound.numbers) in
          let is = log_is logs c.args.tid w.from.result w.index.result.now lt w.from.ensures w.index.ensures in
          let idle : (log_at logs c.args.tid).is_live ≡ false = ap (λ (log : Log). log.is_live) (sym is) ∙ sym w.is_live.ensures ∙ w.if-not-is_live.true in
          inr (refl, c.in_ok-check_alive.ensures.alive, λ live. absurd (cc (idle, is_live_from logs c.args.tid lt live.live))))
    ]

pub returns-clause-live : goal.returns-clause-live
returns-clause-live c =
    let logs = c.args.self.now.logs.items in
    let lt : c.args.tid < length logs = omega (arith, c.args.self.now.sound.numbers) in
    let is = log_is logs c.args.tid c.from.result c.index.result.now lt c.from.ensures c.index.ensures in
    (c.in_ok-check_alive.ensures.alive, record { small = omega arith; live = some_from logs c.args.tid lt (ap (λ (log : Log). log.is_live) (sym is) ∙ sym c.is_live.ensures ∙ c.if-not-is_live.false) })
