use Rattle.std.proofs.Common.{refl, sym, ◌∙◌, arith}
use Rattle.std.proofs.lemmas.Bool.{false≢true}
use Rattle.eaw_device.proofs.Tables.{found_log, live_there, live_here}
use Rattle.eaw_device.proofs.device.Eaw.find_live.Goals.{then-tid-self-via-then-tid-self, then-tid-self-via-else-tid-self+then-not-index}
use Rattle.eaw_device.proofs.device.Eaw.find_live.Goals as goal

pub returns-then-self : goal.returns-then-self
returns-then-self g c = record { at = tt; alive = tt; live = tt; cause = c.if-self.true }

pub returns-then-tid-self-clause-at : goal.returns-then-tid-self-clause-at
returns-then-tid-self-clause-at g c = tt

pub returns-then-tid-self-clause-alive : goal.returns-then-tid-self-clause-alive
returns-then-tid-self-clause-alive g c = tt

pub returns-then-tid-self-clause-live : goal.returns-then-tid-self-clause-live
returns-then-tid-self-clause-live g c = tt

pub returns-clause-at : goal.returns-clause-at
returns-clause-at g c = c.from-at.ensures

pub returns-clause-alive : goal.returns-clause-alive
returns-clause-alive g c = c.if-self.false

pub returns-clause-cause : goal.returns-clause-cause
returns-clause-cause g c = tt

pub returns-then-tid-self-clause-cause : goal.returns-then-tid-self-clause-cause
returns-then-tid-self-clause-cause g c = (
  c.if-self.false,
  λ live. elim c.then-tid-self.branch [
    | then-tid-self-via-then-tid-self w ↦ omega (arith, w.if-tid-self.true, live.small)
    | then-tid-self-via-else-tid-self+then-not-index w ↦
        let s = c.args.self.now in
        let there = found_log s.logs.items c.from-at.result c.args.tid w.index.result.now c.from-at.ensures (omega (arith, live.small, s.sound.many)) w.index.ensures in
        false≢true (sym w.if-not-index.true ∙ live_there s.logs.items c.args.tid w.index.result.now there live.live)
  ],
  refl,
)

pub returns-clause-live : goal.returns-clause-live
returns-clause-live g c =
    let s = c.args.self.now in
    let there = found_log s.logs.items c.from-at.result c.args.tid c.index.result.now c.from-at.ensures (omega (arith, c.if-tid-self.false, s.sound.many)) c.index.ensures in
    record { small = c.if-tid-self.false; live = live_here s.logs.items c.args.tid c.index.result.now there c.if-not-index.false }
