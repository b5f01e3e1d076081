use Rattle.std.proofs.Common.{ap, length, arith}
use Rattle.std.proofs.lemmas.List.{length-take}
use Rattle.eaw_device.proofs.Keeping.{kept_first}
use Rattle.eaw_device.proofs.log.Log.truncate.Goals as goal

pub returns-clause-kept : goal.returns-clause-kept
returns-clause-kept c =
    let s = c.args.self.now in
    let count = c.counts_of_first-self.ensures in
    kept_first c.args.shape.now c.args.len s _ c.requires.kept count.long count.counts c.truncate.ensures.items c.truncate.ensures.capacity
    (λ dead. omega (arith, ap length c.truncate.ensures.items, length-take c.args.len s.entries.items, c.requires.kept.free dead))
