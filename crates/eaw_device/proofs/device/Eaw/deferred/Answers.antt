use Rattle.std.proofs.Common.{sym, ◌∙◌, arith}
use Rattle.eaw_device.proofs.Counted.{counted}
use Rattle.eaw_device.proofs.Depths.{none_may_wait}
use Rattle.eaw_device.proofs.device.Eaw.deferred.Goals as goal

pub overflow_cast-result : goal.overflow_cast-result
overflow_cast-result g c = omega (arith, c.len.ensures, c.args.self.now.sound.ready.fit.few, c.args.self.now.depth.2)

pub returns-clause-most : goal.returns-clause-most
returns-clause-most g c = omega (arith, c.len.ensures, c.args.self.now.sound.ready.fit.few)

pub returns-clause-none : goal.returns-clause-none
returns-clause-none g c = λ now. omega (arith, c.len.ensures, c.args.self.now.sound.ready.fit.few, none_may_wait g.D.Depth.least g.D.Depth.most _ c.args.self.now.depth now)

pub returns-clause-counted : goal.returns-clause-counted
returns-clause-counted g c = λ told alive.
    let s = c.args.self.now in
    c.len.ensures ∙ sym (counted g.M.Media.tells (g.M.Media.view s.media) s.shape s.logs.items s.late s.is_dead s.sound told alive)
