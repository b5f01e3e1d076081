use Rattle.std.proofs.Common.{refl, arith}
use Rattle.eaw_device.proofs.Keeping.{fewer, kept_more}
use Rattle.eaw_device.proofs.log.Log.add.Goals as goal

pub push_reserved-requires : goal.push_reserved-requires
push_reserved-requires c =
    let s = c.args.self.now in
    let kept = c.requires.kept in
    omega (
      arith,
      s.entries.ok.0,
      kept.room,
      fewer c.args.shape.now c.args.shape.now.in_range c.args.part c.requires.part s.entries.items s.held kept.loggers kept.cells kept.fits c.requires.room,
    )

pub returns-clause-kept : goal.returns-clause-kept
returns-clause-kept c =
    let s = c.args.self.now in
    let kept = c.requires.kept in
    kept_more c.args.shape.now c.args.shape.now.in_range c.args.part c.requires.part s.entries.items s.held kept.loggers kept.cells kept.fits c.requires.room
    c.from-at.result c.from-at.ensures _ c.requires.live refl c.push_reserved.ensures.items (omega (arith, kept.room, c.push_reserved.ensures.capacity)) kept.placed
