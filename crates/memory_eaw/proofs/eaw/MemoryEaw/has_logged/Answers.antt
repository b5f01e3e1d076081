use Rattle.std.proofs.Common.{refl, arith}
use Rattle.array_shape.specs.NumberSet.{members}
use Rattle.memory_eaw.specs.Shown.{plain_of}
use Rattle.memory_eaw.proofs.Groups.{has_some, has_none, first_small}
use Rattle.memory_eaw.specs.Shown.{shown}
use Rattle.memory_eaw.proofs.eaw.MemoryEaw.has_logged.Goals as goal

pub returns-then-len-gt0 : goal.returns-then-len-gt0
returns-then-len-gt0 c =
    let self = c.args.self.now in (
      λ yes. has_some (plain_of self) self.sound (members c.args.tids) c.loop-tid.tid-iterator c.in-Some.tid c.from.result c.next.new.self c.index.result.now c.in-Some.ensures.steps c.from.ensures c.index.ensures c.loop-tid.invariant.live c.loop-tid.invariant.empty
          (omega (arith, c.len.ensures, c.if-len-gt0.true)),
      λ some. refl,
    )

pub loop-tid-preserved : goal.loop-tid-preserved
loop-tid-preserved c =
    let self = c.args.self.now in record {
      live = (first_small (shown self) c.loop-tid.tid-iterator c.in-Some.tid c.next.new.self c.in-Some.ensures.steps c.loop-tid.invariant.live).1;
      empty = has_none (plain_of self) self.sound (members c.args.tids) c.loop-tid.tid-iterator c.in-Some.tid c.from.result c.next.new.self c.index.result.now c.in-Some.ensures.steps c.from.ensures c.index.ensures c.loop-tid.invariant.live c.loop-tid.invariant.empty
          (omega (arith, c.len.ensures, c.if-len-gt0.false));
    }
