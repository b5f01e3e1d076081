use Rattle.std.specs.Prelude.{◌≤◌, vec_capacity}
use Rattle.mirror.proofs.Writing.{WritesOn}
use Rattle.mirror.proofs.writer.append_parts.Given as goal

abbrev pub invariant-loop-pos : goal.invariant-loop-pos
invariant-loop-pos l = record {
  on : WritesOn l.log.parts l.offset l.pos l.fn.frame.items l.frame.items;
  room : vec_capacity l.fn.frame ≤ vec_capacity l.frame;
}
