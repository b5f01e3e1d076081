use Rattle.std.specs.Prelude.{◌≤◌, All, vec_capacity}
use Rattle.array_shape.specs.NumberSet.{members}
use Rattle.mirror.specs.Groups.{IsListed}
use Rattle.mirror.proofs.GroupWriting.{GroupsOn}
use Rattle.mirror.proofs.writer.append_groups.Given as goal

abbrev pub invariant-loop-tid : goal.invariant-loop-tid
invariant-loop-tid l = record {
  on : GroupsOn l.fn.logs (members l.fn.tids) l.tid-iterator l.fn.frame.items l.frame.items;
  are : All (IsListed l.fn.logs) l.tid-iterator;
  room : vec_capacity l.fn.frame ≤ vec_capacity l.frame;
}
