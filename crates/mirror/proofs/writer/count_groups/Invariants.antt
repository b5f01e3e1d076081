use Rattle.std.specs.Prelude.{◌≡◌, ◌+◌, length, All}
use Rattle.array_shape.specs.NumberSet.{members}
use Rattle.mirror.specs.Groups.{IsListed, groups_of}
use Rattle.mirror.proofs.writer.count_groups.Given as goal

abbrev pub invariant-loop-tid : goal.invariant-loop-tid
invariant-loop-tid l = record {
  so_far : l.count + length (groups_of l.fn.logs l.tid-iterator) ≡ length (groups_of l.fn.logs (members l.fn.tids));
  are : All (IsListed l.fn.logs) l.tid-iterator;
}
