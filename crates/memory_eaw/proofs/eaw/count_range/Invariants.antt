use Rattle.std.proofs.Common.{◌≡◌, ◌+◌, length}
use Rattle.std.specs.Prelude.{filter}
use Rattle.array_shape.specs.Parts.{is_part_on, parts_on}
use Rattle.memory_eaw.proofs.eaw.count_range.Given as goal

abbrev pub invariant-loop-part : goal.invariant-loop-part
invariant-loop-part l = l.count + length (filter (is_part_on l.logger) l.part-iterator) ≡ length (parts_on l.fn.shape l.logger l.fn.addr l.fn.len)
