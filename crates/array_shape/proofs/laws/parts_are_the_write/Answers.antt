use Rattle.array_shape.proofs.WriteParts.{applied_write_parts, one_write_part}
use Rattle.array_shape.proofs.laws.parts_are_the_write.Goals as goal

pub returns-clause-written : goal.returns-clause-written
returns-clause-written c = applied_write_parts

pub returns-clause-one : goal.returns-clause-one
returns-clause-one c = one_write_part
