use Rattle.std.proofs.Common.{◌≡◌}
use Rattle.std.specs.Vec.{vec_capacity}
use Rattle.mirror.proofs.Pushing.{StandsAt}
use Rattle.mirror.proofs.log.push_parts.Given as goal

abbrev pub invariant-loop-part : goal.invariant-loop-part
invariant-loop-part l = record { stands : StandsAt l.addr l.bytes l.fn.parts.items l.parts.items l.part-iterator; capacity : vec_capacity l.parts ≡ vec_capacity l.fn.parts }
