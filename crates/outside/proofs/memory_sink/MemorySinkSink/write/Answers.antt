use Rattle.std.proofs.Common.{arith, inl, rules, Contains}
use Rattle.outside.proofs.memory_sink.MemorySinkSink.write.Goals as goal

pub invariant_of-self : goal.invariant_of-self
invariant_of-self c =
    let number = c.saturating_add-self-inside.result in
    let found : Contains c.self.inside.listed.items number = search rules in
    (c.self.invariant.0, λ some. inl (number, found, omega (arith, c.saturating_add-self-inside.ensures), omega arith))
