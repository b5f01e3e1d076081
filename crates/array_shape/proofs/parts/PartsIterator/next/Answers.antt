use Rattle.std.proofs.Common.{sym, ◌∙◌, ap, length, arith}
use Rattle.array_shape.specs.Parts.{parts_of}
use Rattle.array_shape.proofs.Cutting.{parts_of-none, parts_of-step}
use Rattle.array_shape.proofs.parts.PartsIterator.next.Goals as goal

pub returns-then-self-eq0-clause-steps : goal.returns-then-self-eq0-clause-steps
returns-then-self-eq0-clause-steps c =
    let none = sym c.self.view_is ∙ ap (parts_of c.self.inside.shape c.self.inside.addr) c.if-self-eq0.true ∙ parts_of-none c.self.inside.shape c.self.inside.addr in
    (none, none)

pub returns-clause-steps : goal.returns-clause-steps
returns-clause-steps c = sym c.self.view_is ∙ parts_of-step c.self.inside.shape c.self.inside.addr c.self.inside.left c.min-len.result c.place.result.logger c.if-self-eq0.false c.min-len.ensures c.place.ensures.logger

pub returns-clause-goes : goal.returns-clause-goes
returns-clause-goes c =
    let step = returns-clause-steps c in
    let fewer = ap length step in
    record { on = λ finite. (tt, tt, omega arith); keeps = tt; rests = λ finite. tt }
