use Rattle.std.proofs.Common.{◌+◌, ◌≤◌, ℕ, List, length, take, ◌∙◌, ap, arith}
use Rattle.std.proofs.lemmas.List.{length-take}
use Rattle.mirror.proofs.Lists.{take-put}
use Rattle.mirror.proofs.part.PlainPart.edit.Goals as goal

pub returns : goal.returns
returns c =
    let page = c.self.inside.bytes in
    let len = c.self.inside.len in
    let within : c.args.at + length c.args.bytes.now ≤ length (take len page) = rw (← c.self.view_is) at c.requires in
    let fits : c.args.at + length c.args.bytes.now ≤ len = omega (arith, within, length-take len page) in
    rw (← c.self.view_is) (ap (λ (bs : List ℕ). (c.self.inside.addr, bs)) (ap (take len) c.overwrite.ensures ∙ take-put len c.args.at c.args.bytes.now page fits (omega arith)))
