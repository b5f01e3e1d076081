use Rattle.std.proofs.Common.{◌-◌, arith, drop}
use Rattle.std.proofs.lemmas.List.{length-drop}
use Rattle.mirror.proofs.Writing.{group_said}
use Rattle.mirror.proofs.writer.append_group.Goals as goal

pub returns-then-count-gt0-clause-items : goal.returns-then-count-gt0-clause-items
returns-then-count-gt0-clause-items c =
    let parts = c.args.log.now.parts in
    let left = length-drop c.args.offset parts in
    group_said c.args.number (drop c.args.offset parts) (c.len.result - c.args.offset) c.args.frame.now.items c.begin_group.new.frame.items c.append_parts.new.frame.items
    (omega (arith, c.if-count-gt0.true, c.len.ensures, left)) (omega (arith, c.len.ensures, left)) c.begin_group.ensures.items c.append_parts.ensures.items
