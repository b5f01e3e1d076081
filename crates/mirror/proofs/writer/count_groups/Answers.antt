use Rattle.std.proofs.Common.{arith, subst}
use Rattle.std.specs.Prelude.{All}
use Rattle.std.proofs.lemmas.List.Elements.{All-head, All-tail}
use Rattle.mirror.proofs.Parts.{log_is}
use Rattle.mirror.specs.Groups.{IsListed}
use Rattle.mirror.proofs.GroupWriting.{counts_one, counts_none}
use Rattle.mirror.proofs.writer.count_groups.Goals as goal

pub loop-tid-preserved-then-len-gt0 : goal.loop-tid-preserved-then-len-gt0
loop-tid-preserved-then-len-gt0 c =
    let logs = c.args.logs.now in
    let are = subst (All (IsListed logs)) c.in-Some.ensures.steps c.loop-tid.invariant.are in
    let here = All-head (IsListed logs) c.in-Some.tid c.next.new.self are in
    let log = log_is logs c.in-Some.tid c.from.result c.index-logs-from.result here.here c.from.ensures c.index-logs-from.is in
    let more = counts_one logs c.loop-tid.tid-iterator c.in-Some.tid c.next.new.self c.in-Some.ensures.steps c.index-logs-from.result log (omega (arith, c.len.ensures, c.if-len-gt0.true)) in
    record { so_far = omega (arith, more, c.loop-tid.invariant.so_far); are = All-tail (IsListed logs) c.in-Some.tid c.next.new.self are }

pub loop-tid-preserved : goal.loop-tid-preserved
loop-tid-preserved c =
    let logs = c.args.logs.now in
    let are = subst (All (IsListed logs)) c.in-Some.ensures.steps c.loop-tid.invariant.are in
    let here = All-head (IsListed logs) c.in-Some.tid c.next.new.self are in
    let log = log_is logs c.in-Some.tid c.from.result c.index-logs-from.result here.here c.from.ensures c.index-logs-from.is in
    let same = counts_none logs c.loop-tid.tid-iterator c.in-Some.tid c.next.new.self c.in-Some.ensures.steps c.index-logs-from.result log (omega (arith, c.len.ensures, c.if-len-gt0.false)) in
    record { so_far = omega (arith, same, c.loop-tid.invariant.so_far); are = All-tail (IsListed logs) c.in-Some.tid c.next.new.self are }
