use Rattle.std.proofs.Common.{arith, sym, ◌≡◌, ◌<◌, length, take}
use Rattle.std.proofs.lemmas.List.{take_more, take_all}
use Rattle.std.proofs.lemmas.Bool.{eqb-false}
use Rattle.script_run.proofs.LineLemmas.{IsOneLine-push, found_line, only_line}
use Rattle.script_run.proofs.lines.next_line.Goals as goal

pub returns-then-b-eq10 : goal.returns-then-b-eq10
returns-then-b-eq10 c = found_line c.args.bytes.now c.loop-i.i c.loop-i-test.true c.loop-i.invariant c.if-b-eq10.true

pub loop-i-preserved : goal.loop-i-preserved
loop-i-preserved c = rw (take_more c.args.bytes.now c.loop-i.i 0 c.loop-i-test.true) (IsOneLine-push _ _ c.loop-i.invariant c.if-b-eq10.false)

pub returns : goal.returns
returns c =
    let filled = eqb-false _ _ (sym c.if-is_empty.ensures) in
    let some : 0 < length c.args.bytes.now = omega (arith, filled) in
    let all : take c.loop-i.i c.args.bytes.now ≡ c.args.bytes.now = take_all _ _ c.loop-i-test.false in
    (only_line c.args.bytes.now some (rw all at c.loop-i.invariant), some)
