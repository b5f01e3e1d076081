use Rattle.std.proofs.Common.{take}
use Rattle.script_run.specs.Lines.{IsOneLine}
use Rattle.script_run.proofs.lines.next_line.Given as goal

abbrev pub invariant-loop-i : goal.invariant-loop-i
invariant-loop-i l = IsOneLine (take l.i l.bytes)
