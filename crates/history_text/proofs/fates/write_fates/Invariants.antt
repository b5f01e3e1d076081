use Rattle.std.proofs.Common.{◌≡◌, ◌+◌, ◌++◌, drop}
use Rattle.history_text.specs.Text.{fate_line, numbered}
use Rattle.history_text.proofs.fates.write_fates.Given as goal

-- the text so far and the lines that are left make the whole
abbrev pub invariant-loop-i : goal.invariant-loop-i
invariant-loop-i l = l.text.items ++ numbered (fate_line l.caller) (l.i + 1) (drop l.i l.fates) ≡ l.fn.text.items ++ numbered (fate_line l.caller) 1 l.fates
