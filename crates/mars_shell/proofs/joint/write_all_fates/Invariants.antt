use Rattle.std.proofs.Common.{◌≡◌, ◌++◌, drop}
use Rattle.history_text.specs.Text.{fate_line, numbered}
use Rattle.mars_shell.proofs.joint.write_all_fates.Given as goal

-- the text so far and what is still to be written make the whole
abbrev pub invariant-loop-caller : goal.invariant-loop-caller
invariant-loop-caller l = l.text.items ++ numbered (λ caller. numbered (fate_line caller) 1) l.caller (drop l.caller l.fates) ≡ l.initial.text.items ++ numbered (λ caller. numbered (fate_line caller) 1) 0 l.initial.fates
