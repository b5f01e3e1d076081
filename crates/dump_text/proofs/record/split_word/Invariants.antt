use Rattle.std.proofs.Common.{take}
use Rattle.script_text.specs.Reads.{IsWord}
use Rattle.dump_text.proofs.record.split_word.Given as goal

abbrev pub invariant-loop-i : goal.invariant-loop-i
invariant-loop-i l = IsWord (take l.i l.bytes)
