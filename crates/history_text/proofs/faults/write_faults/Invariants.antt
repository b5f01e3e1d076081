use Rattle.std.proofs.Common.{◌≡◌, ◌++◌, take}
use Rattle.std.specs.List.{flat_map}
use Rattle.history_text.specs.Text.{fault_line}
use Rattle.history_text.proofs.faults.write_faults.Given as goal

-- the lines so far come after what was there
abbrev pub invariant-loop-fault : goal.invariant-loop-fault
invariant-loop-fault l = l.text.items ≡ l.fn.text.items ++ flat_map fault_line (take l.fault-index l.faults)
