use Rattle.std.proofs.Common.{◌≡◌, ◌-◌}
use Rattle.record_slots.specs.Super.{are_entries, are_named}
use Rattle.record_slots.proofs.Used.{from}
use Rattle.record_slots.proofs.entries.have_names.Given as goal

-- what is left decides
abbrev pub invariant-loop-j : goal.invariant-loop-j
invariant-loop-j l = are_named l.entries ≡ are_entries l.used (8 - l.j) (from l.entries l.j)
