use Rattle.std.proofs.Common.{◌≡◌, ◌+◌, ◌-◌, length}
use Rattle.record_slots.specs.Super.{tables_used, used_entries}
use Rattle.record_slots.proofs.Used.{from}
use Rattle.record_slots.proofs.entries.used_count.Given as goal

-- those so far are used
abbrev pub invariant-loop-j : goal.invariant-loop-j
invariant-loop-j l = length (tables_used l.entries) ≡ l.j + length (used_entries (8 - l.j) (from l.entries l.j))
