use Rattle.std.proofs.Common.{◌≡◌}
use Rattle.call_tests.proofs.tests.locks.answered_lines.Given as goal

-- each pass is still its caller's
abbrev pub invariant-loop-n : goal.invariant-loop-n
invariant-loop-n g l = record {
  zero : (l.zero.table ≡ l.fn.zero.table) × (l.zero.known.number ≡ l.fn.zero.known.number);
  one : (l.one.table ≡ l.fn.one.table) × (l.one.known.number ≡ l.fn.one.known.number);
}
