use Rattle.std.proofs.Common.{◌≡◌, ◌≤◌, ◌-◌, ◌++◌, length, IsTrue}
use Rattle.script_run.proofs.input.read_input.Given as goal

-- what was there at first is what was read and what is left
abbrev pub invariant-loop-count : goal.invariant-loop-count
invariant-loop-count g l =
    let s = g.S.Source in record {
      told : IsTrue s.tells → s.left l.fn.source ≡ l.input.items ++ s.left l.source;
      short : length l.input.items ≤ 16777216;
      kept : s.faults l.source ≡ s.faults l.fn.source;
      steady : IsTrue (s.steady l.fn.source) → IsTrue (s.steady l.source);
    }

abbrev pub decreases-loop-count : goal.decreases-loop-count
decreases-loop-count g l = 16777216 - length l.input.items
