use Rattle.std.proofs.Common.{◌≡◌, ◌+◌, ◌≤◌, ℕ, IsTrue}
use Rattle.media_file.proofs.again.sync.Given as goal

abbrev pub invariant-turns : goal.invariant-turns
invariant-turns g l = record {
  same : IsTrue g.C.Calls.trusted → g.C.Calls.past l.calls ≡ g.C.Calls.past l.fn.calls;
  none_failed : (g.C.Calls.faults l.calls).failed ≡ (g.C.Calls.faults l.fn.calls).failed;
  interrupted : l.counter ≤ (g.C.Calls.faults l.calls).interrupted;
  first : (calls more : ℕ) → IsTrue (g.C.Calls.steady l.fn.calls (calls + 1) more) → (l.counter ≡ 0) × (l.calls ≡ l.fn.calls);
}
