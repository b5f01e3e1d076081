use Rattle.std.proofs.Common.{◌≡◌, ◌+◌, ◌-◌, ◌<◌, ◌≤◌, ℕ, IsTrue}
use Rattle.media_file.specs.Filled.{pieces}
use Rattle.media_file.proofs.FillLemmas.{ZerosSoFar}
use Rattle.media_file.proofs.filling.write_zeros.Given as goal

abbrev pub invariant-turns : goal.invariant-turns
invariant-turns g l = record {
  low : l.done < l.len;
  told : IsTrue g.C.Calls.trusted → ZerosSoFar l.moment l.at l.len l.done (g.C.Calls.past l.fn.calls) (g.C.Calls.past l.calls);
  none_failed : (g.C.Calls.faults l.calls).failed ≡ (g.C.Calls.faults l.fn.calls).failed;
  interrupted : l.counter ≤ (g.C.Calls.faults l.calls).interrupted + l.done;
  sure : (calls more : ℕ) → IsTrue (g.C.Calls.steady l.fn.calls (calls + pieces l.len) (l.len + more))
      → (l.counter ≤ l.done) × IsTrue (g.C.Calls.steady l.calls (calls + pieces (l.len - l.done)) (l.len - l.done + more));
}
