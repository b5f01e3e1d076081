use Rattle.std.proofs.Common.{◌≡◌, ◌+◌, ◌≤◌, ℕ, length, IsTrue}
use Rattle.media_file.proofs.ReadLemmas.{ReadSoFar}
use Rattle.media_file.proofs.reading.read_all.Given as goal

abbrev pub invariant-turns : goal.invariant-turns
invariant-turns g l = record {
  low : l.done ≤ length l.buf;
  told : IsTrue g.C.Calls.trusted → ReadSoFar l.moment l.at l.done l.buf (g.C.Calls.past l.fn.calls) (g.C.Calls.past l.calls);
  none_failed : (g.C.Calls.faults l.calls).failed ≡ (g.C.Calls.faults l.fn.calls).failed;
  interrupted : l.counter ≤ (g.C.Calls.faults l.calls).interrupted + l.done;
  first : (calls more : ℕ) → IsTrue (g.C.Calls.steady l.fn.calls (calls + 1) more) → (l.counter ≡ 0) × (l.done ≡ 0) × (l.calls ≡ l.fn.calls);
}
