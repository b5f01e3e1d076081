use Rattle.std.proofs.Common.{◌≡◌, ◌+◌, ◌≤◌, ℕ, length, IsTrue}
use Rattle.media_file.proofs.WriteLemmas.{WrittenSoFar}
use Rattle.media_file.proofs.writing.write_all.Given as goal

abbrev pub invariant-turns : goal.invariant-turns
invariant-turns g l = record {
  low : l.done ≤ length l.bytes;
  told : IsTrue g.C.Calls.trusted → WrittenSoFar l.moment l.at l.bytes l.done (g.C.Calls.past l.fn.calls) (g.C.Calls.past l.calls);
  none_failed : (g.C.Calls.faults l.calls).failed ≡ (g.C.Calls.faults l.fn.calls).failed;
  interrupted : l.counter ≤ (g.C.Calls.faults l.calls).interrupted + l.done;
  first : (calls more : ℕ) → IsTrue (g.C.Calls.steady l.fn.calls (calls + 1) (length l.bytes + more)) → (l.counter ≡ 0) × (l.done ≡ 0) × (l.calls ≡ l.fn.calls);
}
