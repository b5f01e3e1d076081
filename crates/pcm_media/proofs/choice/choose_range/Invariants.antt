use Rattle.std.proofs.Common.{◌≡◌, ℕ, ◌<◌, ◌≤◌, ◌%◌, length, get_or}
use Rattle.pcm_media.proofs.choice.choose_range.Given as goal

abbrev pub invariant-loop-i : goal.invariant-loop-i
invariant-loop-i l = record {
  outside : (k : ℕ) → (l.at ≤ k → k < l.i → ⊥) → get_or l.image k 0 ≡ get_or l.initial.image k 0;
  inside : (k : ℕ) → l.at ≤ k → k < l.i → get_or l.image k 0 ≡ get_or l.choice (k % length l.choice) 0;
}
