use Rattle.std.proofs.Common.{◌≡◌, ◌++◌, List, ℕ, length, IsTrue}
use Rattle.texts.proofs.output.write_whole.Given as goal

-- the piece is what was written and what is left
abbrev pub invariant-loop-rest : goal.invariant-loop-rest
invariant-loop-rest g l =
    let k = g.K.Sink in
    ((done : List ℕ) × (l.piece ≡ done ++ l.rest) × (IsTrue k.tells → k.written l.sink ≡ k.written l.fn.sink ++ done))
    × (k.faults l.sink ≡ k.faults l.fn.sink)

abbrev pub decreases-loop-rest : goal.decreases-loop-rest
decreases-loop-rest g l = length l.rest
