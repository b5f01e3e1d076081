use Rattle.std.proofs.Common.{Bool, ◌≡◌, ◌≤◌, ◌+◌, ◌++◌, List, ℕ, length, IsTrue}
use Rattle.std.specs.List.{concat}
use Rattle.script_run.specs.Lines.{lines_of}
use Rattle.script_run.specs.Transcript.{Answered}
use Rattle.script_run.specs.declared.ended.Ended.{Ended}
use Rattle.script_run.proofs.run.answer_lines.Given as goal

-- the answers so far, and a state that they have come to: however the remaining lines are answered, together all are
abbrev pub invariant-loop-line : goal.invariant-loop-line
invariant-loop-line g l =
    let k = g.K.Sink in
    let r = g.R.Responder in
    record {
      so_far : (done : List (List ℕ)) × (IsTrue k.tells → k.written l.sink ≡ k.written l.fn.sink ++ concat done)
          × (IsTrue r.tells → (first : r.State) → r.stands l.fn.responder first
          → (now : r.State) × r.stands l.responder now × r.comes l.fn.responder first l.responder now
          × ((ended : Ended) (cut : Bool) (answers : List (List ℕ)) (rest : List ℕ) (final : r.State)
          → Answered r.script now l.n (lines_of l.rest) ended cut answers rest final
          → Answered r.script first 1 (lines_of l.input) ended cut (done ++ answers) rest final));
      ready : r.is_ready l.responder;
      count : l.n + length l.rest ≤ length l.input + 1;
      sink : k.faults l.sink ≡ k.faults l.fn.sink;
      media : r.faults l.responder ≡ r.faults l.fn.responder;
    }

abbrev pub decreases-loop-line : goal.decreases-loop-line
decreases-loop-line g l = length l.rest
