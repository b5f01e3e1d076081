use Rattle.std.proofs.Common.{◌≡◌, ◌≤◌, ◌+◌, ◌++◌, List, ℕ, length, IsTrue}
use Rattle.eaw_face.specs.StoreView.{LeavesOnly}
use Rattle.script_run.specs.Lines.{lines_of}
use Rattle.frame_lines.specs.Followed.{OpensFirst}
use Rattle.frame_lines.proofs.Running.{SoFar}
use Rattle.frame_lines.proofs.follow.follow_all.Given as goal

-- the lines so far were followed, and what was told of them was written
abbrev pub invariant-loop-line : goal.invariant-loop-line
invariant-loop-line g l =
    let k = g.K.Sink in
    let s = g.S.EawStore in
    record {
      text : (text : List ℕ) × (IsTrue k.tells → k.written l.sink ≡ k.written l.fn.sink ++ text) × SoFar s.tells s.view l.fn.follower l.follower (lines_of l.input) (lines_of l.rest) l.n text;
      moments : IsTrue s.tells → LeavesOnly (OpensFirst s.opens (s.view l.fn.follower.store).shape (s.view l.fn.follower.store).state.bytes (lines_of l.input)) (s.view l.fn.follower.store) (s.view l.follower.store);
      count : l.n + length l.rest ≤ length l.input + 1;
      sink : k.faults l.sink ≡ k.faults l.fn.sink;
      media : (s.view l.follower.store).faults ≡ (s.view l.fn.follower.store).faults;
    }

abbrev pub decreases-loop-line : goal.decreases-loop-line
decreases-loop-line g l = length l.rest
