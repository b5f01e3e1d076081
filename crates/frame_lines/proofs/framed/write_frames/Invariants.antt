use Rattle.std.proofs.Common.{◌≡◌, ◌++◌, List, ℕ, length}
use Rattle.std.specs.Prelude.{flat_map}
use Rattle.frame_lines.specs.Framed.{bytes_line, KeepsFrames, StandsOn, IsBut}
use Rattle.frame_lines.proofs.framed.write_frames.Given as goal

-- these frames were written and given up, and those are left
abbrev pub invariant-frames : goal.invariant-frames
invariant-frames g l =
    let r = g.R.Responder in
    let view = g.R.Mirrored.view in
    record {
      ready : r.is_ready l.responder;
      frames : KeepsFrames (view l.responder);
      stands : StandsOn r.tells r.is_ready r.stands r.comes r.faults l.fn.responder l.responder;
      is_but : IsBut (view l.fn.responder) (view l.responder);
      far : (done : List (List ℕ)) × ((view l.fn.responder).sending.frames ≡ done ++ (view l.responder).sending.frames)
          × (l.out.items ≡ l.fn.out.items ++ flat_map bytes_line done);
    }

abbrev pub decreases-frames : goal.decreases-frames
decreases-frames g l = length (g.R.Mirrored.view l.responder).sending.frames
