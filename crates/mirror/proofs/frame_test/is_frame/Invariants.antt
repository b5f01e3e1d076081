use Rattle.std.proofs.Common.{ℕ, List, ◌++◌, take}
use Rattle.std.specs.Prelude.{◌↔◌}
use Rattle.eaw_face.specs.Frame.{AreFrame}
use Rattle.mirror.specs.Rest.{Rest, IsOpen}
use Rattle.mirror.proofs.frame_test.is_frame.Given as goal

abbrev pub invariant-loop-byte : goal.invariant-loop-byte
invariant-loop-byte l = record { ready : IsOpen l.shape l.place; same : (bytes : List ℕ) → AreFrame l.shape (take l.byte-index l.bytes ++ bytes) ↔ Rest l.shape l.place bytes }
