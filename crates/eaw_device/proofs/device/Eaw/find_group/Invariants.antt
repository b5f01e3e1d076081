use Rattle.std.proofs.Common.{ℕ}
use Rattle.std.specs.Prelude.{Option}
use Rattle.array_shape.specs.NumberSet.{members}
use Rattle.eaw_face.specs.Command.{commit_group}
use Rattle.eaw_face.specs.Causes.{known}
use Rattle.eaw_device.specs.Sound.{view_of}
use Rattle.eaw_device.proofs.device.Eaw.find_group.Given as goal

abbrev pub invariant-loop-tid : goal.invariant-loop-tid
invariant-loop-tid g l = (verdict : Option ℕ) → known (view_of (g.M.Media.view l.self.media) l.self.shape l.self.logs.items l.self.late l.self.is_dead) (commit_group l.tid-iterator) verdict
    → known (view_of (g.M.Media.view l.self.media) l.self.shape l.self.logs.items l.self.late l.self.is_dead) (commit_group (members l.fn.tids)) verdict
