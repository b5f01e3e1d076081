use Rattle.std.proofs.Common.{sym, subst}
use Rattle.std.specs.Prelude.{None}
use Rattle.array_shape.specs.NumberSet.{members}
use Rattle.eaw_face.specs.Command.{commit_group}
use Rattle.eaw_face.specs.Causes.{known}
use Rattle.eaw_face.proofs.Groups.{known_there}
use Rattle.memory_eaw.specs.Plain.{view_of}
use Rattle.memory_eaw.specs.Shown.{plain_of, shown}
use Rattle.memory_eaw.specs.Steps.{changed_plain}
use Rattle.memory_eaw.proofs.eaw.MemoryEaw.commit_all.Goals as goal

pub apply_all-requires : goal.apply_all-requires
apply_all-requires c =
    let self = c.args.self.now in
    subst (λ p. known (view_of p) (commit_group (members c.args.tids)) None) (sym c.in_ok-change.ensures.done.1)
    (known_there (shown self) (view_of (changed_plain (plain_of self).bytes (plain_of self))) (λ t is. record { small = is.small; live = is.live }) (members c.args.tids) c.requires)
