use Rattle.memory_eaw.specs.Shown.{plain_of}
use Rattle.memory_eaw.proofs.Commands.{does_freed}
use Rattle.memory_eaw.proofs.eaw.MemoryEawEawStore.abort.Goals as goal

pub returns-clause-does : goal.returns-clause-does
returns-clause-does c =
    let self = c.args.self.now in
    let known = c.in_ok-check_live.ensures.live.1 in
    does_freed (plain_of self) self.sound c.args.tid known.small c.in_ok-check_live.ensures.live.0 (plain_of c.free.new.self) known c.free.ensures
