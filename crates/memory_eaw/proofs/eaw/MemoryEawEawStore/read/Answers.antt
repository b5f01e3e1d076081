use Rattle.std.proofs.Common.{length, refl}
use Rattle.eaw_face.specs.Command.{read}
use Rattle.memory_eaw.specs.Shown.{plain_of}
use Rattle.memory_eaw.proofs.Commands.{does_looked}
use Rattle.memory_eaw.proofs.eaw.MemoryEawEawStore.read.Goals as goal

pub returns-clause-does : goal.returns-clause-does
returns-clause-does c =
    let self = c.args.self.now in
    does_looked (tt {0}) (plain_of self) (plain_of c.call.new.self) (read c.args.addr (length c.args.buf.now)) (c.in_ok-check_alive.ensures.alive, tt, tt) c.in_ok-call.ensures.done.1 refl refl
