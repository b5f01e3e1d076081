use Rattle.std.proofs.Common.{◌≡◌, ◌+◌, Ok, Result, length, take}
use Rattle.std.specs.Prelude.{IsTrue}
use Rattle.mars_base.specs.Bytes.{range}
use Rattle.array_shape.specs.Logged.{applied}
use Rattle.eaw_face.specs.State.{listed}
use Rattle.eaw_face.specs.declared.fault.EawFault.{EawFault}
use Rattle.eaw_face.specs.Command.{Command, read}
use Rattle.page_store.specs.Reads.{Reads, laid_cost}
use Rattle.page_store.proofs.pages.read_seen.Given as goal

-- what was read, with the first parts laid over it
abbrev pub invariant-loop-pos : goal.invariant-loop-pos
invariant-loop-pos g l =
    let view = g.S.EawStore.view in
    let first = view l.fn.store in
    let done : Result (Unit {0}) EawFault = Ok tt in
    record {
      reads : Reads g.S.EawStore.tells (g.S.EawStore.opens first.shape) l.tid first (view l.store) done;
      cost : (view l.store).moment ≡ first.moment + (g.S.EawStore.calls l.fn.store (read l.addr (length l.fn.buf)) + laid_cost (g.S.EawStore.calls l.fn.store) l.tid (l.addr, length l.fn.buf) (take l.pos (listed (first.ranges l.tid))));
      steady : (command : Command) → g.S.EawStore.calls l.store command ≡ g.S.EawStore.calls l.fn.store command;
      long : length l.buf ≡ length l.fn.buf;
      seen : IsTrue g.S.EawStore.tells → l.buf ≡ range (applied (take l.pos (listed (first.state.logs l.tid))) first.state.bytes) l.addr (length l.buf);
    }
