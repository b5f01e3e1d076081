use Rattle.std.proofs.Common.{ℕ, List, Ok, Err, Result, subst}
use Rattle.byteorder.specs.Endian.{little_bytes}
use Rattle.eaw_face.specs.Causes.{Cause}
use Rattle.eaw_face.specs.Command.{log_write}
use Rattle.eaw_face.specs.Does.{Does}
use Rattle.eaw_face.specs.StoreView.{StoreView}
use Rattle.eaw_face.specs.declared.fault.EawFault.{EawFault}
use Rattle.counter.proofs.Counting.{write_broken, written, moments}
use Rattle.std.proofs.lemmas.Result.{err_from_is_err_and}
use Rattle.counter.proofs.counter.Counter.set.Goals as goal
use Rattle.counter.proofs.counter.Counter.set.Goals.{After-commit}
use Rattle.counter.proofs.counter.Counter.set.Given.{Over}

pub returns-in_err-log_write-clause-broken : goal.returns-in_err-log_write-clause-broken
returns-in_err-log_write-clause-broken g c =
    let exit = err_from_is_err_and c.from_residual.result c.from_residual.ensures.1 in
    rw (exit.1, exit.2) (
    let old = g.S.EawStore.view c.self.inside.store in
    let new = g.S.EawStore.view c.log_write.new.self in
    rw (← c.self.view_is) (write_broken old new c.args.number c.in_err-log_write.field-0.0 (g.met.S.EawStore.shaped c.self.inside.store) c.self.invariant
    (subst (λ (b : List ℕ). let r : Result ℕ EawFault = Err c.in_err-log_write.field-0.0 in Cause old (log_write 0 1024 b) new.faults r) c.write_u64.ensures c.in_err-log_write.ensures.does.cause)))

module _ (g : Over) (c : After-commit g) where
  abbrev old : StoreView
  old = g.S.EawStore.view c.self.inside.store

  abbrev mid : StoreView
  mid = g.S.EawStore.view c.log_write.new.self

  first : let r : Result ℕ EawFault = Ok c.in_ok-log_write.field-0 in Does g.S.EawStore.tells (g.S.EawStore.opens old.shape) (log_write 0 1024 (little_bytes 8 c.args.number)) old mid r
  first = subst (λ (b : List ℕ). let r : Result ℕ EawFault = Ok c.in_ok-log_write.field-0 in Does g.S.EawStore.tells (g.S.EawStore.opens old.shape) (log_write 0 1024 b) old mid r) c.write_u64.ensures c.in_ok-log_write.ensures.does

pub returns-clause-written : goal.returns-clause-written
returns-clause-written g c = rw (← c.self.view_is)
    (written g.S.EawStore.tells g.S.EawStore.opens (old g c) (mid g c) (g.S.EawStore.view c.commit.new.self) c.args.number c.self.invariant
    (g.met.S.EawStore.outlines c.self.inside.store 0) c.in_ok-log_write.field-0 (first g c) c.commit.result c.commit.ensures.does)

pub returns-clause-moments : goal.returns-clause-moments
returns-clause-moments g c = rw (← c.self.view_is)
    (moments g.S.EawStore.tells g.S.EawStore.opens (old g c) (mid g c) (g.S.EawStore.view c.commit.new.self) c.args.number c.self.invariant
    (g.met.S.EawStore.outlines c.self.inside.store 0) c.in_ok-log_write.field-0 (first g c) c.commit.result c.commit.ensures.does)
