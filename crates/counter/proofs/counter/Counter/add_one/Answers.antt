use Rattle.std.proofs.Common.{◌≡◌, ◌≤◌, ◌^◌, ◌<◌, ◌+◌, length, inl, arith}
use Rattle.mars_base.proofs.Going.{weaker}
use Rattle.counter.specs.Counts.{number_in}
use Rattle.counter.proofs.Counting.{roomy, counts_now, raised, left_now, broken_on}
use Rattle.std.proofs.lemmas.Result.{err_from_is_err_and}
use Rattle.counter.proofs.counter.Counter.add_one.Goals as goal

pub returns-in_default-clause-moments : goal.returns-in_default-clause-moments
returns-in_default-clause-moments g c told alive =
    let store = g.S.EawStore in
    let old = store.view c.args.self.now in
    weaker (λ image opens. inl (counts_now (store.opens old.shape) old.state.bytes image opens)) (c.value.ensures.moments told alive)

pub returns-clause-now : goal.returns-clause-now
returns-clause-now g c told =
    let store = g.S.EawStore in
    let old = store.view c.args.self.now in
    let long : 1032 ≤ length old.state.bytes = omega (arith, g.met.S.EawStore.long c.args.self.now told, roomy old.shape (g.met.S.EawStore.shaped c.args.self.now)) in
    let fits : c.in-Some.next < 2 ^ 64 = omega (arith, c.in-Some.ensures) in
    left_now store.opens old (store.view c.value.new.self) (store.view c.set.new.self) c.in-Some.next long fits
    c.value.ensures.shape (c.in_ok-number.ensures.same told) c.set.ensures.shape (c.in_ok-set.ensures.written told)
    (λ image left. g.met.S.EawStore.only_now c.set.new.self image told c.in_ok-set.ensures.alive left)

pub returns-clause-moments : goal.returns-clause-moments
returns-clause-moments g c told alive =
    let store = g.S.EawStore in
    let old = store.view c.args.self.now in
    let long : 1032 ≤ length old.state.bytes = omega (arith, g.met.S.EawStore.long c.args.self.now told, roomy old.shape (g.met.S.EawStore.shaped c.args.self.now)) in
    let fits : c.in-Some.next < 2 ^ 64 = omega (arith, c.in-Some.ensures) in
    let is : c.in-Some.next ≡ number_in old.state.bytes + 1 = omega (arith, c.in-Some.ensures, c.in_ok-number.ensures.says told) in
    raised store.opens old (store.view c.value.new.self) (store.view c.set.new.self) c.in-Some.next long is fits
    c.value.ensures.shape (c.in_ok-number.ensures.same told) (c.value.ensures.moments told alive) (c.set.ensures.moments told)

pub returns-in_err-set-clause-moments : goal.returns-in_err-set-clause-moments
returns-in_err-set-clause-moments g c told alive =
    let store = g.S.EawStore in
    let old = store.view c.args.self.now in
    let long : 1032 ≤ length old.state.bytes = omega (arith, g.met.S.EawStore.long c.args.self.now told, roomy old.shape (g.met.S.EawStore.shaped c.args.self.now)) in
    let fits : c.in-Some.next < 2 ^ 64 = omega (arith, c.in-Some.ensures) in
    let is : c.in-Some.next ≡ number_in old.state.bytes + 1 = omega (arith, c.in-Some.ensures, c.in_ok-number.ensures.says told) in
    raised store.opens old (store.view c.value.new.self) (store.view c.set.new.self) c.in-Some.next long is fits
    c.value.ensures.shape (c.in_ok-number.ensures.same told) (c.value.ensures.moments told alive) (c.set.ensures.moments told)

pub returns-in_err-set-clause-refused : goal.returns-in_err-set-clause-refused
returns-in_err-set-clause-refused g c =
    let exit = err_from_is_err_and c.from_residual-in_err-set.result c.from_residual-in_err-set.ensures.1 in
    rw (exit.1, exit.2) (
    let store = g.S.EawStore in
    broken_on (store.view c.args.self.now) (store.view c.value.new.self) (store.view c.set.new.self) c.in_err-set.field-0.0 c.in_ok-number.ensures.alive.1 c.in_ok-number.ensures.kept c.in_err-set.ensures.broken)
