use Rattle.std.proofs.Common.{refl}
use Rattle.std.specs.Prelude.{Result, Ok, Err, OnOk}
use Rattle.caller_plans.proofs.Drafting.{takes_nothing, takes_bad}
use Rattle.caller_plans.proofs.script.Reading.take.Goals as goal

pub returns-in-Nothing : goal.returns-in-Nothing
returns-in-Nothing c = rw c.in-Nothing.is (takes_nothing c.args.number c.args.self.now)

pub returns-in_ok-push-in-Bad : goal.returns-in_ok-push-in-Bad
returns-in_ok-push-in-Bad c = rw c.in-Bad.is (takes_bad c.args.number c.args.self.now _ c.in_ok-push-in-Bad.ensures.ok refl refl)

then : {E P Q : Type 0} (r : Result (Unit {0}) E) → (P → Q) → OnOk r P → OnOk r Q
then (Ok x) makes p = makes p
then (Err e) makes p = p

pub returns-in-Read : goal.returns-in-Read
returns-in-Read c = rw c.in-Read.is (then c.ask.result (λ takes. takes c.args.number) c.ask.ensures)
