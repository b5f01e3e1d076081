use Rattle.std.proofs.Common.{true, sym, ◌∙◌, ap, subst, arith}
use Rattle.std.specs.Prelude.{None}
use Rattle.std.proofs.lemmas.Result.{err_from_is_err_and}
use Rattle.array_shape.specs.NumberSet.{members}
use Rattle.eaw_face.specs.State.{group_log}
use Rattle.eaw_face.specs.Command.{commit_group}
use Rattle.eaw_face.specs.Causes.{known}
use Rattle.mars_base.proofs.Costing.{costs_err, costs_all}
use Rattle.memory_eaw.specs.Log.{logged}
use Rattle.memory_eaw.specs.Plain.{Plain, view_of}
use Rattle.memory_eaw.specs.Shown.{plain_of}
use Rattle.memory_eaw.proofs.Stopping.{counts_failed}
use Rattle.memory_eaw.proofs.Commands.{calls-committed}
use Rattle.memory_eaw.proofs.Groups.{group_len, does_group, counts_group, moment_stays, known_committed, counts_unknown}
use Rattle.memory_eaw.proofs.eaw.MemoryEawEawStore.commit_group.Goals as goal

pub returns-in_err-commit_all-clause-idle : goal.returns-in_err-commit_all-clause-idle
returns-in_err-commit_all-clause-idle c =
    λ none. absurd (omega (arith, none, c.in_err-commit_all.ensures.failed.1, group_len (plain_of c.args.self.now) (members c.args.tids)))

pub returns-in_err-commit_all-clause-due : goal.returns-in_err-commit_all-clause-due
returns-in_err-commit_all-clause-due c =
    λ broke. omega (arith, c.in_err-commit_all.ensures.failed.1, group_len (plain_of c.args.self.now) (members c.args.tids))

pub returns-in_err-commit_all-clause-calls : goal.returns-in_err-commit_all-clause-calls
returns-in_err-commit_all-clause-calls c =
    let self = c.args.self.now in
    let live = c.in_ok-check_group.ensures.live in
    let failed = c.in_err-commit_all.ensures.failed in
    let p = err_from_is_err_and c.from_residual-in_err-commit_all.result c.from_residual-in_err-commit_all.ensures.1 in
    rw (p.1, p.2) (counts_failed (Unit {0}) (plain_of self) (commit_group (members c.args.tids))
    (record { alive = live.0; knows = live.1; room = tt; work = omega (arith, failed.1, group_len (plain_of self) (members c.args.tids)) })
    (plain_of c.commit_all.new.self) _ failed.0 failed.3 failed.2)

pub returns-in_err-commit_all-clause-costs : goal.returns-in_err-commit_all-clause-costs
returns-in_err-commit_all-clause-costs c =
    let self = c.args.self.now in
    let failed = c.in_err-commit_all.ensures.failed in
    let moment = ap (λ (p : Plain). p.kept.moment) failed.3 in
    costs_err true _ _ _ c.from_residual-in_err-commit_all.result c.from_residual-in_err-commit_all.ensures.0
    (omega (arith, moment, failed.1, group_len (plain_of self) (members c.args.tids)))

pub free_all-requires : goal.free_all-requires
free_all-requires c =
    let self = c.args.self.now in
    let live = c.in_ok-check_group.ensures.live in
    subst (λ p. known (view_of p) (commit_group (members c.args.tids)) None) (sym c.in_ok-commit_all.ensures.done.1)
    (known_committed (plain_of self) (group_log (logged self.logs.items) (members c.args.tids)) (members c.args.tids) live.1)

pub returns-clause-does : goal.returns-clause-does
returns-clause-does c =
    let live = c.in_ok-check_group.ensures.live in
    does_group (plain_of c.args.self.now) (plain_of c.commit_all.new.self) (plain_of c.free_all.new.self) (members c.args.tids) live.0 live.1 c.in_ok-commit_all.ensures.done.1 c.free_all.ensures.logs c.free_all.ensures.same

pub returns-clause-idle : goal.returns-clause-idle
returns-clause-idle c =
    let self = c.args.self.now in
    let live = c.in_ok-check_group.ensures.live in
    λ none. moment_stays (plain_of self) (plain_of c.commit_all.new.self) (plain_of c.free_all.new.self) (members c.args.tids) live.0 live.1 c.in_ok-commit_all.ensures.done.1 c.free_all.ensures.logs c.free_all.ensures.same
    (sym (group_len (plain_of self) (members c.args.tids)) ∙ none)

pub returns-clause-calls : goal.returns-clause-calls
returns-clause-calls c =
    let live = c.in_ok-check_group.ensures.live in
    counts_group (plain_of c.args.self.now) (plain_of c.commit_all.new.self) (plain_of c.free_all.new.self) (members c.args.tids) live.0 live.1 c.in_ok-commit_all.ensures.done.1 c.free_all.ensures.logs c.free_all.ensures.same
    c.in_ok-commit_all.ensures.done.0

pub returns-clause-costs : goal.returns-clause-costs
returns-clause-costs c =
    let self = c.args.self.now in
    let same = ap (λ (p : Plain). p.kept.moment) c.free_all.ensures.same in
    let first = ap (λ (p : Plain). p.kept.moment) c.in_ok-commit_all.ensures.done.1 in
    let one = calls-committed (group_log (logged self.logs.items) (members c.args.tids)) (plain_of self) in
    costs_all true _ _ _ _ (omega (arith, same, first, one, group_len (plain_of self) (members c.args.tids)))

pub returns-in_err-check_group-clause-calls : goal.returns-in_err-check_group-clause-calls
returns-in_err-check_group-clause-calls c =
    let p = err_from_is_err_and c.from_residual.result c.from_residual.ensures.1 in
    rw (p.1, p.2) (counts_unknown (plain_of c.args.self.now) (members c.args.tids) _ c.in_err-check_group.ensures.refused)
