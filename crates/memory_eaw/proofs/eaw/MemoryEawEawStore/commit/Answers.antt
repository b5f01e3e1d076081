use Rattle.std.proofs.Common.{true, refl, ◌∙◌, ap, arith}
use Rattle.std.proofs.lemmas.Result.{err_from_is_err_and}
use Rattle.eaw_face.specs.Command.{commit}
use Rattle.memory_eaw.specs.Plain.{Plain}
use Rattle.mirror.specs.Log.{log_at}
use Rattle.memory_eaw.specs.Shown.{plain_of}
use Rattle.memory_eaw.proofs.Stopping.{counts_failed}
use Rattle.memory_eaw.proofs.Doing.{log_len_is}
use Rattle.mars_base.proofs.Costing.{costs_err, costs_all}
use Rattle.memory_eaw.proofs.Commands.{calls-committed, does_committed, moment_stays, counts_committed}
use Rattle.memory_eaw.proofs.eaw.MemoryEawEawStore.commit.Goals as goal

pub returns-in_err-commit_from-clause-idle : goal.returns-in_err-commit_from-clause-idle
returns-in_err-commit_from-clause-idle c =
    let self = c.args.self.now in
    λ none. absurd (omega (arith, none, c.in_err-commit_from.ensures.failed.1, log_len_is (plain_of self) self.sound c.args.tid c.in_ok-check_live.ensures.live.1.small))

pub returns-in_err-commit_from-clause-calls : goal.returns-in_err-commit_from-clause-calls
returns-in_err-commit_from-clause-calls c =
    let self = c.args.self.now in
    let known = c.in_ok-check_live.ensures.live.1 in
    let failed = c.in_err-commit_from.ensures.failed in
    let p = err_from_is_err_and c.from_residual-in_err-commit_from.result c.from_residual-in_err-commit_from.ensures.1 in
    rw (p.1, p.2) (counts_failed (Unit {0}) (plain_of self) (commit c.args.tid)
    (record { alive = c.in_ok-check_live.ensures.live.0; knows = known; room = tt; work = omega (arith, failed.1, log_len_is (plain_of self) self.sound c.args.tid known.small) })
    (plain_of c.commit_from.new.self) _ failed.0 failed.3 failed.2)

pub returns-clause-does : goal.returns-clause-does
returns-clause-does c =
    let self = c.args.self.now in
    let known = c.in_ok-check_live.ensures.live.1 in
    does_committed (plain_of self) self.sound c.args.tid known.small c.in_ok-check_live.ensures.live.0 (plain_of c.free.new.self) known _ (plain_of c.commit_from.new.self) c.in_ok-commit_from.ensures.done.1 refl c.free.ensures

pub returns-clause-idle : goal.returns-clause-idle
returns-clause-idle c =
    let self = c.args.self.now in
    let known = c.in_ok-check_live.ensures.live.1 in
    λ none. ap (λ (p : Plain). p.kept.moment) c.free.ensures
    ∙ moment_stays (plain_of self) self.sound c.args.tid known.small c.in_ok-check_live.ensures.live.0 (plain_of c.free.new.self) known _ (plain_of c.commit_from.new.self) c.in_ok-commit_from.ensures.done.1
    (omega (arith, none, log_len_is (plain_of self) self.sound c.args.tid known.small))

pub returns-clause-calls : goal.returns-clause-calls
returns-clause-calls c =
    let self = c.args.self.now in
    let known = c.in_ok-check_live.ensures.live.1 in
    counts_committed (plain_of self) self.sound c.args.tid known.small c.in_ok-check_live.ensures.live.0 known c.free.new.self.journal c.in_ok-commit_from.ensures.done.0
    (ap (λ (p : Plain). p.kept) c.free.ensures ∙ ap (λ (p : Plain). p.kept) c.in_ok-commit_from.ensures.done.1)

pub returns-in_err-commit_from-clause-due : goal.returns-in_err-commit_from-clause-due
returns-in_err-commit_from-clause-due c =
    let self = c.args.self.now in
    λ broke. omega (arith, c.in_err-commit_from.ensures.failed.1, log_len_is (plain_of self) self.sound c.args.tid c.in_ok-check_live.ensures.live.1.small)

pub returns-in_err-commit_from-clause-costs : goal.returns-in_err-commit_from-clause-costs
returns-in_err-commit_from-clause-costs c =
    let self = c.args.self.now in
    let failed = c.in_err-commit_from.ensures.failed in
    let moment = ap (λ (p : Plain). p.kept.moment) failed.3 in
    costs_err true _ _ _ c.from_residual-in_err-commit_from.result c.from_residual-in_err-commit_from.ensures.0
    (omega (arith, moment, failed.1, log_len_is (plain_of self) self.sound c.args.tid c.in_ok-check_live.ensures.live.1.small))

pub returns-clause-costs : goal.returns-clause-costs
returns-clause-costs c =
    let self = c.args.self.now in
    let moment = ap (λ (p : Plain). p.kept.moment) c.free.ensures in
    let first = ap (λ (p : Plain). p.kept.moment) c.in_ok-commit_from.ensures.done.1 in
    let one = calls-committed (log_at self.logs.items c.args.tid).parts (plain_of self) in
    costs_all true _ _ _ _ (omega (arith, moment, first, one, log_len_is (plain_of self) self.sound c.args.tid c.in_ok-check_live.ensures.live.1.small))
