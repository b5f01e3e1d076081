use Rattle.std.proofs.Common.{◌≡◌, ◌+◌, ◌≤◌, ◌<◌, ℕ, [], ◌∷◌, ◌++◌, length, get_or, refl, sym, ap, subst, ◌∙◌, arith, length-append}
use Rattle.std.specs.Prelude.{IsTrue}
use Rattle.std.proofs.lemmas.List.Elements.{All-nil, All-push}
use Rattle.std.proofs.lemmas.Result.{err_from_is_err_and}
use Rattle.caller_steps.specs.Run.{Turn}
use Rattle.mars_shell.specs.Lines.{goes_on}
use Rattle.mars_shell.specs.Tally.{total, counted}
use Rattle.mars_shell.specs.declared.tally.Tally.{Tally}
use Rattle.mars_shell.proofs.Making.{tally_more, made_none, made_more, ends_early, stop_cause, stays_alive, no_fault}
use Rattle.mars_shell.proofs.turns.make_turns.Goals as goal

pub loop-turn-init : goal.loop-turn-init
loop-turn-init g c = record {
  made = ([], made_none g.C.Core.tells (g.C.Core.view c.args.core.now) c.args.script.now, refl, All-nil (λ (turn : Turn). IsTrue (goes_on turn.2)), c.new-tally.ensures);
  few = subst (λ (t : Tally). total t ≤ 0) (sym c.new-tally.ensures) (omega arith);
  alive = c.requires.alive;
  faults = refl;
}

pub returns-in_err-going_on-clause-early : goal.returns-in_err-going_on-clause-early
returns-in_err-going_on-clause-early g c =
    let core = g.C.Core in
    let made = c.loop-turn.invariant.made in
    let turn = c.turn-item.result in
    let script = c.args.script.now in
    let within : length made.0 < length script = omega (arith, made.2, c.loop-turn-test.true) in
    let is : get_or script (length made.0) turn ≡ (turn.0, turn.1) = ap (λ (n : ℕ). get_or script n turn) made.2 ∙ sym c.turn-item.is in
    let exit = err_from_is_err_and c.from_residual.result c.from_residual.ensures.1 in
    rw (exit.1, exit.2) (ends_early core.tells (core.view c.args.core.now) script made.0 (core.view c.loop-turn.core) (core.view c.step-reply.new.self) turn.0 turn.1 c.step-reply.result made.1
    c.step-reply.ensures.steps turn within is made.3 c.in_err-going_on.field-0.0 c.in_err-going_on.ensures)

pub returns-in_err-going_on-clause-cause : goal.returns-in_err-going_on-clause-cause
returns-in_err-going_on-clause-cause g c =
    let core = g.C.Core in
    let turn = c.turn-item.result in
    let exit = err_from_is_err_and c.from_residual.result c.from_residual.ensures.1 in
    rw (exit.1, exit.2) (stop_cause core.tells turn.0 turn.1 (core.view c.loop-turn.core) (core.view c.step-reply.new.self) c.step-reply.result c.step-reply.ensures.steps _ c.loop-turn.invariant.faults
    c.in_err-going_on.field-0.0 c.in_err-going_on.ensures)

pub loop-turn-preserved : goal.loop-turn-preserved
loop-turn-preserved g c =
    let core = g.C.Core in
    let made = c.loop-turn.invariant.made in
    let turn = c.turn-item.result in
    let script = c.args.script.now in
    let reply = c.step-reply.result in
    let steps = c.step-reply.ensures.steps in
    let old = core.view c.args.core.now in
    let mid = core.view c.loop-turn.core in
    let new = core.view c.step-reply.new.self in
    let within : length made.0 < length script = omega (arith, made.2, c.loop-turn-test.true) in
    let is : get_or script (length made.0) turn ≡ (turn.0, turn.1) = ap (λ (n : ℕ). get_or script n turn) made.2 ∙ sym c.turn-item.is in
    let goes = c.in_ok-going_on.ensures in
    let longer : length (made.0 ++ (turn.0, turn.1, reply) ∷ []) ≡ c.loop-turn.turn-index + 1 = length-append made.0 ((turn.0, turn.1, reply) ∷ []) ∙ ap (λ (n : ℕ). n + 1) made.2 in
    record {
      made = (
        made.0 ++ (turn.0, turn.1, reply) ∷ [],
        made_more core.tells old script made.0 mid new turn.0 turn.1 reply made.1 steps turn within is,
        longer,
        All-push (λ (turn : Turn). IsTrue (goes_on turn.2)) made.0 (turn.0, turn.1, reply) made.3 goes,
        c.count.ensures.counts ∙ ap (λ (t : Tally). counted t turn.1 reply) made.4 ∙ sym (tally_more made.0 turn.0 turn.1 reply),
      );
      few = omega (arith, c.count.ensures.one, c.loop-turn.invariant.few);
      alive = stays_alive core.tells old script made.0 mid new turn.0 turn.1 reply made.1 steps c.loop-turn.invariant.alive (no_fault reply goes);
      faults = steps.kept (no_fault reply goes) ∙ c.loop-turn.invariant.faults;
    }
