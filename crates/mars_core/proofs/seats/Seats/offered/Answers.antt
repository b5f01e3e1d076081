use Rattle.std.proofs.Common.{◌≡◌, ◌+◌, ℕ, length, refl, sym, ap, ◌∙◌, subst, arith}
use Rattle.array_shape.specs.declared.number_set.NumberSet.{NumberSet}
use Rattle.caller_steps.specs.Offers.{is_offered}
use Rattle.mars_core.specs.Seats.{Seats, offers_in}
use Rattle.mars_core.proofs.Grouping.{HasFound, first_short, none_more, one_more, found_all}
use Rattle.mars_core.proofs.seats.Seats.offered.Goals.{then-is_offered, else-is_offered}
use Rattle.mars_core.proofs.seats.Seats.offered.Goals as goal

pub overflow_add-count : goal.overflow_add-count
overflow_add-count g c = omega (arith, c.loop-caller.invariant.total, first_short (λ caller. is_offered (offers_in c.args.self.now caller)) c.loop-caller.caller, c.loop-caller.auto.caller-end)

pub loop-caller-preserved : goal.loop-caller-preserved
loop-caller-preserved g c = elim c.if-is_offered.branch [
  | then-is_offered w ↦ subst (λ (x : NumberSet × ℕ). HasFound c.args.self.now (c.loop-caller.caller + 1) x.0.bits x.1) (λ i. (sym w.callers-is i, sym w.count-is i))
      (one_more c.args.self.now c.loop-caller.caller c.loop-caller.callers.bits c.loop-caller.count c.loop-caller.invariant (sym c.is_offered.ensures ∙ w.if-is_offered.true) w.with-callers.result.bits w.with-callers.ensures.here w.with-callers.ensures.others)
  | else-is_offered w ↦ subst (λ (x : NumberSet × ℕ). HasFound c.args.self.now (c.loop-caller.caller + 1) x.0.bits x.1) (λ i. (sym w.callers-is i, sym w.count-is i))
      (none_more c.args.self.now c.loop-caller.caller c.loop-caller.callers.bits c.loop-caller.count c.loop-caller.invariant (sym c.is_offered.ensures ∙ w.if-is_offered.false))
]

pub returns-clause-callers : goal.returns-clause-callers
returns-clause-callers g c =
    let all = ap (λ (seats : Seats). length seats.places) (sym c.self.view_is) in
    let end : c.loop-caller.caller ≡ length c.args.self.now.places = omega (arith, all, c.len-caller-end.ensures, c.loop-caller-test.false, c.loop-caller.auto.caller-end) in
    found_all c.args.self.now c.loop-caller.callers.bits c.loop-caller.count (subst (λ (n : ℕ). HasFound c.args.self.now n c.loop-caller.callers.bits c.loop-caller.count) end c.loop-caller.invariant) c.requires c.loop-caller.callers refl
