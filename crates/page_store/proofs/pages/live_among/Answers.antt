use Rattle.std.proofs.Common.{ℕ, Bool, ◌&&◌, ◌≤◌, ◌+◌, sym, ◌∙◌, ap, subst, arith}
use Rattle.std.specs.Prelude.{is_some}
use Rattle.array_shape.specs.declared.number_set.NumberSet.{NumberSet}
use Rattle.array_shape.specs.declared.shape.Shape.{Shape}
use Rattle.array_shape.proofs.Sets.{IsPassedBelow, passed_first, passed_with, passed_skip, passed_last}
use Rattle.page_store.proofs.pages.live_among.Goals.{then-contains+then-is_live, else-contains, else-contains-via-then-contains+else-is_live, else-contains-via-else-contains}
use Rattle.page_store.proofs.pages.live_among.Goals as goal

pub loop-tid-init : goal.loop-tid-init
loop-tid-init g c = passed_first c.args.tids.bits (λ t. is_some ((g.S.EawStore.view c.args.store.now).ranges t)) c.empty-live.result.bits c.empty-live.ensures.lacks

pub loop-tid-preserved : goal.loop-tid-preserved
loop-tid-preserved g c =
    let some = λ (t : ℕ). is_some ((g.S.EawStore.view c.args.store.now).ranges t) in
    let t = c.loop-tid.tid in
    let in_set = sym c.contains.ensures in
    elim c.if-contains.branch [
      | then-contains+then-is_live w ↦
          subst (λ (s : NumberSet). IsPassedBelow c.args.tids.bits some (t + 1) s.bits) (sym w.live-is)
          (passed_with c.args.tids.bits some t c.loop-tid.live.bits w.with-live.result.bits c.loop-tid.invariant
          (λ i. (in_set ∙ w.if-contains.true) i && (sym w.is_live.ensures ∙ w.if-is_live.true) i) w.with-live.ensures.here w.with-live.ensures.others)
      | else-contains w ↦
          subst (λ (s : NumberSet). IsPassedBelow c.args.tids.bits some (t + 1) s.bits) (sym w.live-is)
          (passed_skip c.args.tids.bits some t c.loop-tid.live.bits c.loop-tid.invariant
          (elim w.else-contains.branch [
            | else-contains-via-then-contains+else-is_live w' ↦ (λ i. (in_set ∙ w'.if-contains.true) i && (sym w'.is_live.ensures ∙ w'.if-is_live.false) i)
            | else-contains-via-else-contains w' ↦ ap (λ (b : Bool). b && some t) (in_set ∙ w'.if-contains.false)
          ]))
    ]

pub returns : goal.returns
returns g c =
    let store = g.S.EawStore.view c.args.store.now in
    let numbers : store.shape.numbers ≤ c.loop-tid.tid = subst (λ (s : Shape). s.numbers ≤ c.loop-tid.tid) c.shape-tid-end.ensures c.loop-tid-test.false in
    passed_last c.args.tids.bits (λ t. is_some (store.ranges t)) c.loop-tid.tid c.loop-tid.live.bits c.loop-tid.invariant (λ u past. ap is_some (g.met.S.EawStore.beyond c.args.store.now u (omega (arith, numbers))))
