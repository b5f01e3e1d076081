use Rattle.std.proofs.Common.{ℕ, inl, inr, ⊎_elim, sym, ◌∙◌, subst, arith}
use Rattle.std.proofs.lemmas.Bool.{cases_eq}
use Rattle.device_recovery.specs.Table.{HasOrder, IsLeastAt}
use Rattle.device_recovery.proofs.table.lowest_order.Goals as goal

pub loop-tid-preserved : goal.loop-tid-preserved
loop-tid-preserved c =
    let shape = c.args.shape.now in
    let rows = c.args.rows.now in
    let so_far = c.loop-tid.invariant in
    let its = c.lowest_at-lowest.ensures in (
      its.from,
      omega (arith, its.lower, so_far.1),
      (λ t lt h lt' is le. elim (cases_eq t c.loop-tid.tid) [
        | inl same ↦ subst (λ (u : ℕ). IsLeastAt shape rows c.args.from u shape.loggers c.lowest_at-lowest.result) (sym same) its.least h lt' is le
        | inr ne ↦ (let before = so_far.2 t (omega arith) h lt' is le in (omega (arith, before.0, its.lower), before.1))
      ]),
      ⊎_elim (λ same. ⊎_elim (λ top. inl (same ∙ top)) (λ has. inr (subst (HasOrder shape rows) (sym same) has)) so_far.3) (λ has. inr has) its.same_or_found,
    )
