use Rattle.std.proofs.Common.{ℕ, ◌^◌, ⊎_elim, sym, ◌∙◌, ap, arith}
use Rattle.std.specs.Prelude.{nat_lt}
use Rattle.std.proofs.lemmas.Bool.{cases_eq}
use Rattle.array_image.specs.Decided.{all_below}
use Rattle.array_image.specs.Decided.{agrees}
use Rattle.device_recovery.specs.Table.{row_in}
use Rattle.array_image.proofs.Deciding.{big_mask, big_group, one_disagrees, all_agree}
use Rattle.device_recovery.proofs.table.is_carried.Goals as goal

pub returns-then-not-is_below : goal.returns-then-not-is_below
returns-then-not-is_below c =
    sym (big_mask c.args.shape.now.loggers c.args.shape.now.numbers (row_in c.args.rows.now) c.args.ballot (ap (λ (m : ℕ). nat_lt m (2 ^ c.args.shape.now.loggers)) (sym c.from.ensures) ∙ sym c.is_below.ensures ∙ c.if-not-is_below.true))

pub returns-then-not-is_below-2 : goal.returns-then-not-is_below-2
returns-then-not-is_below-2 c = sym (big_group c.args.shape.now.loggers c.args.shape.now.numbers (row_in c.args.rows.now) c.args.ballot (sym c.is_below-2.ensures ∙ c.if-not-is_below-2.true))

pub returns-then-not-all_agree : goal.returns-then-not-all_agree
returns-then-not-all_agree c = sym (one_disagrees c.args.shape.now.loggers c.args.shape.now.numbers (row_in c.args.rows.now) c.args.ballot c.loop-tid.tid (omega arith) (sym c.if-not-all_agree.ensures))

pub loop-tid-preserved : goal.loop-tid-preserved
loop-tid-preserved c t lt = ⊎_elim
    (λ is. ap (λ (k : ℕ). all_below c.args.shape.now.loggers (λ g. agrees c.args.ballot (row_in c.args.rows.now) g k)) is ∙ sym c.if-not-all_agree.ensures)
    (λ ne. c.loop-tid.invariant t (omega arith))
    (cases_eq t c.loop-tid.tid)

pub returns : goal.returns
returns c =
    sym (all_agree c.args.shape.now.loggers c.args.shape.now.numbers (row_in c.args.rows.now) c.args.ballot
    (ap (λ (m : ℕ). nat_lt m (2 ^ c.args.shape.now.loggers)) (sym c.from.ensures) ∙ sym c.is_below.ensures ∙ c.if-not-is_below.false)
    (sym c.is_below-2.ensures ∙ c.if-not-is_below-2.false)
    (λ t lt. c.loop-tid.invariant t (omega arith)))
