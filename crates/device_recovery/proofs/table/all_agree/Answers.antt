use Rattle.std.proofs.Common.{ℕ, ⊎_elim, sym, ◌∙◌, ap, arith}
use Rattle.std.proofs.lemmas.Bool.{cases_eq}
use Rattle.array_image.proofs.Deciding.{all_from, none_from}
use Rattle.array_image.specs.Decided.{agrees}
use Rattle.device_recovery.specs.Table.{row_in}
use Rattle.device_recovery.proofs.table.all_agree.Goals as goal

pub returns-then-not-agrees : goal.returns-then-not-agrees
returns-then-not-agrees c = sym (none_from c.args.shape.now.loggers (λ g. agrees c.args.ballot (row_in c.args.rows.now) g c.args.tid) c.loop-logger.logger (omega arith) (sym c.if-not-agrees.ensures))

pub returns : goal.returns
returns c = sym (all_from c.args.shape.now.loggers (λ g. agrees c.args.ballot (row_in c.args.rows.now) g c.args.tid) (λ g lt. c.loop-logger.invariant g (omega arith)))

pub loop-logger-preserved : goal.loop-logger-preserved
loop-logger-preserved c g lt = ⊎_elim
    (λ is. ap (λ (k : ℕ). agrees c.args.ballot (row_in c.args.rows.now) k c.args.tid) is ∙ sym c.if-not-agrees.ensures)
    (λ ne. c.loop-logger.invariant g (omega arith))
    (cases_eq g c.loop-logger.logger)
