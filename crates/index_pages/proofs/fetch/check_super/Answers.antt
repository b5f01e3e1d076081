use Rattle.std.proofs.Common.{refl}
use Rattle.std.proofs.lemmas.Bool.{false≢true}
use Rattle.index_pages.proofs.Trying.{tested_fault, tested_front, untested_front}
use Rattle.std.proofs.lemmas.Result.{err_from_is_err_and}
use Rattle.index_pages.proofs.fetch.check_super.Goals as goal

pub returns-in_err-front-clause-reads : goal.returns-in_err-front-clause-reads
returns-in_err-front-clause-reads g c =
    let exit = err_from_is_err_and c.from_residual.result c.from_residual.ensures.1 in
    rw (exit.1, exit.2) ((c.in_err-front.ensures.reads.0, c.in_err-front.ensures.reads.1, tested_fault c.args.form (g.S.EawStore.view c.args.pages.now.store).shape c.in_err-front.ensures.reads.0 c.in_err-front.field-0.0 c.in_err-front.ensures.reads.2))

pub returns-then-has_tables-clause-reads : goal.returns-then-has_tables-clause-reads
returns-then-has_tables-clause-reads g c = (
  c.in_ok-front.ensures.reads.0,
  c.in_ok-front.ensures.reads.1,
  tested_front c.args.form (g.S.EawStore.view c.args.pages.now.store).shape c.in_ok-front.ensures.reads.0 c.in_ok-front.front c.in_ok-front.ensures.reads.2 c.in_ok-front.ensures.form c.in_ok-front.ensures.front (c.if-has_tables.ensures.0 refl),
)

pub returns-else-has_tables-clause-reads : goal.returns-else-has_tables-clause-reads
returns-else-has_tables-clause-reads g c = (
  c.in_ok-front.ensures.reads.0,
  c.in_ok-front.ensures.reads.1,
  untested_front c.args.form (g.S.EawStore.view c.args.pages.now.store).shape c.in_ok-front.ensures.reads.0 c.in_ok-front.front c.in_ok-front.ensures.reads.2 (λ tables. false≢true (c.if-has_tables.ensures.1 tables)),
)
