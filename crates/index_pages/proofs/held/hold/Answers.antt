use Rattle.std.proofs.Common.{subst, refl, sym, ◌∙◌, ℕ, Option}
use Rattle.std.proofs.lemmas.Bool.{false≢true}
use Rattle.index_pages.proofs.Courses.{reads_none}
use Rattle.index_pages.specs.Held.{AreOf}
use Rattle.page_store.specs.Shown.{pages_of}
use Rattle.index_pages.proofs.Looking.{looks_none}
use Rattle.std.proofs.lemmas.Result.{err_from_is_err_and}
use Rattle.index_pages.proofs.held.hold.Goals as goal

pub returns-then-is_page-clause-bytes : goal.returns-then-is_page-clause-bytes
returns-then-is_page-clause-bytes g c = λ told.
    let view = g.S.EawStore.view c.args.pages.now.store in
    subst (λ (o : Option ℕ). AreOf view.state.bytes c.args.held.now.bytes o) (c.is_page.ensures.0 c.if-is_page.true) (c.requires.held told)

pub returns-then-is_page-clause-looks : goal.returns-then-is_page-clause-looks
returns-then-is_page-clause-looks g c = looks_none g.S.EawStore.tells (g.S.EawStore.opens (g.S.EawStore.view c.args.pages.now.store).shape) (pages_of (g.S.EawStore.view c.args.pages.now.store) c.args.pages.now)

pub returns-then-is_page-clause-holds : goal.returns-then-is_page-clause-holds
returns-then-is_page-clause-holds g c = record {
  same = λ is. (refl, refl, reads_none g.S.EawStore.tells (g.S.EawStore.calls c.args.pages.now.store) (g.S.EawStore.view c.args.pages.now.store));
  reads = λ other. absurd (other (c.is_page.ensures.0 c.if-is_page.true));
}

pub returns-clause-holds : goal.returns-clause-holds
returns-clause-holds g c = record {
  same = λ is. absurd (false≢true (sym c.if-is_page.false ∙ c.is_page.ensures.1 is));
  reads = λ other. c.in_ok-fetch_page.ensures.reads;
}

pub returns-in_err-fetch_page-clause-holds : goal.returns-in_err-fetch_page-clause-holds
returns-in_err-fetch_page-clause-holds g c =
    let exit = err_from_is_err_and c.from_residual.result c.from_residual.ensures.1 in
    rw (exit.1, exit.2) (record {
      same = λ is. absurd (false≢true (sym c.if-is_page.false ∙ c.is_page.ensures.1 is));
      reads = λ other. c.in_err-fetch_page.ensures.reads;
    })
