use Rattle.page_store.specs.Looks.{is_check_failed}
use Rattle.page_store.specs.Shown.{pages_of}
use Rattle.index_pages.proofs.Looking.{looks_next}
use Rattle.std.proofs.Common.{refl}
use Rattle.page_store.specs.Index.{index_pages_of}
use Rattle.index_pages.specs.Plans.{lists_plan, free_slots_plan, free_pages_plan}
use Rattle.index_pages.proofs.Causing.{still_same}
use Rattle.index_pages.proofs.Trying.{so_first, so_then, so_fails, so_ends}
use Rattle.std.proofs.lemmas.Result.{err_from_is_err_and}
use Rattle.index_pages.proofs.checking.check_lists.Goals as goal

pub returns-clause-looks : goal.returns-clause-looks
returns-clause-looks g c =
    looks_next g.S.EawStore.tells g.S.EawStore.opens (is_check_failed c.check_free_pages.result) (pages_of (g.S.EawStore.view c.args.pages.now.store) c.args.pages.now)
    (pages_of (g.S.EawStore.view c.check_free_slots.new.pages.store) c.check_free_slots.new.pages) (pages_of (g.S.EawStore.view c.check_free_pages.new.pages.store) c.check_free_pages.new.pages)
    c.in_ok-check_free_slots.ensures.looks c.check_free_pages.ensures.looks

pub returns-in_err-check_free_slots-clause-tests : goal.returns-in_err-check_free_slots-clause-tests
returns-in_err-check_free_slots-clause-tests g c =
    let exit = err_from_is_err_and c.from_residual.result c.from_residual.ensures.1 in
    rw (exit.1, exit.2) (so_fails (still_same g.S.EawStore.tells (g.S.EawStore.view c.args.pages.now.store)) refl (free_slots_plan (index_pages_of (g.S.EawStore.view c.args.pages.now.store).shape) c.args.front.now) (free_pages_plan c.args.front.now) c.in_err-check_free_slots.field-0.0 (so_first (lists_plan (index_pages_of (g.S.EawStore.view c.args.pages.now.store).shape) c.args.front.now)) c.in_err-check_free_slots.ensures.tests)

pub returns-clause-tests : goal.returns-clause-tests
returns-clause-tests g c =
    so_ends (c.in_ok-check_free_slots.ensures.looks.still refl) c.in_ok-check_free_slots.ensures.looks.shape (free_pages_plan c.args.front.now) c.check_free_pages.result (so_then (still_same g.S.EawStore.tells (g.S.EawStore.view c.args.pages.now.store)) refl (free_slots_plan (index_pages_of (g.S.EawStore.view c.args.pages.now.store).shape) c.args.front.now) (free_pages_plan c.args.front.now) tt (so_first (lists_plan (index_pages_of (g.S.EawStore.view c.args.pages.now.store).shape) c.args.front.now)) c.in_ok-check_free_slots.ensures.tests) c.check_free_pages.ensures.tests
