use Rattle.std.specs.Prelude.{OnOk}
use Rattle.std.proofs.Common.{◌≡◌, ◌++◌, ℕ, ◌∙◌, refl, sym, ap, subst}
use Rattle.array_shape.specs.declared.shape.Shape.{Shape}
use Rattle.eaw_face.specs.State.{State}
use Rattle.record_slots.specs.Places.{page_bytes}
use Rattle.page_store.specs.Shown.{pages_of}
use Rattle.index_pages.specs.Fetched.{IsFront}
use Rattle.index_pages.specs.Keys.{key_end}
use Rattle.index_pages.specs.Page.{level_said, level_of}
use Rattle.index_pages.specs.Slots.{IsVerdict}
use Rattle.index_pages.proofs.Looking.{looks_next}
use Rattle.page_store.specs.Records.{rows_of}
use Rattle.btree_laws.specs.Tree.{tree_check, tree_from, pairs_under, pairs_of_tree}
use Rattle.btree_pages.specs.Checked.{IsFrontOf}
use Rattle.btree_pages.proofs.Checks.{level_fails, level_passes}
use Rattle.index_pages.proofs.Tests.{not_damaged, told_looks, told_verdict, told_dead}
use Rattle.std.proofs.Common.{◌≤◌, List, arith}
use Rattle.index_pages.specs.Plans.{Tries}
use Rattle.page_store.specs.Tested.{Plan, holding}
use Rattle.index_pages.proofs.Causing.{still_same}
use Rattle.index_pages.proofs.Trying.{SoFar, so_first, so_holds, so_bad, so_ends, so_page, so_page_err}
use Rattle.btree_pages.specs.Testing.{page_plan, tree_plan}
use Rattle.std.proofs.lemmas.Result.{err_from_is_err_and}
use Rattle.btree_pages.proofs.checking.check_tree.Goals as goal

pub returns-in_err-fetch_page-clause-looks : goal.returns-in_err-fetch_page-clause-looks
returns-in_err-fetch_page-clause-looks g c =
    let exit = err_from_is_err_and c.from_residual.result c.from_residual.ensures.1 in
    rw (exit.1) (told_looks g.S.EawStore.tells (g.S.EawStore.opens (g.S.EawStore.view c.args.pages.now.store).shape) (pages_of (g.S.EawStore.view c.args.pages.now.store) c.args.pages.now) (pages_of (g.S.EawStore.view c.fetch_page.new.pages.store) c.fetch_page.new.pages) c.requires.alive c.in_err-fetch_page.field-0.0 c.in_err-fetch_page.ensures.cause exit.0 exit.2 c.in_err-fetch_page.ensures.looks)

pub returns-in_err-fetch_page-clause-cause : goal.returns-in_err-fetch_page-clause-cause
returns-in_err-fetch_page-clause-cause g c =
    let exit = err_from_is_err_and c.from_residual.result c.from_residual.ensures.1 in
    rw (exit.1) (λ told front. told_verdict g.S.EawStore.tells (g.S.EawStore.opens (g.S.EawStore.view c.args.pages.now.store).shape) (pages_of (g.S.EawStore.view c.args.pages.now.store) c.args.pages.now) (pages_of (g.S.EawStore.view c.fetch_page.new.pages.store) c.fetch_page.new.pages) c.requires.alive c.in_err-fetch_page.field-0.0 c.in_err-fetch_page.ensures.cause exit.0 exit.2 (tree_check c.args.root (g.S.EawStore.view c.args.pages.now.store).state.bytes))

pub returns-in_err-fetch_page-clause-dead : goal.returns-in_err-fetch_page-clause-dead
returns-in_err-fetch_page-clause-dead g c =
    let exit = err_from_is_err_and c.from_residual.result c.from_residual.ensures.1 in
    rw (exit.1) (λ told. told_dead g.S.EawStore.tells (g.S.EawStore.opens (g.S.EawStore.view c.args.pages.now.store).shape) (pages_of (g.S.EawStore.view c.args.pages.now.store) c.args.pages.now) (pages_of (g.S.EawStore.view c.fetch_page.new.pages.store) c.fetch_page.new.pages) c.requires.alive c.in_err-fetch_page.field-0.0 c.in_err-fetch_page.ensures.cause exit.0 exit.2 told)

pub returns-then-level-gt-LEVEL_MAX-clause-looks : goal.returns-then-level-gt-LEVEL_MAX-clause-looks
returns-then-level-gt-LEVEL_MAX-clause-looks g c = c.in_ok-fetch_page.ensures.looks

pub returns-then-level-gt-LEVEL_MAX-clause-cause : goal.returns-then-level-gt-LEVEL_MAX-clause-cause
returns-then-level-gt-LEVEL_MAX-clause-cause g c = λ told front.
    level_fails c.args.root (g.S.EawStore.view c.args.pages.now.store).state.bytes c.level_in-level.result (c.level_in-level.ensures ∙ ap level_said (c.in_ok-fetch_page.ensures.bytes told)) c.if-level-gt-LEVEL_MAX.true

pub returns-then-level-gt-LEVEL_MAX-clause-dead : goal.returns-then-level-gt-LEVEL_MAX-clause-dead
returns-then-level-gt-LEVEL_MAX-clause-dead g c = λ told. not_damaged _ told

pub check_page-requires : goal.check_page-requires
check_page-requires g c = record {
  alive = (c.in_ok-fetch_page.ensures.looks.still refl).dead ∙ c.requires.alive;
  front = subst (λ (sh : Shape). IsFront sh c.args.front.now) (sym c.in_ok-fetch_page.ensures.looks.shape) c.requires.front;
  level = c.if-level-gt-LEVEL_MAX.false;
}

pub returns-clause-looks : goal.returns-clause-looks
returns-clause-looks g c = looks_next g.S.EawStore.tells g.S.EawStore.opens _ (pages_of (g.S.EawStore.view c.args.pages.now.store) c.args.pages.now) (pages_of (g.S.EawStore.view c.fetch_page.new.pages.store) c.fetch_page.new.pages) (pages_of (g.S.EawStore.view c.check_page.new.pages.store) c.check_page.new.pages) c.in_ok-fetch_page.ensures.looks c.check_page.ensures.looks

pub returns-clause-cause : goal.returns-clause-cause
returns-clause-cause g c = λ told front.
    let same = (c.in_ok-fetch_page.ensures.looks.still refl).state told in
    let level = c.level_in-level.ensures ∙ ap level_said (c.in_ok-fetch_page.ensures.bytes told) in
    level_passes c.args.root (g.S.EawStore.view c.args.pages.now.store).state.bytes c.level_in-level.result level c.if-level-gt-LEVEL_MAX.false c.check_page.result
    (subst (λ (s : State). IsVerdict (tree_from c.args.root c.level_in-level.result s.bytes c.args.root.page 0 key_end) c.check_page.result) same
    (c.check_page.ensures.cause told (subst (λ (s : State). IsFrontOf s.bytes c.args.front.now) (sym same) front)
    (subst (λ (s : State). c.fetch_page.new.bytes ≡ page_bytes s.bytes c.args.root.page) (sym same) (c.in_ok-fetch_page.ensures.bytes told))))

pub returns-clause-dead : goal.returns-clause-dead
returns-clause-dead g c = c.check_page.ensures.dead

pub returns-clause-rows : goal.returns-clause-rows
unfolding pairs_of_tree
returns-clause-rows g c = λ told.
    let same = (c.in_ok-fetch_page.ensures.looks.still refl).state told in
    let level : c.level_in-level.result ≡ level_of (g.S.EawStore.view c.args.pages.now.store).state.bytes c.args.root.page = c.level_in-level.ensures ∙ ap level_said (c.in_ok-fetch_page.ensures.bytes told) in
    subst (λ (l : ℕ). OnOk c.check_page.result (c.check_page.new.rows ≡ c.args.rows.now ++ rows_of (g.S.EawStore.view c.args.pages.now.store).state.bytes (pairs_under l (g.S.EawStore.view c.args.pages.now.store).state.bytes c.args.root.page))) level
    (subst (λ (s : State). OnOk c.check_page.result (c.check_page.new.rows ≡ c.args.rows.now ++ rows_of s.bytes (pairs_under c.level_in-level.result s.bytes c.args.root.page))) same
    (c.check_page.ensures.rows told (subst (λ (s : State). c.fetch_page.new.bytes ≡ page_bytes s.bytes c.args.root.page) (sym same) (c.in_ok-fetch_page.ensures.bytes told))))

pub returns-in_err-fetch_page-clause-tests : goal.returns-in_err-fetch_page-clause-tests
returns-in_err-fetch_page-clause-tests g c =
    let exit = err_from_is_err_and c.from_residual.result c.from_residual.ensures.1 in
    rw (exit.1) (
    so_page_err (still_same g.S.EawStore.tells (g.S.EawStore.view c.args.pages.now.store)) refl (Unit {0}) c.args.root.page (λ said. holding (level_said said ≤ 7) c.args.root.page (page_plan (g.S.EawStore.view c.args.pages.now.store).shape c.args.front.now c.args.root.page c.args.root.table (level_said said) c.args.root.page 0 key_end said)) c.fetch_page.new.bytes (page_bytes (g.S.EawStore.view c.args.pages.now.store).state.bytes c.args.root.page) c.in_err-fetch_page.field-0.0 exit.0 exit.2 (so_first (tree_plan (g.S.EawStore.view c.args.pages.now.store).shape c.args.front.now c.args.root.page c.args.root.table)) c.requires.alive c.in_err-fetch_page.ensures.cause c.in_err-fetch_page.ensures.reads)

pub returns-then-level-gt-LEVEL_MAX-clause-tests : goal.returns-then-level-gt-LEVEL_MAX-clause-tests
returns-then-level-gt-LEVEL_MAX-clause-tests g c = so_bad _ _ _ (so_page (still_same g.S.EawStore.tells (g.S.EawStore.view c.args.pages.now.store)) refl c.args.root.page (λ said. holding (level_said said ≤ 7) c.args.root.page (page_plan (g.S.EawStore.view c.args.pages.now.store).shape c.args.front.now c.args.root.page c.args.root.table (level_said said) c.args.root.page 0 key_end said)) c.fetch_page.new.bytes (so_first (tree_plan (g.S.EawStore.view c.args.pages.now.store).shape c.args.front.now c.args.root.page c.args.root.table)) c.in_ok-fetch_page.ensures.reads) (λ few. omega (arith, few, c.level_in-level.ensures, c.if-level-gt-LEVEL_MAX.true))

pub returns-clause-tests : goal.returns-clause-tests
returns-clause-tests g c =
    let few : level_said c.fetch_page.new.bytes ≤ 7 = omega (arith, c.level_in-level.ensures, c.if-level-gt-LEVEL_MAX.false) in
    so_ends (c.in_ok-fetch_page.ensures.looks.still refl) c.in_ok-fetch_page.ensures.looks.shape (page_plan (g.S.EawStore.view c.args.pages.now.store).shape c.args.front.now c.args.root.page c.args.root.table (level_said c.fetch_page.new.bytes) c.args.root.page 0 key_end c.fetch_page.new.bytes) c.check_page.result
    (so_holds _ _ _ (so_page (still_same g.S.EawStore.tells (g.S.EawStore.view c.args.pages.now.store)) refl c.args.root.page (λ said. holding (level_said said ≤ 7) c.args.root.page (page_plan (g.S.EawStore.view c.args.pages.now.store).shape c.args.front.now c.args.root.page c.args.root.table (level_said said) c.args.root.page 0 key_end said)) c.fetch_page.new.bytes (so_first (tree_plan (g.S.EawStore.view c.args.pages.now.store).shape c.args.front.now c.args.root.page c.args.root.table)) c.in_ok-fetch_page.ensures.reads) few)
    (subst (λ (s : Shape). Tries g.S.EawStore.tells (g.S.EawStore.calls c.fetch_page.new.pages.store) (g.S.EawStore.calls c.check_page.new.pages.store) (page_plan s c.args.front.now c.args.root.page c.args.root.table (level_said c.fetch_page.new.bytes) c.args.root.page 0 key_end c.fetch_page.new.bytes) (g.S.EawStore.view c.fetch_page.new.pages.store) (g.S.EawStore.view c.check_page.new.pages.store) c.check_page.result) c.in_ok-fetch_page.ensures.looks.shape
    (subst (λ (l : ℕ). Tries g.S.EawStore.tells (g.S.EawStore.calls c.fetch_page.new.pages.store) (g.S.EawStore.calls c.check_page.new.pages.store) (page_plan (g.S.EawStore.view c.fetch_page.new.pages.store).shape c.args.front.now c.args.root.page c.args.root.table l c.args.root.page 0 key_end c.fetch_page.new.bytes) (g.S.EawStore.view c.fetch_page.new.pages.store) (g.S.EawStore.view c.check_page.new.pages.store) c.check_page.result) c.level_in-level.ensures c.check_page.ensures.tests))
