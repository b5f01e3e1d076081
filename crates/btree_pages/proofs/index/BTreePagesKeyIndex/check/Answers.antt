use Rattle.std.specs.Prelude.{OnOk}
use Rattle.std.proofs.Common.{◌≡◌, ◌++◌, ◌∙◌, false, Ok, Err, Result, refl, sym, ap, subst}
use Rattle.array_shape.specs.declared.shape.Shape.{Shape}
use Rattle.eaw_face.specs.State.{State}
use Rattle.mars_base.specs.Check.{both}
use Rattle.record_slots.specs.Places.{page_bytes, tables_of, IsSuper}
use Rattle.record_slots.specs.Super.{SaysSuper}
use Rattle.record_slots.specs.declared.super_page.Super.{Super}
use Rattle.page_store.specs.Shown.{pages_of}
use Rattle.page_store.specs.declared.index_fault.CheckFault.{CheckFault}
use Rattle.index_pages.specs.Fetched.{IsFront}
use Rattle.index_pages.specs.Slots.{IsVerdict, slots_check, pages_check, tables_check}
use Rattle.index_pages.proofs.Looking.{looks_next}
use Rattle.page_store.specs.Records.{records_of}
use Rattle.btree_pages.specs.Index.{tree, tree_of}
use Rattle.index_pages.proofs.Tests.{check_looks, dead_told, super_fails, lists_fail, tables_tell}
use Rattle.std.proofs.Common.{ℕ, List}
use Rattle.record_slots.specs.Super.{tables_in}
use Rattle.page_store.specs.Index.{index_pages_of}
use Rattle.index_pages.specs.Plans.{Tries, lists_plan, tables_plan, front_said}
use Rattle.index_pages.proofs.Causing.{still_same}
use Rattle.index_pages.proofs.Trying.{SoFar, so_first, so_then, so_fails, so_ends, tests_of, owns_index, front_read, front_err}
use Rattle.btree_pages.specs.Testing.{tree_plan, tree_testing}
use Rattle.btree_pages.proofs.Testing.{owns_tree}
use Rattle.std.proofs.lemmas.Result.{err_from_is_err_and}
use Rattle.btree_pages.proofs.index.BTreePagesKeyIndex.check.Goals as goal

pub returns-in_err-front-clause-looks : goal.returns-in_err-front-clause-looks
returns-in_err-front-clause-looks g c =
    let exit = err_from_is_err_and c.from_residual.result c.from_residual.ensures.1 in
    rw (exit.1) (check_looks Super g.S.EawStore.tells (g.S.EawStore.opens (g.S.EawStore.view c.args.pages.now.store).shape) (pages_of (g.S.EawStore.view c.args.pages.now.store) c.args.pages.now) (pages_of (g.S.EawStore.view c.check_super.new.pages.store) c.check_super.new.pages) c.in_err-front.field-0.0 exit.0 exit.2 c.in_err-front.ensures.looks)

pub returns-in_err-front-clause-cause : goal.returns-in_err-front-clause-cause
returns-in_err-front-clause-cause g c =
    let exit = err_from_is_err_and c.from_residual.result c.from_residual.ensures.1 in
    rw (exit.1) (super_fails tree 1 tree_of (λ b c. c) (λ b bad c. c) g.S.EawStore.tells (g.S.EawStore.view c.args.pages.now.store) c.in_err-front.field-0.0 exit.0 exit.2 c.in_err-front.ensures.cause)

pub returns-in_err-front-clause-dead : goal.returns-in_err-front-clause-dead
returns-in_err-front-clause-dead g c =
    let exit = err_from_is_err_and c.from_residual.result c.from_residual.ensures.1 in
    rw (exit.1) (λ told. c.in_err-front.ensures.dead (ap Err (dead_told Super _ _ _ (g.S.EawStore.view c.args.pages.now.store) c.in_err-front.field-0.0 exit.0 c.in_err-front.ensures.cause exit.2 told)))

pub check_lists-requires : goal.check_lists-requires
check_lists-requires g c = record {
  alive = (c.in_ok-front.ensures.looks.still refl).dead ∙ c.in_ok-front.ensures.cause;
  front = subst (λ (sh : Shape). IsFront sh c.in_ok-front.front) (sym c.in_ok-front.ensures.looks.shape) c.in_ok-front.ensures.front;
}

pub returns-in_err-check_lists-clause-looks : goal.returns-in_err-check_lists-clause-looks
returns-in_err-check_lists-clause-looks g c =
    let exit = err_from_is_err_and c.from_residual-in_err-check_lists.result c.from_residual-in_err-check_lists.ensures.1 in
    rw (exit.1, exit.2) (looks_next g.S.EawStore.tells g.S.EawStore.opens _ (pages_of (g.S.EawStore.view c.args.pages.now.store) c.args.pages.now) (pages_of (g.S.EawStore.view c.check_super.new.pages.store) c.check_super.new.pages) (pages_of (g.S.EawStore.view c.check_lists.new.pages.store) c.check_lists.new.pages) c.in_ok-front.ensures.looks c.in_err-check_lists.ensures.looks)

pub returns-in_err-check_lists-clause-cause : goal.returns-in_err-check_lists-clause-cause
returns-in_err-check_lists-clause-cause g c =
    let exit = err_from_is_err_and c.from_residual-in_err-check_lists.result c.from_residual-in_err-check_lists.ensures.1 in
    rw (exit.1, exit.2) (
    let r : Result (Unit {0}) CheckFault = Err c.in_err-check_lists.field-0.0 in
    lists_fail tree 1 tree_of (λ b c. c) (λ b bad c. c) g.S.EawStore.tells (g.S.EawStore.view c.args.pages.now.store) c.in_ok-front.ensures.cause (λ told. c.in_ok-front.ensures.sound told) c.in_err-check_lists.field-0.0
    (λ told.
    let same = (c.in_ok-front.ensures.looks.still refl).state told in
    subst (λ (s : State). IsVerdict (both (slots_check s.bytes) (pages_check s.bytes)) r) same
    (c.in_err-check_lists.ensures.cause told (subst (λ (s : State). SaysSuper (page_bytes s.bytes 0) c.in_ok-front.front) (sym same) (c.in_ok-front.ensures.says told))))
    c.in_err-check_lists.ensures.dead)

pub returns-in_err-check_lists-clause-dead : goal.returns-in_err-check_lists-clause-dead
returns-in_err-check_lists-clause-dead g c =
    let exit = err_from_is_err_and c.from_residual-in_err-check_lists.result c.from_residual-in_err-check_lists.ensures.1 in
    rw (exit.1, exit.2) (λ told. absurd (c.in_err-check_lists.ensures.dead told))

pub check_tables-requires : goal.check_tables-requires
check_tables-requires g c = record {
  alive = (c.in_ok-check_lists.ensures.looks.still refl).dead ∙ (c.in_ok-front.ensures.looks.still refl).dead ∙ c.in_ok-front.ensures.cause;
  front = subst (λ (sh : Shape). IsFront sh c.in_ok-front.front) (sym (c.in_ok-check_lists.ensures.looks.shape ∙ c.in_ok-front.ensures.looks.shape)) c.in_ok-front.ensures.front;
  sound = λ told.
      subst (λ (s : State). IsSuper 1 s.bytes) (sym ((c.in_ok-check_lists.ensures.looks.still refl).state told ∙ (c.in_ok-front.ensures.looks.still refl).state told)) (c.in_ok-front.ensures.sound told);
}

pub returns-clause-looks : goal.returns-clause-looks
returns-clause-looks g c = looks_next g.S.EawStore.tells g.S.EawStore.opens _ (pages_of (g.S.EawStore.view c.args.pages.now.store) c.args.pages.now) (pages_of (g.S.EawStore.view c.check_lists.new.pages.store) c.check_lists.new.pages) (pages_of (g.S.EawStore.view c.check_tables.new.pages.store) c.check_tables.new.pages) (looks_next g.S.EawStore.tells g.S.EawStore.opens false (pages_of (g.S.EawStore.view c.args.pages.now.store) c.args.pages.now) (pages_of (g.S.EawStore.view c.check_super.new.pages.store) c.check_super.new.pages) (pages_of (g.S.EawStore.view c.check_lists.new.pages.store) c.check_lists.new.pages) c.in_ok-front.ensures.looks c.in_ok-check_lists.ensures.looks) c.check_tables.ensures.looks

pub returns-clause-cause : goal.returns-clause-cause
returns-clause-cause g c =
    let r : Result (Unit {0}) CheckFault = Ok tt in
    tables_tell tree 1 tree_of (λ b c. c) (λ b bad c. c) g.S.EawStore.tells (g.S.EawStore.view c.args.pages.now.store) c.in_ok-front.ensures.cause (λ told. c.in_ok-front.ensures.sound told)
    (λ told.
    let same = (c.in_ok-front.ensures.looks.still refl).state told in
    subst (λ (s : State). IsVerdict (both (slots_check s.bytes) (pages_check s.bytes)) r) same
    (c.in_ok-check_lists.ensures.cause told (subst (λ (s : State). SaysSuper (page_bytes s.bytes 0) c.in_ok-front.front) (sym same) (c.in_ok-front.ensures.says told))))
    c.check_tables.result
    (λ told.
    let same = (c.in_ok-check_lists.ensures.looks.still refl).state told ∙ (c.in_ok-front.ensures.looks.still refl).state told in
    subst (λ (s : State). IsVerdict (tables_check (tree_of s.bytes) 0 (tables_of s.bytes)) c.check_tables.result) same
    (c.check_tables.ensures.cause told (subst (λ (s : State). SaysSuper (page_bytes s.bytes 0) c.in_ok-front.front) (sym same) (c.in_ok-front.ensures.says told))))
    c.check_tables.ensures.dead

pub returns-clause-dead : goal.returns-clause-dead
returns-clause-dead g c = λ told. absurd (c.check_tables.ensures.dead told)

pub returns-clause-records : goal.returns-clause-records
returns-clause-records g c = λ told.
    let same = (c.in_ok-check_lists.ensures.looks.still refl).state told ∙ (c.in_ok-front.ensures.looks.still refl).state told in
    subst (λ (s : State). OnOk c.check_tables.result (c.check_tables.new.tables ≡ c.args.tables.now ++ records_of tree s.bytes)) same
    (c.check_tables.ensures.records told (subst (λ (s : State). SaysSuper (page_bytes s.bytes 0) c.in_ok-front.front) (sym same) (c.in_ok-front.ensures.says told)))

pub returns-in_err-front-clause-tests : goal.returns-in_err-front-clause-tests
returns-in_err-front-clause-tests g c =
    let exit = err_from_is_err_and c.from_residual.result c.from_residual.ensures.1 in
    rw (exit.1) (
    tests_of (tree_testing (g.S.EawStore.view c.args.pages.now.store).shape) _ (owns_index 1 tree_plan (g.S.EawStore.view c.args.pages.now.store).shape (owns_tree (g.S.EawStore.view c.args.pages.now.store).shape)) (front_err 1 tree_plan g.S.EawStore.tells (g.S.EawStore.calls c.args.pages.now.store) (g.S.EawStore.calls c.check_super.new.pages.store) (g.S.EawStore.view c.args.pages.now.store).shape (g.S.EawStore.view c.args.pages.now.store) (g.S.EawStore.view c.check_super.new.pages.store) c.in_err-front.ensures.reads.0 (page_bytes (g.S.EawStore.view c.args.pages.now.store).state.bytes 0) c.in_err-front.field-0.0 exit.0 exit.2 (IsSuper 1 (g.S.EawStore.view c.args.pages.now.store).state.bytes) c.in_err-front.ensures.cause c.in_err-front.ensures.reads.1 c.in_err-front.ensures.reads.2))

pub returns-in_err-check_lists-clause-tests : goal.returns-in_err-check_lists-clause-tests
returns-in_err-check_lists-clause-tests g c =
    let exit = err_from_is_err_and c.from_residual-in_err-check_lists.result c.from_residual-in_err-check_lists.ensures.1 in
    rw (exit.1, exit.2) (
    let r : Result (Unit {0}) CheckFault = Err c.in_err-check_lists.field-0.0 in
    tests_of (tree_testing (g.S.EawStore.view c.args.pages.now.store).shape) _ (owns_index 1 tree_plan (g.S.EawStore.view c.args.pages.now.store).shape (owns_tree (g.S.EawStore.view c.args.pages.now.store).shape)) (so_fails (c.in_ok-front.ensures.looks.still refl) c.in_ok-front.ensures.looks.shape (lists_plan (index_pages_of (g.S.EawStore.view c.args.pages.now.store).shape) c.in_ok-front.front) (tables_plan c.in_ok-front.front.next_page (tree_plan (g.S.EawStore.view c.args.pages.now.store).shape c.in_ok-front.front) 0 (tables_in c.in_ok-front.front.version c.in_ok-front.front.entries)) c.in_err-check_lists.field-0.0 (front_read 1 tree_plan g.S.EawStore.tells (g.S.EawStore.calls c.args.pages.now.store) (g.S.EawStore.calls c.check_super.new.pages.store) (g.S.EawStore.view c.args.pages.now.store).shape (g.S.EawStore.view c.args.pages.now.store) (g.S.EawStore.view c.check_super.new.pages.store) c.in_ok-front.ensures.reads.0 c.in_ok-front.front c.in_ok-front.ensures.reads.1 c.in_ok-front.ensures.reads.2) (subst (λ (s : Shape). Tries g.S.EawStore.tells (g.S.EawStore.calls c.check_super.new.pages.store) (g.S.EawStore.calls c.check_lists.new.pages.store) (lists_plan (index_pages_of s) c.in_ok-front.front) (g.S.EawStore.view c.check_super.new.pages.store) (g.S.EawStore.view c.check_lists.new.pages.store) r) c.in_ok-front.ensures.looks.shape c.in_err-check_lists.ensures.tests)))

pub returns-clause-tests : goal.returns-clause-tests
returns-clause-tests g c =
    let r : Result (Unit {0}) CheckFault = Ok tt in
    tests_of (tree_testing (g.S.EawStore.view c.args.pages.now.store).shape) _ (owns_index 1 tree_plan (g.S.EawStore.view c.args.pages.now.store).shape (owns_tree (g.S.EawStore.view c.args.pages.now.store).shape))
    (so_ends ((looks_next g.S.EawStore.tells g.S.EawStore.opens false (pages_of (g.S.EawStore.view c.args.pages.now.store) c.args.pages.now) (pages_of (g.S.EawStore.view c.check_super.new.pages.store) c.check_super.new.pages) (pages_of (g.S.EawStore.view c.check_lists.new.pages.store) c.check_lists.new.pages) c.in_ok-front.ensures.looks c.in_ok-check_lists.ensures.looks).still refl) (looks_next g.S.EawStore.tells g.S.EawStore.opens false (pages_of (g.S.EawStore.view c.args.pages.now.store) c.args.pages.now) (pages_of (g.S.EawStore.view c.check_super.new.pages.store) c.check_super.new.pages) (pages_of (g.S.EawStore.view c.check_lists.new.pages.store) c.check_lists.new.pages) c.in_ok-front.ensures.looks c.in_ok-check_lists.ensures.looks).shape (tables_plan c.in_ok-front.front.next_page (tree_plan (g.S.EawStore.view c.args.pages.now.store).shape c.in_ok-front.front) 0 (tables_in c.in_ok-front.front.version c.in_ok-front.front.entries)) c.check_tables.result (so_then (c.in_ok-front.ensures.looks.still refl) c.in_ok-front.ensures.looks.shape (lists_plan (index_pages_of (g.S.EawStore.view c.args.pages.now.store).shape) c.in_ok-front.front) (tables_plan c.in_ok-front.front.next_page (tree_plan (g.S.EawStore.view c.args.pages.now.store).shape c.in_ok-front.front) 0 (tables_in c.in_ok-front.front.version c.in_ok-front.front.entries)) tt (front_read 1 tree_plan g.S.EawStore.tells (g.S.EawStore.calls c.args.pages.now.store) (g.S.EawStore.calls c.check_super.new.pages.store) (g.S.EawStore.view c.args.pages.now.store).shape (g.S.EawStore.view c.args.pages.now.store) (g.S.EawStore.view c.check_super.new.pages.store) c.in_ok-front.ensures.reads.0 c.in_ok-front.front c.in_ok-front.ensures.reads.1 c.in_ok-front.ensures.reads.2) (subst (λ (s : Shape). Tries g.S.EawStore.tells (g.S.EawStore.calls c.check_super.new.pages.store) (g.S.EawStore.calls c.check_lists.new.pages.store) (lists_plan (index_pages_of s) c.in_ok-front.front) (g.S.EawStore.view c.check_super.new.pages.store) (g.S.EawStore.view c.check_lists.new.pages.store) r) c.in_ok-front.ensures.looks.shape c.in_ok-check_lists.ensures.tests))
    (subst (λ (s : Shape). Tries g.S.EawStore.tells (g.S.EawStore.calls c.check_lists.new.pages.store) (g.S.EawStore.calls c.check_tables.new.pages.store) (tables_plan c.in_ok-front.front.next_page (tree_plan s c.in_ok-front.front) 0 (tables_in c.in_ok-front.front.version c.in_ok-front.front.entries)) (g.S.EawStore.view c.check_lists.new.pages.store) (g.S.EawStore.view c.check_tables.new.pages.store) c.check_tables.result) (c.in_ok-check_lists.ensures.looks.shape ∙ c.in_ok-front.ensures.looks.shape) c.check_tables.ensures.tests))
