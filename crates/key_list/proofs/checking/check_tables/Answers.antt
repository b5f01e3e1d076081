use Rattle.std.proofs.Common.{◌≡◌, ◌++◌, false, Ok, Err, Result, refl, sym, ◌∙◌, subst, arith}
use Rattle.array_shape.specs.declared.shape.Shape.{Shape}
use Rattle.eaw_face.specs.State.{State}
use Rattle.record_slots.specs.Places.{page_bytes, tables_of}
use Rattle.record_slots.specs.Super.{SaysSuper}
use Rattle.page_store.specs.Shown.{pages_of}
use Rattle.page_store.specs.declared.index_fault.CheckFault.{CheckFault}
use Rattle.index_pages.specs.Fetched.{IsFront}
use Rattle.index_pages.specs.Slots.{IsVerdict}
use Rattle.index_pages.proofs.Looking.{looks_none, looks_next}
use Rattle.index_pages.proofs.Tabled.{table_own}
use Rattle.index_pages.proofs.Tables.{all_left, tables_none, tables_step, tables_fail, root_says, tables_end, none_behind}
use Rattle.index_pages.proofs.Tests.{not_damaged, not_passed}
use Rattle.page_store.specs.Records.{rows_of}
use Rattle.index_pages.proofs.Gathered.{told_step, told_none, told_end}
use Rattle.key_list.specs.Chain.{chain_check, pairs_of_chain}
use Rattle.std.proofs.Common.{ℕ, suc, ◌+◌, drop}
use Rattle.record_slots.specs.Super.{tables_in}
use Rattle.index_pages.specs.Plans.{Tries, tables_plan}
use Rattle.index_pages.proofs.Trying.{SoFar, so_first, so_passes, table_named, table_fails, table_goes, table_stops, table_over, table_last, so_stops, tables_stop}
use Rattle.key_list.specs.Tried.{chain_plan}
use Rattle.std.proofs.lemmas.Result.{err_from_is_err_and}
use Rattle.key_list.proofs.checking.check_tables.Goals as goal

pub loop-table-init : goal.loop-table-init
loop-table-init g c = record {
  looks = looks_none g.S.EawStore.tells (g.S.EawStore.opens (g.S.EawStore.view c.args.pages.now.store).shape) (pages_of (g.S.EawStore.view c.args.pages.now.store) c.args.pages.now);
  alive = c.requires.alive;
  records = λ told says. refl;
  left = λ told says. all_left (chain_check (g.S.EawStore.view c.args.pages.now.store).state.bytes) (tables_of (g.S.EawStore.view c.args.pages.now.store).state.bytes);
  tests = so_first (tables_plan c.args.front.now.next_page (chain_plan (g.S.EawStore.view c.args.pages.now.store).shape c.args.front.now) 0 (tables_in c.args.front.now.version c.args.front.now.entries));
}

pub returns-in_default-clause-cause : goal.returns-in_default-clause-cause
returns-in_default-clause-cause g c = λ told says.
    tables_none (chain_check (g.S.EawStore.view c.args.pages.now.store).state.bytes) (tables_of (g.S.EawStore.view c.args.pages.now.store).state.bytes) c.loop-table.table (c.loop-table.invariant.left told says)
    (root_says (g.S.EawStore.view c.args.pages.now.store).state.bytes c.args.front.now c.loop-table.table says ∙ sym c.table_root.ensures ∙ c.in_default.is)

pub returns-then-root-front-clause-cause : goal.returns-then-root-front-clause-cause
returns-then-root-front-clause-cause g c = λ told says.
    let own = table_own 0 (g.S.EawStore.view c.args.pages.now.store).state.bytes c.loop-table.table c.in-Some.root (c.requires.sound told) (root_says (g.S.EawStore.view c.args.pages.now.store).state.bytes c.args.front.now c.loop-table.table says ∙ sym c.table_root.ensures ∙ c.in-Some.is) in
    absurd (omega (arith, own.1, says.next_page, c.if-root-front.true))

pub check_table-requires : goal.check_table-requires
check_table-requires g c =
    let shape = c.loop-table.invariant.looks.shape in
    let front = subst (λ (s : Shape). IsFront s c.args.front.now) (sym shape) c.requires.front in
    record { alive = c.loop-table.invariant.alive; front = front; root = omega (arith, c.if-root-front.false, front.pages) }

pub returns-in_err-check_table-clause-cause : goal.returns-in_err-check_table-clause-cause
returns-in_err-check_table-clause-cause g c =
    let exit = err_from_is_err_and c.from_residual.result c.from_residual.ensures.1 in
    rw (exit.1, exit.2) (λ told says.
    let same = (c.loop-table.invariant.looks.still refl).state told in
    let e : Result (Unit {0}) CheckFault = Err c.in_err-check_table.field-0.0 in
    let cause = c.in_err-check_table.ensures.cause told (subst (λ (s : State). SaysSuper (page_bytes s.bytes 0) c.args.front.now) (sym same) says) in
    tables_fail (chain_check (g.S.EawStore.view c.args.pages.now.store).state.bytes) (tables_of (g.S.EawStore.view c.args.pages.now.store).state.bytes) c.loop-table.table (c.loop-table.invariant.left told says) c.in-Some.root
    (root_says (g.S.EawStore.view c.args.pages.now.store).state.bytes c.args.front.now c.loop-table.table says ∙ sym c.table_root.ensures ∙ c.in-Some.is) c.in_err-check_table.field-0.0
    (subst (λ (s : State). IsVerdict (chain_check s.bytes c.in-Some.root c.loop-table.table) e) same cause))

pub loop-table-preserved : goal.loop-table-preserved
loop-table-preserved g c =
    record {
      looks = looks_next g.S.EawStore.tells g.S.EawStore.opens false (pages_of (g.S.EawStore.view c.args.pages.now.store) c.args.pages.now) (pages_of (g.S.EawStore.view c.loop-table.pages.store) c.loop-table.pages) (pages_of (g.S.EawStore.view c.check_table.new.pages.store) c.check_table.new.pages) c.loop-table.invariant.looks c.in_ok-check_table.ensures.looks;
      alive = (c.in_ok-check_table.ensures.looks.still refl).dead ∙ c.loop-table.invariant.alive;
      records = λ told says.
          let b = (g.S.EawStore.view c.args.pages.now.store).state.bytes in
          let same = (c.loop-table.invariant.looks.still refl).state told in
          let own : c.check_table.new.rows ≡ rows_of b (pairs_of_chain b c.in-Some.root) =
          c.in_ok-check_table.ensures.rows told (subst (λ (s : State). SaysSuper (page_bytes s.bytes 0) c.args.front.now) (sym same) says)
          ∙ (λ i. c.new-rows.ensures i ++ rows_of (same i).bytes (pairs_of_chain (same i).bytes c.in-Some.root)) in
          told_step (λ root. rows_of b (pairs_of_chain b root)) (tables_of b) c.args.tables.now c.loop-table.table c.loop-table.tables (c.loop-table.invariant.records told says) c.in-Some.root
          (root_says b c.args.front.now c.loop-table.table says ∙ sym c.table_root.ensures ∙ c.in-Some.is) c.push.new.self c.check_table.new.rows own c.in_ok-push.ensures;
      left = λ told says.
          let same = (c.loop-table.invariant.looks.still refl).state told in
          let r : Result (Unit {0}) CheckFault = Ok tt in
          let cause = c.in_ok-check_table.ensures.cause told (subst (λ (s : State). SaysSuper (page_bytes s.bytes 0) c.args.front.now) (sym same) says) in
          tables_step (chain_check (g.S.EawStore.view c.args.pages.now.store).state.bytes) (tables_of (g.S.EawStore.view c.args.pages.now.store).state.bytes) c.loop-table.table (c.loop-table.invariant.left told says) c.in-Some.root
          (root_says (g.S.EawStore.view c.args.pages.now.store).state.bytes c.args.front.now c.loop-table.table says ∙ sym c.table_root.ensures ∙ c.in-Some.is)
          (subst (λ (s : State). IsVerdict (chain_check s.bytes c.in-Some.root c.loop-table.table) r) same cause);
      tests =
          let r : Result (Unit {0}) CheckFault = Ok tt in
          let on : suc c.loop-table.table ≡ c.loop-table.table + 1 = omega arith in
          subst (λ (n : ℕ). SoFar g.S.EawStore.tells (g.S.EawStore.calls c.args.pages.now.store) (g.S.EawStore.calls c.check_table.new.pages.store) (tables_plan c.args.front.now.next_page (chain_plan (g.S.EawStore.view c.args.pages.now.store).shape c.args.front.now) n (drop n (tables_in c.args.front.now.version c.args.front.now.entries))) (tables_plan c.args.front.now.next_page (chain_plan (g.S.EawStore.view c.args.pages.now.store).shape c.args.front.now) 0 (tables_in c.args.front.now.version c.args.front.now.entries)) (g.S.EawStore.view c.args.pages.now.store) (g.S.EawStore.view c.check_table.new.pages.store)) on
          (table_goes c.args.front.now.next_page (chain_plan (g.S.EawStore.view c.args.pages.now.store).shape c.args.front.now) (tables_in c.args.front.now.version c.args.front.now.entries) c.loop-table.table c.in-Some.root (c.loop-table.invariant.looks.still refl) c.loop-table.invariant.looks.shape (table_named c.args.front.now.next_page (chain_plan (g.S.EawStore.view c.args.pages.now.store).shape c.args.front.now) (tables_in c.args.front.now.version c.args.front.now.entries) c.loop-table.table c.in-Some.root (sym c.table_root.ensures ∙ c.in-Some.is) c.loop-table.invariant.tests (omega (arith, c.if-root-front.false))) tt (subst (λ (s : Shape). Tries g.S.EawStore.tells (g.S.EawStore.calls c.loop-table.pages.store) (g.S.EawStore.calls c.check_table.new.pages.store) (chain_plan s c.args.front.now c.in-Some.root c.loop-table.table) (g.S.EawStore.view c.loop-table.pages.store) (g.S.EawStore.view c.check_table.new.pages.store) r) c.loop-table.invariant.looks.shape c.in_ok-check_table.ensures.tests));
    }

pub returns-clause-cause : goal.returns-clause-cause
returns-clause-cause g c = λ told says.
    tables_end (chain_check (g.S.EawStore.view c.args.pages.now.store).state.bytes) (g.S.EawStore.view c.args.pages.now.store).state.bytes c.loop-table.table (omega (arith, c.loop-table-test.false)) (c.loop-table.invariant.left told says)

pub returns-in_err-check_table-clause-looks : goal.returns-in_err-check_table-clause-looks
returns-in_err-check_table-clause-looks g c =
    let exit = err_from_is_err_and c.from_residual.result c.from_residual.ensures.1 in
    rw (exit.1, exit.2) (looks_next g.S.EawStore.tells g.S.EawStore.opens _ (pages_of (g.S.EawStore.view c.args.pages.now.store) c.args.pages.now) (pages_of (g.S.EawStore.view c.loop-table.pages.store) c.loop-table.pages) (pages_of (g.S.EawStore.view c.check_table.new.pages.store) c.check_table.new.pages) c.loop-table.invariant.looks c.in_err-check_table.ensures.looks)

pub returns-in_err-check_table-clause-dead : goal.returns-in_err-check_table-clause-dead
returns-in_err-check_table-clause-dead g c =
    let exit = err_from_is_err_and c.from_residual.result c.from_residual.ensures.1 in
    rw (exit.1, exit.2) (c.in_err-check_table.ensures.dead)

pub returns-in_default-clause-looks : goal.returns-in_default-clause-looks
returns-in_default-clause-looks g c = c.loop-table.invariant.looks

pub returns-in_default-clause-dead : goal.returns-in_default-clause-dead
returns-in_default-clause-dead g c = λ told. not_passed told

pub returns-then-root-front-clause-looks : goal.returns-then-root-front-clause-looks
returns-then-root-front-clause-looks g c = c.loop-table.invariant.looks

pub returns-then-root-front-clause-dead : goal.returns-then-root-front-clause-dead
returns-then-root-front-clause-dead g c = λ told. not_damaged _ told

pub returns-clause-looks : goal.returns-clause-looks
returns-clause-looks g c = c.loop-table.invariant.looks

pub returns-clause-dead : goal.returns-clause-dead
returns-clause-dead g c = λ told. not_passed told

pub returns-in_default-clause-records : goal.returns-in_default-clause-records
returns-in_default-clause-records g c = λ told says.
    let b = (g.S.EawStore.view c.args.pages.now.store).state.bytes in
    told_none (λ root. rows_of b (pairs_of_chain b root)) (tables_of b) c.args.tables.now c.loop-table.table c.loop-table.tables (c.loop-table.invariant.records told says)
    (root_says b c.args.front.now c.loop-table.table says ∙ sym c.table_root.ensures ∙ c.in_default.is)

pub returns-clause-records : goal.returns-clause-records
returns-clause-records g c = λ told says.
    let b = (g.S.EawStore.view c.args.pages.now.store).state.bytes in
    told_end (λ root. rows_of b (pairs_of_chain b root)) (tables_of b) c.args.tables.now c.loop-table.table c.loop-table.tables (c.loop-table.invariant.records told says)
    (none_behind b c.loop-table.table (omega (arith, c.loop-table-test.false)))

pub returns-in_err-push-clause-looks : goal.returns-in_err-push-clause-looks
returns-in_err-push-clause-looks g c =
    let exit = err_from_is_err_and c.from_residual-in_err-push.result c.from_residual-in_err-push.ensures.1 in
    rw (exit.1, exit.2) (
    looks_next g.S.EawStore.tells g.S.EawStore.opens false (pages_of (g.S.EawStore.view c.args.pages.now.store) c.args.pages.now) (pages_of (g.S.EawStore.view c.loop-table.pages.store) c.loop-table.pages) (pages_of (g.S.EawStore.view c.check_table.new.pages.store) c.check_table.new.pages) c.loop-table.invariant.looks c.in_ok-check_table.ensures.looks)

pub returns-in_default-clause-tests : goal.returns-in_default-clause-tests
returns-in_default-clause-tests g c = table_over c.args.front.now.next_page (chain_plan (g.S.EawStore.view c.args.pages.now.store).shape c.args.front.now) (tables_in c.args.front.now.version c.args.front.now.entries) c.loop-table.table (sym c.table_root.ensures ∙ c.in_default.is) c.loop-table.invariant.tests

pub returns-then-root-front-clause-tests : goal.returns-then-root-front-clause-tests
returns-then-root-front-clause-tests g c = table_fails c.args.front.now.next_page (chain_plan (g.S.EawStore.view c.args.pages.now.store).shape c.args.front.now) (tables_in c.args.front.now.version c.args.front.now.entries) c.loop-table.table c.in-Some.root (sym c.table_root.ensures ∙ c.in-Some.is) c.loop-table.invariant.tests (λ less. omega (arith, less, c.if-root-front.true))

pub returns-in_err-check_table-clause-tests : goal.returns-in_err-check_table-clause-tests
returns-in_err-check_table-clause-tests g c =
    let exit = err_from_is_err_and c.from_residual.result c.from_residual.ensures.1 in
    rw (exit.1, exit.2) (
    let r : Result (Unit {0}) CheckFault = Err c.in_err-check_table.field-0.0 in
    table_stops c.args.front.now.next_page (chain_plan (g.S.EawStore.view c.args.pages.now.store).shape c.args.front.now) (tables_in c.args.front.now.version c.args.front.now.entries) c.loop-table.table c.in-Some.root (c.loop-table.invariant.looks.still refl) c.loop-table.invariant.looks.shape (table_named c.args.front.now.next_page (chain_plan (g.S.EawStore.view c.args.pages.now.store).shape c.args.front.now) (tables_in c.args.front.now.version c.args.front.now.entries) c.loop-table.table c.in-Some.root (sym c.table_root.ensures ∙ c.in-Some.is) c.loop-table.invariant.tests (omega (arith, c.if-root-front.false))) c.in_err-check_table.field-0.0 (subst (λ (s : Shape). Tries g.S.EawStore.tells (g.S.EawStore.calls c.loop-table.pages.store) (g.S.EawStore.calls c.check_table.new.pages.store) (chain_plan s c.args.front.now c.in-Some.root c.loop-table.table) (g.S.EawStore.view c.loop-table.pages.store) (g.S.EawStore.view c.check_table.new.pages.store) r) c.loop-table.invariant.looks.shape c.in_err-check_table.ensures.tests))

pub returns-in_err-push-clause-tests : goal.returns-in_err-push-clause-tests
returns-in_err-push-clause-tests g c =
    let exit = err_from_is_err_and c.from_residual-in_err-push.result c.from_residual-in_err-push.ensures.1 in
    rw (exit.1, exit.2) (
    let r : Result (Unit {0}) CheckFault = Ok tt in
    so_stops _ (table_goes c.args.front.now.next_page (chain_plan (g.S.EawStore.view c.args.pages.now.store).shape c.args.front.now) (tables_in c.args.front.now.version c.args.front.now.entries) c.loop-table.table c.in-Some.root (c.loop-table.invariant.looks.still refl) c.loop-table.invariant.looks.shape (table_named c.args.front.now.next_page (chain_plan (g.S.EawStore.view c.args.pages.now.store).shape c.args.front.now) (tables_in c.args.front.now.version c.args.front.now.entries) c.loop-table.table c.in-Some.root (sym c.table_root.ensures ∙ c.in-Some.is) c.loop-table.invariant.tests (omega (arith, c.if-root-front.false))) tt (subst (λ (s : Shape). Tries g.S.EawStore.tells (g.S.EawStore.calls c.loop-table.pages.store) (g.S.EawStore.calls c.check_table.new.pages.store) (chain_plan s c.args.front.now c.in-Some.root c.loop-table.table) (g.S.EawStore.view c.loop-table.pages.store) (g.S.EawStore.view c.check_table.new.pages.store) r) c.loop-table.invariant.looks.shape c.in_ok-check_table.ensures.tests)) (tables_stop _ _ _ _))

pub returns-clause-tests : goal.returns-clause-tests
returns-clause-tests g c = table_last c.args.front.now.next_page (chain_plan (g.S.EawStore.view c.args.pages.now.store).shape c.args.front.now) c.args.front.now.version c.args.front.now.entries c.loop-table.table (omega (arith, c.loop-table-test.false)) c.loop-table.invariant.tests
