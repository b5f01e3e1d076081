use Rattle.std.proofs.Common.{◌≡◌, ◌≤◌, ◌+◌, ◌-◌, ◌++◌, ℕ, suc, false, List, Option, None, Ok, Err, Result, refl, sym, ◌∙◌, ap, subst, arith}
use Rattle.array_shape.specs.declared.shape.Shape.{Shape}
use Rattle.eaw_face.specs.State.{State}
use Rattle.record_slots.specs.Places.{next_slot}
use Rattle.page_store.specs.Index.{slots_of}
use Rattle.page_store.specs.Pairs.{Pair}
use Rattle.page_store.specs.Shown.{pages_of}
use Rattle.page_store.specs.declared.index_fault.CheckFault.{CheckFault}
use Rattle.index_pages.specs.Held.{AreOf, IsHeld}
use Rattle.index_pages.specs.Page.{pairs_from, pair_said, pairs_said}
use Rattle.index_pages.proofs.Looking.{looks_none, looks_next}
use Rattle.index_pages.proofs.Reading.{from_step, from_end}
use Rattle.mars_base.specs.Check.{each}
use Rattle.index_pages.specs.Slots.{slot_check, IsVerdict}
use Rattle.page_store.specs.Records.{row_of}
use Rattle.index_pages.proofs.Gathered.{RowsLeft, left_row, left_none}
use Rattle.btree_pages.proofs.Checks.{whole_left, SlotsLeft, slots_step, slots_fail}
use Rattle.std.specs.Option.{option_map}
use Rattle.page_store.specs.Course.{Reading}
use Rattle.page_store.specs.Index.{index_pages_of}
use Rattle.page_store.specs.Tested.{Plan}
use Rattle.index_pages.specs.Plans.{Tries, slot_plan, slots_plan, held_of, held_after}
use Rattle.index_pages.proofs.Trying.{SoFar, so_first, so_passes, so_slot, so_slot_err, slots_stop}
use Rattle.std.proofs.lemmas.Result.{err_from_is_err_and}
use Rattle.btree_pages.proofs.checking.check_slots.Goals as goal

pub loop-i-init : goal.loop-i-init
loop-i-init g c =
    let view = g.S.EawStore.view c.args.pages.now.store in
    record {
      looks = looks_none g.S.EawStore.tells (g.S.EawStore.opens view.shape) (pages_of view c.args.pages.now);
      alive = c.requires.alive;
      rows = λ told. subst (λ (ps : List Pair). RowsLeft view.state.bytes c.args.rows.now (pairs_said c.args.bytes.now) c.args.rows.now ps) (whole_left c.args.bytes.now c.args.count c.requires.count) refl;
      held = λ told. subst (λ (o : Option ℕ). AreOf view.state.bytes c.none-held.result.bytes o) (sym c.none-held.ensures) tt;
      left = λ told slots. subst (λ (ps : List Pair). SlotsLeft view.state.bytes c.args.table c.args.page (pairs_said c.args.bytes.now) ps) (whole_left c.args.bytes.now c.args.count c.requires.count)
          (λ verdict told. told);
      tests =
          subst (λ (o : Option Reading). SoFar g.S.EawStore.tells (g.S.EawStore.calls c.args.pages.now.store) (g.S.EawStore.calls c.args.pages.now.store) (slots_plan (index_pages_of (g.S.EawStore.view c.args.pages.now.store).shape) c.args.slots c.args.table c.args.page o (pairs_from c.args.bytes.now 0 (c.args.count - 0))) (slots_plan (index_pages_of (g.S.EawStore.view c.args.pages.now.store).shape) c.args.slots c.args.table c.args.page None (pairs_said c.args.bytes.now)) (g.S.EawStore.view c.args.pages.now.store) (g.S.EawStore.view c.args.pages.now.store)) (sym (ap (λ (o : Option ℕ). option_map (λ page. (page, c.none-held.result.bytes)) o) c.none-held.ensures))
          (subst (λ (ps : List Pair). SoFar g.S.EawStore.tells (g.S.EawStore.calls c.args.pages.now.store) (g.S.EawStore.calls c.args.pages.now.store) (slots_plan (index_pages_of (g.S.EawStore.view c.args.pages.now.store).shape) c.args.slots c.args.table c.args.page None ps) (slots_plan (index_pages_of (g.S.EawStore.view c.args.pages.now.store).shape) c.args.slots c.args.table c.args.page None (pairs_said c.args.bytes.now)) (g.S.EawStore.view c.args.pages.now.store) (g.S.EawStore.view c.args.pages.now.store)) (whole_left c.args.bytes.now c.args.count c.requires.count) (so_first (slots_plan (index_pages_of (g.S.EawStore.view c.args.pages.now.store).shape) c.args.slots c.args.table c.args.page None (pairs_said c.args.bytes.now))));
    }

pub check_slot-requires : goal.check_slot-requires
check_slot-requires g c =
    let still = c.loop-i.invariant.looks.still refl in
    record {
      alive = c.loop-i.invariant.alive;
      slots = subst (λ (s : Shape). c.args.slots ≤ slots_of s) (sym c.loop-i.invariant.looks.shape) c.requires.slots;
      held = λ told. subst (λ (s : State). IsHeld s.bytes c.loop-i.held) (sym (still.state told)) (c.loop-i.invariant.held told);
    }

pub returns-in_err-check_slot-clause-cause : goal.returns-in_err-check_slot-clause-cause
returns-in_err-check_slot-clause-cause g c =
    let exit = err_from_is_err_and c.from_residual.result c.from_residual.ensures.1 in
    rw (exit.1, exit.2) (λ told slots.
    let view = g.S.EawStore.view c.args.pages.now.store in
    let same = (c.loop-i.invariant.looks.still refl).state told in
    let rest = pairs_from c.args.bytes.now (suc c.loop-i.i) (c.args.count - suc c.loop-i.i) in
    let e : Result (Unit {0}) CheckFault = Err c.in_err-check_slot.field-0.0 in
    let left = subst (λ (ps : List Pair). SlotsLeft view.state.bytes c.args.table c.args.page (pairs_said c.args.bytes.now) ps) (from_step c.args.bytes.now c.loop-i.i c.args.count c.loop-i-test.true)
    (c.loop-i.invariant.left told slots) in
    let cause = c.in_err-check_slot.ensures.cause told (slots ∙ ap (λ (s : State). next_slot s.bytes) (sym same)) in
    let cause' : IsVerdict (slot_check view.state.bytes c.args.table c.args.page (pair_said c.args.bytes.now c.loop-i.i)) e =
    subst (λ (p : Pair). IsVerdict (slot_check view.state.bytes c.args.table c.args.page p) e) c.read_pair-pair.ensures.pair (subst (λ (s : State). IsVerdict (slot_check s.bytes c.args.table c.args.page c.read_pair-pair.result) e) same cause) in
    slots_fail view.state.bytes c.args.table c.args.page (pairs_said c.args.bytes.now) (pair_said c.args.bytes.now c.loop-i.i) rest left c.in_err-check_slot.field-0.0 cause')

pub loop-i-preserved : goal.loop-i-preserved
loop-i-preserved g c =
    let view = g.S.EawStore.view c.args.pages.now.store in
    let mid = g.S.EawStore.view c.loop-i.pages.store in
    record {
      looks = looks_next g.S.EawStore.tells g.S.EawStore.opens false (pages_of view c.args.pages.now) (pages_of mid c.loop-i.pages) (pages_of (g.S.EawStore.view c.check_slot.new.pages.store) c.check_slot.new.pages)
          c.loop-i.invariant.looks c.in_ok-check_slot.ensures.looks;
      alive = (c.in_ok-check_slot.ensures.looks.still refl).dead ∙ c.loop-i.invariant.alive;
      rows = λ told.
          let same = (c.loop-i.invariant.looks.still refl).state told in
          let on : suc c.loop-i.i ≡ c.loop-i.i + 1 = omega arith in
          let left = subst (λ (ps : List Pair). RowsLeft view.state.bytes c.args.rows.now (pairs_said c.args.bytes.now) c.loop-i.rows ps) (from_step c.args.bytes.now c.loop-i.i c.args.count c.loop-i-test.true) (c.loop-i.invariant.rows told) in
          let more = c.in_ok-check_slot.ensures.rows told ∙ (λ i. c.loop-i.rows ++ row_of (same i).bytes (c.read_pair-pair.ensures.pair i)) in
          subst (λ (n : ℕ). RowsLeft view.state.bytes c.args.rows.now (pairs_said c.args.bytes.now) c.check_slot.new.rows (pairs_from c.args.bytes.now n (c.args.count - n))) on
          (left_row view.state.bytes c.args.rows.now (pairs_said c.args.bytes.now) c.loop-i.rows c.check_slot.new.rows (pair_said c.args.bytes.now c.loop-i.i) (pairs_from c.args.bytes.now (suc c.loop-i.i) (c.args.count - suc c.loop-i.i)) left more);
      held = λ told. subst (λ (s : State). IsHeld s.bytes c.check_slot.new.held) ((c.loop-i.invariant.looks.still refl).state told) (c.in_ok-check_slot.ensures.held told);
      left = λ told slots.
          let same = (c.loop-i.invariant.looks.still refl).state told in
          let rest = pairs_from c.args.bytes.now (suc c.loop-i.i) (c.args.count - suc c.loop-i.i) in
          let r : Result (Unit {0}) CheckFault = Ok tt in
          let left = subst (λ (ps : List Pair). SlotsLeft view.state.bytes c.args.table c.args.page (pairs_said c.args.bytes.now) ps) (from_step c.args.bytes.now c.loop-i.i c.args.count c.loop-i-test.true)
          (c.loop-i.invariant.left told slots) in
          let cause = c.in_ok-check_slot.ensures.cause told (slots ∙ ap (λ (s : State). next_slot s.bytes) (sym same)) in
          let cause' : IsVerdict (slot_check view.state.bytes c.args.table c.args.page (pair_said c.args.bytes.now c.loop-i.i)) r =
          subst (λ (p : Pair). IsVerdict (slot_check view.state.bytes c.args.table c.args.page p) r) c.read_pair-pair.ensures.pair (subst (λ (s : State). IsVerdict (slot_check s.bytes c.args.table c.args.page c.read_pair-pair.result) r) same cause) in
          let on : suc c.loop-i.i ≡ c.loop-i.i + 1 = omega arith in
          subst (λ (n : ℕ). SlotsLeft view.state.bytes c.args.table c.args.page (pairs_said c.args.bytes.now) (pairs_from c.args.bytes.now n (c.args.count - n))) on
          (slots_step view.state.bytes c.args.table c.args.page (pairs_said c.args.bytes.now) (pair_said c.args.bytes.now c.loop-i.i) rest left cause');
      tests =
          let on : suc c.loop-i.i ≡ c.loop-i.i + 1 = omega arith in
          let r : Result (Unit {0}) CheckFault = Ok tt in
          subst (λ (n : ℕ). SoFar g.S.EawStore.tells (g.S.EawStore.calls c.args.pages.now.store) (g.S.EawStore.calls c.check_slot.new.pages.store) (slots_plan (index_pages_of (g.S.EawStore.view c.args.pages.now.store).shape) c.args.slots c.args.table c.args.page (held_of c.check_slot.new.held) (pairs_from c.args.bytes.now n (c.args.count - n))) (slots_plan (index_pages_of (g.S.EawStore.view c.args.pages.now.store).shape) c.args.slots c.args.table c.args.page None (pairs_said c.args.bytes.now)) (g.S.EawStore.view c.args.pages.now.store) (g.S.EawStore.view c.check_slot.new.pages.store)) on
          (so_slot (index_pages_of (g.S.EawStore.view c.args.pages.now.store).shape) c.args.slots c.args.table c.args.page (held_of c.loop-i.held) (pair_said c.args.bytes.now c.loop-i.i) (λ (now : Option Reading). slots_plan (index_pages_of (g.S.EawStore.view c.args.pages.now.store).shape) c.args.slots c.args.table c.args.page now (pairs_from c.args.bytes.now (suc c.loop-i.i) (c.args.count - suc c.loop-i.i))) (c.loop-i.invariant.looks.still refl) c.loop-i.invariant.looks.shape
          (subst (λ (ps : List Pair). SoFar g.S.EawStore.tells (g.S.EawStore.calls c.args.pages.now.store) (g.S.EawStore.calls c.loop-i.pages.store) (slots_plan (index_pages_of (g.S.EawStore.view c.args.pages.now.store).shape) c.args.slots c.args.table c.args.page (held_of c.loop-i.held) ps) (slots_plan (index_pages_of (g.S.EawStore.view c.args.pages.now.store).shape) c.args.slots c.args.table c.args.page None (pairs_said c.args.bytes.now)) (g.S.EawStore.view c.args.pages.now.store) (g.S.EawStore.view c.loop-i.pages.store)) (from_step c.args.bytes.now c.loop-i.i c.args.count c.loop-i-test.true) c.loop-i.invariant.tests) tt c.check_slot.new.held
          (subst (λ (n : ℕ). Tries g.S.EawStore.tells (g.S.EawStore.calls c.loop-i.pages.store) (g.S.EawStore.calls c.check_slot.new.pages.store) (slot_plan n c.args.slots c.args.table c.args.page (held_of c.loop-i.held) (pair_said c.args.bytes.now c.loop-i.i) (held_after r c.check_slot.new.held)) (g.S.EawStore.view c.loop-i.pages.store) (g.S.EawStore.view c.check_slot.new.pages.store) r) (ap index_pages_of c.loop-i.invariant.looks.shape)
          (subst (λ (p : Pair). Tries g.S.EawStore.tells (g.S.EawStore.calls c.loop-i.pages.store) (g.S.EawStore.calls c.check_slot.new.pages.store) (slot_plan (index_pages_of (g.S.EawStore.view c.loop-i.pages.store).shape) c.args.slots c.args.table c.args.page (held_of c.loop-i.held) p (held_after r c.check_slot.new.held)) (g.S.EawStore.view c.loop-i.pages.store) (g.S.EawStore.view c.check_slot.new.pages.store) r) c.read_pair-pair.ensures.pair c.in_ok-check_slot.ensures.tests)));
    }

pub returns-clause-cause : goal.returns-clause-cause
returns-clause-cause g c = λ told slots.
    let view = g.S.EawStore.view c.args.pages.now.store in
    c.loop-i.invariant.left told slots None (subst (λ (ps : List Pair). each (slot_check view.state.bytes c.args.table c.args.page) ps None) (sym (from_end c.args.bytes.now c.loop-i.i c.args.count c.loop-i-test.false)) tt)

pub returns-clause-rows : goal.returns-clause-rows
returns-clause-rows g c = λ told.
    let view = g.S.EawStore.view c.args.pages.now.store in
    left_none view.state.bytes c.args.rows.now (pairs_said c.args.bytes.now) c.loop-i.rows
    (subst (λ (ps : List Pair). RowsLeft view.state.bytes c.args.rows.now (pairs_said c.args.bytes.now) c.loop-i.rows ps) (from_end c.args.bytes.now c.loop-i.i c.args.count c.loop-i-test.false) (c.loop-i.invariant.rows told))

pub returns-in_err-check_slot-clause-looks : goal.returns-in_err-check_slot-clause-looks
returns-in_err-check_slot-clause-looks g c =
    let exit = err_from_is_err_and c.from_residual.result c.from_residual.ensures.1 in
    rw (exit.1, exit.2) (
    looks_next g.S.EawStore.tells g.S.EawStore.opens _ (pages_of (g.S.EawStore.view c.args.pages.now.store) c.args.pages.now) (pages_of (g.S.EawStore.view c.loop-i.pages.store) c.loop-i.pages)
    (pages_of (g.S.EawStore.view c.check_slot.new.pages.store) c.check_slot.new.pages) c.loop-i.invariant.looks c.in_err-check_slot.ensures.looks)

pub returns-in_err-check_slot-clause-tests : goal.returns-in_err-check_slot-clause-tests
returns-in_err-check_slot-clause-tests g c =
    let exit = err_from_is_err_and c.from_residual.result c.from_residual.ensures.1 in
    rw (exit.1, exit.2) (
    let r : Result (Unit {0}) CheckFault = Err c.in_err-check_slot.field-0.0 in
    so_slot_err (index_pages_of (g.S.EawStore.view c.args.pages.now.store).shape) c.args.slots c.args.table c.args.page (held_of c.loop-i.held) (pair_said c.args.bytes.now c.loop-i.i) (λ (now : Option Reading). slots_plan (index_pages_of (g.S.EawStore.view c.args.pages.now.store).shape) c.args.slots c.args.table c.args.page now (pairs_from c.args.bytes.now (suc c.loop-i.i) (c.args.count - suc c.loop-i.i))) (c.loop-i.invariant.looks.still refl) c.loop-i.invariant.looks.shape
    (subst (λ (ps : List Pair). SoFar g.S.EawStore.tells (g.S.EawStore.calls c.args.pages.now.store) (g.S.EawStore.calls c.loop-i.pages.store) (slots_plan (index_pages_of (g.S.EawStore.view c.args.pages.now.store).shape) c.args.slots c.args.table c.args.page (held_of c.loop-i.held) ps) (slots_plan (index_pages_of (g.S.EawStore.view c.args.pages.now.store).shape) c.args.slots c.args.table c.args.page None (pairs_said c.args.bytes.now)) (g.S.EawStore.view c.args.pages.now.store) (g.S.EawStore.view c.loop-i.pages.store)) (from_step c.args.bytes.now c.loop-i.i c.args.count c.loop-i-test.true) c.loop-i.invariant.tests) c.in_err-check_slot.field-0.0 (λ now. slots_stop _ _ _ _ _ now)
    (subst (λ (n : ℕ). Tries g.S.EawStore.tells (g.S.EawStore.calls c.loop-i.pages.store) (g.S.EawStore.calls c.check_slot.new.pages.store) (slot_plan n c.args.slots c.args.table c.args.page (held_of c.loop-i.held) (pair_said c.args.bytes.now c.loop-i.i) (held_after r c.check_slot.new.held)) (g.S.EawStore.view c.loop-i.pages.store) (g.S.EawStore.view c.check_slot.new.pages.store) r) (ap index_pages_of c.loop-i.invariant.looks.shape)
    (subst (λ (p : Pair). Tries g.S.EawStore.tells (g.S.EawStore.calls c.loop-i.pages.store) (g.S.EawStore.calls c.check_slot.new.pages.store) (slot_plan (index_pages_of (g.S.EawStore.view c.loop-i.pages.store).shape) c.args.slots c.args.table c.args.page (held_of c.loop-i.held) p (held_after r c.check_slot.new.held)) (g.S.EawStore.view c.loop-i.pages.store) (g.S.EawStore.view c.check_slot.new.pages.store) r) c.read_pair-pair.ensures.pair c.in_err-check_slot.ensures.tests)))

pub returns-clause-tests : goal.returns-clause-tests
returns-clause-tests g c =
    so_passes tt (subst (λ (ps : List Pair). SoFar g.S.EawStore.tells (g.S.EawStore.calls c.args.pages.now.store) (g.S.EawStore.calls c.loop-i.pages.store) (slots_plan (index_pages_of (g.S.EawStore.view c.args.pages.now.store).shape) c.args.slots c.args.table c.args.page (held_of c.loop-i.held) ps) (slots_plan (index_pages_of (g.S.EawStore.view c.args.pages.now.store).shape) c.args.slots c.args.table c.args.page None (pairs_said c.args.bytes.now)) (g.S.EawStore.view c.args.pages.now.store) (g.S.EawStore.view c.loop-i.pages.store)) (from_end c.args.bytes.now c.loop-i.i c.args.count c.loop-i-test.false) c.loop-i.invariant.tests)
