use Rattle.std.proofs.Common.{◌≡◌, ◌≤◌, ◌+◌, ◌-◌, ◌++◌, ℕ, suc, false, List, Option, None, Ok, Err, Result, refl, sym, ◌∙◌, ap, subst, arith}
use Rattle.array_shape.specs.declared.shape.Shape.{Shape}
use Rattle.eaw_face.specs.State.{State}
use Rattle.record_slots.specs.Places.{next_slot}
use Rattle.page_store.specs.Index.{slots_of}
use Rattle.page_store.specs.Pairs.{Pair}
use Rattle.page_store.specs.Shown.{pages_of}
use Rattle.page_store.specs.declared.index_fault.CheckFault.{CheckFault}
use Rattle.index_pages.specs.Held.{AreOf, IsHeld}
use Rattle.index_pages.specs.Page.{pairs_from, pair_said, pairs_said, count_said}
use Rattle.index_pages.proofs.Looking.{looks_none, looks_next}
use Rattle.index_pages.proofs.Reading.{from_first, from_step, from_end}
use Rattle.index_pages.specs.Slots.{IsVerdict}
use Rattle.key_list.specs.Chain.{behind, pair_check}
use Rattle.key_list.specs.Checked.{low_of}
use Rattle.page_store.specs.Records.{row_of}
use Rattle.index_pages.proofs.Gathered.{RowsLeft, left_row, left_none}
use Rattle.key_list.proofs.Testing.{PairsLeft, left_step, left_fails}
use Rattle.page_store.specs.Looks.{is_check_failed}
use Rattle.std.specs.Option.{option_map}
use Rattle.page_store.specs.Course.{Reading}
use Rattle.page_store.specs.Index.{index_pages_of}
use Rattle.page_store.specs.Tested.{Plan, holding}
use Rattle.index_pages.specs.Plans.{Tries, slot_plan, held_of, held_after}
use Rattle.index_pages.proofs.Trying.{SoFar, so_first, so_passes}
use Rattle.key_list.specs.Tried.{pairs_plan}
use Rattle.key_list.proofs.Trials.{so_pair, so_pair_err, pairs_stop}
use Rattle.std.proofs.lemmas.Result.{err_from_is_err_and}
use Rattle.key_list.proofs.checking.check_pairs.Goals as goal

pub loop-i-init : goal.loop-i-init
loop-i-init g c =
    let view = g.S.EawStore.view c.args.pages.now.store in
    let all : pairs_said c.args.bytes.now ≡ pairs_from c.args.bytes.now 0 (c.args.count - 0) =
    from_first c.args.bytes.now ∙ ap (λ (n : ℕ). pairs_from c.args.bytes.now 0 n) (let e : count_said c.args.bytes.now ≡ c.args.count - 0 = omega (arith, c.requires.count) in e) in
    record {
      looks = looks_none g.S.EawStore.tells (g.S.EawStore.opens view.shape) (pages_of view c.args.pages.now);
      alive = c.requires.alive;
      rows = λ told. subst (λ (ps : List Pair). RowsLeft view.state.bytes c.args.rows.now (pairs_said c.args.bytes.now) c.args.rows.now ps) all refl;
      held = λ told. subst (λ (o : Option ℕ). AreOf view.state.bytes c.none-held.result.bytes o) (sym c.none-held.ensures) tt;
      low = c.requires.low;
      left = λ told slots. subst (λ (ps : List Pair). PairsLeft view.state.bytes c.args.table c.args.page (low_of c.args.last) (pairs_said c.args.bytes.now) (low_of c.args.last) ps) all
          (λ verdict told. told);
      ends = ap (λ (ps : List Pair). behind (low_of c.args.last) ps) (sym all);
      tests =
          subst (λ (o : Option Reading). SoFar g.S.EawStore.tells (g.S.EawStore.calls c.args.pages.now.store) (g.S.EawStore.calls c.args.pages.now.store) (pairs_plan (index_pages_of (g.S.EawStore.view c.args.pages.now.store).shape) c.args.slots c.args.table c.args.page (low_of c.args.last) o (pairs_from c.args.bytes.now 0 (c.args.count - 0))) (pairs_plan (index_pages_of (g.S.EawStore.view c.args.pages.now.store).shape) c.args.slots c.args.table c.args.page (low_of c.args.last) None (pairs_said c.args.bytes.now)) (g.S.EawStore.view c.args.pages.now.store) (g.S.EawStore.view c.args.pages.now.store)) (sym (ap (λ (o : Option ℕ). option_map (λ page. (page, c.none-held.result.bytes)) o) c.none-held.ensures))
          (subst (λ (ps : List Pair). SoFar g.S.EawStore.tells (g.S.EawStore.calls c.args.pages.now.store) (g.S.EawStore.calls c.args.pages.now.store) (pairs_plan (index_pages_of (g.S.EawStore.view c.args.pages.now.store).shape) c.args.slots c.args.table c.args.page (low_of c.args.last) None ps) (pairs_plan (index_pages_of (g.S.EawStore.view c.args.pages.now.store).shape) c.args.slots c.args.table c.args.page (low_of c.args.last) None (pairs_said c.args.bytes.now)) (g.S.EawStore.view c.args.pages.now.store) (g.S.EawStore.view c.args.pages.now.store)) all (so_first (pairs_plan (index_pages_of (g.S.EawStore.view c.args.pages.now.store).shape) c.args.slots c.args.table c.args.page (low_of c.args.last) None (pairs_said c.args.bytes.now))));
    }

pub check_pair-requires : goal.check_pair-requires
check_pair-requires g c =
    let still = c.loop-i.invariant.looks.still refl in
    record {
      alive = c.loop-i.invariant.alive;
      slots = subst (λ (s : Shape). c.args.slots ≤ slots_of s) (sym c.loop-i.invariant.looks.shape) c.requires.slots;
      held = λ told. subst (λ (s : State). IsHeld s.bytes c.loop-i.held) (sym (still.state told)) (c.loop-i.invariant.held told);
    }

pub returns-in_err-check_pair-clause-cause : goal.returns-in_err-check_pair-clause-cause
returns-in_err-check_pair-clause-cause g c =
    let exit = err_from_is_err_and c.from_residual.result c.from_residual.ensures.1 in
    rw (exit.1, exit.2) (λ told slots.
    let view = g.S.EawStore.view c.args.pages.now.store in
    let mid = g.S.EawStore.view c.loop-i.pages.store in
    let same = (c.loop-i.invariant.looks.still refl).state told in
    let rest = pairs_from c.args.bytes.now (suc c.loop-i.i) (c.args.count - suc c.loop-i.i) in
    let e : Result (Unit {0}) CheckFault = Err c.in_err-check_pair.field-0.0 in
    let left = subst (λ (ps : List Pair). PairsLeft view.state.bytes c.args.table c.args.page (low_of c.args.last) (pairs_said c.args.bytes.now) (low_of c.loop-i.last) ps)
    (from_step c.args.bytes.now c.loop-i.i c.args.count c.loop-i-test.true) (c.loop-i.invariant.left told slots) in
    let cause : IsVerdict (pair_check mid.state.bytes c.args.table c.args.page (low_of c.loop-i.last) c.read_pair-key.result) e = c.in_err-check_pair.ensures.cause told (slots ∙ ap (λ (s : State). next_slot s.bytes) (sym same)) in
    let cause' : IsVerdict (pair_check view.state.bytes c.args.table c.args.page (low_of c.loop-i.last) (pair_said c.args.bytes.now c.loop-i.i)) e =
    subst (λ (p : Pair). IsVerdict (pair_check view.state.bytes c.args.table c.args.page (low_of c.loop-i.last) p) e) c.read_pair-key.ensures.pair
    (subst (λ (s : State). IsVerdict (pair_check s.bytes c.args.table c.args.page (low_of c.loop-i.last) c.read_pair-key.result) e) same cause) in
    left_fails view.state.bytes c.args.table c.args.page (low_of c.args.last) (pairs_said c.args.bytes.now) (low_of c.loop-i.last) (pair_said c.args.bytes.now c.loop-i.i) rest left c.in_err-check_pair.field-0.0 cause')

pub loop-i-preserved : goal.loop-i-preserved
loop-i-preserved g c =
    let view = g.S.EawStore.view c.args.pages.now.store in
    let mid = g.S.EawStore.view c.loop-i.pages.store in
    record {
      looks = looks_next g.S.EawStore.tells g.S.EawStore.opens false (pages_of view c.args.pages.now) (pages_of mid c.loop-i.pages) (pages_of (g.S.EawStore.view c.check_pair.new.pages.store) c.check_pair.new.pages)
          c.loop-i.invariant.looks c.in_ok-check_pair.ensures.looks;
      alive = (c.in_ok-check_pair.ensures.looks.still refl).dead ∙ c.loop-i.invariant.alive;
      rows = λ told.
          let same = (c.loop-i.invariant.looks.still refl).state told in
          let on : suc c.loop-i.i ≡ c.loop-i.i + 1 = omega arith in
          let left = subst (λ (ps : List Pair). RowsLeft view.state.bytes c.args.rows.now (pairs_said c.args.bytes.now) c.loop-i.rows ps) (from_step c.args.bytes.now c.loop-i.i c.args.count c.loop-i-test.true) (c.loop-i.invariant.rows told) in
          let more = c.in_ok-check_pair.ensures.rows told ∙ (λ i. c.loop-i.rows ++ row_of (same i).bytes (c.read_pair-key.ensures.pair i)) in
          subst (λ (n : ℕ). RowsLeft view.state.bytes c.args.rows.now (pairs_said c.args.bytes.now) c.check_pair.new.rows (pairs_from c.args.bytes.now n (c.args.count - n))) on
          (left_row view.state.bytes c.args.rows.now (pairs_said c.args.bytes.now) c.loop-i.rows c.check_pair.new.rows (pair_said c.args.bytes.now c.loop-i.i) (pairs_from c.args.bytes.now (suc c.loop-i.i) (c.args.count - suc c.loop-i.i)) left more);
      held = λ told. subst (λ (s : State). IsHeld s.bytes c.check_pair.new.held) ((c.loop-i.invariant.looks.still refl).state told) (c.in_ok-check_pair.ensures.held told);
      low = c.read_pair-key.ensures.small.0;
      ends =
          let on : suc c.loop-i.i ≡ c.loop-i.i + 1 = omega arith in
          subst (λ (p : Pair). behind (suc p.0) (pairs_from c.args.bytes.now (c.loop-i.i + 1) (c.args.count - (c.loop-i.i + 1))) ≡ behind (low_of c.args.last) (pairs_said c.args.bytes.now)) (sym c.read_pair-key.ensures.pair)
          (subst (λ (n : ℕ). behind (suc (pair_said c.args.bytes.now c.loop-i.i).0) (pairs_from c.args.bytes.now n (c.args.count - n)) ≡ behind (low_of c.args.last) (pairs_said c.args.bytes.now)) on
          (ap (λ (ps : List Pair). behind (low_of c.loop-i.last) ps) (sym (from_step c.args.bytes.now c.loop-i.i c.args.count c.loop-i-test.true)) ∙ c.loop-i.invariant.ends));
      left = λ told slots.
          let same = (c.loop-i.invariant.looks.still refl).state told in
          let rest = pairs_from c.args.bytes.now (suc c.loop-i.i) (c.args.count - suc c.loop-i.i) in
          let r : Result (Unit {0}) CheckFault = Ok tt in
          let left = subst (λ (ps : List Pair). PairsLeft view.state.bytes c.args.table c.args.page (low_of c.args.last) (pairs_said c.args.bytes.now) (low_of c.loop-i.last) ps)
          (from_step c.args.bytes.now c.loop-i.i c.args.count c.loop-i-test.true) (c.loop-i.invariant.left told slots) in
          let cause : IsVerdict (pair_check mid.state.bytes c.args.table c.args.page (low_of c.loop-i.last) c.read_pair-key.result) r = c.in_ok-check_pair.ensures.cause told (slots ∙ ap (λ (s : State). next_slot s.bytes) (sym same)) in
          let cause' : IsVerdict (pair_check view.state.bytes c.args.table c.args.page (low_of c.loop-i.last) (pair_said c.args.bytes.now c.loop-i.i)) r =
          subst (λ (p : Pair). IsVerdict (pair_check view.state.bytes c.args.table c.args.page (low_of c.loop-i.last) p) r) c.read_pair-key.ensures.pair
          (subst (λ (s : State). IsVerdict (pair_check s.bytes c.args.table c.args.page (low_of c.loop-i.last) c.read_pair-key.result) r) same cause) in
          let next = left_step view.state.bytes c.args.table c.args.page (low_of c.args.last) (pairs_said c.args.bytes.now) (low_of c.loop-i.last) (pair_said c.args.bytes.now c.loop-i.i) rest left cause' in
          let on : suc c.loop-i.i ≡ c.loop-i.i + 1 = omega arith in
          subst (λ (p : Pair). PairsLeft view.state.bytes c.args.table c.args.page (low_of c.args.last) (pairs_said c.args.bytes.now) (suc p.0) (pairs_from c.args.bytes.now (c.loop-i.i + 1) (c.args.count - (c.loop-i.i + 1)))) (sym c.read_pair-key.ensures.pair)
          (subst (λ (n : ℕ). PairsLeft view.state.bytes c.args.table c.args.page (low_of c.args.last) (pairs_said c.args.bytes.now) (suc (pair_said c.args.bytes.now c.loop-i.i).0) (pairs_from c.args.bytes.now n (c.args.count - n))) on next);
      tests =
          let on : suc c.loop-i.i ≡ c.loop-i.i + 1 = omega arith in
          let r : Result (Unit {0}) CheckFault = Ok tt in
          subst (λ (p : Pair). SoFar g.S.EawStore.tells (g.S.EawStore.calls c.args.pages.now.store) (g.S.EawStore.calls c.check_pair.new.pages.store) (pairs_plan (index_pages_of (g.S.EawStore.view c.args.pages.now.store).shape) c.args.slots c.args.table c.args.page (suc p.0) (held_of c.check_pair.new.held) (pairs_from c.args.bytes.now (c.loop-i.i + 1) (c.args.count - (c.loop-i.i + 1)))) (pairs_plan (index_pages_of (g.S.EawStore.view c.args.pages.now.store).shape) c.args.slots c.args.table c.args.page (low_of c.args.last) None (pairs_said c.args.bytes.now)) (g.S.EawStore.view c.args.pages.now.store) (g.S.EawStore.view c.check_pair.new.pages.store)) (sym c.read_pair-key.ensures.pair)
          (subst (λ (n : ℕ). SoFar g.S.EawStore.tells (g.S.EawStore.calls c.args.pages.now.store) (g.S.EawStore.calls c.check_pair.new.pages.store) (pairs_plan (index_pages_of (g.S.EawStore.view c.args.pages.now.store).shape) c.args.slots c.args.table c.args.page (suc (pair_said c.args.bytes.now c.loop-i.i).0) (held_of c.check_pair.new.held) (pairs_from c.args.bytes.now n (c.args.count - n))) (pairs_plan (index_pages_of (g.S.EawStore.view c.args.pages.now.store).shape) c.args.slots c.args.table c.args.page (low_of c.args.last) None (pairs_said c.args.bytes.now)) (g.S.EawStore.view c.args.pages.now.store) (g.S.EawStore.view c.check_pair.new.pages.store)) on
          (so_pair (index_pages_of (g.S.EawStore.view c.args.pages.now.store).shape) c.args.slots c.args.table c.args.page (low_of c.loop-i.last) (held_of c.loop-i.held) (pair_said c.args.bytes.now c.loop-i.i) (λ (now : Option Reading). pairs_plan (index_pages_of (g.S.EawStore.view c.args.pages.now.store).shape) c.args.slots c.args.table c.args.page (suc (pair_said c.args.bytes.now c.loop-i.i).0) now (pairs_from c.args.bytes.now (suc c.loop-i.i) (c.args.count - suc c.loop-i.i))) (c.loop-i.invariant.looks.still refl) c.loop-i.invariant.looks.shape (subst (λ (ps : List Pair). SoFar g.S.EawStore.tells (g.S.EawStore.calls c.args.pages.now.store) (g.S.EawStore.calls c.loop-i.pages.store) (pairs_plan (index_pages_of (g.S.EawStore.view c.args.pages.now.store).shape) c.args.slots c.args.table c.args.page (low_of c.loop-i.last) (held_of c.loop-i.held) ps) (pairs_plan (index_pages_of (g.S.EawStore.view c.args.pages.now.store).shape) c.args.slots c.args.table c.args.page (low_of c.args.last) None (pairs_said c.args.bytes.now)) (g.S.EawStore.view c.args.pages.now.store) (g.S.EawStore.view c.loop-i.pages.store)) (from_step c.args.bytes.now c.loop-i.i c.args.count c.loop-i-test.true) c.loop-i.invariant.tests) tt c.check_pair.new.held (subst (λ (n : ℕ). Tries g.S.EawStore.tells (g.S.EawStore.calls c.loop-i.pages.store) (g.S.EawStore.calls c.check_pair.new.pages.store) (holding (low_of c.loop-i.last ≤ (pair_said c.args.bytes.now c.loop-i.i).0) c.args.page (slot_plan n c.args.slots c.args.table c.args.page (held_of c.loop-i.held) (pair_said c.args.bytes.now c.loop-i.i) (held_after r c.check_pair.new.held))) (g.S.EawStore.view c.loop-i.pages.store) (g.S.EawStore.view c.check_pair.new.pages.store) r) (ap index_pages_of c.loop-i.invariant.looks.shape)
          (subst (λ (p : Pair). Tries g.S.EawStore.tells (g.S.EawStore.calls c.loop-i.pages.store) (g.S.EawStore.calls c.check_pair.new.pages.store) (holding (low_of c.loop-i.last ≤ p.0) c.args.page (slot_plan (index_pages_of (g.S.EawStore.view c.loop-i.pages.store).shape) c.args.slots c.args.table c.args.page (held_of c.loop-i.held) p (held_after r c.check_pair.new.held))) (g.S.EawStore.view c.loop-i.pages.store) (g.S.EawStore.view c.check_pair.new.pages.store) r) c.read_pair-key.ensures.pair c.in_ok-check_pair.ensures.tests))));
    }

pub returns-clause-cause : goal.returns-clause-cause
returns-clause-cause g c = λ told slots.
    let view = g.S.EawStore.view c.args.pages.now.store in
    let left = subst (λ (ps : List Pair). PairsLeft view.state.bytes c.args.table c.args.page (low_of c.args.last) (pairs_said c.args.bytes.now) (low_of c.loop-i.last) ps)
    (from_end c.args.bytes.now c.loop-i.i c.args.count c.loop-i-test.false) (c.loop-i.invariant.left told slots) in
    left None c.loop-i.invariant.low

pub returns-clause-behind : goal.returns-clause-behind
returns-clause-behind g c =
    ap (λ (ps : List Pair). behind (low_of c.loop-i.last) ps) (sym (from_end c.args.bytes.now c.loop-i.i c.args.count c.loop-i-test.false)) ∙ c.loop-i.invariant.ends

pub returns-clause-rows : goal.returns-clause-rows
returns-clause-rows g c = λ told.
    let view = g.S.EawStore.view c.args.pages.now.store in
    left_none view.state.bytes c.args.rows.now (pairs_said c.args.bytes.now) c.loop-i.rows
    (subst (λ (ps : List Pair). RowsLeft view.state.bytes c.args.rows.now (pairs_said c.args.bytes.now) c.loop-i.rows ps) (from_end c.args.bytes.now c.loop-i.i c.args.count c.loop-i-test.false) (c.loop-i.invariant.rows told))

pub returns-in_err-check_pair-clause-looks : goal.returns-in_err-check_pair-clause-looks
returns-in_err-check_pair-clause-looks g c =
    let exit = err_from_is_err_and c.from_residual.result c.from_residual.ensures.1 in
    rw (exit.1, exit.2) (
    let r : Result (Option ℕ) CheckFault = Err c.in_err-check_pair.field-0.0 in
    looks_next g.S.EawStore.tells g.S.EawStore.opens (is_check_failed r) (pages_of (g.S.EawStore.view c.args.pages.now.store) c.args.pages.now) (pages_of (g.S.EawStore.view c.loop-i.pages.store) c.loop-i.pages) (pages_of (g.S.EawStore.view c.check_pair.new.pages.store) c.check_pair.new.pages) c.loop-i.invariant.looks c.in_err-check_pair.ensures.looks)

pub returns-in_err-check_pair-clause-tests : goal.returns-in_err-check_pair-clause-tests
returns-in_err-check_pair-clause-tests g c =
    let exit = err_from_is_err_and c.from_residual.result c.from_residual.ensures.1 in
    rw (exit.1, exit.2) (
    let r : Result (Unit {0}) CheckFault = Err c.in_err-check_pair.field-0.0 in
    so_pair_err (index_pages_of (g.S.EawStore.view c.args.pages.now.store).shape) c.args.slots c.args.table c.args.page (low_of c.loop-i.last) (held_of c.loop-i.held) (pair_said c.args.bytes.now c.loop-i.i) (λ (now : Option Reading). pairs_plan (index_pages_of (g.S.EawStore.view c.args.pages.now.store).shape) c.args.slots c.args.table c.args.page (suc (pair_said c.args.bytes.now c.loop-i.i).0) now (pairs_from c.args.bytes.now (suc c.loop-i.i) (c.args.count - suc c.loop-i.i))) (c.loop-i.invariant.looks.still refl) c.loop-i.invariant.looks.shape (subst (λ (ps : List Pair). SoFar g.S.EawStore.tells (g.S.EawStore.calls c.args.pages.now.store) (g.S.EawStore.calls c.loop-i.pages.store) (pairs_plan (index_pages_of (g.S.EawStore.view c.args.pages.now.store).shape) c.args.slots c.args.table c.args.page (low_of c.loop-i.last) (held_of c.loop-i.held) ps) (pairs_plan (index_pages_of (g.S.EawStore.view c.args.pages.now.store).shape) c.args.slots c.args.table c.args.page (low_of c.args.last) None (pairs_said c.args.bytes.now)) (g.S.EawStore.view c.args.pages.now.store) (g.S.EawStore.view c.loop-i.pages.store)) (from_step c.args.bytes.now c.loop-i.i c.args.count c.loop-i-test.true) c.loop-i.invariant.tests) c.in_err-check_pair.field-0.0 (λ now. pairs_stop _ _ _ _ _ now _) (subst (λ (n : ℕ). Tries g.S.EawStore.tells (g.S.EawStore.calls c.loop-i.pages.store) (g.S.EawStore.calls c.check_pair.new.pages.store) (holding (low_of c.loop-i.last ≤ (pair_said c.args.bytes.now c.loop-i.i).0) c.args.page (slot_plan n c.args.slots c.args.table c.args.page (held_of c.loop-i.held) (pair_said c.args.bytes.now c.loop-i.i) (held_after r c.check_pair.new.held))) (g.S.EawStore.view c.loop-i.pages.store) (g.S.EawStore.view c.check_pair.new.pages.store) r) (ap index_pages_of c.loop-i.invariant.looks.shape)
    (subst (λ (p : Pair). Tries g.S.EawStore.tells (g.S.EawStore.calls c.loop-i.pages.store) (g.S.EawStore.calls c.check_pair.new.pages.store) (holding (low_of c.loop-i.last ≤ p.0) c.args.page (slot_plan (index_pages_of (g.S.EawStore.view c.loop-i.pages.store).shape) c.args.slots c.args.table c.args.page (held_of c.loop-i.held) p (held_after r c.check_pair.new.held))) (g.S.EawStore.view c.loop-i.pages.store) (g.S.EawStore.view c.check_pair.new.pages.store) r) c.read_pair-key.ensures.pair c.in_err-check_pair.ensures.tests)))

pub returns-clause-tests : goal.returns-clause-tests
returns-clause-tests g c = so_passes c.loop-i.last (subst (λ (ps : List Pair). SoFar g.S.EawStore.tells (g.S.EawStore.calls c.args.pages.now.store) (g.S.EawStore.calls c.loop-i.pages.store) (pairs_plan (index_pages_of (g.S.EawStore.view c.args.pages.now.store).shape) c.args.slots c.args.table c.args.page (low_of c.loop-i.last) (held_of c.loop-i.held) ps) (pairs_plan (index_pages_of (g.S.EawStore.view c.args.pages.now.store).shape) c.args.slots c.args.table c.args.page (low_of c.args.last) None (pairs_said c.args.bytes.now)) (g.S.EawStore.view c.args.pages.now.store) (g.S.EawStore.view c.loop-i.pages.store)) (from_end c.args.bytes.now c.loop-i.i c.args.count c.loop-i-test.false) c.loop-i.invariant.tests)
