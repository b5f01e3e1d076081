use Rattle.std.proofs.Common.{◌≤◌, ◌≡◌, ◌≢◌, ◌+◌, ◌-◌, ◌++◌, ℕ, suc, false, List, None, Ok, Err, Result, refl, sym, ◌∙◌, ap, subst, arith}
use Rattle.std.specs.Prelude.{OnOk}
use Rattle.std.proofs.lemmas.Bool.{false≢true}
use Rattle.array_shape.specs.declared.shape.Shape.{Shape}
use Rattle.eaw_face.specs.State.{State}
use Rattle.page_store.specs.Pairs.{Pair}
use Rattle.page_store.specs.Index.{index_pages_of}
use Rattle.page_store.specs.Shown.{pages_of}
use Rattle.page_store.specs.declared.index_fault.CheckFault.{CheckFault}
use Rattle.index_pages.specs.Fetched.{IsFront}
use Rattle.index_pages.specs.Page.{pairs_from, pair_said, pairs_said, page_pairs}
use Rattle.index_pages.proofs.Looking.{looks_none, looks_next}
use Rattle.index_pages.proofs.Sizes.{index_pages_most}
use Rattle.index_pages.proofs.Reading.{from_step, from_end}
use Rattle.btree_pages.specs.Checked.{high_of, IsFrontOf}
use Rattle.page_store.specs.Records.{rows_of}
use Rattle.index_pages.specs.Pieces.{joined}
use Rattle.index_pages.proofs.Gathered.{RowsLeft, left_more, left_none}
use Rattle.btree_laws.specs.Tree.{AreChildren, next_low, children_check, tree_from, pieces_with, pairs_under}
use Rattle.index_pages.specs.Slots.{IsVerdict}
use Rattle.btree_pages.proofs.Checks.{under_inner, whole_left, named_step, named_here, ChildrenLeft, children_step, children_fail, inner_fails, inner_children}
use Rattle.record_slots.specs.Places.{page_bytes}
use Rattle.index_pages.proofs.Tests.{not_damaged, not_passed, told_looks, told_verdict, told_dead}
use Rattle.page_store.specs.Tested.{Plan}
use Rattle.index_pages.specs.Plans.{Tries}
use Rattle.index_pages.proofs.Causing.{still_same}
use Rattle.index_pages.proofs.Trying.{SoFar, so_first, so_passes, so_then, so_fails, so_ends, so_page, so_page_err}
use Rattle.btree_pages.specs.Testing.{children_plan, page_plan, under_plan}
use Rattle.btree_pages.proofs.Testing.{page_bad, page_leaf, page_inner}
use Rattle.std.proofs.lemmas.Result.{err_from_is_err_and}
use Rattle.btree_pages.proofs.checking.+under.Goals as goal

-- the pairs under children
abbrev under : List ℕ → ℕ → List Pair → List Pair
under bytes l es = joined (pieces_with (pairs_under l bytes) es)

pub check_children-loop-i-init : goal.check_children-loop-i-init
check_children-loop-i-init g t c =
    let view = g.S.EawStore.view c.args.pages.now.store in
    let e = whole_left c.args.bytes.now c.args.count c.requires.count in
    record {
      looks = looks_none g.S.EawStore.tells (g.S.EawStore.opens view.shape) (pages_of view c.args.pages.now);
      alive = c.requires.alive;
      named = (
        λ a. subst (λ (ps : List Pair). AreChildren c.args.front.now.next_page ps) (sym e) a,
        λ a. subst (λ (ps : List Pair). AreChildren c.args.front.now.next_page ps) e a,
      );
      rows = λ told. subst (λ (ps : List Pair). RowsLeft view.state.bytes c.args.rows.now (under view.state.bytes (c.args.level - 1) (pairs_said c.args.bytes.now)) c.args.rows.now (under view.state.bytes (c.args.level - 1) ps)) e refl;
      left = λ told front. subst (λ (ps : List Pair). ChildrenLeft c.args.root (c.args.level - 1) view.state.bytes (pairs_said c.args.bytes.now) ps (high_of c.args.high)) e
          (λ verdict told. told);
      tests = subst (λ (ps : List Pair). SoFar g.S.EawStore.tells (g.S.EawStore.calls c.args.pages.now.store) (g.S.EawStore.calls c.args.pages.now.store) (children_plan (under_plan (g.S.EawStore.view c.args.pages.now.store).shape c.args.front.now c.args.root.page c.args.root.table (c.args.level - 1)) ps (high_of c.args.high)) (children_plan (under_plan (g.S.EawStore.view c.args.pages.now.store).shape c.args.front.now c.args.root.page c.args.root.table (c.args.level - 1)) (pairs_said c.args.bytes.now) (high_of c.args.high)) (g.S.EawStore.view c.args.pages.now.store) (g.S.EawStore.view c.args.pages.now.store)) e (so_first (children_plan (under_plan (g.S.EawStore.view c.args.pages.now.store).shape c.args.front.now c.args.root.page c.args.root.table (c.args.level - 1)) (pairs_said c.args.bytes.now) (high_of c.args.high)));
    }

pub check_children-overflow_cast-spot : goal.check_children-overflow_cast-spot
check_children-overflow_cast-spot g t c =
    let h = named_here c.args.bytes.now c.loop-i.i c.args.count (AreChildren c.args.front.now.next_page (pairs_said c.args.bytes.now)) c.args.front.now.next_page c.loop-i.invariant.named c.loop-i-test.true c.requires.named in
    omega (arith, h.1, ap (λ (p : Pair). p.1) c.read_pair-low.ensures.pair, c.requires.front.pages, index_pages_most (g.S.EawStore.view c.args.pages.now.store).shape)

pub check_children-check_under-requires : goal.check_children-check_under-requires
check_children-check_under-requires g t c κs within =
    let shape = c.loop-i.invariant.looks.shape in
    let h = named_here c.args.bytes.now c.loop-i.i c.args.count (AreChildren c.args.front.now.next_page (pairs_said c.args.bytes.now)) c.args.front.now.next_page c.loop-i.invariant.named c.loop-i-test.true c.requires.named in (
      omega (arith, c.decreases, c.requires.inner),
      (
        within.0,
        (
          within.1,
          (
            c.loop-i.invariant.alive,
            (
              subst (λ (s : Shape). IsFront s c.args.front.now) (sym shape) c.requires.front,
              (omega (arith, h.1, ap (λ (p : Pair). p.1) c.read_pair-low.ensures.pair, c.requires.front.pages, ap index_pages_of shape), omega (arith, c.requires.level)),
            ),
          ),
        ),
      ),
    )

pub check_children-returns-in_err-check_under-clause-cause : goal.check_children-returns-in_err-check_under-clause-cause
check_children-returns-in_err-check_under-clause-cause g t c =
    let exit = err_from_is_err_and c.from_residual.result c.from_residual.ensures.1 in
    rw (exit.1, exit.2) (λ told front.
    let view = g.S.EawStore.view c.args.pages.now.store in
    let same = (c.loop-i.invariant.looks.still refl).state told in
    let rest = pairs_from c.args.bytes.now (suc c.loop-i.i) (c.args.count - suc c.loop-i.i) in
    let e : Result (Unit {0}) CheckFault = Err c.in_err-check_under.field-0.0 in
    let left = subst (λ (ps : List Pair). ChildrenLeft c.args.root (c.args.level - 1) view.state.bytes (pairs_said c.args.bytes.now) ps (high_of c.args.high)) (from_step c.args.bytes.now c.loop-i.i c.args.count c.loop-i-test.true)
    (c.loop-i.invariant.left told front) in
    let cause = c.in_err-check_under.ensures.cause told (subst (λ (s : State). IsFrontOf s.bytes c.args.front.now) (sym same) front) in
    let cause' : IsVerdict (tree_from c.args.root (c.args.level - 1) view.state.bytes (pair_said c.args.bytes.now c.loop-i.i).1 (pair_said c.args.bytes.now c.loop-i.i).0 (next_low rest (high_of c.args.high))) e =
    subst (λ (h : ℕ). IsVerdict (tree_from c.args.root (c.args.level - 1) view.state.bytes (pair_said c.args.bytes.now c.loop-i.i).1 (pair_said c.args.bytes.now c.loop-i.i).0 h) e) c.end_of.ensures
    (subst (λ (p : Pair). IsVerdict (tree_from c.args.root (c.args.level - 1) view.state.bytes p.1 p.0 (high_of c.end_of.result)) e) c.read_pair-low.ensures.pair
    (subst (λ (s : State). IsVerdict (tree_from c.args.root (c.args.level - 1) s.bytes c.read_pair-low.result.1 c.read_pair-low.result.0 (high_of c.end_of.result)) e) same cause)) in
    children_fail c.args.root (c.args.level - 1) view.state.bytes (pairs_said c.args.bytes.now) (pair_said c.args.bytes.now c.loop-i.i) rest (high_of c.args.high) left c.in_err-check_under.field-0.0 cause')

pub check_children-loop-i-preserved : goal.check_children-loop-i-preserved
check_children-loop-i-preserved g t c =
    let view = g.S.EawStore.view c.args.pages.now.store in
    let mid = g.S.EawStore.view c.loop-i.pages.store in
    let h = named_here c.args.bytes.now c.loop-i.i c.args.count (AreChildren c.args.front.now.next_page (pairs_said c.args.bytes.now)) c.args.front.now.next_page c.loop-i.invariant.named c.loop-i-test.true c.requires.named in
    record {
      looks = looks_next g.S.EawStore.tells g.S.EawStore.opens false (pages_of view c.args.pages.now) (pages_of mid c.loop-i.pages) (pages_of (g.S.EawStore.view c.check_under.new.pages.store) c.check_under.new.pages)
          c.loop-i.invariant.looks c.in_ok-check_under.ensures.looks;
      alive = (c.in_ok-check_under.ensures.looks.still refl).dead ∙ c.loop-i.invariant.alive;
      rows = λ told.
          let same = (c.loop-i.invariant.looks.still refl).state told in
          let b = view.state.bytes in
          let l = c.args.level - 1 in
          let p = pair_said c.args.bytes.now c.loop-i.i in
          let rest = pairs_from c.args.bytes.now (suc c.loop-i.i) (c.args.count - suc c.loop-i.i) in
          let on : suc c.loop-i.i ≡ c.loop-i.i + 1 = omega arith in
          let left = subst (λ (ps : List Pair). RowsLeft b c.args.rows.now (under b l (pairs_said c.args.bytes.now)) c.loop-i.rows (under b l ps)) (from_step c.args.bytes.now c.loop-i.i c.args.count c.loop-i-test.true) (c.loop-i.invariant.rows told) in
          let more = c.in_ok-check_under.ensures.rows told ∙ (λ i. c.loop-i.rows ++ rows_of (same i).bytes (pairs_under l (same i).bytes (ap (λ (q : Pair). q.1) c.read_pair-low.ensures.pair i))) in
          subst (λ (n : ℕ). RowsLeft b c.args.rows.now (under b l (pairs_said c.args.bytes.now)) c.check_under.new.rows (under b l (pairs_from c.args.bytes.now n (c.args.count - n)))) on
          (left_more b c.args.rows.now (under b l (pairs_said c.args.bytes.now)) c.loop-i.rows c.check_under.new.rows (pairs_under l b p.1) (under b l rest) left more);
      named = named_step c.args.bytes.now c.loop-i.i c.args.count (AreChildren c.args.front.now.next_page (pairs_said c.args.bytes.now)) c.args.front.now.next_page c.loop-i.invariant.named c.loop-i-test.true h.0 h.1;
      left = λ told front.
          let same = (c.loop-i.invariant.looks.still refl).state told in
          let rest = pairs_from c.args.bytes.now (suc c.loop-i.i) (c.args.count - suc c.loop-i.i) in
          let r : Result (Unit {0}) CheckFault = Ok tt in
          let left = subst (λ (ps : List Pair). ChildrenLeft c.args.root (c.args.level - 1) view.state.bytes (pairs_said c.args.bytes.now) ps (high_of c.args.high)) (from_step c.args.bytes.now c.loop-i.i c.args.count c.loop-i-test.true)
          (c.loop-i.invariant.left told front) in
          let cause = c.in_ok-check_under.ensures.cause told (subst (λ (s : State). IsFrontOf s.bytes c.args.front.now) (sym same) front) in
          let cause' : IsVerdict (tree_from c.args.root (c.args.level - 1) view.state.bytes (pair_said c.args.bytes.now c.loop-i.i).1 (pair_said c.args.bytes.now c.loop-i.i).0 (next_low rest (high_of c.args.high))) r =
          subst (λ (h : ℕ). IsVerdict (tree_from c.args.root (c.args.level - 1) view.state.bytes (pair_said c.args.bytes.now c.loop-i.i).1 (pair_said c.args.bytes.now c.loop-i.i).0 h) r) c.end_of.ensures
          (subst (λ (p : Pair). IsVerdict (tree_from c.args.root (c.args.level - 1) view.state.bytes p.1 p.0 (high_of c.end_of.result)) r) c.read_pair-low.ensures.pair
          (subst (λ (s : State). IsVerdict (tree_from c.args.root (c.args.level - 1) s.bytes c.read_pair-low.result.1 c.read_pair-low.result.0 (high_of c.end_of.result)) r) same cause)) in
          let on : suc c.loop-i.i ≡ c.loop-i.i + 1 = omega arith in
          subst (λ (n : ℕ). ChildrenLeft c.args.root (c.args.level - 1) view.state.bytes (pairs_said c.args.bytes.now) (pairs_from c.args.bytes.now n (c.args.count - n)) (high_of c.args.high)) on
          (children_step c.args.root (c.args.level - 1) view.state.bytes (pairs_said c.args.bytes.now) (pair_said c.args.bytes.now c.loop-i.i) rest (high_of c.args.high) left cause');
      tests =
          let on : suc c.loop-i.i ≡ c.loop-i.i + 1 = omega arith in
          let r : Result (Unit {0}) CheckFault = Ok tt in
          subst (λ (n : ℕ). SoFar g.S.EawStore.tells (g.S.EawStore.calls c.args.pages.now.store) (g.S.EawStore.calls c.check_under.new.pages.store) (children_plan (under_plan (g.S.EawStore.view c.args.pages.now.store).shape c.args.front.now c.args.root.page c.args.root.table (c.args.level - 1)) (pairs_from c.args.bytes.now n (c.args.count - n)) (high_of c.args.high)) (children_plan (under_plan (g.S.EawStore.view c.args.pages.now.store).shape c.args.front.now c.args.root.page c.args.root.table (c.args.level - 1)) (pairs_said c.args.bytes.now) (high_of c.args.high)) (g.S.EawStore.view c.args.pages.now.store) (g.S.EawStore.view c.check_under.new.pages.store)) on
          (so_then (c.loop-i.invariant.looks.still refl) c.loop-i.invariant.looks.shape (under_plan (g.S.EawStore.view c.args.pages.now.store).shape c.args.front.now c.args.root.page c.args.root.table (c.args.level - 1) (pair_said c.args.bytes.now c.loop-i.i).1 (pair_said c.args.bytes.now c.loop-i.i).0 (next_low (pairs_from c.args.bytes.now (suc c.loop-i.i) (c.args.count - suc c.loop-i.i)) (high_of c.args.high))) (children_plan (under_plan (g.S.EawStore.view c.args.pages.now.store).shape c.args.front.now c.args.root.page c.args.root.table (c.args.level - 1)) (pairs_from c.args.bytes.now (suc c.loop-i.i) (c.args.count - suc c.loop-i.i)) (high_of c.args.high)) tt (subst (λ (ps : List Pair). SoFar g.S.EawStore.tells (g.S.EawStore.calls c.args.pages.now.store) (g.S.EawStore.calls c.loop-i.pages.store) (children_plan (under_plan (g.S.EawStore.view c.args.pages.now.store).shape c.args.front.now c.args.root.page c.args.root.table (c.args.level - 1)) ps (high_of c.args.high)) (children_plan (under_plan (g.S.EawStore.view c.args.pages.now.store).shape c.args.front.now c.args.root.page c.args.root.table (c.args.level - 1)) (pairs_said c.args.bytes.now) (high_of c.args.high)) (g.S.EawStore.view c.args.pages.now.store) (g.S.EawStore.view c.loop-i.pages.store)) (from_step c.args.bytes.now c.loop-i.i c.args.count c.loop-i-test.true) c.loop-i.invariant.tests)
          (subst (λ (s : Shape). Tries g.S.EawStore.tells (g.S.EawStore.calls c.loop-i.pages.store) (g.S.EawStore.calls c.check_under.new.pages.store) (under_plan s c.args.front.now c.args.root.page c.args.root.table (c.args.level - 1) (pair_said c.args.bytes.now c.loop-i.i).1 (pair_said c.args.bytes.now c.loop-i.i).0 (next_low (pairs_from c.args.bytes.now (suc c.loop-i.i) (c.args.count - suc c.loop-i.i)) (high_of c.args.high))) (g.S.EawStore.view c.loop-i.pages.store) (g.S.EawStore.view c.check_under.new.pages.store) r) c.loop-i.invariant.looks.shape
          (subst (λ (h : ℕ). Tries g.S.EawStore.tells (g.S.EawStore.calls c.loop-i.pages.store) (g.S.EawStore.calls c.check_under.new.pages.store) (under_plan (g.S.EawStore.view c.loop-i.pages.store).shape c.args.front.now c.args.root.page c.args.root.table (c.args.level - 1) (pair_said c.args.bytes.now c.loop-i.i).1 (pair_said c.args.bytes.now c.loop-i.i).0 h) (g.S.EawStore.view c.loop-i.pages.store) (g.S.EawStore.view c.check_under.new.pages.store) r) c.end_of.ensures
          (subst (λ (p : Pair). Tries g.S.EawStore.tells (g.S.EawStore.calls c.loop-i.pages.store) (g.S.EawStore.calls c.check_under.new.pages.store) (under_plan (g.S.EawStore.view c.loop-i.pages.store).shape c.args.front.now c.args.root.page c.args.root.table (c.args.level - 1) p.1 p.0 (high_of c.end_of.result)) (g.S.EawStore.view c.loop-i.pages.store) (g.S.EawStore.view c.check_under.new.pages.store) r) c.read_pair-low.ensures.pair c.in_ok-check_under.ensures.tests))));
    }

pub check_children-returns-clause-cause : goal.check_children-returns-clause-cause
check_children-returns-clause-cause g t c = λ told front.
    let view = g.S.EawStore.view c.args.pages.now.store in
    c.loop-i.invariant.left told front None
    (subst (λ (ps : List Pair). children_check (tree_from c.args.root (c.args.level - 1) view.state.bytes) ps (high_of c.args.high) None) (sym (from_end c.args.bytes.now c.loop-i.i c.args.count c.loop-i-test.false)) tt)

pub check_page-returns-then-not-is_inner-clause-cause : goal.check_page-returns-then-not-is_inner-clause-cause
check_page-returns-then-not-is_inner-clause-cause g t c = λ told front is.
    let view = g.S.EawStore.view c.args.pages.now.store in
    inner_fails c.args.root view.state.bytes c.args.bytes.now c.args.spot.page c.args.spot.low (high_of c.args.spot.high) is c.in-Some.ensures.says.node c.args.front.now.next_page front.pages
    c.args.level c.if-level-eq0.false (λ tests. false≢true (c.if-not-is_inner.ensures.1 tests))

pub check_page-returns-clause-cause : goal.check_page-returns-clause-cause
check_page-returns-clause-cause g t c = λ told front is.
    let view = g.S.EawStore.view c.args.pages.now.store in
    inner_children c.args.root view.state.bytes c.args.bytes.now c.args.spot.page c.args.spot.low (high_of c.args.spot.high) is c.in-Some.ensures.says.node c.args.front.now.next_page front.pages
    c.args.level c.if-level-eq0.false (sym c.in-Some.ensures.says.level ∙ c.if-head-level.false) (c.if-not-is_inner.ensures.0 refl) c.check_children.result
    (c.check_children.ensures.cause told front)

pub check_children-end_of-requires : goal.check_children-end_of-requires
check_children-end_of-requires g t c = record { count = c.requires.count; most = c.requires.most; i = c.loop-i-test.true }

pub check_children-returns-in_err-check_under-clause-looks : goal.check_children-returns-in_err-check_under-clause-looks
check_children-returns-in_err-check_under-clause-looks g t c =
    let exit = err_from_is_err_and c.from_residual.result c.from_residual.ensures.1 in
    rw (exit.1, exit.2) (looks_next g.S.EawStore.tells g.S.EawStore.opens _ (pages_of (g.S.EawStore.view c.args.pages.now.store) c.args.pages.now) (pages_of (g.S.EawStore.view c.loop-i.pages.store) c.loop-i.pages) (pages_of (g.S.EawStore.view c.check_under.new.pages.store) c.check_under.new.pages) c.loop-i.invariant.looks c.in_err-check_under.ensures.looks)

pub check_children-returns-in_err-check_under-clause-dead : goal.check_children-returns-in_err-check_under-clause-dead
check_children-returns-in_err-check_under-clause-dead g t c =
    let exit = err_from_is_err_and c.from_residual.result c.from_residual.ensures.1 in
    rw (exit.1, exit.2) (c.in_err-check_under.ensures.dead)

pub check_children-returns-clause-looks : goal.check_children-returns-clause-looks
check_children-returns-clause-looks g t c = c.loop-i.invariant.looks

pub check_children-returns-clause-dead : goal.check_children-returns-clause-dead
check_children-returns-clause-dead g t c = λ told. not_passed told

pub check_page-returns-in_default-clause-looks : goal.check_page-returns-in_default-clause-looks
check_page-returns-in_default-clause-looks g t c = looks_none g.S.EawStore.tells (g.S.EawStore.opens (g.S.EawStore.view c.args.pages.now.store).shape) (pages_of (g.S.EawStore.view c.args.pages.now.store) c.args.pages.now)

pub check_page-returns-in_default-clause-dead : goal.check_page-returns-in_default-clause-dead
check_page-returns-in_default-clause-dead g t c = λ told. not_damaged c.args.spot.page told

pub check_page-returns-then-head-level-clause-looks : goal.check_page-returns-then-head-level-clause-looks
check_page-returns-then-head-level-clause-looks g t c = looks_none g.S.EawStore.tells (g.S.EawStore.opens (g.S.EawStore.view c.args.pages.now.store).shape) (pages_of (g.S.EawStore.view c.args.pages.now.store) c.args.pages.now)

pub check_page-returns-then-head-level-clause-dead : goal.check_page-returns-then-head-level-clause-dead
check_page-returns-then-head-level-clause-dead g t c = λ told. not_damaged c.args.spot.page told

pub check_page-returns-then-not-is_leaf-clause-looks : goal.check_page-returns-then-not-is_leaf-clause-looks
check_page-returns-then-not-is_leaf-clause-looks g t c = looks_none g.S.EawStore.tells (g.S.EawStore.opens (g.S.EawStore.view c.args.pages.now.store).shape) (pages_of (g.S.EawStore.view c.args.pages.now.store) c.args.pages.now)

pub check_page-returns-then-not-is_leaf-clause-dead : goal.check_page-returns-then-not-is_leaf-clause-dead
check_page-returns-then-not-is_leaf-clause-dead g t c = λ told. not_damaged c.args.spot.page told

pub check_page-returns-then-not-is_inner-clause-looks : goal.check_page-returns-then-not-is_inner-clause-looks
check_page-returns-then-not-is_inner-clause-looks g t c = looks_none g.S.EawStore.tells (g.S.EawStore.opens (g.S.EawStore.view c.args.pages.now.store).shape) (pages_of (g.S.EawStore.view c.args.pages.now.store) c.args.pages.now)

pub check_page-returns-then-not-is_inner-clause-dead : goal.check_page-returns-then-not-is_inner-clause-dead
check_page-returns-then-not-is_inner-clause-dead g t c = λ told. not_damaged c.args.spot.page told

pub check_page-is_leaf-requires : goal.check_page-is_leaf-requires
check_page-is_leaf-requires g t c = record { count = c.in-Some.ensures.says.count; most = subst (λ (n : ℕ). n ≤ 30) (sym c.in-Some.ensures.says.count) c.in-Some.ensures.says.node.most }

pub check_page-check_slots-requires : goal.check_page-check_slots-requires
check_page-check_slots-requires g t c = record { alive = c.requires.alive; count = c.in-Some.ensures.says.count; most = subst (λ (n : ℕ). n ≤ 30) (sym c.in-Some.ensures.says.count) c.in-Some.ensures.says.node.most; slots = c.requires.front.slots }

pub check_page-returns-then-level-eq0-clause-looks : goal.check_page-returns-then-level-eq0-clause-looks
check_page-returns-then-level-eq0-clause-looks g t c = c.check_slots.ensures.looks

pub check_page-returns-then-level-eq0-clause-dead : goal.check_page-returns-then-level-eq0-clause-dead
check_page-returns-then-level-eq0-clause-dead g t c = c.check_slots.ensures.dead

pub check_page-returns-clause-looks : goal.check_page-returns-clause-looks
check_page-returns-clause-looks g t c = c.check_children.ensures.looks

pub check_page-returns-clause-dead : goal.check_page-returns-clause-dead
check_page-returns-clause-dead g t c = c.check_children.ensures.dead

pub check_under-returns-in_err-fetch_page : goal.check_under-returns-in_err-fetch_page
check_under-returns-in_err-fetch_page g t c =
    let exit = err_from_is_err_and c.from_residual.result c.from_residual.ensures.1 in
    rw (exit.1) (record {
      tests = so_page_err (still_same g.S.EawStore.tells (g.S.EawStore.view c.args.pages.now.store)) refl (Unit {0}) c.args.spot.page (λ said. page_plan (g.S.EawStore.view c.args.pages.now.store).shape c.args.front.now c.args.root.page c.args.root.table c.args.level c.args.spot.page c.args.spot.low (high_of c.args.spot.high) said) c.fetch_page.new.bytes (page_bytes (g.S.EawStore.view c.args.pages.now.store).state.bytes c.args.spot.page) c.in_err-fetch_page.field-0.0 exit.0 exit.2 (so_first (under_plan (g.S.EawStore.view c.args.pages.now.store).shape c.args.front.now c.args.root.page c.args.root.table c.args.level c.args.spot.page c.args.spot.low (high_of c.args.spot.high))) c.requires.alive c.in_err-fetch_page.ensures.cause c.in_err-fetch_page.ensures.reads;
      looks = told_looks g.S.EawStore.tells (g.S.EawStore.opens (g.S.EawStore.view c.args.pages.now.store).shape) (pages_of (g.S.EawStore.view c.args.pages.now.store) c.args.pages.now) (pages_of (g.S.EawStore.view c.fetch_page.new.pages.store) c.fetch_page.new.pages) c.requires.alive c.in_err-fetch_page.field-0.0 c.in_err-fetch_page.ensures.cause exit.0 exit.2 c.in_err-fetch_page.ensures.looks;
      cause = λ told front. told_verdict g.S.EawStore.tells (g.S.EawStore.opens (g.S.EawStore.view c.args.pages.now.store).shape) (pages_of (g.S.EawStore.view c.args.pages.now.store) c.args.pages.now) (pages_of (g.S.EawStore.view c.fetch_page.new.pages.store) c.fetch_page.new.pages) c.requires.alive c.in_err-fetch_page.field-0.0 c.in_err-fetch_page.ensures.cause exit.0 exit.2 (tree_from c.args.root c.args.level (g.S.EawStore.view c.args.pages.now.store).state.bytes c.args.spot.page c.args.spot.low (high_of c.args.spot.high));
      rows = λ told. tt;
      dead = λ told. told_dead g.S.EawStore.tells (g.S.EawStore.opens (g.S.EawStore.view c.args.pages.now.store).shape) (pages_of (g.S.EawStore.view c.args.pages.now.store) c.args.pages.now) (pages_of (g.S.EawStore.view c.fetch_page.new.pages.store) c.fetch_page.new.pages) c.requires.alive c.in_err-fetch_page.field-0.0 c.in_err-fetch_page.ensures.cause exit.0 exit.2 told;
    })

pub check_under-returns : goal.check_under-returns
check_under-returns g t c = record {
  tests = so_ends (c.in_ok-fetch_page.ensures.looks.still refl) c.in_ok-fetch_page.ensures.looks.shape (page_plan (g.S.EawStore.view c.args.pages.now.store).shape c.args.front.now c.args.root.page c.args.root.table c.args.level c.args.spot.page c.args.spot.low (high_of c.args.spot.high) c.fetch_page.new.bytes) c.check_page.result
      (so_page (still_same g.S.EawStore.tells (g.S.EawStore.view c.args.pages.now.store)) refl c.args.spot.page (λ said. page_plan (g.S.EawStore.view c.args.pages.now.store).shape c.args.front.now c.args.root.page c.args.root.table c.args.level c.args.spot.page c.args.spot.low (high_of c.args.spot.high) said) c.fetch_page.new.bytes (so_first (under_plan (g.S.EawStore.view c.args.pages.now.store).shape c.args.front.now c.args.root.page c.args.root.table c.args.level c.args.spot.page c.args.spot.low (high_of c.args.spot.high))) c.in_ok-fetch_page.ensures.reads)
      (subst (λ (s : Shape). Tries g.S.EawStore.tells (g.S.EawStore.calls c.fetch_page.new.pages.store) (g.S.EawStore.calls c.check_page.new.pages.store) (page_plan s c.args.front.now c.args.root.page c.args.root.table c.args.level c.args.spot.page c.args.spot.low (high_of c.args.spot.high) c.fetch_page.new.bytes) (g.S.EawStore.view c.fetch_page.new.pages.store) (g.S.EawStore.view c.check_page.new.pages.store) c.check_page.result) c.in_ok-fetch_page.ensures.looks.shape c.check_page.ensures.tests);
  looks = looks_next g.S.EawStore.tells g.S.EawStore.opens _ (pages_of (g.S.EawStore.view c.args.pages.now.store) c.args.pages.now) (pages_of (g.S.EawStore.view c.fetch_page.new.pages.store) c.fetch_page.new.pages) (pages_of (g.S.EawStore.view c.check_page.new.pages.store) c.check_page.new.pages) c.in_ok-fetch_page.ensures.looks c.check_page.ensures.looks;
  cause = λ told front.
      let same = (c.in_ok-fetch_page.ensures.looks.still refl).state told in
      subst (λ (s : State). IsVerdict (tree_from c.args.root c.args.level s.bytes c.args.spot.page c.args.spot.low (high_of c.args.spot.high)) c.check_page.result) same
      (c.check_page.ensures.cause told (subst (λ (s : State). IsFrontOf s.bytes c.args.front.now) (sym same) front)
      (subst (λ (s : State). c.fetch_page.new.bytes ≡ page_bytes s.bytes c.args.spot.page) (sym same) (c.in_ok-fetch_page.ensures.bytes told)));
  rows = λ told.
      let same = (c.in_ok-fetch_page.ensures.looks.still refl).state told in
      subst (λ (s : State). OnOk c.check_page.result (c.check_page.new.rows ≡ c.args.rows.now ++ rows_of s.bytes (pairs_under c.args.level s.bytes c.args.spot.page))) same
      (c.check_page.ensures.rows told (subst (λ (s : State). c.fetch_page.new.bytes ≡ page_bytes s.bytes c.args.spot.page) (sym same) (c.in_ok-fetch_page.ensures.bytes told)));
  dead = c.check_page.ensures.dead;
}

pub check_children-returns-clause-rows : goal.check_children-returns-clause-rows
check_children-returns-clause-rows g t c = λ told.
    let b = (g.S.EawStore.view c.args.pages.now.store).state.bytes in
    let l = c.args.level - 1 in
    left_none b c.args.rows.now (under b l (pairs_said c.args.bytes.now)) c.loop-i.rows
    (subst (λ (ps : List Pair). RowsLeft b c.args.rows.now (under b l (pairs_said c.args.bytes.now)) c.loop-i.rows (under b l ps)) (from_end c.args.bytes.now c.loop-i.i c.args.count c.loop-i-test.false) (c.loop-i.invariant.rows told))

pub check_page-returns-then-level-eq0-clause-rows : goal.check_page-returns-then-level-eq0-clause-rows
check_page-returns-then-level-eq0-clause-rows g t c = λ told is.
    let b = (g.S.EawStore.view c.args.pages.now.store).state.bytes in
    let here : OnOk c.check_slots.result (c.check_slots.new.rows ≡ c.args.rows.now ++ rows_of b (pairs_under 0 b c.args.spot.page)) =
    subst (λ (buf : List ℕ). OnOk c.check_slots.result (c.check_slots.new.rows ≡ c.args.rows.now ++ rows_of b (pairs_said buf))) is (c.check_slots.ensures.rows told) in
    subst (λ (l : ℕ). OnOk c.check_slots.result (c.check_slots.new.rows ≡ c.args.rows.now ++ rows_of b (pairs_under l b c.args.spot.page))) (sym c.if-level-eq0.true) here

pub check_page-returns-clause-rows : goal.check_page-returns-clause-rows
check_page-returns-clause-rows g t c = λ told is.
    let b = (g.S.EawStore.view c.args.pages.now.store).state.bytes in
    subst (λ (ps : List Pair). OnOk c.check_children.result (c.check_children.new.rows ≡ c.args.rows.now ++ rows_of b ps)) (sym (under_inner c.args.level b c.args.spot.page c.if-level-eq0.false))
    (subst (λ (buf : List ℕ). OnOk c.check_children.result (c.check_children.new.rows ≡ c.args.rows.now ++ rows_of b (under b (c.args.level - 1) (pairs_said buf)))) is (c.check_children.ensures.rows told))

pub check_children-returns-in_err-check_under-clause-tests : goal.check_children-returns-in_err-check_under-clause-tests
check_children-returns-in_err-check_under-clause-tests g t c =
    let exit = err_from_is_err_and c.from_residual.result c.from_residual.ensures.1 in
    rw (exit.1, exit.2) (
    let r : Result (Unit {0}) CheckFault = Err c.in_err-check_under.field-0.0 in
    so_fails (c.loop-i.invariant.looks.still refl) c.loop-i.invariant.looks.shape (under_plan (g.S.EawStore.view c.args.pages.now.store).shape c.args.front.now c.args.root.page c.args.root.table (c.args.level - 1) (pair_said c.args.bytes.now c.loop-i.i).1 (pair_said c.args.bytes.now c.loop-i.i).0 (next_low (pairs_from c.args.bytes.now (suc c.loop-i.i) (c.args.count - suc c.loop-i.i)) (high_of c.args.high))) (children_plan (under_plan (g.S.EawStore.view c.args.pages.now.store).shape c.args.front.now c.args.root.page c.args.root.table (c.args.level - 1)) (pairs_from c.args.bytes.now (suc c.loop-i.i) (c.args.count - suc c.loop-i.i)) (high_of c.args.high)) c.in_err-check_under.field-0.0 (subst (λ (ps : List Pair). SoFar g.S.EawStore.tells (g.S.EawStore.calls c.args.pages.now.store) (g.S.EawStore.calls c.loop-i.pages.store) (children_plan (under_plan (g.S.EawStore.view c.args.pages.now.store).shape c.args.front.now c.args.root.page c.args.root.table (c.args.level - 1)) ps (high_of c.args.high)) (children_plan (under_plan (g.S.EawStore.view c.args.pages.now.store).shape c.args.front.now c.args.root.page c.args.root.table (c.args.level - 1)) (pairs_said c.args.bytes.now) (high_of c.args.high)) (g.S.EawStore.view c.args.pages.now.store) (g.S.EawStore.view c.loop-i.pages.store)) (from_step c.args.bytes.now c.loop-i.i c.args.count c.loop-i-test.true) c.loop-i.invariant.tests)
    (subst (λ (s : Shape). Tries g.S.EawStore.tells (g.S.EawStore.calls c.loop-i.pages.store) (g.S.EawStore.calls c.check_under.new.pages.store) (under_plan s c.args.front.now c.args.root.page c.args.root.table (c.args.level - 1) (pair_said c.args.bytes.now c.loop-i.i).1 (pair_said c.args.bytes.now c.loop-i.i).0 (next_low (pairs_from c.args.bytes.now (suc c.loop-i.i) (c.args.count - suc c.loop-i.i)) (high_of c.args.high))) (g.S.EawStore.view c.loop-i.pages.store) (g.S.EawStore.view c.check_under.new.pages.store) r) c.loop-i.invariant.looks.shape
    (subst (λ (h : ℕ). Tries g.S.EawStore.tells (g.S.EawStore.calls c.loop-i.pages.store) (g.S.EawStore.calls c.check_under.new.pages.store) (under_plan (g.S.EawStore.view c.loop-i.pages.store).shape c.args.front.now c.args.root.page c.args.root.table (c.args.level - 1) (pair_said c.args.bytes.now c.loop-i.i).1 (pair_said c.args.bytes.now c.loop-i.i).0 h) (g.S.EawStore.view c.loop-i.pages.store) (g.S.EawStore.view c.check_under.new.pages.store) r) c.end_of.ensures
    (subst (λ (p : Pair). Tries g.S.EawStore.tells (g.S.EawStore.calls c.loop-i.pages.store) (g.S.EawStore.calls c.check_under.new.pages.store) (under_plan (g.S.EawStore.view c.loop-i.pages.store).shape c.args.front.now c.args.root.page c.args.root.table (c.args.level - 1) p.1 p.0 (high_of c.end_of.result)) (g.S.EawStore.view c.loop-i.pages.store) (g.S.EawStore.view c.check_under.new.pages.store) r) c.read_pair-low.ensures.pair c.in_err-check_under.ensures.tests))))

pub check_children-returns-clause-tests : goal.check_children-returns-clause-tests
check_children-returns-clause-tests g t c =
    so_passes tt (subst (λ (ps : List Pair). SoFar g.S.EawStore.tells (g.S.EawStore.calls c.args.pages.now.store) (g.S.EawStore.calls c.loop-i.pages.store) (children_plan (under_plan (g.S.EawStore.view c.args.pages.now.store).shape c.args.front.now c.args.root.page c.args.root.table (c.args.level - 1)) ps (high_of c.args.high)) (children_plan (under_plan (g.S.EawStore.view c.args.pages.now.store).shape c.args.front.now c.args.root.page c.args.root.table (c.args.level - 1)) (pairs_said c.args.bytes.now) (high_of c.args.high)) (g.S.EawStore.view c.args.pages.now.store) (g.S.EawStore.view c.loop-i.pages.store)) (from_end c.args.bytes.now c.loop-i.i c.args.count c.loop-i-test.false) c.loop-i.invariant.tests)

pub check_page-returns-in_default-clause-tests : goal.check_page-returns-in_default-clause-tests
check_page-returns-in_default-clause-tests g t c = page_bad g.S.EawStore.tells (g.S.EawStore.calls c.args.pages.now.store) (g.S.EawStore.view c.args.pages.now.store).shape c.args.front.now c.args.root.page c.args.root.table c.args.spot.page c.args.spot.low (high_of c.args.spot.high) c.args.bytes.now (g.S.EawStore.view c.args.pages.now.store) c.args.level (λ is leaf. c.in_default.ensures.other leaf.node) (λ some inner. c.in_default.ensures.other inner.node)

pub check_page-returns-then-head-level-clause-tests : goal.check_page-returns-then-head-level-clause-tests
check_page-returns-then-head-level-clause-tests g t c = page_bad g.S.EawStore.tells (g.S.EawStore.calls c.args.pages.now.store) (g.S.EawStore.view c.args.pages.now.store).shape c.args.front.now c.args.root.page c.args.root.table c.args.spot.page c.args.spot.low (high_of c.args.spot.high) c.args.bytes.now (g.S.EawStore.view c.args.pages.now.store) c.args.level
    (λ is leaf. c.if-head-level.true (c.in-Some.ensures.says.level ∙ leaf.level ∙ sym is)) (λ some inner. c.if-head-level.true (c.in-Some.ensures.says.level ∙ inner.level_is))

pub check_page-returns-then-not-is_leaf-clause-tests : goal.check_page-returns-then-not-is_leaf-clause-tests
check_page-returns-then-not-is_leaf-clause-tests g t c = page_bad g.S.EawStore.tells (g.S.EawStore.calls c.args.pages.now.store) (g.S.EawStore.view c.args.pages.now.store).shape c.args.front.now c.args.root.page c.args.root.table c.args.spot.page c.args.spot.low (high_of c.args.spot.high) c.args.bytes.now (g.S.EawStore.view c.args.pages.now.store) c.args.level (λ is leaf. false≢true (c.if-not-is_leaf.ensures.1 (subst (λ (n : ℕ). c.args.spot.page ≢ c.args.root.page → 1 ≤ n) (sym c.in-Some.ensures.says.count) leaf.some, leaf.rises))) (λ some inner. absurd (some c.if-level-eq0.true))

pub check_page-returns-then-not-is_inner-clause-tests : goal.check_page-returns-then-not-is_inner-clause-tests
check_page-returns-then-not-is_inner-clause-tests g t c = page_bad g.S.EawStore.tells (g.S.EawStore.calls c.args.pages.now.store) (g.S.EawStore.view c.args.pages.now.store).shape c.args.front.now c.args.root.page c.args.root.table c.args.spot.page c.args.spot.low (high_of c.args.spot.high) c.args.bytes.now (g.S.EawStore.view c.args.pages.now.store) c.args.level (λ is leaf. absurd (c.if-level-eq0.false is)) (λ some inner. false≢true (c.if-not-is_inner.ensures.1 (inner.first, inner.rises, inner.children)))

pub check_page-returns-then-level-eq0-clause-tests : goal.check_page-returns-then-level-eq0-clause-tests
check_page-returns-then-level-eq0-clause-tests g t c =
    let tests = c.if-not-is_leaf.ensures.0 refl in
    page_leaf g.S.EawStore.tells (g.S.EawStore.calls c.args.pages.now.store) (g.S.EawStore.view c.args.pages.now.store).shape c.args.front.now c.args.root.page c.args.root.table c.args.spot.page c.args.spot.low (high_of c.args.spot.high) c.args.bytes.now (g.S.EawStore.view c.args.pages.now.store) (g.S.EawStore.calls c.check_slots.new.pages.store) (g.S.EawStore.view c.check_slots.new.pages.store) c.check_slots.result c.args.level c.if-level-eq0.true
    (record { node = c.in-Some.ensures.says.node; level = sym c.in-Some.ensures.says.level ∙ c.if-head-level.false ∙ c.if-level-eq0.true; some = subst (λ (n : ℕ). c.args.spot.page ≢ c.args.root.page → 1 ≤ n) c.in-Some.ensures.says.count tests.0; rises = tests.1 }) c.check_slots.ensures.tests

pub check_page-returns-clause-tests : goal.check_page-returns-clause-tests
check_page-returns-clause-tests g t c =
    let tests = c.if-not-is_inner.ensures.0 refl in
    page_inner g.S.EawStore.tells (g.S.EawStore.calls c.args.pages.now.store) (g.S.EawStore.view c.args.pages.now.store).shape c.args.front.now c.args.root.page c.args.root.table c.args.spot.page c.args.spot.low (high_of c.args.spot.high) c.args.bytes.now (g.S.EawStore.view c.args.pages.now.store) (g.S.EawStore.calls c.check_children.new.pages.store) (g.S.EawStore.view c.check_children.new.pages.store) c.check_children.result c.args.level c.if-level-eq0.false
    (record { node = c.in-Some.ensures.says.node; level_is = sym c.in-Some.ensures.says.level ∙ c.if-head-level.false; first = tests.0; rises = tests.1; children = tests.2 }) c.check_children.ensures.tests
