use Rattle.std.proofs.Common.{Bool, Result, Err, Option}
use Rattle.record_table.specs.Sought.{LooksAs}
use Rattle.record_table.specs.Does as answers
use Rattle.record_table.specs.declared.fault.TableFault.{TableFault}
use Rattle.record_table.proofs.Looking.{failed_told}
use Rattle.std.proofs.Common.{◌≡◌, ◌+◌, false, ℕ, suc, ◌++◌, get_or, drop, refl, sym, ◌∙◌, ap, subst, arith}
use Rattle.std.specs.Prelude.{Some}
use Rattle.std.proofs.lemmas.List.{append-nil}
use Rattle.array_shape.specs.declared.shape.Shape.{Shape}
use Rattle.eaw_face.specs.State.{State}
use Rattle.history.specs.Writes.{rows_within}
use Rattle.page_store.specs.Index.{slots_of}
use Rattle.page_store.specs.Pairs.{AreInside, InTurn, next}
use Rattle.page_store.specs.Shown.{pages_of}
use Rattle.index_pages.proofs.Turns.{turn_at, inside_at}
use Rattle.page_store.specs.Records.{row_at}
use Rattle.record_table.specs.Scanned.{rows_seen}
use Rattle.record_table.specs.State.{TableState, seen_by}
use Rattle.record_table.specs.Names.{IsCalled}
use Rattle.record_table.proofs.Looking.{looks_none, looks_next}
use Rattle.record_table.proofs.Gathering.{follows_above, follows_past, last_row, no_row, more_row}
use Rattle.record_table.proofs.Moving.{moved_by_look, rests_moved}
use Rattle.record_table.proofs.Sharing.{Laws}
use Rattle.record_table.specs.Hearing.{HearsRows}
use Rattle.record_table.specs.Walked.{behind}
use Rattle.record_table.specs.Walked.{ArePaid, AreSteady}
use Rattle.record_table.specs.Seeks.{row_cost}
use Rattle.record_table.proofs.Counting.{behind_at, behind_all}
use Rattle.record_table.proofs.Walking.{paid_then, row_same}
use Rattle.record_table.proofs.Hearing.{next_met, refused_met, next_spoke, next_rows, next_refused}
use Rattle.std.proofs.lemmas.Result.{err_from_is_err_and}
use Rattle.record_table.proofs.scanning.push_rows.Goals as goal

pub loop-pair-init : goal.loop-pair-init
loop-pair-init g c = record {
  looks = looks_none g.S.EawStore.tells (g.S.EawStore.opens (g.S.EawStore.view c.args.pages.now.store).shape) c.args.tid (pages_of (g.S.EawStore.view c.args.pages.now.store) c.args.pages.now);
  turn = c.requires.turn;
  inside = c.requires.inside;
  low = omega arith;
  later = λ some. absurd (omega arith);
  high = c.requires.order;
  index = omega arith;
  met = omega arith;
  ends = refl;
  paid = refl;
  steady = λ command. refl;
  spoke = c.requires.spoke;
  heard = c.requires.heard;
  rows = λ told name called. refl;
}

pub read_row-requires-clause-holds : goal.read_row-requires-clause-holds
read_row-requires-clause-holds g c = λ living.
    let V = g.S.EawStore.view in
    let I = g.K.KeyIndex.index in
    let T = g.S.EawStore.tells in
    let E = g.S.EawStore.opens (g.S.EawStore.view c.args.pages.now.store).shape in
    let v0 = pages_of (V c.args.pages.now.store) c.args.pages.now in
    let v1 = pages_of (V c.loop-pair.pages.store) c.loop-pair.pages in
    let rests = c.requires.holds c.requires.alive in
    rests_moved T E I c.args.tid v0 v1 rests (moved_by_look T E I c.args.tid v0 v1 c.requires.alive rests c.loop-pair.invariant.looks)

pub read_row-requires-clause-alive : goal.read_row-requires-clause-alive
read_row-requires-clause-alive g c = (c.loop-pair.invariant.looks.same refl).still.dead ∙ c.requires.alive

pub read_row-requires-clause-next : goal.read_row-requires-clause-next
read_row-requires-clause-next g c = λ told.
    let bytes = (g.S.EawStore.view c.args.pages.now.store).state.bytes in
    subst (λ (s : State). next (g.K.KeyIndex.index.pairs s.bytes c.args.span.root) c.loop-pair.from ≡ Some (get_or c.args.pairs.now c.loop-pair.pair-index (0, 0))) (sym ((c.loop-pair.invariant.looks.same refl).still.state told))
    (turn_at (g.K.KeyIndex.index.pairs bytes c.args.span.root) c.loop-pair.from 0 c.args.pairs.now c.loop-pair.pair-index c.loop-pair-test.true (c.loop-pair.invariant.turn told)).0

pub read_row-requires-clause-slot : goal.read_row-requires-clause-slot
read_row-requires-clause-slot g c =
    let here = inside_at c.args.pairs.now c.loop-pair.from (slots_of (g.S.EawStore.view c.args.pages.now.store).shape) c.args.pairs.now c.loop-pair.pair-index c.loop-pair-test.true c.loop-pair.invariant.inside in
    omega (arith, here.1, ap slots_of c.loop-pair.invariant.looks.shape)

pub loop-pair-preserved : goal.loop-pair-preserved
loop-pair-preserved g c =
    let V = g.S.EawStore.view in
    let I = g.K.KeyIndex.index in
    let T = g.S.EawStore.tells in
    let E = g.S.EawStore.opens (g.S.EawStore.view c.args.pages.now.store).shape in
    let v0 = pages_of (V c.args.pages.now.store) c.args.pages.now in
    let v1 = pages_of (V c.loop-pair.pages.store) c.loop-pair.pages in
    let v2 = pages_of (V c.read_row.new.pages.store) c.read_row.new.pages in
    let t = c.args.tid in
    let i = c.loop-pair.pair-index in
    let rests = c.requires.holds c.requires.alive in
    let moved = moved_by_look T E I t v0 v1 c.requires.alive rests c.loop-pair.invariant.looks in
    let here = inside_at c.args.pairs.now c.loop-pair.from (slots_of v0.store.shape) c.args.pairs.now c.loop-pair.pair-index c.loop-pair-test.true c.loop-pair.invariant.inside in
    let on : suc c.loop-pair.pair-index ≡ c.loop-pair.pair-index + 1 = omega arith in
    let key : suc (get_or c.args.pairs.now c.loop-pair.pair-index (0, 0)).0 ≡ c.in_ok-row.row.key + 1 = omega (arith, c.in_ok-row.ensures.key) in
    record {
      looks = looks_next T g.S.EawStore.opens t false v0 v1 v2 c.loop-pair.invariant.looks c.in_ok-row.ensures.looks;
      turn = λ told.
          subst (λ (n : ℕ). InTurn (I.pairs v0.store.state.bytes c.args.span.root) n (drop (c.loop-pair.pair-index + 1) c.args.pairs.now)) key
          (subst (λ (j : ℕ). InTurn (I.pairs v0.store.state.bytes c.args.span.root) (suc (get_or c.args.pairs.now c.loop-pair.pair-index (0, 0)).0) (drop j c.args.pairs.now)) on
          (turn_at (I.pairs v0.store.state.bytes c.args.span.root) c.loop-pair.from 0 c.args.pairs.now c.loop-pair.pair-index c.loop-pair-test.true (c.loop-pair.invariant.turn told)).1);
      inside =
          subst (λ (n : ℕ). AreInside n (slots_of v0.store.shape) (drop (c.loop-pair.pair-index + 1) c.args.pairs.now)) key
          (subst (λ (j : ℕ). AreInside (suc (get_or c.args.pairs.now c.loop-pair.pair-index (0, 0)).0) (slots_of v0.store.shape) (drop j c.args.pairs.now)) on here.2);
      low = omega (arith, c.loop-pair.invariant.low, here.0, key);
      later = λ some. omega (arith, c.loop-pair.invariant.low, here.0, key);
      high = omega (arith, c.in_ok-row.ensures.key, c.if-row-span.false, c.if-pair-span.false);
      index = omega (arith, c.loop-pair-test.true);
      met = omega (arith, next_met v1.store.shape (get_or c.args.pairs.now i (0, 0)) c.loop-pair.hearings.said c.read_row.new.hearings.said c.in_ok-row.row c.in_ok-row.ensures.hears, c.loop-pair.invariant.met);
      ends =
          subst (λ (n : ℕ). behind n (drop (c.loop-pair.pair-index + 1) c.args.pairs.now) ≡ behind c.args.span.low c.args.pairs.now) key
          (subst (λ (j : ℕ). behind (suc (get_or c.args.pairs.now c.loop-pair.pair-index (0, 0)).0) (drop j c.args.pairs.now) ≡ behind c.args.span.low c.args.pairs.now) on
          (sym (behind_at c.loop-pair.from c.args.pairs.now c.loop-pair.pair-index c.loop-pair-test.true) ∙ c.loop-pair.invariant.ends));
      paid = paid_then false (row_cost (g.S.EawStore.calls c.loop-pair.pages.store) c.args.tid (V c.loop-pair.pages.store)) (row_cost (g.S.EawStore.calls c.args.pages.now.store) c.args.tid (V c.args.pages.now.store))
          (V c.args.pages.now.store).moment (V c.loop-pair.pages.store).moment (V c.read_row.new.pages.store).moment c.args.hearings.now.said c.loop-pair.hearings.said c.read_row.new.hearings.said c.loop-pair.invariant.paid
          (row_same (g.S.EawStore.calls c.loop-pair.pages.store) (g.S.EawStore.calls c.args.pages.now.store) c.args.tid (V c.loop-pair.pages.store) (V c.args.pages.now.store) c.loop-pair.invariant.steady c.loop-pair.invariant.looks.shape (c.loop-pair.invariant.looks.same refl).ranges)
          c.in_ok-row.ensures.costs refl;
      steady = λ command. c.in_ok-row.ensures.steady refl command ∙ c.loop-pair.invariant.steady command;
      spoke = next_spoke v1.store.shape (get_or c.args.pairs.now i (0, 0)) c.loop-pair.hearings.said c.read_row.new.hearings.said c.in_ok-row.row c.in_ok-row.ensures.hears c.loop-pair.invariant.spoke;
      heard = next_rows v1.store.shape (get_or c.args.pairs.now i (0, 0)) c.loop-pair.hearings.said c.read_row.new.hearings.said c.in_ok-row.row c.loop-pair.rows c.push_row.new.rows c.in_ok-row.ensures.hears c.loop-pair.invariant.heard c.in_ok-push_row.ensures;
      rows = λ told name called.
          let f = c.in_ok-row.ensures.follows told name (subst (λ (s : State). IsCalled s.bytes c.args.span.table name) (sym ((c.loop-pair.invariant.looks.same refl).still.state told)) called) in
          let seen : rows_seen I t name v0 c.loop-pair.from c.args.span.high ≡ row_at c.in_ok-row.row.key c.in_ok-row.row.value ++ rows_seen I t name v0 (suc c.in_ok-row.row.key) c.args.span.high =
          ap (λ (s : TableState). rows_within name c.loop-pair.from c.args.span.high (seen_by s t)) (sym (moved.state told)) ∙ f
          ∙ ap (λ (s : TableState). row_at c.in_ok-row.row.key c.in_ok-row.row.value ++ rows_within name (suc c.in_ok-row.row.key) c.args.span.high (seen_by s t)) (moved.state told) in
          let after : suc c.in_ok-row.row.key ≡ c.in_ok-row.row.key + 1 = omega arith in
          subst (λ (n : ℕ). c.push_row.new.rows ++ rows_seen I t name v0 n c.args.span.high
          ≡ c.args.rows.now ++ rows_seen I t name v0 c.args.span.low c.args.span.high) after
          (more_row (c.loop-pair.rows) (row_at c.in_ok-row.row.key c.in_ok-row.row.value) _ _ _ (c.push_row.new.rows) (c.loop-pair.invariant.rows told name called) seen
          c.in_ok-push_row.ensures);
    }

pub returns-then-pair-span-clause-rows : goal.returns-then-pair-span-clause-rows
returns-then-pair-span-clause-rows g c = λ told name called.
    let K = g.met.K.KeyIndex in
    let V = g.S.EawStore.view in
    let I = g.K.KeyIndex.index in
    let T = g.S.EawStore.tells in
    let E = g.S.EawStore.opens (g.S.EawStore.view c.args.pages.now.store).shape in
    let laws : Laws g.K.KeyIndex.index = record { rises = K.rises; given = K.given; counts = K.counts; rests = K.rests; extends = K.extends } in
    let v0 = pages_of (V c.args.pages.now.store) c.args.pages.now in
    let v1 = pages_of (V c.loop-pair.pages.store) c.loop-pair.pages in
    let t = c.args.tid in
    let rests = c.requires.holds c.requires.alive in
    let moved = moved_by_look T E I t v0 v1 c.requires.alive rests c.loop-pair.invariant.looks in
    let is = (turn_at (I.pairs v0.store.state.bytes c.args.span.root) c.loop-pair.from 0 c.args.pairs.now c.loop-pair.pair-index c.loop-pair-test.true (c.loop-pair.invariant.turn told)).0 in
    append-nil (c.loop-pair.rows)
    ∙ no_row (c.loop-pair.rows) _ _ (c.loop-pair.invariant.rows told name called)
    (follows_above I laws t v0 (rests.tied told) c.args.span.table c.args.span.root name called (c.requires.named told c.requires.alive) c.loop-pair.from c.args.span.high
    (get_or c.args.pairs.now c.loop-pair.pair-index (0, 0)).0 (get_or c.args.pairs.now c.loop-pair.pair-index (0, 0)).1 is (omega (arith, c.if-pair-span.true)))

pub returns-then-row-span-clause-rows : goal.returns-then-row-span-clause-rows
returns-then-row-span-clause-rows g c = λ told name called.
    let K = g.met.K.KeyIndex in
    let V = g.S.EawStore.view in
    let I = g.K.KeyIndex.index in
    let T = g.S.EawStore.tells in
    let E = g.S.EawStore.opens (g.S.EawStore.view c.args.pages.now.store).shape in
    let laws : Laws g.K.KeyIndex.index = record { rises = K.rises; given = K.given; counts = K.counts; rests = K.rests; extends = K.extends } in
    let v0 = pages_of (V c.args.pages.now.store) c.args.pages.now in
    let v1 = pages_of (V c.loop-pair.pages.store) c.loop-pair.pages in
    let t = c.args.tid in
    let rests = c.requires.holds c.requires.alive in
    let moved = moved_by_look T E I t v0 v1 c.requires.alive rests c.loop-pair.invariant.looks in
    let f = c.in_ok-row.ensures.follows told name (subst (λ (s : State). IsCalled s.bytes c.args.span.table name) (sym ((c.loop-pair.invariant.looks.same refl).still.state told)) called) in
    let seen : rows_seen g.K.KeyIndex.index c.args.tid name (pages_of (g.S.EawStore.view c.args.pages.now.store) c.args.pages.now) c.loop-pair.from c.args.span.high ≡ row_at c.in_ok-row.row.key c.in_ok-row.row.value ++ rows_seen g.K.KeyIndex.index c.args.tid name (pages_of (g.S.EawStore.view c.args.pages.now.store) c.args.pages.now) (suc c.in_ok-row.row.key) c.args.span.high =
    ap (λ (s : TableState). rows_within name c.loop-pair.from c.args.span.high (seen_by s t)) (sym (moved.state told)) ∙ f
    ∙ ap (λ (s : TableState). row_at c.in_ok-row.row.key c.in_ok-row.row.value ++ rows_within name (suc c.in_ok-row.row.key) c.args.span.high (seen_by s t)) (moved.state told) in
    append-nil (c.push_row.new.rows)
    ∙ last_row (c.loop-pair.rows) (row_at c.in_ok-row.row.key c.in_ok-row.row.value) _ _ _ _ (c.loop-pair.invariant.rows told name called) seen
    (follows_past I laws t v0 (rests.tied told) c.args.span.table c.args.span.root name called (c.requires.named told c.requires.alive) (suc c.in_ok-row.row.key) c.args.span.high (omega (arith, c.if-row-span.true)))
    c.in_ok-push_row.ensures

pub returns-in_err-row-clause-looks : goal.returns-in_err-row-clause-looks
returns-in_err-row-clause-looks g c =
    let exit = err_from_is_err_and c.from_residual.result c.from_residual.ensures.1 in
    rw (exit.1) (
    let V = g.S.EawStore.view in
    let T = g.S.EawStore.tells in
    let E = g.S.EawStore.opens in
    let A = λ (b : Bool). LooksAs T (E (V c.args.pages.now.store).shape) c.args.tid b (pages_of (V c.args.pages.now.store) c.args.pages.now) (pages_of (V c.read_row.new.pages.store) c.read_row.new.pages) in
    subst (λ (e : TableFault). A (let r : Result (Option ℕ) TableFault = Err e in answers.is_failed r)) (sym exit.2)
    (subst A (sym (failed_told c.in_err-row.field-0.0)) (looks_next T E c.args.tid _ (pages_of (V c.args.pages.now.store) c.args.pages.now) (pages_of (V c.loop-pair.pages.store) c.loop-pair.pages) (pages_of (V c.read_row.new.pages.store) c.read_row.new.pages) c.loop-pair.invariant.looks c.in_err-row.ensures.looks)))

pub returns-in_err-push_row-clause-looks : goal.returns-in_err-push_row-clause-looks
returns-in_err-push_row-clause-looks g c =
    let exit = err_from_is_err_and c.from_residual-in_err-push_row.result c.from_residual-in_err-push_row.ensures.1 in
    rw (exit.1, exit.2) (
    let V = g.S.EawStore.view in
    let T = g.S.EawStore.tells in
    let E = g.S.EawStore.opens in
    looks_next T E c.args.tid false (pages_of (V c.args.pages.now.store) c.args.pages.now) (pages_of (V c.loop-pair.pages.store) c.loop-pair.pages) (pages_of (V c.read_row.new.pages.store) c.read_row.new.pages) c.loop-pair.invariant.looks c.in_ok-row.ensures.looks)

pub returns-then-row-span-clause-looks : goal.returns-then-row-span-clause-looks
returns-then-row-span-clause-looks g c =
    let V = g.S.EawStore.view in
    let T = g.S.EawStore.tells in
    let E = g.S.EawStore.opens in
    looks_next T E c.args.tid false (pages_of (V c.args.pages.now.store) c.args.pages.now) (pages_of (V c.loop-pair.pages.store) c.loop-pair.pages) (pages_of (V c.read_row.new.pages.store) c.read_row.new.pages) c.loop-pair.invariant.looks c.in_ok-row.ensures.looks

pub returns-then-pair-span-clause-hears : goal.returns-then-pair-span-clause-hears
returns-then-pair-span-clause-hears g c = (c.loop-pair.invariant.spoke, c.loop-pair.invariant.heard)

pub returns-in_err-row-clause-hears : goal.returns-in_err-row-clause-hears
returns-in_err-row-clause-hears g c =
    let exit = err_from_is_err_and c.from_residual.result c.from_residual.ensures.1 in
    rw (exit.1) (
    let V = g.S.EawStore.view in
    let here = inside_at c.args.pairs.now c.loop-pair.from (slots_of (V c.args.pages.now.store).shape) c.args.pairs.now c.loop-pair.pair-index c.loop-pair-test.true c.loop-pair.invariant.inside in
    subst (λ (s : Shape). HearsRows s c.read_row.new.hearings.said (λ (from : Option ℕ). c.loop-pair.rows) (Err exit.0)) c.loop-pair.invariant.looks.shape
    (subst (λ (e : TableFault). HearsRows (V c.loop-pair.pages.store).shape c.read_row.new.hearings.said (λ (from : Option ℕ). c.loop-pair.rows) (Err e)) (sym exit.2)
    (next_refused (V c.loop-pair.pages.store).shape (get_or c.args.pairs.now c.loop-pair.pair-index (0, 0)) c.loop-pair.hearings.said c.read_row.new.hearings.said (λ (from : Option ℕ). c.loop-pair.rows) c.in_err-row.field-0.0
    (omega (arith, here.1, ap slots_of c.loop-pair.invariant.looks.shape)) c.in_err-row.ensures.hears c.loop-pair.invariant.spoke)))

pub returns-in_err-push_row-clause-hears : goal.returns-in_err-push_row-clause-hears
returns-in_err-push_row-clause-hears g c =
    let exit = err_from_is_err_and c.from_residual-in_err-push_row.result c.from_residual-in_err-push_row.ensures.1 in
    rw (exit.1, exit.2) (
    next_spoke (g.S.EawStore.view c.loop-pair.pages.store).shape (get_or c.args.pairs.now c.loop-pair.pair-index (0, 0)) c.loop-pair.hearings.said c.read_row.new.hearings.said c.in_ok-row.row c.in_ok-row.ensures.hears c.loop-pair.invariant.spoke)

pub returns-then-row-span-clause-hears : goal.returns-then-row-span-clause-hears
returns-then-row-span-clause-hears g c =
    let shape = (g.S.EawStore.view c.loop-pair.pages.store).shape in
    let pair = get_or c.args.pairs.now c.loop-pair.pair-index (0, 0) in (
      next_spoke shape pair c.loop-pair.hearings.said c.read_row.new.hearings.said c.in_ok-row.row c.in_ok-row.ensures.hears c.loop-pair.invariant.spoke,
      next_rows shape pair c.loop-pair.hearings.said c.read_row.new.hearings.said c.in_ok-row.row c.loop-pair.rows c.push_row.new.rows c.in_ok-row.ensures.hears c.loop-pair.invariant.heard c.in_ok-push_row.ensures,
    )

pub returns-clause-hears : goal.returns-clause-hears
returns-clause-hears g c = (c.loop-pair.invariant.spoke, c.loop-pair.invariant.heard)

pub returns-clause-all : goal.returns-clause-all
returns-clause-all g c =
    let ends = sym (behind_all c.loop-pair.from c.args.pairs.now c.loop-pair.pair-index (omega (arith, c.loop-pair-test.false))) ∙ c.loop-pair.invariant.ends in
    (ends, omega (arith, c.loop-pair.invariant.met, c.loop-pair.invariant.index, c.loop-pair-test.false))

pub returns-clause-few : goal.returns-clause-few
returns-clause-few g c = omega (arith, c.loop-pair.invariant.met, c.loop-pair.invariant.index)

pub returns-then-pair-span-clause-few : goal.returns-then-pair-span-clause-few
returns-then-pair-span-clause-few g c = omega (arith, c.loop-pair.invariant.met, c.loop-pair.invariant.index)

pub returns-then-row-span-clause-few : goal.returns-then-row-span-clause-few
returns-then-row-span-clause-few g c =
    omega (arith, next_met (g.S.EawStore.view c.loop-pair.pages.store).shape (get_or c.args.pairs.now c.loop-pair.pair-index (0, 0)) c.loop-pair.hearings.said c.read_row.new.hearings.said c.in_ok-row.row c.in_ok-row.ensures.hears, c.loop-pair.invariant.met, c.loop-pair-test.true)

pub returns-in_err-push_row-clause-few : goal.returns-in_err-push_row-clause-few
returns-in_err-push_row-clause-few g c =
    omega (arith, next_met (g.S.EawStore.view c.loop-pair.pages.store).shape (get_or c.args.pairs.now c.loop-pair.pair-index (0, 0)) c.loop-pair.hearings.said c.read_row.new.hearings.said c.in_ok-row.row c.in_ok-row.ensures.hears, c.loop-pair.invariant.met, c.loop-pair-test.true)

pub returns-in_err-row-clause-few : goal.returns-in_err-row-clause-few
returns-in_err-row-clause-few g c =
    omega (arith, refused_met (g.S.EawStore.view c.loop-pair.pages.store).shape (get_or c.args.pairs.now c.loop-pair.pair-index (0, 0)) c.loop-pair.hearings.said c.read_row.new.hearings.said c.in_err-row.field-0.0 c.in_err-row.ensures.hears, c.loop-pair.invariant.met, c.loop-pair-test.true)

pub returns-clause-costs : goal.returns-clause-costs
returns-clause-costs g c = λ well. c.loop-pair.invariant.paid

pub returns-then-pair-span-clause-costs : goal.returns-then-pair-span-clause-costs
returns-then-pair-span-clause-costs g c = λ well. c.loop-pair.invariant.paid

pub returns-then-row-span-clause-costs : goal.returns-then-row-span-clause-costs
returns-then-row-span-clause-costs g c =
    let V = g.S.EawStore.view in
    paid_then false (row_cost (g.S.EawStore.calls c.loop-pair.pages.store) c.args.tid (V c.loop-pair.pages.store)) (row_cost (g.S.EawStore.calls c.args.pages.now.store) c.args.tid (V c.args.pages.now.store))
    (V c.args.pages.now.store).moment (V c.loop-pair.pages.store).moment (V c.read_row.new.pages.store).moment c.args.hearings.now.said c.loop-pair.hearings.said c.read_row.new.hearings.said c.loop-pair.invariant.paid
    (row_same (g.S.EawStore.calls c.loop-pair.pages.store) (g.S.EawStore.calls c.args.pages.now.store) c.args.tid (V c.loop-pair.pages.store) (V c.args.pages.now.store) c.loop-pair.invariant.steady c.loop-pair.invariant.looks.shape (c.loop-pair.invariant.looks.same refl).ranges)
    c.in_ok-row.ensures.costs

pub returns-in_err-push_row-clause-costs : goal.returns-in_err-push_row-clause-costs
returns-in_err-push_row-clause-costs g c =
    let exit = err_from_is_err_and c.from_residual-in_err-push_row.result c.from_residual-in_err-push_row.ensures.1 in
    rw (exit.1, exit.2) (
    let V = g.S.EawStore.view in
    paid_then false (row_cost (g.S.EawStore.calls c.loop-pair.pages.store) c.args.tid (V c.loop-pair.pages.store)) (row_cost (g.S.EawStore.calls c.args.pages.now.store) c.args.tid (V c.args.pages.now.store))
    (V c.args.pages.now.store).moment (V c.loop-pair.pages.store).moment (V c.read_row.new.pages.store).moment c.args.hearings.now.said c.loop-pair.hearings.said c.read_row.new.hearings.said c.loop-pair.invariant.paid
    (row_same (g.S.EawStore.calls c.loop-pair.pages.store) (g.S.EawStore.calls c.args.pages.now.store) c.args.tid (V c.loop-pair.pages.store) (V c.args.pages.now.store) c.loop-pair.invariant.steady c.loop-pair.invariant.looks.shape (c.loop-pair.invariant.looks.same refl).ranges)
    c.in_ok-row.ensures.costs)

pub returns-in_err-row-clause-costs : goal.returns-in_err-row-clause-costs
returns-in_err-row-clause-costs g c =
    let exit = err_from_is_err_and c.from_residual.result c.from_residual.ensures.1 in
    rw (exit.1) (
    let V = g.S.EawStore.view in
    let A = λ (b : Bool). ArePaid b (row_cost (g.S.EawStore.calls c.args.pages.now.store) c.args.tid (V c.args.pages.now.store)) (V c.args.pages.now.store).moment (V c.read_row.new.pages.store).moment c.args.hearings.now.said c.read_row.new.hearings.said in
    subst (λ (e : TableFault). A (let r : Result (Option ℕ) TableFault = Err e in answers.is_failed r)) (sym exit.2)
    (subst A (sym (failed_told c.in_err-row.field-0.0)) (paid_then _ (row_cost (g.S.EawStore.calls c.loop-pair.pages.store) c.args.tid (V c.loop-pair.pages.store)) (row_cost (g.S.EawStore.calls c.args.pages.now.store) c.args.tid (V c.args.pages.now.store))
    (V c.args.pages.now.store).moment (V c.loop-pair.pages.store).moment (V c.read_row.new.pages.store).moment c.args.hearings.now.said c.loop-pair.hearings.said c.read_row.new.hearings.said c.loop-pair.invariant.paid
    (row_same (g.S.EawStore.calls c.loop-pair.pages.store) (g.S.EawStore.calls c.args.pages.now.store) c.args.tid (V c.loop-pair.pages.store) (V c.args.pages.now.store) c.loop-pair.invariant.steady c.loop-pair.invariant.looks.shape (c.loop-pair.invariant.looks.same refl).ranges)
    c.in_err-row.ensures.costs)))

pub returns-clause-steady : goal.returns-clause-steady
returns-clause-steady g c = λ well. c.loop-pair.invariant.steady

pub returns-then-pair-span-clause-steady : goal.returns-then-pair-span-clause-steady
returns-then-pair-span-clause-steady g c = λ well. c.loop-pair.invariant.steady

pub returns-then-row-span-clause-steady : goal.returns-then-row-span-clause-steady
returns-then-row-span-clause-steady g c = λ well command. c.in_ok-row.ensures.steady refl command ∙ c.loop-pair.invariant.steady command

pub returns-in_err-push_row-clause-steady : goal.returns-in_err-push_row-clause-steady
returns-in_err-push_row-clause-steady g c =
    let exit = err_from_is_err_and c.from_residual-in_err-push_row.result c.from_residual-in_err-push_row.ensures.1 in
    rw (exit.1, exit.2) (λ well command. c.in_ok-row.ensures.steady refl command ∙ c.loop-pair.invariant.steady command)

pub returns-in_err-row-clause-steady : goal.returns-in_err-row-clause-steady
returns-in_err-row-clause-steady g c =
    let exit = err_from_is_err_and c.from_residual.result c.from_residual.ensures.1 in
    rw (exit.1) (
    let A = λ (b : Bool). AreSteady b (g.S.EawStore.calls c.args.pages.now.store) (g.S.EawStore.calls c.read_row.new.pages.store) in
    subst (λ (e : TableFault). A (let r : Result (Option ℕ) TableFault = Err e in answers.is_failed r)) (sym exit.2)
    (subst A (sym (failed_told c.in_err-row.field-0.0)) (λ well command. c.in_err-row.ensures.steady well command ∙ c.loop-pair.invariant.steady command)))
