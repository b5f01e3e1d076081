use Rattle.std.proofs.Common.{Bool, Option, Result, Err}
use Rattle.history.specs.Writes.{Row}
use Rattle.record_table.specs.Does as answers
use Rattle.record_table.specs.declared.fault.TableFault.{TableFault}
use Rattle.record_table.proofs.Looking.{failed_told}
use Rattle.std.proofs.lemmas.Bool.{eqb-true, eqb-false}
use Rattle.std.proofs.Common.{false, inr, ℕ, ◌+◌, ◌-◌, ◌<◌, List, ◌++◌, length, refl, sym, ◌∙◌, ap, subst, arith}
use Rattle.array_shape.specs.Places.{page_count}
use Rattle.std.proofs.lemmas.List.{append-nil}
use Rattle.eaw_face.specs.State.{State}
use Rattle.page_store.specs.Index.{slots_of}
use Rattle.page_store.specs.Pairs.{Pair, AreInside, InTurn, AreNext}
use Rattle.page_store.specs.Shown.{pages_of}
use Rattle.history.specs.Writes.{rows_within}
use Rattle.index_pages.proofs.Turns.{next_first, next_empty}
use Rattle.record_table.specs.Names.{IsCalled}
use Rattle.record_table.specs.Scanned.{rows_seen, rows_left}
use Rattle.record_table.specs.Sought.{LooksAs}
use Rattle.record_table.specs.State.{TableState, seen_by}
use Rattle.record_table.proofs.Looking.{looks_as, looks_none, looks_next}
use Rattle.record_table.proofs.Gathering.{follows_end, follows_past, no_row}
use Rattle.record_table.proofs.Moving.{moved_by_look, rests_moved}
use Rattle.record_table.proofs.Sharing.{Laws}
use Rattle.array_shape.specs.declared.shape.Shape.{Shape}
use Rattle.record_table.specs.Hearing.{Hearing, HearsRows}
use Rattle.record_table.specs.Seeks.{row_cost}
use Rattle.record_table.specs.Walked.{Walked}
use Rattle.record_table.proofs.Counting.{many, keys_few, many_behind, slot_inside}
use Rattle.record_table.proofs.Walking.{paid_same, row_same, walk_begins, walk_looks, walk_hears, walk_more, walk_ends}
use Rattle.record_table.proofs.Hearing.{all_spoke_yet, no_rows_yet, index_refused, rows_refused}
use Rattle.std.proofs.lemmas.Result.{err_from_is_err_and}
use Rattle.record_table.proofs.scanning.gather.Goals as goal

pub next_pairs-requires-clause-sound : goal.next_pairs-requires-clause-sound
next_pairs-requires-clause-sound g c = λ told living.
    let K = g.met.K.KeyIndex in
    let V = g.S.EawStore.view in
    let I = g.K.KeyIndex.index in
    let T = g.S.EawStore.tells in
    let E = g.S.EawStore.opens (g.S.EawStore.view c.args.pages.now.store).shape in
    let laws : Laws g.K.KeyIndex.index = record { rises = K.rises; given = K.given; counts = K.counts; rests = K.rests; extends = K.extends } in
    let v0 = pages_of (V c.args.pages.now.store) c.args.pages.now in
    let v1 = pages_of (V c.loop-from.pages.store) c.loop-from.pages in
    let t = c.args.tid in
    let rests = c.requires.holds c.requires.alive in
    ((rests_moved T E I t v0 v1 rests (moved_by_look T E I t v0 v1 c.requires.alive rests c.loop-from.invariant.looks)).tied told).sound

pub push_rows-requires-clause-holds : goal.push_rows-requires-clause-holds
push_rows-requires-clause-holds g c = λ living.
    let K = g.met.K.KeyIndex in
    let V = g.S.EawStore.view in
    let I = g.K.KeyIndex.index in
    let T = g.S.EawStore.tells in
    let E = g.S.EawStore.opens (g.S.EawStore.view c.args.pages.now.store).shape in
    let laws : Laws g.K.KeyIndex.index = record { rises = K.rises; given = K.given; counts = K.counts; rests = K.rests; extends = K.extends } in
    let v0 = pages_of (V c.args.pages.now.store) c.args.pages.now in
    let v1 = pages_of (V c.loop-from.pages.store) c.loop-from.pages in
    let t = c.args.tid in
    let rests = c.requires.holds c.requires.alive in
    let v2 = pages_of (V c.next_pairs.new.pages.store) c.next_pairs.new.pages in
    let looked : LooksAs g.S.EawStore.tells (g.S.EawStore.opens (g.S.EawStore.view c.args.pages.now.store).shape) c.args.tid false (pages_of (g.S.EawStore.view c.args.pages.now.store) c.args.pages.now) (pages_of (g.S.EawStore.view c.next_pairs.new.pages.store) c.next_pairs.new.pages) =
    looks_next T g.S.EawStore.opens t false v0 v1 v2 c.loop-from.invariant.looks (looks_as T (g.S.EawStore.opens v1.store.shape) t false v1 v2 c.in_ok-pairs.ensures.looks) in
    rests_moved T E I t v0 v2 rests (moved_by_look T E I t v0 v2 c.requires.alive rests looked)

pub push_rows-requires-clause-turn : goal.push_rows-requires-clause-turn
push_rows-requires-clause-turn g c = λ told.
    subst (λ (l : List Pair). InTurn (g.K.KeyIndex.index.pairs (g.S.EawStore.view c.next_pairs.new.pages.store).state.bytes c.args.root) c.loop-from.from l) (sym c.as_slice-pairs.ensures.value)
    (subst (λ (s : State). InTurn (g.K.KeyIndex.index.pairs s.bytes c.args.root) c.loop-from.from c.in_ok-pairs.pairs.items) (sym ((c.in_ok-pairs.ensures.looks.still refl).state told))
    (next_first (g.K.KeyIndex.index.pairs (g.S.EawStore.view c.loop-from.pages.store).state.bytes c.args.root) c.loop-from.from c.in_ok-pairs.pairs.items (omega (arith, eqb-false _ 0 (sym c.if-is_empty.ensures))) (c.in_ok-pairs.ensures.next told)))

pub push_rows-requires-clause-inside : goal.push_rows-requires-clause-inside
push_rows-requires-clause-inside g c =
    subst (λ (l : List Pair). AreInside c.loop-from.from (slots_of (g.S.EawStore.view c.next_pairs.new.pages.store).shape) l) (sym c.as_slice-pairs.ensures.value)
    (subst (λ (n : ℕ). AreInside c.loop-from.from n c.in_ok-pairs.pairs.items) (ap slots_of (sym c.in_ok-pairs.ensures.looks.shape)) c.in_ok-pairs.ensures.inside)

pub returns-then-is_empty-clause-rows : goal.returns-then-is_empty-clause-rows
returns-then-is_empty-clause-rows g c = λ told name called.
    let K = g.met.K.KeyIndex in
    let V = g.S.EawStore.view in
    let I = g.K.KeyIndex.index in
    let T = g.S.EawStore.tells in
    let E = g.S.EawStore.opens (g.S.EawStore.view c.args.pages.now.store).shape in
    let laws : Laws g.K.KeyIndex.index = record { rises = K.rises; given = K.given; counts = K.counts; rests = K.rests; extends = K.extends } in
    let v0 = pages_of (V c.args.pages.now.store) c.args.pages.now in
    let v1 = pages_of (V c.loop-from.pages.store) c.loop-from.pages in
    let t = c.args.tid in
    let rests = c.requires.holds c.requires.alive in
    let none = subst (λ (s : State). AreNext (g.K.KeyIndex.index.pairs s.bytes c.args.root) c.loop-from.from c.in_ok-pairs.pairs.items) ((c.loop-from.invariant.looks.same refl).still.state told) (c.in_ok-pairs.ensures.next told) in
    no_row (c.loop-from.rows) _ _ (c.loop-from.invariant.rows told name called)
    (follows_end I laws t v0 (rests.tied told) c.args.table c.args.root name called (c.requires.named told c.requires.alive) c.loop-from.from c.args.high
    (next_empty (I.pairs v0.store.state.bytes c.args.root) c.loop-from.from c.in_ok-pairs.pairs.items (eqb-true _ 0 (sym c.if-is_empty.ensures)) none))

pub returns-in_default-clause-rows : goal.returns-in_default-clause-rows
returns-in_default-clause-rows g c = λ told name called.
    let K = g.met.K.KeyIndex in
    let V = g.S.EawStore.view in
    let I = g.K.KeyIndex.index in
    let T = g.S.EawStore.tells in
    let E = g.S.EawStore.opens (g.S.EawStore.view c.args.pages.now.store).shape in
    let laws : Laws g.K.KeyIndex.index = record { rises = K.rises; given = K.given; counts = K.counts; rests = K.rests; extends = K.extends } in
    let v0 = pages_of (V c.args.pages.now.store) c.args.pages.now in
    let v1 = pages_of (V c.loop-from.pages.store) c.loop-from.pages in
    let t = c.args.tid in
    let rests = c.requires.holds c.requires.alive in
    let v2 = pages_of (V c.next_pairs.new.pages.store) c.next_pairs.new.pages in
    let looked : LooksAs g.S.EawStore.tells (g.S.EawStore.opens (g.S.EawStore.view c.args.pages.now.store).shape) c.args.tid false (pages_of (g.S.EawStore.view c.args.pages.now.store) c.args.pages.now) (pages_of (g.S.EawStore.view c.next_pairs.new.pages.store) c.next_pairs.new.pages) =
    looks_next T g.S.EawStore.opens t false v0 v1 v2 c.loop-from.invariant.looks (looks_as T (g.S.EawStore.opens v1.store.shape) t false v1 v2 c.in_ok-pairs.ensures.looks) in
    let moved = moved_by_look T E I t v0 v2 c.requires.alive rests looked in
    sym (append-nil (c.push_rows.new.rows)) ∙ (rw c.in_default.is at (c.in_ok-next.ensures.rows told name (subst (λ (s : State). IsCalled s.bytes c.args.table name) (sym ((looked.same refl).still.state told)) called)))
    ∙ ap (λ (s : TableState). c.loop-from.rows ++ rows_within name c.loop-from.from c.args.high (seen_by s t)) (moved.state told)
    ∙ c.loop-from.invariant.rows told name called

pub returns-clause-rows : goal.returns-clause-rows
returns-clause-rows g c = λ told name called.
    let K = g.met.K.KeyIndex in
    let V = g.S.EawStore.view in
    let I = g.K.KeyIndex.index in
    let T = g.S.EawStore.tells in
    let E = g.S.EawStore.opens (g.S.EawStore.view c.args.pages.now.store).shape in
    let laws : Laws g.K.KeyIndex.index = record { rises = K.rises; given = K.given; counts = K.counts; rests = K.rests; extends = K.extends } in
    let v0 = pages_of (V c.args.pages.now.store) c.args.pages.now in
    let v1 = pages_of (V c.loop-from.pages.store) c.loop-from.pages in
    let t = c.args.tid in
    let rests = c.requires.holds c.requires.alive in
    no_row (c.loop-from.rows) _ _ (c.loop-from.invariant.rows told name called)
    (follows_past I laws t v0 (rests.tied told) c.args.table c.args.root name called (c.requires.named told c.requires.alive) c.loop-from.from c.args.high (omega (arith, c.loop-from-test.false)))

pub returns-clause-looks : goal.returns-clause-looks
returns-clause-looks g c = c.loop-from.invariant.looks

pub loop-from-init : goal.loop-from-init
loop-from-init g c =
    let V = g.S.EawStore.view in
    let T = g.S.EawStore.tells in
    let E = g.S.EawStore.opens in
    let K = g.met.K.KeyIndex in
    let laws : Laws g.K.KeyIndex.index = record { rises = K.rises; given = K.given; counts = K.counts; rests = K.rests; extends = K.extends } in
    let shape = (V c.args.pages.now.store).shape in
    record {
      left = omega (arith, ap (λ (hs : List Hearing). length hs) c.requires.unheard, c.slot_count-left.ensures);
      walking = walk_more g.K.KeyIndex.access c.args.root (g.S.EawStore.calls c.args.pages.now.store) (row_cost (g.S.EawStore.calls c.args.pages.now.store) c.args.tid (V c.args.pages.now.store)) (V c.args.pages.now.store).shape false 0 (length c.args.hearings.now.said) (V c.args.pages.now.store).moment (V c.args.pages.now.store).moment c.args.hearings.now.said (omega arith)
          (walk_begins g.K.KeyIndex.access c.args.root (g.S.EawStore.calls c.args.pages.now.store) (row_cost (g.S.EawStore.calls c.args.pages.now.store) c.args.tid (V c.args.pages.now.store)) (V c.args.pages.now.store).shape (V c.args.pages.now.store).moment c.args.hearings.now.said c.requires.unheard);
      steady = λ command. refl;
      keys = λ told. omega (
        arith,
        keys_few g.K.KeyIndex.index laws (V c.args.pages.now.store).state.bytes shape c.args.table c.args.root c.args.low (g.met.S.EawStore.long c.args.pages.now.store told)
            ((c.requires.holds c.requires.alive).tied told).sound (c.requires.named told c.requires.alive),
        c.slot_count-left.ensures,
      );
      spoke = all_spoke_yet c.args.hearings.now.said c.requires.unheard;
      heard = no_rows_yet c.args.hearings.now.said c.args.rows.now c.requires.unheard c.requires.empty;
      looks = looks_none T (E (V c.args.pages.now.store).shape) c.args.tid (pages_of (V c.args.pages.now.store) c.args.pages.now);
      rows = λ told name called. ap (λ (r : List Row). r ++ rows_seen g.K.KeyIndex.index c.args.tid name (pages_of (V c.args.pages.now.store) c.args.pages.now) c.args.low c.args.high) c.requires.empty;
    }

pub returns-in_err-pairs-clause-looks : goal.returns-in_err-pairs-clause-looks
returns-in_err-pairs-clause-looks g c =
    let exit = err_from_is_err_and c.from_residual.result c.from_residual.ensures.1 in
    rw (exit.1) (
    let V = g.S.EawStore.view in
    let T = g.S.EawStore.tells in
    let E = g.S.EawStore.opens in
    let A = λ (b : Bool). LooksAs T (E (V c.args.pages.now.store).shape) c.args.tid b (pages_of (V c.args.pages.now.store) c.args.pages.now) (pages_of (V c.next_pairs.new.pages.store) c.next_pairs.new.pages) in
    subst (λ (e : TableFault). A (let r : Result (Unit {0}) TableFault = Err e in answers.is_failed r)) (sym exit.2)
    (subst A (sym (failed_told c.in_err-pairs.field-0.0)) (looks_next T E c.args.tid _ (pages_of (V c.args.pages.now.store) c.args.pages.now) (pages_of (V c.loop-from.pages.store) c.loop-from.pages) (pages_of (V c.next_pairs.new.pages.store) c.next_pairs.new.pages) c.loop-from.invariant.looks (looks_as T (E (V c.loop-from.pages.store).shape) c.args.tid _ (pages_of (V c.loop-from.pages.store) c.loop-from.pages) (pages_of (V c.next_pairs.new.pages.store) c.next_pairs.new.pages) c.in_err-pairs.ensures.looks))))

pub returns-then-is_empty-clause-looks : goal.returns-then-is_empty-clause-looks
returns-then-is_empty-clause-looks g c =
    let V = g.S.EawStore.view in
    let T = g.S.EawStore.tells in
    let E = g.S.EawStore.opens in
    looks_next T E c.args.tid false (pages_of (V c.args.pages.now.store) c.args.pages.now) (pages_of (V c.loop-from.pages.store) c.loop-from.pages) (pages_of (V c.next_pairs.new.pages.store) c.next_pairs.new.pages) c.loop-from.invariant.looks (looks_as T (E (V c.loop-from.pages.store).shape) c.args.tid false (pages_of (V c.loop-from.pages.store) c.loop-from.pages) (pages_of (V c.next_pairs.new.pages.store) c.next_pairs.new.pages) c.in_ok-pairs.ensures.looks)

pub returns-in_default-clause-looks : goal.returns-in_default-clause-looks
returns-in_default-clause-looks g c =
    let V = g.S.EawStore.view in
    let T = g.S.EawStore.tells in
    let E = g.S.EawStore.opens in
    looks_next T E c.args.tid false (pages_of (V c.args.pages.now.store) c.args.pages.now) (pages_of (V c.next_pairs.new.pages.store) c.next_pairs.new.pages) (pages_of (V c.push_rows.new.pages.store) c.push_rows.new.pages) (looks_next T E c.args.tid false (pages_of (V c.args.pages.now.store) c.args.pages.now) (pages_of (V c.loop-from.pages.store) c.loop-from.pages) (pages_of (V c.next_pairs.new.pages.store) c.next_pairs.new.pages) c.loop-from.invariant.looks (looks_as T (E (V c.loop-from.pages.store).shape) c.args.tid false (pages_of (V c.loop-from.pages.store) c.loop-from.pages) (pages_of (V c.next_pairs.new.pages.store) c.next_pairs.new.pages) c.in_ok-pairs.ensures.looks)) c.in_ok-next.ensures.looks

pub returns-in_err-next-clause-looks : goal.returns-in_err-next-clause-looks
returns-in_err-next-clause-looks g c =
    let exit = err_from_is_err_and c.from_residual-in_err-next.result c.from_residual-in_err-next.ensures.1 in
    rw (exit.1, exit.2) (
    let V = g.S.EawStore.view in
    let T = g.S.EawStore.tells in
    let E = g.S.EawStore.opens in
    looks_next T E c.args.tid _ (pages_of (V c.args.pages.now.store) c.args.pages.now) (pages_of (V c.next_pairs.new.pages.store) c.next_pairs.new.pages) (pages_of (V c.push_rows.new.pages.store) c.push_rows.new.pages) (looks_next T E c.args.tid false (pages_of (V c.args.pages.now.store) c.args.pages.now) (pages_of (V c.loop-from.pages.store) c.loop-from.pages) (pages_of (V c.next_pairs.new.pages.store) c.next_pairs.new.pages) c.loop-from.invariant.looks (looks_as T (E (V c.loop-from.pages.store).shape) c.args.tid false (pages_of (V c.loop-from.pages.store) c.loop-from.pages) (pages_of (V c.next_pairs.new.pages.store) c.next_pairs.new.pages) c.in_ok-pairs.ensures.looks)) c.in_err-next.ensures.looks)

pub loop-from-preserved : goal.loop-from-preserved
loop-from-preserved g c =
    let V = g.S.EawStore.view in
    let T = g.S.EawStore.tells in
    let E = g.S.EawStore.opens in
    let looked = looks_next T E c.args.tid false (pages_of (V c.args.pages.now.store) c.args.pages.now) (pages_of (V c.loop-from.pages.store) c.loop-from.pages) (pages_of (V c.next_pairs.new.pages.store) c.next_pairs.new.pages) c.loop-from.invariant.looks (looks_as T (E (V c.loop-from.pages.store).shape) c.args.tid false (pages_of (V c.loop-from.pages.store) c.loop-from.pages) (pages_of (V c.next_pairs.new.pages.store) c.next_pairs.new.pages) c.in_ok-pairs.ensures.looks) in
    let all = rw c.in-Some.is at c.in_ok-next.ensures.all in
    record {
      left = omega (arith, all.1, c.if-met-left.false, c.loop-from.invariant.left);
      walking = walk_more g.K.KeyIndex.access c.args.root (g.S.EawStore.calls c.args.pages.now.store) (row_cost (g.S.EawStore.calls c.args.pages.now.store) c.args.tid (V c.args.pages.now.store)) (V c.args.pages.now.store).shape false (length c.loop-from.hearings.said + 1) (length c.push_rows.new.hearings.said) (V c.args.pages.now.store).moment (V c.push_rows.new.pages.store).moment c.push_rows.new.hearings.said (omega (arith, all.1, eqb-false _ 0 (sym c.if-is_empty.ensures), ap (λ (ps : List Pair). length ps) c.as_slice-pairs.ensures.value))
          (walk_hears g.K.KeyIndex.access c.args.root (g.S.EawStore.calls c.args.pages.now.store) (row_cost (g.S.EawStore.calls c.args.pages.now.store) c.args.tid (V c.args.pages.now.store)) (V c.args.pages.now.store).shape false (length c.loop-from.hearings.said + 1) (V c.args.pages.now.store).moment (V c.next_pairs.new.pages.store).moment (V c.push_rows.new.pages.store).moment c.loop-from.hearings.said c.push_rows.new.hearings.said
          (walk_looks g.K.KeyIndex.access c.args.root (g.S.EawStore.calls c.args.pages.now.store) (row_cost (g.S.EawStore.calls c.args.pages.now.store) c.args.tid (V c.args.pages.now.store)) (V c.args.pages.now.store).shape g.S.EawStore.tells (g.S.EawStore.calls c.loop-from.pages.store) (g.S.EawStore.calls c.next_pairs.new.pages.store) (length c.loop-from.hearings.said) (V c.args.pages.now.store).moment c.loop-from.from c.loop-from.hearings.said _ (V c.loop-from.pages.store) (V c.next_pairs.new.pages.store) _ c.loop-from.invariant.walking c.loop-from.invariant.steady c.loop-from.invariant.looks.shape c.in_ok-pairs.ensures.follows)
          (paid_same _ (row_cost (g.S.EawStore.calls c.next_pairs.new.pages.store) c.args.tid (V c.next_pairs.new.pages.store)) (row_cost (g.S.EawStore.calls c.args.pages.now.store) c.args.tid (V c.args.pages.now.store)) _ _ c.loop-from.hearings.said c.push_rows.new.hearings.said (row_same (g.S.EawStore.calls c.next_pairs.new.pages.store) (g.S.EawStore.calls c.args.pages.now.store) c.args.tid (V c.next_pairs.new.pages.store) (V c.args.pages.now.store) (λ command. c.in_ok-pairs.ensures.follows.reads.steady refl command ∙ c.loop-from.invariant.steady command) (c.in_ok-pairs.ensures.looks.shape ∙ c.loop-from.invariant.looks.shape) (c.in_ok-pairs.ensures.looks.ranges ∙ (c.loop-from.invariant.looks.same refl).ranges)) c.in_ok-next.ensures.costs));
      steady = λ command. c.in_ok-next.ensures.steady refl command ∙ c.in_ok-pairs.ensures.follows.reads.steady refl command ∙ c.loop-from.invariant.steady command;
      keys = λ told.
          let fewer = many_behind (g.K.KeyIndex.index.pairs (V c.args.pages.now.store).state.bytes c.args.root) c.loop-from.from c.as_slice-pairs.result.now
          (subst (λ (l : List Pair). InTurn (g.K.KeyIndex.index.pairs (V c.args.pages.now.store).state.bytes c.args.root) c.loop-from.from l) (sym c.as_slice-pairs.ensures.value)
          (subst (λ (s : State). InTurn (g.K.KeyIndex.index.pairs s.bytes c.args.root) c.loop-from.from c.in_ok-pairs.pairs.items) ((c.loop-from.invariant.looks.same refl).still.state told)
          (next_first (g.K.KeyIndex.index.pairs (V c.loop-from.pages.store).state.bytes c.args.root) c.loop-from.from c.in_ok-pairs.pairs.items (omega (arith, eqb-false _ 0 (sym c.if-is_empty.ensures))) (c.in_ok-pairs.ensures.next told)))) in
          omega (arith, fewer, ap (λ (n : ℕ). many n (g.K.KeyIndex.index.pairs (V c.args.pages.now.store).state.bytes c.args.root)) all.0, c.loop-from.invariant.keys told, c.if-met-left.false);
      spoke = c.in_ok-next.ensures.hears.0;
      heard = c.in_ok-next.ensures.hears.1;
      looks = looks_next T E c.args.tid false (pages_of (V c.args.pages.now.store) c.args.pages.now) (pages_of (V c.next_pairs.new.pages.store) c.next_pairs.new.pages) (pages_of (V c.push_rows.new.pages.store) c.push_rows.new.pages) looked c.in_ok-next.ensures.looks;
      rows = λ told name called.
          let moved = moved_by_look T (E (V c.args.pages.now.store).shape) g.K.KeyIndex.index c.args.tid (pages_of (V c.args.pages.now.store) c.args.pages.now) (pages_of (V c.next_pairs.new.pages.store) c.next_pairs.new.pages) c.requires.alive (c.requires.holds c.requires.alive) looked in
          sym (ap (λ (s : TableState). c.push_rows.new.rows ++ rows_within name c.in-Some.next c.args.high (seen_by s c.args.tid)) (moved.state told))
          ∙ (rw c.in-Some.is at (c.in_ok-next.ensures.rows told name (subst (λ (s : State). IsCalled s.bytes c.args.table name) (sym ((looked.same refl).still.state told)) called)))
          ∙ ap (λ (s : TableState). c.loop-from.rows ++ rows_within name c.loop-from.from c.args.high (seen_by s c.args.tid)) (moved.state told)
          ∙ c.loop-from.invariant.rows told name called;
    }

pub push_rows-requires-clause-spoke : goal.push_rows-requires-clause-spoke
push_rows-requires-clause-spoke g c = c.loop-from.invariant.spoke

pub push_rows-requires-clause-heard : goal.push_rows-requires-clause-heard
push_rows-requires-clause-heard g c = c.loop-from.invariant.heard

pub returns-clause-hears : goal.returns-clause-hears
returns-clause-hears g c = (c.loop-from.invariant.spoke, c.loop-from.invariant.heard)

pub returns-then-is_empty-clause-hears : goal.returns-then-is_empty-clause-hears
returns-then-is_empty-clause-hears g c = (c.loop-from.invariant.spoke, c.loop-from.invariant.heard)

pub returns-in_default-clause-hears : goal.returns-in_default-clause-hears
returns-in_default-clause-hears g c = c.in_ok-next.ensures.hears

pub returns-in_err-pairs-clause-hears : goal.returns-in_err-pairs-clause-hears
returns-in_err-pairs-clause-hears g c =
    let exit = err_from_is_err_and c.from_residual.result c.from_residual.ensures.1 in
    rw (exit.1) (
    let V = g.S.EawStore.view in
    let rows = λ (done : Unit {0}). c.loop-from.rows in
    subst (λ (s : Shape). HearsRows s c.loop-from.hearings.said rows (Err exit.0)) c.loop-from.invariant.looks.shape
    (subst (λ (e : TableFault). HearsRows (V c.loop-from.pages.store).shape c.loop-from.hearings.said rows (Err e)) (sym exit.2)
    (index_refused g.S.EawStore.tells (g.S.EawStore.calls c.loop-from.pages.store) (g.S.EawStore.calls c.next_pairs.new.pages.store) (g.K.KeyIndex.access.nexting c.args.root c.loop-from.from) _ (V c.loop-from.pages.store) (V c.next_pairs.new.pages.store) c.loop-from.hearings.said
    rows c.in_err-pairs.field-0.0 c.in_err-pairs.ensures.follows c.loop-from.invariant.spoke)))

pub returns-in_err-next-clause-hears : goal.returns-in_err-next-clause-hears
returns-in_err-next-clause-hears g c =
    let exit = err_from_is_err_and c.from_residual-in_err-next.result c.from_residual-in_err-next.ensures.1 in
    rw (exit.1, exit.2) (
    subst (λ (s : Shape). HearsRows s c.push_rows.new.hearings.said (λ (done : Unit {0}). c.push_rows.new.rows) (Err c.in_err-next.field-0.0)) (c.in_ok-pairs.ensures.looks.shape ∙ c.loop-from.invariant.looks.shape)
    (rows_refused (g.S.EawStore.view c.next_pairs.new.pages.store).shape c.push_rows.new.hearings.said (λ (from : Option ℕ). c.push_rows.new.rows) (λ (done : Unit {0}). c.push_rows.new.rows) c.in_err-next.field-0.0 c.in_err-next.ensures.hears))

-- more keys than slots
pub page_of-page-requires : goal.page_of-page-requires
page_of-page-requires g c =
    let V = g.S.EawStore.view in
    let inside = subst (λ (l : List Pair). AreInside c.loop-from.from (slots_of (V c.loop-from.pages.store).shape) l) (sym c.as_slice-pairs.ensures.value) c.in_ok-pairs.ensures.inside in
    let lt = slot_inside c.loop-from.from (slots_of (V c.loop-from.pages.store).shape) c.as_slice-pairs.result.now (length c.as_slice-pairs.result.now - 1) (omega arith) inside in
    omega (arith, lt, ap slots_of c.in_ok-pairs.ensures.looks.shape, ap slots_of c.in_ok-next.ensures.looks.shape)

pub returns-then-met-left-clause-looks : goal.returns-then-met-left-clause-looks
returns-then-met-left-clause-looks g c =
    let V = g.S.EawStore.view in
    let T = g.S.EawStore.tells in
    let E = g.S.EawStore.opens in
    looks_next T E c.args.tid false (pages_of (V c.args.pages.now.store) c.args.pages.now) (pages_of (V c.next_pairs.new.pages.store) c.next_pairs.new.pages) (pages_of (V c.push_rows.new.pages.store) c.push_rows.new.pages) (looks_next T E c.args.tid false (pages_of (V c.args.pages.now.store) c.args.pages.now) (pages_of (V c.loop-from.pages.store) c.loop-from.pages) (pages_of (V c.next_pairs.new.pages.store) c.next_pairs.new.pages) c.loop-from.invariant.looks (looks_as T (E (V c.loop-from.pages.store).shape) c.args.tid false (pages_of (V c.loop-from.pages.store) c.loop-from.pages) (pages_of (V c.next_pairs.new.pages.store) c.next_pairs.new.pages) c.in_ok-pairs.ensures.looks)) c.in_ok-next.ensures.looks

pub returns-then-met-left-clause-cause : goal.returns-then-met-left-clause-cause
returns-then-met-left-clause-cause g c = λ told.
    let V = g.S.EawStore.view in
    let fewer = many_behind (g.K.KeyIndex.index.pairs (V c.args.pages.now.store).state.bytes c.args.root) c.loop-from.from c.as_slice-pairs.result.now
    (subst (λ (l : List Pair). InTurn (g.K.KeyIndex.index.pairs (V c.args.pages.now.store).state.bytes c.args.root) c.loop-from.from l) (sym c.as_slice-pairs.ensures.value)
    (subst (λ (s : State). InTurn (g.K.KeyIndex.index.pairs s.bytes c.args.root) c.loop-from.from c.in_ok-pairs.pairs.items) ((c.loop-from.invariant.looks.same refl).still.state told)
    (next_first (g.K.KeyIndex.index.pairs (V c.loop-from.pages.store).state.bytes c.args.root) c.loop-from.from c.in_ok-pairs.pairs.items (omega (arith, eqb-false _ 0 (sym c.if-is_empty.ensures))) (c.in_ok-pairs.ensures.next told)))) in
    omega (arith, fewer, c.loop-from.invariant.keys told, c.if-met-left.true)

pub returns-then-met-left-clause-hears : goal.returns-then-met-left-clause-hears
returns-then-met-left-clause-hears g c =
    let shape = c.in_ok-next.ensures.looks.shape ∙ c.in_ok-pairs.ensures.looks.shape ∙ c.loop-from.invariant.looks.shape in
    (subst (λ (s : Shape). c.page_of-page.result < page_count s) shape c.page_of-page.ensures.inside, inr c.in_ok-next.ensures.hears.0)

pub returns-clause-walks : goal.returns-clause-walks
returns-clause-walks g c =
    let V = g.S.EawStore.view in
    walk_ends g.K.KeyIndex.access c.args.root (g.S.EawStore.calls c.args.pages.now.store) (row_cost (g.S.EawStore.calls c.args.pages.now.store) c.args.tid (V c.args.pages.now.store)) (V c.args.pages.now.store).shape false (length c.loop-from.hearings.said) (V c.args.pages.now.store).moment (V c.loop-from.pages.store).moment c.loop-from.hearings.said (omega (arith, c.loop-from.invariant.left)) (omega (arith, c.loop-from.invariant.left))
    (c.loop-from.invariant.walking)

pub returns-then-is_empty-clause-walks : goal.returns-then-is_empty-clause-walks
returns-then-is_empty-clause-walks g c =
    let V = g.S.EawStore.view in
    walk_ends g.K.KeyIndex.access c.args.root (g.S.EawStore.calls c.args.pages.now.store) (row_cost (g.S.EawStore.calls c.args.pages.now.store) c.args.tid (V c.args.pages.now.store)) (V c.args.pages.now.store).shape false (length c.loop-from.hearings.said + 1) (V c.args.pages.now.store).moment (V c.next_pairs.new.pages.store).moment c.loop-from.hearings.said (omega (arith, c.loop-from.invariant.left)) (omega (arith, c.loop-from.invariant.left))
    (walk_looks g.K.KeyIndex.access c.args.root (g.S.EawStore.calls c.args.pages.now.store) (row_cost (g.S.EawStore.calls c.args.pages.now.store) c.args.tid (V c.args.pages.now.store)) (V c.args.pages.now.store).shape g.S.EawStore.tells (g.S.EawStore.calls c.loop-from.pages.store) (g.S.EawStore.calls c.next_pairs.new.pages.store) (length c.loop-from.hearings.said) (V c.args.pages.now.store).moment c.loop-from.from c.loop-from.hearings.said _ (V c.loop-from.pages.store) (V c.next_pairs.new.pages.store) _ c.loop-from.invariant.walking c.loop-from.invariant.steady c.loop-from.invariant.looks.shape c.in_ok-pairs.ensures.follows)

pub returns-in_err-pairs-clause-walks : goal.returns-in_err-pairs-clause-walks
returns-in_err-pairs-clause-walks g c =
    let exit = err_from_is_err_and c.from_residual.result c.from_residual.ensures.1 in
    rw (exit.1) (
    let V = g.S.EawStore.view in
    let A = λ (b : Bool). Walked g.K.KeyIndex.access c.args.root (g.S.EawStore.calls c.args.pages.now.store) (row_cost (g.S.EawStore.calls c.args.pages.now.store) c.args.tid (V c.args.pages.now.store)) (V c.args.pages.now.store).shape b (V c.args.pages.now.store).moment (V c.next_pairs.new.pages.store).moment c.loop-from.hearings.said in
    subst (λ (e : TableFault). A (let r : Result (Unit {0}) TableFault = Err e in answers.is_failed r)) (sym exit.2)
    (subst A (sym (failed_told c.in_err-pairs.field-0.0)) (walk_ends g.K.KeyIndex.access c.args.root (g.S.EawStore.calls c.args.pages.now.store) (row_cost (g.S.EawStore.calls c.args.pages.now.store) c.args.tid (V c.args.pages.now.store)) (V c.args.pages.now.store).shape _ (length c.loop-from.hearings.said + 1) (V c.args.pages.now.store).moment (V c.next_pairs.new.pages.store).moment c.loop-from.hearings.said (omega (arith, c.loop-from.invariant.left)) (omega (arith, c.loop-from.invariant.left))
    (walk_looks g.K.KeyIndex.access c.args.root (g.S.EawStore.calls c.args.pages.now.store) (row_cost (g.S.EawStore.calls c.args.pages.now.store) c.args.tid (V c.args.pages.now.store)) (V c.args.pages.now.store).shape g.S.EawStore.tells (g.S.EawStore.calls c.loop-from.pages.store) (g.S.EawStore.calls c.next_pairs.new.pages.store) (length c.loop-from.hearings.said) (V c.args.pages.now.store).moment c.loop-from.from c.loop-from.hearings.said _ (V c.loop-from.pages.store) (V c.next_pairs.new.pages.store) _ c.loop-from.invariant.walking c.loop-from.invariant.steady c.loop-from.invariant.looks.shape c.in_err-pairs.ensures.follows))))

pub returns-in_default-clause-walks : goal.returns-in_default-clause-walks
returns-in_default-clause-walks g c =
    let V = g.S.EawStore.view in
    walk_ends g.K.KeyIndex.access c.args.root (g.S.EawStore.calls c.args.pages.now.store) (row_cost (g.S.EawStore.calls c.args.pages.now.store) c.args.tid (V c.args.pages.now.store)) (V c.args.pages.now.store).shape false (length c.loop-from.hearings.said + 1) (V c.args.pages.now.store).moment (V c.push_rows.new.pages.store).moment c.push_rows.new.hearings.said (omega (arith, c.loop-from.invariant.left)) (omega (arith, c.in_ok-next.ensures.few, c.loop-from.invariant.left))
    (walk_hears g.K.KeyIndex.access c.args.root (g.S.EawStore.calls c.args.pages.now.store) (row_cost (g.S.EawStore.calls c.args.pages.now.store) c.args.tid (V c.args.pages.now.store)) (V c.args.pages.now.store).shape false (length c.loop-from.hearings.said + 1) (V c.args.pages.now.store).moment (V c.next_pairs.new.pages.store).moment (V c.push_rows.new.pages.store).moment c.loop-from.hearings.said c.push_rows.new.hearings.said
    (walk_looks g.K.KeyIndex.access c.args.root (g.S.EawStore.calls c.args.pages.now.store) (row_cost (g.S.EawStore.calls c.args.pages.now.store) c.args.tid (V c.args.pages.now.store)) (V c.args.pages.now.store).shape g.S.EawStore.tells (g.S.EawStore.calls c.loop-from.pages.store) (g.S.EawStore.calls c.next_pairs.new.pages.store) (length c.loop-from.hearings.said) (V c.args.pages.now.store).moment c.loop-from.from c.loop-from.hearings.said _ (V c.loop-from.pages.store) (V c.next_pairs.new.pages.store) _ c.loop-from.invariant.walking c.loop-from.invariant.steady c.loop-from.invariant.looks.shape c.in_ok-pairs.ensures.follows)
    (paid_same _ (row_cost (g.S.EawStore.calls c.next_pairs.new.pages.store) c.args.tid (V c.next_pairs.new.pages.store)) (row_cost (g.S.EawStore.calls c.args.pages.now.store) c.args.tid (V c.args.pages.now.store)) _ _ c.loop-from.hearings.said c.push_rows.new.hearings.said (row_same (g.S.EawStore.calls c.next_pairs.new.pages.store) (g.S.EawStore.calls c.args.pages.now.store) c.args.tid (V c.next_pairs.new.pages.store) (V c.args.pages.now.store) (λ command. c.in_ok-pairs.ensures.follows.reads.steady refl command ∙ c.loop-from.invariant.steady command) (c.in_ok-pairs.ensures.looks.shape ∙ c.loop-from.invariant.looks.shape) (c.in_ok-pairs.ensures.looks.ranges ∙ (c.loop-from.invariant.looks.same refl).ranges)) c.in_ok-next.ensures.costs))

pub returns-in_err-next-clause-walks : goal.returns-in_err-next-clause-walks
returns-in_err-next-clause-walks g c =
    let exit = err_from_is_err_and c.from_residual-in_err-next.result c.from_residual-in_err-next.ensures.1 in
    rw (exit.1, exit.2) (
    let V = g.S.EawStore.view in
    walk_ends g.K.KeyIndex.access c.args.root (g.S.EawStore.calls c.args.pages.now.store) (row_cost (g.S.EawStore.calls c.args.pages.now.store) c.args.tid (V c.args.pages.now.store)) (V c.args.pages.now.store).shape _ (length c.loop-from.hearings.said + 1) (V c.args.pages.now.store).moment (V c.push_rows.new.pages.store).moment c.push_rows.new.hearings.said (omega (arith, c.loop-from.invariant.left)) (omega (arith, c.in_err-next.ensures.few, c.loop-from.invariant.left))
    (walk_hears g.K.KeyIndex.access c.args.root (g.S.EawStore.calls c.args.pages.now.store) (row_cost (g.S.EawStore.calls c.args.pages.now.store) c.args.tid (V c.args.pages.now.store)) (V c.args.pages.now.store).shape _ (length c.loop-from.hearings.said + 1) (V c.args.pages.now.store).moment (V c.next_pairs.new.pages.store).moment (V c.push_rows.new.pages.store).moment c.loop-from.hearings.said c.push_rows.new.hearings.said
    (walk_looks g.K.KeyIndex.access c.args.root (g.S.EawStore.calls c.args.pages.now.store) (row_cost (g.S.EawStore.calls c.args.pages.now.store) c.args.tid (V c.args.pages.now.store)) (V c.args.pages.now.store).shape g.S.EawStore.tells (g.S.EawStore.calls c.loop-from.pages.store) (g.S.EawStore.calls c.next_pairs.new.pages.store) (length c.loop-from.hearings.said) (V c.args.pages.now.store).moment c.loop-from.from c.loop-from.hearings.said _ (V c.loop-from.pages.store) (V c.next_pairs.new.pages.store) _ c.loop-from.invariant.walking c.loop-from.invariant.steady c.loop-from.invariant.looks.shape c.in_ok-pairs.ensures.follows)
    (paid_same _ (row_cost (g.S.EawStore.calls c.next_pairs.new.pages.store) c.args.tid (V c.next_pairs.new.pages.store)) (row_cost (g.S.EawStore.calls c.args.pages.now.store) c.args.tid (V c.args.pages.now.store)) _ _ c.loop-from.hearings.said c.push_rows.new.hearings.said (row_same (g.S.EawStore.calls c.next_pairs.new.pages.store) (g.S.EawStore.calls c.args.pages.now.store) c.args.tid (V c.next_pairs.new.pages.store) (V c.args.pages.now.store) (λ command. c.in_ok-pairs.ensures.follows.reads.steady refl command ∙ c.loop-from.invariant.steady command) (c.in_ok-pairs.ensures.looks.shape ∙ c.loop-from.invariant.looks.shape) (c.in_ok-pairs.ensures.looks.ranges ∙ (c.loop-from.invariant.looks.same refl).ranges)) c.in_err-next.ensures.costs)))

pub returns-then-met-left-clause-walks : goal.returns-then-met-left-clause-walks
returns-then-met-left-clause-walks g c =
    let V = g.S.EawStore.view in
    walk_ends g.K.KeyIndex.access c.args.root (g.S.EawStore.calls c.args.pages.now.store) (row_cost (g.S.EawStore.calls c.args.pages.now.store) c.args.tid (V c.args.pages.now.store)) (V c.args.pages.now.store).shape false (length c.loop-from.hearings.said + 1) (V c.args.pages.now.store).moment (V c.push_rows.new.pages.store).moment c.push_rows.new.hearings.said (omega (arith, c.loop-from.invariant.left)) (omega (arith, c.in_ok-next.ensures.few, c.loop-from.invariant.left))
    (walk_hears g.K.KeyIndex.access c.args.root (g.S.EawStore.calls c.args.pages.now.store) (row_cost (g.S.EawStore.calls c.args.pages.now.store) c.args.tid (V c.args.pages.now.store)) (V c.args.pages.now.store).shape false (length c.loop-from.hearings.said + 1) (V c.args.pages.now.store).moment (V c.next_pairs.new.pages.store).moment (V c.push_rows.new.pages.store).moment c.loop-from.hearings.said c.push_rows.new.hearings.said
    (walk_looks g.K.KeyIndex.access c.args.root (g.S.EawStore.calls c.args.pages.now.store) (row_cost (g.S.EawStore.calls c.args.pages.now.store) c.args.tid (V c.args.pages.now.store)) (V c.args.pages.now.store).shape g.S.EawStore.tells (g.S.EawStore.calls c.loop-from.pages.store) (g.S.EawStore.calls c.next_pairs.new.pages.store) (length c.loop-from.hearings.said) (V c.args.pages.now.store).moment c.loop-from.from c.loop-from.hearings.said _ (V c.loop-from.pages.store) (V c.next_pairs.new.pages.store) _ c.loop-from.invariant.walking c.loop-from.invariant.steady c.loop-from.invariant.looks.shape c.in_ok-pairs.ensures.follows)
    (paid_same _ (row_cost (g.S.EawStore.calls c.next_pairs.new.pages.store) c.args.tid (V c.next_pairs.new.pages.store)) (row_cost (g.S.EawStore.calls c.args.pages.now.store) c.args.tid (V c.args.pages.now.store)) _ _ c.loop-from.hearings.said c.push_rows.new.hearings.said (row_same (g.S.EawStore.calls c.next_pairs.new.pages.store) (g.S.EawStore.calls c.args.pages.now.store) c.args.tid (V c.next_pairs.new.pages.store) (V c.args.pages.now.store) (λ command. c.in_ok-pairs.ensures.follows.reads.steady refl command ∙ c.loop-from.invariant.steady command) (c.in_ok-pairs.ensures.looks.shape ∙ c.loop-from.invariant.looks.shape) (c.in_ok-pairs.ensures.looks.ranges ∙ (c.loop-from.invariant.looks.same refl).ranges)) c.in_ok-next.ensures.costs))
