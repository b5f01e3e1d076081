use Rattle.std.proofs.Common.{false, length}
use Rattle.record_table.specs.Hearing.{Hearing}
use Rattle.index_pages.proofs.Looking.{looks_next}
use Rattle.page_store.specs.Shown.{pages_of}
use Rattle.page_store.specs.Looks.{Looks, is_failed}
use Rattle.std.proofs.lemmas.Bool.{eqb-true, eqb-false}
use Rattle.page_store.specs.Index.{slots_of}
use Rattle.page_store.specs.Pairs.{Pair, AreInside, AreNext}
use Rattle.record_slots.specs.declared.slot.Slot.{Slot}
use Rattle.std.proofs.Common.{List, ◌∷◌, Some, get_or, subst, refl, sym, ◌∙◌, ap, arith}
use Rattle.eaw_face.specs.State.{State}
use Rattle.record_slots.specs.Slots.{slot_said}
use Rattle.record_slots.specs.Places.{slot_of}
use Rattle.index_pages.proofs.Turns.{turn_at, next_first, next_empty}
use Rattle.record_table.proofs.Following.{comes_none, comes_some, says_some}
use Rattle.record_table.specs.Names.{name_at}
use Rattle.record_table.proofs.Sharing.{Laws, called_at}
use Rattle.std.proofs.Common.{Option, Result, Err}
use Rattle.page_store.specs.Looks.{LookCause}
use Rattle.page_store.specs.declared.fault.PageFault.{PageFault}
use Rattle.page_store.specs.declared.fault.PageFault.TheVariants.{Damaged}
use Rattle.record_table.specs.declared.scanning.Next.{Next}
use Rattle.record_table.proofs.Hearing.{one_unfound, one_failed, one_silent, first_inside}
use Rattle.record_table.specs.Walked.{data_cost}
use Rattle.record_table.proofs.Walking.{looks_alone, looks_on, not_refused, paid_one, paid_same, read_same}
use Rattle.std.proofs.lemmas.Result.{err_from_is_err_and}
use Rattle.record_table.proofs.removing.next_in_data.Goals as goal

pub returns-then-is_empty-clause-comes : goal.returns-then-is_empty-clause-comes
returns-then-is_empty-clause-comes g c = λ told.
    let K = g.met.K.KeyIndex in
    let laws : Laws g.K.KeyIndex.index = record { rises = K.rises; given = K.given; counts = K.counts; rests = K.rests; extends = K.extends } in
    let d = (g.S.EawStore.view c.args.pages.now.store).state.bytes in
    let alive = c.in_ok-some.ensures.cause in
    let are : AreNext (g.K.KeyIndex.index.pairs (g.S.EawStore.view c.args.pages.now.store).state.bytes c.args.root) c.args.from c.as_slice-some.result.now = subst (λ (l : List Pair). AreNext (g.K.KeyIndex.index.pairs (g.S.EawStore.view c.args.pages.now.store).state.bytes c.args.root) c.args.from l) (sym c.as_slice-some.ensures.value) (c.in_ok-some.ensures.next told) in
    comes_none g.K.KeyIndex.index laws c.args.table c.args.root c.args.from (name_at d c.args.table) d (called_at d c.args.table c.args.root (c.requires.named told alive)) ((c.requires.holds alive).tied told).sound (c.requires.named told alive)
    (next_empty (g.K.KeyIndex.index.pairs d c.args.root) c.args.from c.as_slice-some.result.now (eqb-true _ 0 (sym c.if-is_empty.ensures)) are)

pub returns-clause-comes : goal.returns-clause-comes
returns-clause-comes g c = λ told.
    let K = g.met.K.KeyIndex in
    let laws : Laws g.K.KeyIndex.index = record { rises = K.rises; given = K.given; counts = K.counts; rests = K.rests; extends = K.extends } in
    let d = (g.S.EawStore.view c.args.pages.now.store).state.bytes in
    let alive = c.in_ok-some.ensures.cause in
    let are : AreNext (g.K.KeyIndex.index.pairs (g.S.EawStore.view c.args.pages.now.store).state.bytes c.args.root) c.args.from c.as_slice-some.result.now = subst (λ (l : List Pair). AreNext (g.K.KeyIndex.index.pairs (g.S.EawStore.view c.args.pages.now.store).state.bytes c.args.root) c.args.from l) (sym c.as_slice-some.ensures.value) (c.in_ok-some.ensures.next told) in
    rw c.value_in.ensures (comes_some g.K.KeyIndex.index laws c.args.table c.args.root c.args.from (name_at d c.args.table) d (called_at d c.args.table c.args.root (c.requires.named told alive)) ((c.requires.holds alive).tied told).sound (c.requires.named told alive) (get_or c.as_slice-some.result.now 0 (0, 0)).0 (get_or c.as_slice-some.result.now 0 (0, 0)).1
    (turn_at (g.K.KeyIndex.index.pairs d c.args.root) c.args.from 0 c.as_slice-some.result.now 0 (omega (arith, eqb-false _ 0 (sym c.if-is_empty.ensures))) (next_first (g.K.KeyIndex.index.pairs d c.args.root) c.args.from c.as_slice-some.result.now (omega (arith, eqb-false _ 0 (sym c.if-is_empty.ensures))) are)).0 _ (sym c.in_ok-held.ensures.slot ∙ c.in_ok-said.ensures.said told
    ∙ ap (λ (s : State). slot_said (slot_of s.bytes (get_or c.as_slice-some.result.now 0 (0, 0)).1)) ((c.in_ok-some.ensures.looks.still refl).state told)))

pub returns-in_err-held-clause-cause : goal.returns-in_err-held-clause-cause
returns-in_err-held-clause-cause g c =
    let exit = err_from_is_err_and c.from_residual-in_err-held.result c.from_residual-in_err-held.ensures.1 in
    rw (exit.1, exit.2) (
    let K = g.met.K.KeyIndex in
    let laws : Laws g.K.KeyIndex.index = record { rises = K.rises; given = K.given; counts = K.counts; rests = K.rests; extends = K.extends } in
    let d = (g.S.EawStore.view c.args.pages.now.store).state.bytes in
    let alive = c.in_ok-some.ensures.cause in
    (let damaged : LookCause g.S.EawStore.tells (g.S.EawStore.view c.args.pages.now.store) (let r : Result (Option Next) PageFault = Err (Damaged c.page_of-page.result) in r) = (
      alive,
      λ told.
          let are : AreNext (g.K.KeyIndex.index.pairs (g.S.EawStore.view c.args.pages.now.store).state.bytes c.args.root) c.args.from c.as_slice-some.result.now = subst (λ (l : List Pair). AreNext (g.K.KeyIndex.index.pairs (g.S.EawStore.view c.args.pages.now.store).state.bytes c.args.root) c.args.from l) (sym c.as_slice-some.ensures.value) (c.in_ok-some.ensures.next told) in
          says_some g.K.KeyIndex.index laws c.args.table c.args.root c.args.from (name_at d c.args.table) d (called_at d c.args.table c.args.root (c.requires.named told alive)) ((c.requires.holds alive).tied told).sound (c.requires.named told alive) (get_or c.as_slice-some.result.now 0 (0, 0)).0 (get_or c.as_slice-some.result.now 0 (0, 0)).1
          (turn_at (g.K.KeyIndex.index.pairs d c.args.root) c.args.from 0 c.as_slice-some.result.now 0 (omega (arith, eqb-false _ 0 (sym c.if-is_empty.ensures))) (next_first (g.K.KeyIndex.index.pairs d c.args.root) c.args.from c.as_slice-some.result.now (omega (arith, eqb-false _ 0 (sym c.if-is_empty.ensures))) are)).0 (sym c.in_err-held.ensures.none.1 ∙ c.in_ok-said.ensures.said told
          ∙ ap (λ (s : State). slot_said (slot_of s.bytes (get_or c.as_slice-some.result.now 0 (0, 0)).1)) ((c.in_ok-some.ensures.looks.still refl).state told)),
    ) in subst (λ (f : PageFault). LookCause g.S.EawStore.tells (g.S.EawStore.view c.args.pages.now.store) (let r : Result (Option Next) PageFault = Err f in r)) (sym c.in_err-held.ensures.none.0) damaged))

pub returns-in_err-said-clause-looks : goal.returns-in_err-said-clause-looks
returns-in_err-said-clause-looks g c =
    let exit = err_from_is_err_and c.from_residual-in_err-said.result c.from_residual-in_err-said.ensures.1 in
    rw (exit.1, exit.2) (
    let V = g.S.EawStore.view in
    let T = g.S.EawStore.tells in
    let E = g.S.EawStore.opens in
    looks_next T E _ (pages_of (V c.args.pages.now.store) c.args.pages.now) (pages_of (V c.next_pairs.new.pages.store) c.next_pairs.new.pages) (pages_of (V c.read_said.new.pages.store) c.read_said.new.pages) c.in_ok-some.ensures.looks c.in_err-said.ensures.looks)

pub returns-clause-looks : goal.returns-clause-looks
returns-clause-looks g c =
    let V = g.S.EawStore.view in
    let T = g.S.EawStore.tells in
    let E = g.S.EawStore.opens in
    looks_next T E false (pages_of (V c.args.pages.now.store) c.args.pages.now) (pages_of (V c.next_pairs.new.pages.store) c.next_pairs.new.pages) (pages_of (V c.read_said.new.pages.store) c.read_said.new.pages) c.in_ok-some.ensures.looks c.in_ok-said.ensures.looks

pub returns-in_err-held-clause-looks : goal.returns-in_err-held-clause-looks
returns-in_err-held-clause-looks g c =
    let exit = err_from_is_err_and c.from_residual-in_err-held.result c.from_residual-in_err-held.ensures.1 in
    rw (exit.1, exit.2) (
    let V = g.S.EawStore.view in
    let T = g.S.EawStore.tells in
    let E = g.S.EawStore.opens in
    subst (λ (f : PageFault). Looks T (E (V c.args.pages.now.store).shape) (let r : Result (Option Next) PageFault = Err f in is_failed r) (pages_of (V c.args.pages.now.store) c.args.pages.now) (pages_of (V c.read_said.new.pages.store) c.read_said.new.pages)) (sym c.in_err-held.ensures.none.0)
    (looks_next T E false (pages_of (V c.args.pages.now.store) c.args.pages.now) (pages_of (V c.next_pairs.new.pages.store) c.next_pairs.new.pages) (pages_of (V c.read_said.new.pages.store) c.read_said.new.pages) c.in_ok-some.ensures.looks c.in_ok-said.ensures.looks))

pub returns-in_err-some-clause-hears : goal.returns-in_err-some-clause-hears
returns-in_err-some-clause-hears g c =
    let exit = err_from_is_err_and c.from_residual.result c.from_residual.ensures.1 in
    rw (exit.1, exit.2) (
    let V = g.S.EawStore.view in
    one_unfound g.S.EawStore.tells (g.S.EawStore.calls c.args.pages.now.store) (g.S.EawStore.calls c.next_pairs.new.pages.store) (g.K.KeyIndex.access.nexting c.args.root c.args.from) _ (V c.args.pages.now.store) (V c.next_pairs.new.pages.store) c.args.hearings.now.said c.in_err-some.field-0.0 c.in_err-some.ensures.follows)

pub returns-in_err-said-clause-hears : goal.returns-in_err-said-clause-hears
returns-in_err-said-clause-hears g c =
    let exit = err_from_is_err_and c.from_residual-in_err-said.result c.from_residual-in_err-said.ensures.1 in
    rw (exit.1, exit.2) (one_failed (g.S.EawStore.view c.args.pages.now.store).shape c.args.hearings.now.said c.in_err-said.field-0.0 c.in_err-said.ensures.faults)

pub returns-clause-hears : goal.returns-clause-hears
returns-clause-hears g c =
    let pair = get_or c.as_slice-some.result.now 0 (0, 0) in
    (pair.1, c.in_ok-held.held, c.in_ok-held.ensures.hears ∙ ap (λ (o : Option Slot). (pair.0, pair.1, o) ∷ c.args.hearings.now.said) c.in_ok-held.ensures.slot, c.value_in.ensures)

pub returns-in_err-held-clause-hears : goal.returns-in_err-held-clause-hears
returns-in_err-held-clause-hears g c =
    let exit = err_from_is_err_and c.from_residual-in_err-held.result c.from_residual-in_err-held.ensures.1 in
    rw (exit.1, exit.2) (
    let V = g.S.EawStore.view in
    let pair = get_or c.as_slice-some.result.now 0 (0, 0) in
    one_silent (V c.args.pages.now.store).shape c.args.hearings.now.said (V c.next_pairs.new.pages.store).shape c.heard.new.hearings.said pair.0 pair.1 c.in_ok-said.said c.in_err-held.field-0.0 c.page_of-page.result c.in_ok-some.ensures.looks.shape
    (first_inside c.as_slice-some.result.now c.args.from (slots_of (V c.args.pages.now.store).shape) (omega (arith, eqb-false _ 0 (sym c.if-is_empty.ensures))) (subst (λ (l : List Pair). AreInside c.args.from (slots_of (V c.args.pages.now.store).shape) l) (sym c.as_slice-some.ensures.value) c.in_ok-some.ensures.inside))
    c.in_err-held.ensures.none.0 c.in_err-held.ensures.none.1 c.in_err-held.ensures.hears c.page_of-page.ensures.page)

pub returns-clause-next : goal.returns-clause-next
returns-clause-next g c = λ told.
    let are = subst (λ (l : List Pair). AreNext (g.K.KeyIndex.index.pairs (g.S.EawStore.view c.args.pages.now.store).state.bytes c.args.root) c.args.from l) (sym c.as_slice-some.ensures.value) (c.in_ok-some.ensures.next told) in
    (turn_at (g.K.KeyIndex.index.pairs (g.S.EawStore.view c.args.pages.now.store).state.bytes c.args.root) c.args.from 0 c.as_slice-some.result.now 0 (omega (arith, eqb-false _ 0 (sym c.if-is_empty.ensures)))
    (next_first (g.K.KeyIndex.index.pairs (g.S.EawStore.view c.args.pages.now.store).state.bytes c.args.root) c.args.from c.as_slice-some.result.now (omega (arith, eqb-false _ 0 (sym c.if-is_empty.ensures))) are)).0

pub returns-clause-slot : goal.returns-clause-slot
returns-clause-slot g c =
    first_inside c.as_slice-some.result.now c.args.from (slots_of (g.S.EawStore.view c.args.pages.now.store).shape) (omega (arith, eqb-false _ 0 (sym c.if-is_empty.ensures)))
    (subst (λ (l : List Pair). AreInside c.args.from (slots_of (g.S.EawStore.view c.args.pages.now.store).shape) l) (sym c.as_slice-some.ensures.value) c.in_ok-some.ensures.inside)

pub returns-clause-few : goal.returns-clause-few
returns-clause-few g c = let n = ap (λ (hs : List Hearing). length hs) c.in_ok-held.ensures.hears in omega (arith, n)

pub returns-in_err-held-clause-few : goal.returns-in_err-held-clause-few
returns-in_err-held-clause-few g c = let n = ap (λ (hs : List Hearing). length hs) c.in_err-held.ensures.hears in omega (arith, n)

pub returns-then-is_empty-clause-looked : goal.returns-then-is_empty-clause-looked
returns-then-is_empty-clause-looked g c =
    let V = g.S.EawStore.view in
    looks_alone g.S.EawStore.tells (g.S.EawStore.calls c.args.pages.now.store) (g.S.EawStore.calls c.next_pairs.new.pages.store) (data_cost (g.S.EawStore.calls c.args.pages.now.store) (V c.args.pages.now.store).shape) (g.K.KeyIndex.access.nexting c.args.root c.args.from) _ (V c.args.pages.now.store) (V c.next_pairs.new.pages.store) c.args.hearings.now.said _ c.in_ok-some.ensures.follows

pub returns-in_err-some-clause-looked : goal.returns-in_err-some-clause-looked
returns-in_err-some-clause-looked g c =
    let exit = err_from_is_err_and c.from_residual.result c.from_residual.ensures.1 in
    rw (exit.1, exit.2) (
    let V = g.S.EawStore.view in
    looks_alone g.S.EawStore.tells (g.S.EawStore.calls c.args.pages.now.store) (g.S.EawStore.calls c.next_pairs.new.pages.store) (data_cost (g.S.EawStore.calls c.args.pages.now.store) (V c.args.pages.now.store).shape) (g.K.KeyIndex.access.nexting c.args.root c.args.from) _ (V c.args.pages.now.store) (V c.next_pairs.new.pages.store) c.args.hearings.now.said _ c.in_err-some.ensures.follows)

pub returns-clause-looked : goal.returns-clause-looked
returns-clause-looked g c =
    let V = g.S.EawStore.view in
    looks_on g.S.EawStore.tells (g.S.EawStore.calls c.args.pages.now.store) (g.S.EawStore.calls c.next_pairs.new.pages.store) (data_cost (g.S.EawStore.calls c.args.pages.now.store) (V c.args.pages.now.store).shape) (g.K.KeyIndex.access.nexting c.args.root c.args.from) _ (V c.args.pages.now.store) (V c.next_pairs.new.pages.store) c.args.hearings.now.said false (V c.read_said.new.pages.store).moment c.heard.new.hearings.said _ c.in_ok-some.ensures.follows
    (paid_same false (data_cost (g.S.EawStore.calls c.next_pairs.new.pages.store) (V c.next_pairs.new.pages.store).shape) (data_cost (g.S.EawStore.calls c.args.pages.now.store) (V c.args.pages.now.store).shape) _ _ c.args.hearings.now.said c.heard.new.hearings.said
    (read_same (g.S.EawStore.calls c.next_pairs.new.pages.store) (g.S.EawStore.calls c.args.pages.now.store) (V c.next_pairs.new.pages.store).shape (V c.args.pages.now.store).shape (c.in_ok-some.ensures.follows.reads.steady refl) c.in_ok-some.ensures.looks.shape)
    (λ well. paid_one (data_cost (g.S.EawStore.calls c.next_pairs.new.pages.store) (V c.next_pairs.new.pages.store).shape) _ _ (get_or c.as_slice-some.result.now 0 (0, 0)).1 c.args.hearings.now.said c.heard.new.hearings.said _ (c.in_ok-said.ensures.costs.done refl) c.in_ok-held.ensures.hears refl))

pub returns-in_err-held-clause-looked : goal.returns-in_err-held-clause-looked
returns-in_err-held-clause-looked g c =
    let exit = err_from_is_err_and c.from_residual-in_err-held.result c.from_residual-in_err-held.ensures.1 in
    rw (exit.1, exit.2) (
    let V = g.S.EawStore.view in
    looks_on g.S.EawStore.tells (g.S.EawStore.calls c.args.pages.now.store) (g.S.EawStore.calls c.next_pairs.new.pages.store) (data_cost (g.S.EawStore.calls c.args.pages.now.store) (V c.args.pages.now.store).shape) (g.K.KeyIndex.access.nexting c.args.root c.args.from) _ (V c.args.pages.now.store) (V c.next_pairs.new.pages.store) c.args.hearings.now.said _ (V c.read_said.new.pages.store).moment c.heard.new.hearings.said _ c.in_ok-some.ensures.follows
    (λ well. (paid_same false (data_cost (g.S.EawStore.calls c.next_pairs.new.pages.store) (V c.next_pairs.new.pages.store).shape) (data_cost (g.S.EawStore.calls c.args.pages.now.store) (V c.args.pages.now.store).shape) _ _ c.args.hearings.now.said c.heard.new.hearings.said
    (read_same (g.S.EawStore.calls c.next_pairs.new.pages.store) (g.S.EawStore.calls c.args.pages.now.store) (V c.next_pairs.new.pages.store).shape (V c.args.pages.now.store).shape (c.in_ok-some.ensures.follows.reads.steady refl) c.in_ok-some.ensures.looks.shape)
    (λ well. paid_one (data_cost (g.S.EawStore.calls c.next_pairs.new.pages.store) (V c.next_pairs.new.pages.store).shape) _ _ (get_or c.as_slice-some.result.now 0 (0, 0)).1 c.args.hearings.now.said c.heard.new.hearings.said _ (c.in_ok-said.ensures.costs.done refl) c.in_err-held.ensures.hears refl)) refl))

pub returns-in_err-said-clause-looked : goal.returns-in_err-said-clause-looked
returns-in_err-said-clause-looked g c =
    let exit = err_from_is_err_and c.from_residual-in_err-said.result c.from_residual-in_err-said.ensures.1 in
    rw (exit.1, exit.2) (
    let V = g.S.EawStore.view in
    looks_on g.S.EawStore.tells (g.S.EawStore.calls c.args.pages.now.store) (g.S.EawStore.calls c.next_pairs.new.pages.store) (data_cost (g.S.EawStore.calls c.args.pages.now.store) (V c.args.pages.now.store).shape) (g.K.KeyIndex.access.nexting c.args.root c.args.from) _ (V c.args.pages.now.store) (V c.next_pairs.new.pages.store) c.args.hearings.now.said _ (V c.read_said.new.pages.store).moment c.args.hearings.now.said _ c.in_ok-some.ensures.follows
    (λ well. absurd (not_refused g.S.EawStore.tells (V c.next_pairs.new.pages.store) c.in_err-said.field-0.0 c.in_err-said.ensures.faults c.in_err-said.ensures.cause ((c.in_ok-some.ensures.looks.still refl).dead ∙ c.in_ok-some.ensures.cause) well)))

pub returns-then-is_empty-clause-steady : goal.returns-then-is_empty-clause-steady
returns-then-is_empty-clause-steady g c = c.in_ok-some.ensures.follows.reads.steady

pub returns-in_err-some-clause-steady : goal.returns-in_err-some-clause-steady
returns-in_err-some-clause-steady g c =
    let exit = err_from_is_err_and c.from_residual.result c.from_residual.ensures.1 in
    rw (exit.1, exit.2) (c.in_err-some.ensures.follows.reads.steady)

pub returns-clause-steady : goal.returns-clause-steady
returns-clause-steady g c = λ well command. c.in_ok-said.ensures.steady command ∙ c.in_ok-some.ensures.follows.reads.steady refl command

pub returns-in_err-held-clause-steady : goal.returns-in_err-held-clause-steady
returns-in_err-held-clause-steady g c =
    let exit = err_from_is_err_and c.from_residual-in_err-held.result c.from_residual-in_err-held.ensures.1 in
    rw (exit.1, exit.2) (λ well command. c.in_ok-said.ensures.steady command ∙ c.in_ok-some.ensures.follows.reads.steady refl command)

pub returns-in_err-said-clause-steady : goal.returns-in_err-said-clause-steady
returns-in_err-said-clause-steady g c =
    let exit = err_from_is_err_and c.from_residual-in_err-said.result c.from_residual-in_err-said.ensures.1 in
    rw (exit.1, exit.2) (λ well.
    let V = g.S.EawStore.view in
    absurd (not_refused g.S.EawStore.tells (V c.next_pairs.new.pages.store) c.in_err-said.field-0.0 c.in_err-said.ensures.faults c.in_err-said.ensures.cause ((c.in_ok-some.ensures.looks.still refl).dead ∙ c.in_ok-some.ensures.cause) well))
