use Rattle.std.proofs.Common.{arith, rules}
use Rattle.index_pages.proofs.Looking.{looks_none, looks_next}
use Rattle.std.proofs.Common.{false}
use Rattle.page_store.specs.Shown.{pages_of}
use Rattle.page_store.specs.declared.fault.PageFault.{PageFault}
use Rattle.record_table.proofs.Following.{holds_looked}
use Rattle.std.proofs.Common.{◌≡◌, ◌+◌, ◌<◌, ap, inr, refl, subst, suc, sym, ◌∙◌, List, length, Result, Option, Some, Err, ℕ}
use Rattle.array_shape.specs.Places.{page_count}
use Rattle.eaw_face.specs.State.{State}
use Rattle.page_store.specs.Index.{slots_of}
use Rattle.page_store.specs.Pairs.{next}
use Rattle.array_shape.specs.declared.shape.Shape.{Shape}
use Rattle.record_table.specs.Faults.{told_as}
use Rattle.record_table.specs.Hearing.{Hearing, AllHeld, HearsAbsent}
use Rattle.record_table.specs.Walked.{data_cost}
use Rattle.record_table.proofs.Counting.{many, keys_few, many_next}
use Rattle.record_table.proofs.Walking.{read_same, walk_begins, walk_steps, walk_more, walk_ends}
use Rattle.record_table.proofs.Sharing.{Laws}
use Rattle.record_table.proofs.Hearing.{all_held_yet, held_spoke, one_held, one_absent, one_met, one_refused}
use Rattle.record_table.proofs.Wrote.{none_is}
use Rattle.std.proofs.lemmas.Result.{err_from_is_err_and}
use Rattle.record_table.proofs.removing.next_absent.Goals as goal

pub next_in_data-requires-clause-holds : goal.next_in_data-requires-clause-holds
next_in_data-requires-clause-holds g c =
    let V = g.S.EawStore.view in
    let old = c.args.pages.now in
    holds_looked g.S.EawStore.tells (g.S.EawStore.opens (V old.store).shape) g.K.KeyIndex.index (pages_of (V old.store) old) (pages_of (V c.loop-next.pages.store) c.loop-next.pages) false c.requires.alive c.requires.holds c.loop-next.invariant.looks

pub loop-next-init : goal.loop-next-init
loop-next-init g c =
    let V = g.S.EawStore.view in
    let T = g.S.EawStore.tells in
    let E = g.S.EawStore.opens in
    record {
      looks = looks_none T (E (V c.args.pages.now.store).shape) (pages_of (V c.args.pages.now.store) c.args.pages.now);
      none = λ told key above below absent. omega arith;
      le = omega arith;
      left = omega (arith, ap (λ (hs : List Hearing). length hs) c.requires.unheard, c.slot_count-left.ensures);
      walking = walk_more g.K.KeyIndex.access c.args.root (g.S.EawStore.calls c.args.pages.now.store) (data_cost (g.S.EawStore.calls c.args.pages.now.store) (V c.args.pages.now.store).shape) (V c.args.pages.now.store).shape false 0 (length c.args.hearings.now.said) (V c.args.pages.now.store).moment (V c.args.pages.now.store).moment c.args.hearings.now.said (omega arith)
          (walk_begins g.K.KeyIndex.access c.args.root (g.S.EawStore.calls c.args.pages.now.store) (data_cost (g.S.EawStore.calls c.args.pages.now.store) (V c.args.pages.now.store).shape) (V c.args.pages.now.store).shape (V c.args.pages.now.store).moment c.args.hearings.now.said c.requires.unheard);
      steady = λ command. refl;
      keys = λ told.
          let K = g.met.K.KeyIndex in
          let laws : Laws g.K.KeyIndex.index = record { rises = K.rises; given = K.given; counts = K.counts; rests = K.rests; extends = K.extends } in
          let few = keys_few g.K.KeyIndex.index laws (V c.args.pages.now.store).state.bytes (V c.args.pages.now.store).shape c.args.table c.args.root c.args.from (g.met.S.EawStore.long c.args.pages.now.store told)
          ((c.requires.holds c.requires.alive).tied told).sound (c.requires.named told c.requires.alive) in
          omega (arith, few, c.slot_count-left.ensures);
      held = all_held_yet c.args.hearings.now.said c.requires.unheard;
    }

pub returns-in_default-clause-looks : goal.returns-in_default-clause-looks
returns-in_default-clause-looks g c =
    let V = g.S.EawStore.view in
    let T = g.S.EawStore.tells in
    let E = g.S.EawStore.opens in
    looks_next T E false (pages_of (V c.args.pages.now.store) c.args.pages.now) (pages_of (V c.loop-next.pages.store) c.loop-next.pages) (pages_of (V c.next_in_data.new.pages.store) c.next_in_data.new.pages) c.loop-next.invariant.looks c.in_ok-next.ensures.looks

pub returns-in_err-next-clause-looks : goal.returns-in_err-next-clause-looks
returns-in_err-next-clause-looks g c =
    let exit = err_from_is_err_and c.from_residual.result c.from_residual.ensures.1 in
    rw (exit.1, exit.2) (
    let V = g.S.EawStore.view in
    let T = g.S.EawStore.tells in
    let E = g.S.EawStore.opens in
    looks_next T E _ (pages_of (V c.args.pages.now.store) c.args.pages.now) (pages_of (V c.loop-next.pages.store) c.loop-next.pages) (pages_of (V c.next_in_data.new.pages.store) c.next_in_data.new.pages) c.loop-next.invariant.looks c.in_err-next.ensures.looks)

pub returns-then-is_none-clause-looks : goal.returns-then-is_none-clause-looks
returns-then-is_none-clause-looks g c =
    let V = g.S.EawStore.view in
    let T = g.S.EawStore.tells in
    let E = g.S.EawStore.opens in
    looks_next T E false (pages_of (V c.args.pages.now.store) c.args.pages.now) (pages_of (V c.loop-next.pages.store) c.loop-next.pages) (pages_of (V c.next_in_data.new.pages.store) c.next_in_data.new.pages) c.loop-next.invariant.looks c.in_ok-next.ensures.looks

pub returns-then-next-clause-looks : goal.returns-then-next-clause-looks
returns-then-next-clause-looks g c =
    let V = g.S.EawStore.view in
    let T = g.S.EawStore.tells in
    let E = g.S.EawStore.opens in
    looks_next T E false (pages_of (V c.args.pages.now.store) c.args.pages.now) (pages_of (V c.loop-next.pages.store) c.loop-next.pages) (pages_of (V c.next_in_data.new.pages.store) c.next_in_data.new.pages) c.loop-next.invariant.looks c.in_ok-next.ensures.looks

pub loop-next-preserved : goal.loop-next-preserved
loop-next-preserved g c =
    let V = g.S.EawStore.view in
    let T = g.S.EawStore.tells in
    let E = g.S.EawStore.opens in
    record {
      looks = looks_next T E false (pages_of (V c.args.pages.now.store) c.args.pages.now) (pages_of (V c.loop-next.pages.store) c.loop-next.pages) (pages_of (V c.next_in_data.new.pages.store) c.next_in_data.new.pages) c.loop-next.invariant.looks c.in_ok-next.ensures.looks;
      none = search rules;
      le = search rules;
      left = omega (arith, one_met (V c.loop-next.pages.store).shape c.loop-next.hearings.said c.next_in_data.new.hearings.said c.in-Some.next (rw c.in-Some.is at c.in_ok-next.ensures.hears), c.loop-next.invariant.left, c.if-left-eq0.false);
      walking = walk_more g.K.KeyIndex.access c.args.root (g.S.EawStore.calls c.args.pages.now.store) (data_cost (g.S.EawStore.calls c.args.pages.now.store) (V c.args.pages.now.store).shape) (V c.args.pages.now.store).shape false (length c.loop-next.hearings.said + 1) (length c.next_in_data.new.hearings.said) (V c.args.pages.now.store).moment (V c.next_in_data.new.pages.store).moment c.next_in_data.new.hearings.said
          (omega (arith, one_met (V c.loop-next.pages.store).shape c.loop-next.hearings.said c.next_in_data.new.hearings.said c.in-Some.next (rw c.in-Some.is at c.in_ok-next.ensures.hears)))
          (walk_steps g.K.KeyIndex.access c.args.root (g.S.EawStore.calls c.args.pages.now.store) (data_cost (g.S.EawStore.calls c.args.pages.now.store) (V c.args.pages.now.store).shape) (V c.args.pages.now.store).shape false (g.S.EawStore.calls c.loop-next.pages.store) (data_cost (g.S.EawStore.calls c.loop-next.pages.store) (V c.loop-next.pages.store).shape) (V c.loop-next.pages.store).shape (length c.loop-next.hearings.said) (V c.args.pages.now.store).moment (V c.loop-next.pages.store).moment (V c.next_in_data.new.pages.store).moment c.loop-next.low c.loop-next.hearings.said c.next_in_data.new.hearings.said
          c.loop-next.invariant.walking c.loop-next.invariant.steady (read_same (g.S.EawStore.calls c.loop-next.pages.store) (g.S.EawStore.calls c.args.pages.now.store) (V c.loop-next.pages.store).shape (V c.args.pages.now.store).shape c.loop-next.invariant.steady c.loop-next.invariant.looks.shape) c.loop-next.invariant.looks.shape c.in_ok-next.ensures.looked);
      steady = λ command. c.in_ok-next.ensures.steady refl command ∙ c.loop-next.invariant.steady command;
      keys = λ told.
          let fewer = many_next (g.K.KeyIndex.index.pairs (V c.args.pages.now.store).state.bytes c.args.root) c.loop-next.low (c.in-Some.next.key, c.in-Some.next.slot)
          (subst (λ (s : State). next (g.K.KeyIndex.index.pairs s.bytes c.args.root) c.loop-next.low ≡ Some (c.in-Some.next.key, c.in-Some.next.slot)) ((c.loop-next.invariant.looks.still refl).state told)
          ((rw c.in-Some.is at c.in_ok-next.ensures.next) told)) in
          let on : suc c.in-Some.next.key ≡ c.in-Some.next.key + 1 = omega arith in
          omega (arith, fewer, ap (λ (n : ℕ). many n (g.K.KeyIndex.index.pairs (V c.args.pages.now.store).state.bytes c.args.root)) on, c.loop-next.invariant.keys told, c.if-left-eq0.false);
      held = one_held (V c.loop-next.pages.store).shape c.loop-next.hearings.said c.next_in_data.new.hearings.said c.in-Some.next (rw c.in-Some.is at c.in_ok-next.ensures.hears) c.if-is_none.ensures c.loop-next.invariant.held;
    }

pub returns-in_default-clause-hears : goal.returns-in_default-clause-hears
returns-in_default-clause-hears g c = subst AllHeld (sym (rw c.in_default.is at c.in_ok-next.ensures.hears)) c.loop-next.invariant.held

pub returns-in_err-next-clause-hears : goal.returns-in_err-next-clause-hears
returns-in_err-next-clause-hears g c =
    let exit = err_from_is_err_and c.from_residual.result c.from_residual.ensures.1 in
    rw (exit.1, exit.2) (
    subst (λ (s : Shape). HearsAbsent s c.next_in_data.new.hearings.said (let r : Result (Option ℕ) PageFault = Err c.in_err-next.field-0.0 in told_as r)) c.loop-next.invariant.looks.shape
    (one_refused (g.S.EawStore.view c.loop-next.pages.store).shape c.loop-next.hearings.said c.next_in_data.new.hearings.said c.in_err-next.field-0.0 c.in_err-next.ensures.hears c.loop-next.invariant.held))

pub returns-then-is_none-clause-hears : goal.returns-then-is_none-clause-hears
returns-then-is_none-clause-hears g c =
    one_absent (g.S.EawStore.view c.loop-next.pages.store).shape c.loop-next.hearings.said c.next_in_data.new.hearings.said c.in-Some.next (rw c.in-Some.is at c.in_ok-next.ensures.hears) (none_is c.in-Some.next.value c.if-is_none.ensures) c.loop-next.invariant.held

pub returns-then-next-clause-hears : goal.returns-then-next-clause-hears
returns-then-next-clause-hears g c =
    one_held (g.S.EawStore.view c.loop-next.pages.store).shape c.loop-next.hearings.said c.next_in_data.new.hearings.said c.in-Some.next (rw c.in-Some.is at c.in_ok-next.ensures.hears) c.if-is_none.ensures c.loop-next.invariant.held

-- more keys than slots
pub page_of-page-requires : goal.page_of-page-requires
page_of-page-requires g c =
    let slot = rw c.in-Some.is at c.in_ok-next.ensures.slot in
    omega (arith, slot, ap slots_of c.in_ok-next.ensures.looks.shape)

pub returns-then-left-eq0-clause-looks : goal.returns-then-left-eq0-clause-looks
returns-then-left-eq0-clause-looks g c =
    let V = g.S.EawStore.view in
    let T = g.S.EawStore.tells in
    let E = g.S.EawStore.opens in
    looks_next T E false (pages_of (V c.args.pages.now.store) c.args.pages.now) (pages_of (V c.loop-next.pages.store) c.loop-next.pages) (pages_of (V c.next_in_data.new.pages.store) c.next_in_data.new.pages) c.loop-next.invariant.looks c.in_ok-next.ensures.looks

pub returns-then-left-eq0-clause-cause : goal.returns-then-left-eq0-clause-cause
returns-then-left-eq0-clause-cause g c =
    let V = g.S.EawStore.view in (
      c.requires.alive,
      λ told.
          let fewer = many_next (g.K.KeyIndex.index.pairs (V c.args.pages.now.store).state.bytes c.args.root) c.loop-next.low (c.in-Some.next.key, c.in-Some.next.slot)
          (subst (λ (s : State). next (g.K.KeyIndex.index.pairs s.bytes c.args.root) c.loop-next.low ≡ Some (c.in-Some.next.key, c.in-Some.next.slot)) ((c.loop-next.invariant.looks.still refl).state told)
          ((rw c.in-Some.is at c.in_ok-next.ensures.next) told)) in
          omega (arith, fewer, c.loop-next.invariant.keys told, c.if-left-eq0.true),
    )

pub returns-then-left-eq0-clause-hears : goal.returns-then-left-eq0-clause-hears
returns-then-left-eq0-clause-hears g c =
    let shape = c.in_ok-next.ensures.looks.shape ∙ c.loop-next.invariant.looks.shape in
    let held = one_held (g.S.EawStore.view c.loop-next.pages.store).shape c.loop-next.hearings.said c.next_in_data.new.hearings.said c.in-Some.next (rw c.in-Some.is at c.in_ok-next.ensures.hears) c.if-is_none.ensures c.loop-next.invariant.held in
    (subst (λ (s : Shape). c.page_of-page.result < page_count s) shape c.page_of-page.ensures.inside, inr (held_spoke c.next_in_data.new.hearings.said held))

pub returns-in_default-clause-walks : goal.returns-in_default-clause-walks
returns-in_default-clause-walks g c =
    let V = g.S.EawStore.view in
    walk_ends g.K.KeyIndex.access c.args.root (g.S.EawStore.calls c.args.pages.now.store) (data_cost (g.S.EawStore.calls c.args.pages.now.store) (V c.args.pages.now.store).shape) (V c.args.pages.now.store).shape false (length c.loop-next.hearings.said + 1) (V c.args.pages.now.store).moment (V c.next_in_data.new.pages.store).moment c.next_in_data.new.hearings.said (omega (arith, c.loop-next.invariant.left)) (omega (arith, c.in_ok-next.ensures.few, c.loop-next.invariant.left))
    (walk_steps g.K.KeyIndex.access c.args.root (g.S.EawStore.calls c.args.pages.now.store) (data_cost (g.S.EawStore.calls c.args.pages.now.store) (V c.args.pages.now.store).shape) (V c.args.pages.now.store).shape false (g.S.EawStore.calls c.loop-next.pages.store) (data_cost (g.S.EawStore.calls c.loop-next.pages.store) (V c.loop-next.pages.store).shape) (V c.loop-next.pages.store).shape (length c.loop-next.hearings.said) (V c.args.pages.now.store).moment (V c.loop-next.pages.store).moment (V c.next_in_data.new.pages.store).moment c.loop-next.low c.loop-next.hearings.said c.next_in_data.new.hearings.said
    c.loop-next.invariant.walking c.loop-next.invariant.steady (read_same (g.S.EawStore.calls c.loop-next.pages.store) (g.S.EawStore.calls c.args.pages.now.store) (V c.loop-next.pages.store).shape (V c.args.pages.now.store).shape c.loop-next.invariant.steady c.loop-next.invariant.looks.shape) c.loop-next.invariant.looks.shape c.in_ok-next.ensures.looked)

pub returns-in_err-next-clause-walks : goal.returns-in_err-next-clause-walks
returns-in_err-next-clause-walks g c =
    let exit = err_from_is_err_and c.from_residual.result c.from_residual.ensures.1 in
    rw (exit.1, exit.2) (
    let V = g.S.EawStore.view in
    walk_ends g.K.KeyIndex.access c.args.root (g.S.EawStore.calls c.args.pages.now.store) (data_cost (g.S.EawStore.calls c.args.pages.now.store) (V c.args.pages.now.store).shape) (V c.args.pages.now.store).shape _ (length c.loop-next.hearings.said + 1) (V c.args.pages.now.store).moment (V c.next_in_data.new.pages.store).moment c.next_in_data.new.hearings.said (omega (arith, c.loop-next.invariant.left)) (omega (arith, c.in_err-next.ensures.few, c.loop-next.invariant.left))
    (walk_steps g.K.KeyIndex.access c.args.root (g.S.EawStore.calls c.args.pages.now.store) (data_cost (g.S.EawStore.calls c.args.pages.now.store) (V c.args.pages.now.store).shape) (V c.args.pages.now.store).shape _ (g.S.EawStore.calls c.loop-next.pages.store) (data_cost (g.S.EawStore.calls c.loop-next.pages.store) (V c.loop-next.pages.store).shape) (V c.loop-next.pages.store).shape (length c.loop-next.hearings.said) (V c.args.pages.now.store).moment (V c.loop-next.pages.store).moment (V c.next_in_data.new.pages.store).moment c.loop-next.low c.loop-next.hearings.said c.next_in_data.new.hearings.said
    c.loop-next.invariant.walking c.loop-next.invariant.steady (read_same (g.S.EawStore.calls c.loop-next.pages.store) (g.S.EawStore.calls c.args.pages.now.store) (V c.loop-next.pages.store).shape (V c.args.pages.now.store).shape c.loop-next.invariant.steady c.loop-next.invariant.looks.shape) c.loop-next.invariant.looks.shape c.in_err-next.ensures.looked))

pub returns-then-is_none-clause-walks : goal.returns-then-is_none-clause-walks
returns-then-is_none-clause-walks g c =
    let V = g.S.EawStore.view in
    walk_ends g.K.KeyIndex.access c.args.root (g.S.EawStore.calls c.args.pages.now.store) (data_cost (g.S.EawStore.calls c.args.pages.now.store) (V c.args.pages.now.store).shape) (V c.args.pages.now.store).shape false (length c.loop-next.hearings.said + 1) (V c.args.pages.now.store).moment (V c.next_in_data.new.pages.store).moment c.next_in_data.new.hearings.said (omega (arith, c.loop-next.invariant.left)) (omega (arith, c.in_ok-next.ensures.few, c.loop-next.invariant.left))
    (walk_steps g.K.KeyIndex.access c.args.root (g.S.EawStore.calls c.args.pages.now.store) (data_cost (g.S.EawStore.calls c.args.pages.now.store) (V c.args.pages.now.store).shape) (V c.args.pages.now.store).shape false (g.S.EawStore.calls c.loop-next.pages.store) (data_cost (g.S.EawStore.calls c.loop-next.pages.store) (V c.loop-next.pages.store).shape) (V c.loop-next.pages.store).shape (length c.loop-next.hearings.said) (V c.args.pages.now.store).moment (V c.loop-next.pages.store).moment (V c.next_in_data.new.pages.store).moment c.loop-next.low c.loop-next.hearings.said c.next_in_data.new.hearings.said
    c.loop-next.invariant.walking c.loop-next.invariant.steady (read_same (g.S.EawStore.calls c.loop-next.pages.store) (g.S.EawStore.calls c.args.pages.now.store) (V c.loop-next.pages.store).shape (V c.args.pages.now.store).shape c.loop-next.invariant.steady c.loop-next.invariant.looks.shape) c.loop-next.invariant.looks.shape c.in_ok-next.ensures.looked)

pub returns-then-next-clause-walks : goal.returns-then-next-clause-walks
returns-then-next-clause-walks g c =
    let V = g.S.EawStore.view in
    walk_ends g.K.KeyIndex.access c.args.root (g.S.EawStore.calls c.args.pages.now.store) (data_cost (g.S.EawStore.calls c.args.pages.now.store) (V c.args.pages.now.store).shape) (V c.args.pages.now.store).shape false (length c.loop-next.hearings.said + 1) (V c.args.pages.now.store).moment (V c.next_in_data.new.pages.store).moment c.next_in_data.new.hearings.said (omega (arith, c.loop-next.invariant.left)) (omega (arith, c.in_ok-next.ensures.few, c.loop-next.invariant.left))
    (walk_steps g.K.KeyIndex.access c.args.root (g.S.EawStore.calls c.args.pages.now.store) (data_cost (g.S.EawStore.calls c.args.pages.now.store) (V c.args.pages.now.store).shape) (V c.args.pages.now.store).shape false (g.S.EawStore.calls c.loop-next.pages.store) (data_cost (g.S.EawStore.calls c.loop-next.pages.store) (V c.loop-next.pages.store).shape) (V c.loop-next.pages.store).shape (length c.loop-next.hearings.said) (V c.args.pages.now.store).moment (V c.loop-next.pages.store).moment (V c.next_in_data.new.pages.store).moment c.loop-next.low c.loop-next.hearings.said c.next_in_data.new.hearings.said
    c.loop-next.invariant.walking c.loop-next.invariant.steady (read_same (g.S.EawStore.calls c.loop-next.pages.store) (g.S.EawStore.calls c.args.pages.now.store) (V c.loop-next.pages.store).shape (V c.args.pages.now.store).shape c.loop-next.invariant.steady c.loop-next.invariant.looks.shape) c.loop-next.invariant.looks.shape c.in_ok-next.ensures.looked)

pub returns-then-left-eq0-clause-walks : goal.returns-then-left-eq0-clause-walks
returns-then-left-eq0-clause-walks g c =
    let V = g.S.EawStore.view in
    walk_ends g.K.KeyIndex.access c.args.root (g.S.EawStore.calls c.args.pages.now.store) (data_cost (g.S.EawStore.calls c.args.pages.now.store) (V c.args.pages.now.store).shape) (V c.args.pages.now.store).shape false (length c.loop-next.hearings.said + 1) (V c.args.pages.now.store).moment (V c.next_in_data.new.pages.store).moment c.next_in_data.new.hearings.said (omega (arith, c.loop-next.invariant.left)) (omega (arith, c.in_ok-next.ensures.few, c.loop-next.invariant.left))
    (walk_steps g.K.KeyIndex.access c.args.root (g.S.EawStore.calls c.args.pages.now.store) (data_cost (g.S.EawStore.calls c.args.pages.now.store) (V c.args.pages.now.store).shape) (V c.args.pages.now.store).shape false (g.S.EawStore.calls c.loop-next.pages.store) (data_cost (g.S.EawStore.calls c.loop-next.pages.store) (V c.loop-next.pages.store).shape) (V c.loop-next.pages.store).shape (length c.loop-next.hearings.said) (V c.args.pages.now.store).moment (V c.loop-next.pages.store).moment (V c.next_in_data.new.pages.store).moment c.loop-next.low c.loop-next.hearings.said c.next_in_data.new.hearings.said
    c.loop-next.invariant.walking c.loop-next.invariant.steady (read_same (g.S.EawStore.calls c.loop-next.pages.store) (g.S.EawStore.calls c.args.pages.now.store) (V c.loop-next.pages.store).shape (V c.args.pages.now.store).shape c.loop-next.invariant.steady c.loop-next.invariant.looks.shape) c.loop-next.invariant.looks.shape c.in_ok-next.ensures.looked)
