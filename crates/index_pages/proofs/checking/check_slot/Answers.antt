use Rattle.std.proofs.Common.{◌++◌, Option, inr, sym, ◌∙◌, ap, arith}
use Rattle.std.proofs.lemmas.Bool.{false≢true}
use Rattle.record_slots.specs.declared.slot.Slot.{Slot}
use Rattle.page_store.specs.Records.{row_at, value_of}
use Rattle.index_pages.proofs.Sizes.{slot_page_is}
use Rattle.index_pages.proofs.Carrying.{carries_said, carries_not}
use Rattle.page_store.specs.Shown.{pages_of}
use Rattle.index_pages.proofs.Looking.{looks_none}
use Rattle.std.proofs.Common.{subst}
use Rattle.record_slots.specs.Places.{IsOfKey}
use Rattle.page_store.specs.Index.{index_pages_of}
use Rattle.index_pages.proofs.Trying.{slot_unnamed, slot_unread, slot_other, slot_holds, slot_no_memory}
use Rattle.std.proofs.lemmas.Result.{err_from_is_err_and}
use Rattle.index_pages.proofs.checking.check_slot.Goals as goal

pub returns-clause-cause : goal.returns-clause-cause
returns-clause-cause g c = λ told slots.
    let b = (g.S.EawStore.view c.args.pages.now.store).state.bytes in (
      omega (arith, c.if-pair-from.false, c.from.ensures, slots),
      carries_said b c.args.table c.args.pair.0 c.args.pair.1 c.in_ok-said.said (c.in_ok-said.ensures.said told) (c.is_of_key.ensures.0 c.if-not-is_of_key.false),
    )

pub returns-clause-rows : goal.returns-clause-rows
returns-clause-rows g c = λ told.
    c.in_ok-push_record.ensures ∙ ap (λ (o : Option Slot). c.args.rows.now ++ row_at c.args.pair.0 (value_of o)) (c.in_ok-said.ensures.said told)

pub returns-then-not-is_of_key-clause-cause : goal.returns-then-not-is_of_key-clause-cause
returns-then-not-is_of_key-clause-cause g c = λ told slots.
    let view = g.S.EawStore.view c.args.pages.now.store in
    inr (
      omega (arith, c.if-pair-from.false, c.from.ensures, slots),
      (
        carries_not view.state.bytes c.args.table c.args.pair.0 c.args.pair.1 c.in_ok-said.said (c.in_ok-said.ensures.said told) (λ is. false≢true (c.if-not-is_of_key.ensures.1 is)),
        sym (slot_page_is view.shape view.state.bytes (g.met.S.EawStore.long c.args.pages.now.store told) c.index_page_count-count.result c.args.pair.1 c.index_page_count-count.ensures.all),
      ),
    )

pub returns-then-pair-from-clause-looks : goal.returns-then-pair-from-clause-looks
returns-then-pair-from-clause-looks g c = looks_none g.S.EawStore.tells (g.S.EawStore.opens (g.S.EawStore.view c.args.pages.now.store).shape) (pages_of (g.S.EawStore.view c.args.pages.now.store) c.args.pages.now)

pub returns-then-pair-from-clause-tests : goal.returns-then-pair-from-clause-tests
returns-then-pair-from-clause-tests g c =
    slot_unnamed g.S.EawStore.tells (g.S.EawStore.calls c.args.pages.now.store) (index_pages_of (g.S.EawStore.view c.args.pages.now.store).shape) c.args.slots c.args.table c.args.page c.args.held.now c.args.pair (g.S.EawStore.view c.args.pages.now.store)
    (λ given. omega (arith, given, c.if-pair-from.true, c.from.ensures))

pub returns-in_err-said-clause-tests : goal.returns-in_err-said-clause-tests
returns-in_err-said-clause-tests g c =
    let exit = err_from_is_err_and c.from_residual.result c.from_residual.ensures.1 in
    rw (exit.1) (
    slot_unread g.S.EawStore.tells (g.S.EawStore.calls c.args.pages.now.store) (g.S.EawStore.calls c.fetch_held_slot.new.pages.store) (index_pages_of (g.S.EawStore.view c.args.pages.now.store).shape) c.args.slots c.args.table c.args.page c.args.held.now c.fetch_held_slot.new.held c.args.pair (g.S.EawStore.view c.args.pages.now.store) (g.S.EawStore.view c.fetch_held_slot.new.pages.store)
    (omega (arith, c.if-pair-from.false, c.from.ensures)) (Option Slot) c.in_err-said.field-0.0 exit.0 exit.2 c.requires.alive c.in_err-said.ensures.cause c.in_err-said.ensures.holds)

pub returns-then-not-is_of_key-clause-tests : goal.returns-then-not-is_of_key-clause-tests
returns-then-not-is_of_key-clause-tests g c =
    slot_other g.S.EawStore.tells (g.S.EawStore.calls c.args.pages.now.store) (g.S.EawStore.calls c.fetch_held_slot.new.pages.store) (index_pages_of (g.S.EawStore.view c.args.pages.now.store).shape) c.args.slots c.args.table c.args.page c.args.held.now c.fetch_held_slot.new.held c.args.pair (g.S.EawStore.view c.args.pages.now.store) (g.S.EawStore.view c.fetch_held_slot.new.pages.store)
    (omega (arith, c.if-pair-from.false, c.from.ensures)) (Option Slot) c.in_ok-said.said c.in_ok-said.ensures.holds c.index_page_count-count.result c.index_page_count-count.ensures.count
    (λ carries. false≢true (c.if-not-is_of_key.ensures.1 (subst (λ (o : Option Slot). IsOfKey c.args.table c.args.pair.0 o) (sym c.in_ok-said.ensures.slot) carries)))

pub returns-clause-tests : goal.returns-clause-tests
returns-clause-tests g c =
    slot_holds g.S.EawStore.tells (g.S.EawStore.calls c.args.pages.now.store) (g.S.EawStore.calls c.fetch_held_slot.new.pages.store) (index_pages_of (g.S.EawStore.view c.args.pages.now.store).shape) c.args.slots c.args.table c.args.page c.args.held.now c.fetch_held_slot.new.held c.args.pair (g.S.EawStore.view c.args.pages.now.store) (g.S.EawStore.view c.fetch_held_slot.new.pages.store)
    (omega (arith, c.if-pair-from.false, c.from.ensures)) (Option Slot) c.in_ok-said.said c.in_ok-said.ensures.holds c.in_ok-said.ensures.page
    (subst (λ (o : Option Slot). IsOfKey c.args.table c.args.pair.0 o) c.in_ok-said.ensures.slot (c.is_of_key.ensures.0 c.if-not-is_of_key.false))

pub returns-in_err-push_record-clause-tests : goal.returns-in_err-push_record-clause-tests
returns-in_err-push_record-clause-tests g c =
    let exit = err_from_is_err_and c.from_residual-in_err-push_record.result c.from_residual-in_err-push_record.ensures.1 in
    rw (exit.1, exit.2) (
    slot_no_memory g.S.EawStore.tells (g.S.EawStore.calls c.args.pages.now.store) (g.S.EawStore.calls c.fetch_held_slot.new.pages.store) (index_pages_of (g.S.EawStore.view c.args.pages.now.store).shape) c.args.slots c.args.table c.args.page c.args.held.now c.fetch_held_slot.new.held c.args.pair (g.S.EawStore.view c.args.pages.now.store) (g.S.EawStore.view c.fetch_held_slot.new.pages.store)
    (omega (arith, c.if-pair-from.false, c.from.ensures)) (Option Slot) c.in_ok-said.said c.in_ok-said.ensures.holds
    (subst (λ (o : Option Slot). IsOfKey c.args.table c.args.pair.0 o) c.in_ok-said.ensures.slot (c.is_of_key.ensures.0 c.if-not-is_of_key.false)))
