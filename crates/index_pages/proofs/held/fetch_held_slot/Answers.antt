use Rattle.std.proofs.Common.{◌+◌, ◌/◌, Some, ap, ◌∙◌, sym, subst, List, ℕ, Option, Result, Ok, Err}
use Rattle.record_slots.specs.Slots.{slot_said}
use Rattle.record_slots.specs.declared.slot.Slot.{Slot}
use Rattle.std.proofs.lemmas.Result.{err_from_is_err_and}
use Rattle.index_pages.specs.Held.{AreOf}
use Rattle.index_pages.proofs.Sizes.{slot_on_page}
use Rattle.page_store.specs.declared.fault.PageFault.{PageFault}
use Rattle.index_pages.specs.Plans.{Holds}
use Rattle.index_pages.proofs.Trying.{holds_ok, holds_err}
use Rattle.index_pages.proofs.held.fetch_held_slot.Goals as goal

pub returns-clause-said : goal.returns-clause-said
returns-clause-said g c = λ told.
    let store = c.args.pages.now.store in
    let view = g.S.EawStore.view store in
    c.slot_in.ensures ∙ ap (λ (l : List ℕ). slot_said l) (slot_on_page view.shape view.state.bytes (g.met.S.EawStore.long store told) c.index_page_count.result c.args.slot c.index_page_count.ensures.all
    c.hold.new.held.bytes (c.in_ok-hold.ensures.bytes told))

pub returns-clause-held : goal.returns-clause-held
returns-clause-held g c = λ told.
    let view = g.S.EawStore.view c.args.pages.now.store in
    subst (λ (o : Option ℕ). AreOf view.state.bytes c.hold.new.held.bytes o) (sym c.in_ok-hold.ensures.page) (c.in_ok-hold.ensures.bytes told)

pub returns-clause-page : goal.returns-clause-page
returns-clause-page g c = c.in_ok-hold.ensures.page ∙ ap (λ (n : ℕ). Some (n + c.args.slot / 8)) c.index_page_count.ensures.count

pub returns-clause-unread : goal.returns-clause-unread
returns-clause-unread g c = λ is. c.in_ok-hold.ensures.unread (is ∙ ap (λ (n : ℕ). Some (n + c.args.slot / 8)) (sym c.index_page_count.ensures.count))

pub returns-clause-slot : goal.returns-clause-slot
returns-clause-slot g c = c.slot_in.ensures

pub returns-clause-holds : goal.returns-clause-holds
returns-clause-holds g c =
    let r : Result (Option Slot) PageFault = Ok c.slot_in.result in
    subst (λ (h : ℕ). Holds g.S.EawStore.tells (g.S.EawStore.calls c.args.pages.now.store) (g.S.EawStore.calls c.hold.new.pages.store) (h + c.args.slot / 8) c.args.held.now c.hold.new.held (g.S.EawStore.view c.args.pages.now.store) (g.S.EawStore.view c.hold.new.pages.store) r) c.index_page_count.ensures.count
    (holds_ok _ _ _ _ _ _ _ _ _ _ c.in_ok-hold.ensures.holds)

pub returns-in_err-hold-clause-holds : goal.returns-in_err-hold-clause-holds
returns-in_err-hold-clause-holds g c =
    let r : Result (Option Slot) PageFault = Err c.in_err-hold.field-0.0 in
    let p = err_from_is_err_and c.from_residual.result c.from_residual.ensures.1 in
    rw (p.1, p.2) (subst (λ (h : ℕ). Holds g.S.EawStore.tells (g.S.EawStore.calls c.args.pages.now.store) (g.S.EawStore.calls c.hold.new.pages.store) (h + c.args.slot / 8) c.args.held.now c.hold.new.held (g.S.EawStore.view c.args.pages.now.store) (g.S.EawStore.view c.hold.new.pages.store) r) c.index_page_count.ensures.count
    (holds_err _ _ _ _ _ _ _ _ _ _ _ c.in_err-hold.ensures.holds))
