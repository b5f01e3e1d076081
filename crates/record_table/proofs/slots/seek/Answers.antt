use Rattle.std.proofs.Common.{false, refl, sym, ◌∙◌, ap}
use Rattle.page_store.specs.Records.{value_of}
use Rattle.page_store.specs.Shown.{pages_of}
use Rattle.record_table.proofs.Looking.{looks_as, looks_next}
use Rattle.history.specs.Key.{of_table}
use Rattle.record_table.specs.Names.{name_at, key_in}
use Rattle.record_table.proofs.Sharing.{Laws, called_at, found_in}
use Rattle.record_table.proofs.Seeking.{seen_none, seen_some, some_slot}
use Rattle.std.proofs.Common.{Bool, Option, Result, Err, subst}
use Rattle.record_table.specs.Sought.{LooksAs}
use Rattle.page_store.specs.Looks.{LookCause}
use Rattle.page_store.specs.declared.fault.PageFault.{PageFault}
use Rattle.page_store.specs.declared.fault.PageFault.TheVariants.{Damaged}
use Rattle.record_table.specs.declared.slots.Place.{Place}
use Rattle.record_table.proofs.SeekCosts.{seeks_none, seeks_err, seeks_unread, seeks_bad, seeks_some, damaged_not_dead, damaged_well}
use Rattle.std.proofs.lemmas.Result.{err_from_is_err_and}
use Rattle.record_table.proofs.slots.seek.Goals as goal

pub returns-in_default-clause-finds : goal.returns-in_default-clause-finds
returns-in_default-clause-finds g c = λ told name called.
    let K = g.met.K.KeyIndex in
    let V = g.S.EawStore.view in
    let laws : Laws g.K.KeyIndex.index = record { rises = K.rises; given = K.given; counts = K.counts; rests = K.rests; extends = K.extends } in
    let alive = c.in_ok-slot.ensures.cause in
    let none = found_in g.K.KeyIndex.index laws (V c.args.pages.now.store).state.bytes c.args.table c.args.root c.args.key name ((c.requires.holds alive).tied told).sound called (c.requires.named told alive) ∙ sym (c.in_ok-slot.ensures.found told) ∙ c.in_default.is in
    (none, seen_none g.K.KeyIndex.index laws c.args.tid (of_table name c.args.key) (pages_of (V c.args.pages.now.store) c.args.pages.now) ((c.requires.holds alive).tied told) none)

pub returns-clause-finds : goal.returns-clause-finds
returns-clause-finds g c = λ told name called.
    let K = g.met.K.KeyIndex in
    let V = g.S.EawStore.view in
    let laws : Laws g.K.KeyIndex.index = record { rises = K.rises; given = K.given; counts = K.counts; rests = K.rests; extends = K.extends } in
    let alive = c.in_ok-slot.ensures.cause in
    let looks = c.in_ok-slot.ensures.looks in
    let some = found_in g.K.KeyIndex.index laws (V c.args.pages.now.store).state.bytes c.args.table c.args.root c.args.key name ((c.requires.holds alive).tied told).sound called (c.requires.named told alive) ∙ sym (c.in_ok-slot.ensures.found told) ∙ c.in-Some.is in (
      some,
      seen_some g.K.KeyIndex.index laws c.args.tid (of_table name c.args.key) (pages_of (V c.args.pages.now.store) c.args.pages.now) ((c.requires.holds alive).tied told)
          (pages_of (V c.find.new.pages.store) c.find.new.pages) looks.shape ((looks.still refl).state told) (g.met.S.EawStore.long c.args.pages.now.store told) c.in-Some.slot some
          c.in_ok-said.said (c.in_ok-said.ensures.said told) ∙ ap value_of c.in_ok-held.ensures.slot ∙ sym c.value_in.ensures,
    )

pub returns-in_err-held-clause-cause : goal.returns-in_err-held-clause-cause
returns-in_err-held-clause-cause g c =
    let exit = err_from_is_err_and c.from_residual-in_err-held.result c.from_residual-in_err-held.ensures.1 in
    rw (exit.1, exit.2) (
    let K = g.met.K.KeyIndex in
    let V = g.S.EawStore.view in
    let laws : Laws g.K.KeyIndex.index = record { rises = K.rises; given = K.given; counts = K.counts; rests = K.rests; extends = K.extends } in
    let alive = c.in_ok-slot.ensures.cause in
    let looks = c.in_ok-slot.ensures.looks in
    (let damaged : LookCause g.S.EawStore.tells (V c.args.pages.now.store) (let r : Result (Option Place) PageFault = Err (Damaged c.page_of-page.result) in r) = (
      alive,
      λ told.
          let some = found_in g.K.KeyIndex.index laws (V c.args.pages.now.store).state.bytes c.args.table c.args.root c.args.key (name_at (V c.args.pages.now.store).state.bytes c.args.table) ((c.requires.holds alive).tied told).sound (called_at (V c.args.pages.now.store).state.bytes c.args.table c.args.root (c.requires.named told alive)) (c.requires.named told alive) ∙ sym (c.in_ok-slot.ensures.found told) ∙ c.in-Some.is in
          some_slot g.K.KeyIndex.index laws c.args.tid (key_in (V c.args.pages.now.store).state.bytes c.args.table c.args.key) (pages_of (V c.args.pages.now.store) c.args.pages.now) ((c.requires.holds alive).tied told)
          (pages_of (V c.find.new.pages.store) c.find.new.pages) looks.shape ((looks.still refl).state told) (g.met.S.EawStore.long c.args.pages.now.store told) c.in-Some.slot some
          (sym c.in_err-held.ensures.none.1 ∙ c.in_ok-said.ensures.said told),
    ) in subst (λ (f : PageFault). LookCause g.S.EawStore.tells (V c.args.pages.now.store) (let r : Result (Option Place) PageFault = Err f in r)) (sym c.in_err-held.ensures.none.0) damaged))

pub returns-in_err-slot-clause-finds : goal.returns-in_err-slot-clause-finds
returns-in_err-slot-clause-finds g c =
    let exit = err_from_is_err_and c.from_residual.result c.from_residual.ensures.1 in
    rw (exit.1) (λ told name called. tt)

pub returns-in_err-slot-clause-inside : goal.returns-in_err-slot-clause-inside
returns-in_err-slot-clause-inside g c =
    let exit = err_from_is_err_and c.from_residual.result c.from_residual.ensures.1 in
    rw (exit.1) tt

pub returns-in_default-clause-inside : goal.returns-in_default-clause-inside
returns-in_default-clause-inside g c = tt

pub returns-in_default-clause-dead : goal.returns-in_default-clause-dead
returns-in_default-clause-dead g c = λ is. cc

pub returns-in_default-clause-cause : goal.returns-in_default-clause-cause
returns-in_default-clause-cause g c = c.in_ok-slot.ensures.cause

pub returns-clause-dead : goal.returns-clause-dead
returns-clause-dead g c = λ is. cc

pub returns-clause-cause : goal.returns-clause-cause
returns-clause-cause g c = c.in_ok-slot.ensures.cause

pub returns-in_err-held-clause-finds : goal.returns-in_err-held-clause-finds
returns-in_err-held-clause-finds g c =
    let exit = err_from_is_err_and c.from_residual-in_err-held.result c.from_residual-in_err-held.ensures.1 in
    rw (exit.1) (λ told name called. tt)

pub returns-in_err-held-clause-inside : goal.returns-in_err-held-clause-inside
returns-in_err-held-clause-inside g c =
    let exit = err_from_is_err_and c.from_residual-in_err-held.result c.from_residual-in_err-held.ensures.1 in
    rw (exit.1) tt

pub returns-in_err-held-clause-dead : goal.returns-in_err-held-clause-dead
returns-in_err-held-clause-dead g c =
    let exit = err_from_is_err_and c.from_residual-in_err-held.result c.from_residual-in_err-held.ensures.1 in
    rw (exit.1, exit.2) (λ is. damaged_not_dead c.in_err-held.field-0.0 c.page_of-page.result c.in_err-held.ensures.none.0 is)

pub returns-in_err-said-clause-finds : goal.returns-in_err-said-clause-finds
returns-in_err-said-clause-finds g c =
    let exit = err_from_is_err_and c.from_residual-in_err-said.result c.from_residual-in_err-said.ensures.1 in
    rw (exit.1) (λ told name called. tt)

pub returns-in_err-said-clause-inside : goal.returns-in_err-said-clause-inside
returns-in_err-said-clause-inside g c =
    let exit = err_from_is_err_and c.from_residual-in_err-said.result c.from_residual-in_err-said.ensures.1 in
    rw (exit.1) tt

pub returns-in_default-clause-looks : goal.returns-in_default-clause-looks
returns-in_default-clause-looks g c =
    let T = g.S.EawStore.tells in
    let E = g.S.EawStore.opens in
    let V = g.S.EawStore.view in
    let v0 = pages_of (V c.args.pages.now.store) c.args.pages.now in
    looks_as T (E v0.store.shape) c.args.tid false v0 (pages_of (V c.find.new.pages.store) c.find.new.pages) c.in_ok-slot.ensures.looks

pub returns-clause-looks : goal.returns-clause-looks
returns-clause-looks g c =
    let T = g.S.EawStore.tells in
    let E = g.S.EawStore.opens in
    let V = g.S.EawStore.view in
    let v0 = pages_of (V c.args.pages.now.store) c.args.pages.now in
    looks_next T E c.args.tid false v0 (pages_of (V c.find.new.pages.store) c.find.new.pages) (pages_of (V c.read_as.new.pages.store) c.read_as.new.pages) (looks_as T (E v0.store.shape) c.args.tid false v0 (pages_of (V c.find.new.pages.store) c.find.new.pages) c.in_ok-slot.ensures.looks) c.in_ok-said.ensures.looks

pub returns-in_err-held-clause-looks : goal.returns-in_err-held-clause-looks
returns-in_err-held-clause-looks g c =
    let exit = err_from_is_err_and c.from_residual-in_err-held.result c.from_residual-in_err-held.ensures.1 in
    rw (exit.1, exit.2) (
    let T = g.S.EawStore.tells in
    let E = g.S.EawStore.opens in
    let V = g.S.EawStore.view in
    let v0 = pages_of (V c.args.pages.now.store) c.args.pages.now in
    subst (λ (b : Bool). LooksAs T (E v0.store.shape) c.args.tid b v0 (pages_of (V c.read_as.new.pages.store) c.read_as.new.pages)) (sym (damaged_well (Option Place) c.in_err-held.field-0.0 c.page_of-page.result c.in_err-held.ensures.none.0))
    (looks_next T E c.args.tid false v0 (pages_of (V c.find.new.pages.store) c.find.new.pages) (pages_of (V c.read_as.new.pages.store) c.read_as.new.pages) (looks_as T (E v0.store.shape) c.args.tid false v0 (pages_of (V c.find.new.pages.store) c.find.new.pages) c.in_ok-slot.ensures.looks) c.in_ok-said.ensures.looks))

pub returns-in_default-clause-seeks : goal.returns-in_default-clause-seeks
returns-in_default-clause-seeks g c =
    let V = g.S.EawStore.view in
    seeks_none g.S.EawStore.tells (g.K.KeyIndex.access.finding c.args.root c.args.key) c.args.key c.args.tid (g.S.EawStore.calls c.args.pages.now.store) (g.S.EawStore.calls c.find.new.pages.store) c.args.hearings.now.said
    (V c.args.pages.now.store) (V c.find.new.pages.store) (rw c.in_default.is at c.in_ok-slot.ensures.follows)

pub returns-in_err-slot-clause-seeks : goal.returns-in_err-slot-clause-seeks
returns-in_err-slot-clause-seeks g c =
    let exit = err_from_is_err_and c.from_residual.result c.from_residual.ensures.1 in
    rw (exit.1, exit.2) (
    let V = g.S.EawStore.view in
    seeks_err g.S.EawStore.tells (g.K.KeyIndex.access.finding c.args.root c.args.key) c.args.key c.args.tid (g.S.EawStore.calls c.args.pages.now.store) (g.S.EawStore.calls c.find.new.pages.store) c.args.hearings.now.said
    (V c.args.pages.now.store) (V c.find.new.pages.store) c.in_err-slot.field-0.0 c.in_err-slot.ensures.follows)

pub returns-in_err-said-clause-seeks : goal.returns-in_err-said-clause-seeks
returns-in_err-said-clause-seeks g c =
    let exit = err_from_is_err_and c.from_residual-in_err-said.result c.from_residual-in_err-said.ensures.1 in
    rw (exit.1, exit.2) (
    let V = g.S.EawStore.view in
    seeks_unread g.S.EawStore.tells (g.K.KeyIndex.access.finding c.args.root c.args.key) c.args.key c.args.tid (g.S.EawStore.calls c.args.pages.now.store) (g.S.EawStore.calls c.find.new.pages.store) c.args.hearings.now.said
    (V c.args.pages.now.store) (V c.find.new.pages.store) c.in-Some.slot (rw c.in-Some.is at c.in_ok-slot.ensures.inside) c.in_ok-slot.ensures.looks.shape c.in_ok-slot.ensures.looks.ranges
    (V c.read_as.new.pages.store) (rw c.in-Some.is at c.in_ok-slot.ensures.follows)
    c.in_err-said.field-0.0 ((c.in_ok-slot.ensures.looks.still refl).dead ∙ c.in_ok-slot.ensures.cause) c.in_err-said.ensures.faults c.in_err-said.ensures.cause c.in_err-said.ensures.costs)

pub returns-in_err-held-clause-seeks : goal.returns-in_err-held-clause-seeks
returns-in_err-held-clause-seeks g c =
    let exit = err_from_is_err_and c.from_residual-in_err-held.result c.from_residual-in_err-held.ensures.1 in
    rw (exit.1, exit.2) (
    let V = g.S.EawStore.view in
    seeks_bad g.S.EawStore.tells (g.K.KeyIndex.access.finding c.args.root c.args.key) c.args.key c.args.tid (g.S.EawStore.calls c.args.pages.now.store) (g.S.EawStore.calls c.find.new.pages.store) c.args.hearings.now.said
    (V c.args.pages.now.store) (V c.find.new.pages.store) c.in-Some.slot (rw c.in-Some.is at c.in_ok-slot.ensures.inside) c.in_ok-slot.ensures.looks.shape c.in_ok-slot.ensures.looks.ranges
    (V c.read_as.new.pages.store) (rw c.in-Some.is at c.in_ok-slot.ensures.follows)
    c.in_ok-said.said c.in_ok-said.ensures.costs c.in_err-held.field-0.0 c.page_of-page.result c.in_ok-said.said _ c.in_err-held.ensures.none.0 c.in_err-held.ensures.none.1 c.in_err-held.ensures.hears c.page_of-page.ensures.page)

pub returns-clause-seeks : goal.returns-clause-seeks
returns-clause-seeks g c =
    let V = g.S.EawStore.view in
    seeks_some g.S.EawStore.tells (g.K.KeyIndex.access.finding c.args.root c.args.key) c.args.key c.args.tid (g.S.EawStore.calls c.args.pages.now.store) (g.S.EawStore.calls c.find.new.pages.store) c.args.hearings.now.said
    (V c.args.pages.now.store) (V c.find.new.pages.store) c.in-Some.slot (rw c.in-Some.is at c.in_ok-slot.ensures.inside) c.in_ok-slot.ensures.looks.shape c.in_ok-slot.ensures.looks.ranges
    (V c.read_as.new.pages.store) (rw c.in-Some.is at c.in_ok-slot.ensures.follows)
    c.in_ok-said.said c.in_ok-said.ensures.costs _ c.in_ok-said.said c.in_ok-held.held _ refl c.in_ok-held.ensures.slot c.value_in.ensures c.in_ok-held.ensures.hears

pub returns-in_err-said-clause-looks : goal.returns-in_err-said-clause-looks
returns-in_err-said-clause-looks g c =
    let exit = err_from_is_err_and c.from_residual-in_err-said.result c.from_residual-in_err-said.ensures.1 in
    rw (exit.1, exit.2) (
    let V = g.S.EawStore.view in
    let T = g.S.EawStore.tells in
    let E = g.S.EawStore.opens in
    looks_next T E c.args.tid _ (pages_of (V c.args.pages.now.store) c.args.pages.now) (pages_of (V c.find.new.pages.store) c.find.new.pages) (pages_of (V c.read_as.new.pages.store) c.read_as.new.pages) (looks_as T (E (V c.args.pages.now.store).shape) c.args.tid false (pages_of (V c.args.pages.now.store) c.args.pages.now) (pages_of (V c.find.new.pages.store) c.find.new.pages) c.in_ok-slot.ensures.looks) c.in_err-said.ensures.looks)
