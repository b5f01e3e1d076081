use Rattle.std.proofs.Common.{refl, sym, ◌∙◌}
use Rattle.page_store.specs.Shown.{pages_of}
use Rattle.history.specs.Key.{of_table}
use Rattle.record_table.specs.Names.{name_at, key_in}
use Rattle.record_table.proofs.Gathering.{follows_some, next_is}
use Rattle.record_table.proofs.Seeking.{read_is, some_slot}
use Rattle.record_table.proofs.Sharing.{Laws, called_at}
use Rattle.std.proofs.Common.{Result, Err, subst}
use Rattle.page_store.specs.Looks.{LookCause}
use Rattle.page_store.specs.declared.fault.PageFault.{PageFault}
use Rattle.page_store.specs.declared.fault.PageFault.TheVariants.{Damaged}
use Rattle.record_table.specs.declared.scanning.Next.{Next}
use Rattle.record_table.proofs.Hearing.{next_failed, next_heard, next_silent}
use Rattle.record_table.specs.Seeks.{row_cost}
use Rattle.record_table.proofs.Walking.{not_refused, paid_one}
use Rattle.std.proofs.lemmas.Result.{err_from_is_err_and}
use Rattle.record_table.proofs.scanning.read_row.Goals as goal

pub returns-clause-follows : goal.returns-clause-follows
returns-clause-follows g c = λ told name called.
    let K = g.met.K.KeyIndex in
    let V = g.S.EawStore.view in
    let I = g.K.KeyIndex.index in
    let laws : Laws g.K.KeyIndex.index = record { rises = K.rises; given = K.given; counts = K.counts; rests = K.rests; extends = K.extends } in
    let v0 = pages_of (V c.args.pages.now.store) c.args.pages.now in
    let alive = c.requires.alive in
    let tied = (c.requires.holds alive).tied told in
    let n = next_is I laws c.args.tid v0 tied c.args.span.table c.args.span.root name called (c.requires.named told alive) c.args.span.low c.args.span.high c.args.pair.0 c.args.pair.1 (c.requires.next told) c.requires.most in
    rw c.value_in.ensures (follows_some I laws c.args.tid v0 tied c.args.span.table c.args.span.root name called (c.requires.named told alive) c.args.span.low c.args.span.high c.args.pair.0 c.args.pair.1 (c.requires.next told) c.requires.most _
    (sym c.in_ok-held.ensures.slot ∙ c.in_ok-said.ensures.said told
    ∙ read_is I laws c.args.tid (of_table name c.args.pair.0) v0 tied v0 refl refl (g.met.S.EawStore.long c.args.pages.now.store told) c.args.pair.1 n.1))

pub returns-in_err-held-clause-cause : goal.returns-in_err-held-clause-cause
returns-in_err-held-clause-cause g c =
    let exit = err_from_is_err_and c.from_residual-in_err-held.result c.from_residual-in_err-held.ensures.1 in
    rw (exit.1, exit.2) (
    let K = g.met.K.KeyIndex in
    let V = g.S.EawStore.view in
    let I = g.K.KeyIndex.index in
    let laws : Laws g.K.KeyIndex.index = record { rises = K.rises; given = K.given; counts = K.counts; rests = K.rests; extends = K.extends } in
    let v0 = pages_of (V c.args.pages.now.store) c.args.pages.now in
    let alive = c.requires.alive in
    (let damaged : LookCause g.S.EawStore.tells (V c.args.pages.now.store) (let r : Result Next PageFault = Err (Damaged c.page_of-page.result) in r) = (
      alive,
      λ told.
          let tied = (c.requires.holds alive).tied told in
          let d = (V c.args.pages.now.store).state.bytes in
          let n = next_is I laws c.args.tid v0 tied c.args.span.table c.args.span.root (name_at d c.args.span.table) (called_at d c.args.span.table c.args.span.root (c.requires.named told alive)) (c.requires.named told alive) c.args.span.low c.args.span.high c.args.pair.0 c.args.pair.1 (c.requires.next told) c.requires.most in
          some_slot I laws c.args.tid (key_in d c.args.span.table c.args.pair.0) v0 tied v0 refl refl (g.met.S.EawStore.long c.args.pages.now.store told) c.args.pair.1 n.1
          (sym c.in_err-held.ensures.none.1 ∙ c.in_ok-said.ensures.said told),
    ) in subst (λ (f : PageFault). LookCause g.S.EawStore.tells (V c.args.pages.now.store) (let r : Result Next PageFault = Err f in r)) (sym c.in_err-held.ensures.none.0) damaged))

pub returns-in_err-said-clause-hears : goal.returns-in_err-said-clause-hears
returns-in_err-said-clause-hears g c =
    let exit = err_from_is_err_and c.from_residual.result c.from_residual.ensures.1 in
    rw (exit.1, exit.2) (next_failed (g.S.EawStore.view c.args.pages.now.store).shape c.args.pair c.args.hearings.now.said c.in_err-said.field-0.0 c.in_err-said.ensures.faults)

pub returns-clause-hears : goal.returns-clause-hears
returns-clause-hears g c = next_heard (g.S.EawStore.view c.args.pages.now.store).shape c.args.pair c.args.hearings.now.said c.heard.new.hearings.said c.in_ok-said.said c.in_ok-held.held (record { key = c.args.pair.0; slot = c.args.pair.1; value = c.value_in.result }) c.in_ok-held.ensures.slot c.in_ok-held.ensures.hears refl c.value_in.ensures

pub returns-in_err-held-clause-hears : goal.returns-in_err-held-clause-hears
returns-in_err-held-clause-hears g c =
    let exit = err_from_is_err_and c.from_residual-in_err-held.result c.from_residual-in_err-held.ensures.1 in
    rw (exit.1, exit.2) (
    next_silent (g.S.EawStore.view c.args.pages.now.store).shape c.args.pair c.args.hearings.now.said c.heard.new.hearings.said c.in_ok-said.said c.in_err-held.field-0.0 c.page_of-page.result c.in_err-held.ensures.none.0 c.in_err-held.ensures.none.1 c.in_err-held.ensures.hears c.page_of-page.ensures.page)

pub returns-clause-costs : goal.returns-clause-costs
returns-clause-costs g c = λ well.
    let V = g.S.EawStore.view in
    paid_one (row_cost (g.S.EawStore.calls c.args.pages.now.store) c.args.tid (V c.args.pages.now.store)) _ _ c.args.pair.1 c.args.hearings.now.said c.heard.new.hearings.said _ (c.in_ok-said.ensures.costs.done refl) c.in_ok-held.ensures.hears refl

pub returns-in_err-held-clause-costs : goal.returns-in_err-held-clause-costs
returns-in_err-held-clause-costs g c =
    let exit = err_from_is_err_and c.from_residual-in_err-held.result c.from_residual-in_err-held.ensures.1 in
    rw (exit.1, exit.2) (λ well.
    let V = g.S.EawStore.view in
    paid_one (row_cost (g.S.EawStore.calls c.args.pages.now.store) c.args.tid (V c.args.pages.now.store)) _ _ c.args.pair.1 c.args.hearings.now.said c.heard.new.hearings.said _ (c.in_ok-said.ensures.costs.done refl) c.in_err-held.ensures.hears refl)

pub returns-in_err-said-clause-costs : goal.returns-in_err-said-clause-costs
returns-in_err-said-clause-costs g c =
    let exit = err_from_is_err_and c.from_residual.result c.from_residual.ensures.1 in
    rw (exit.1, exit.2) (λ well.
    absurd (not_refused g.S.EawStore.tells (g.S.EawStore.view c.args.pages.now.store) c.in_err-said.field-0.0 c.in_err-said.ensures.faults c.in_err-said.ensures.cause c.requires.alive well))

pub returns-clause-steady : goal.returns-clause-steady
returns-clause-steady g c = λ well. c.in_ok-said.ensures.steady

pub returns-in_err-held-clause-steady : goal.returns-in_err-held-clause-steady
returns-in_err-held-clause-steady g c =
    let exit = err_from_is_err_and c.from_residual-in_err-held.result c.from_residual-in_err-held.ensures.1 in
    rw (exit.1, exit.2) (λ well. c.in_ok-said.ensures.steady)

pub returns-in_err-said-clause-steady : goal.returns-in_err-said-clause-steady
returns-in_err-said-clause-steady g c =
    let exit = err_from_is_err_and c.from_residual.result c.from_residual.ensures.1 in
    rw (exit.1, exit.2) (λ well.
    absurd (not_refused g.S.EawStore.tells (g.S.EawStore.view c.args.pages.now.store) c.in_err-said.field-0.0 c.in_err-said.ensures.faults c.in_err-said.ensures.cause c.requires.alive well))
