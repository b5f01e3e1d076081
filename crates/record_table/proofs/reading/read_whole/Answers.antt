use Rattle.std.proofs.Common.{◌≡◌, ℕ, Bool, false, inl, List, ◌++◌, refl, sym, ap, subst, ◌∙◌}
use Rattle.std.specs.List.{zip}
use Rattle.eaw_face.specs.State.{State}
use Rattle.page_store.specs.Looks.{Looks}
use Rattle.page_store.specs.Records.{records_of}
use Rattle.page_store.specs.Shown.{pages_of}
use Rattle.index_pages.proofs.Looking.{looks_next}
use Rattle.index_pages.proofs.Tests.{failed_same}
use Rattle.record_table.specs.AllTables.{by_name}
use Rattle.history.specs.Rows.{records_in}
use Rattle.record_table.specs.Attached.{BlamesTested}
use Rattle.record_table.specs.Names.{names_of}
use Rattle.record_table.proofs.Blaming.{tested_blames, front_tested}
use Rattle.record_table.proofs.ByName.{records_are}
use Rattle.record_table.proofs.Sharing.{Laws}
use Rattle.std.proofs.lemmas.Result.{err_from_is_err_and}
use Rattle.record_table.proofs.reading.read_whole.Goals as goal

pub returns-clause-records : goal.returns-clause-records
returns-clause-records g c = λ told.
    let K = g.met.K.KeyIndex in
    let index = g.K.KeyIndex.index in
    let laws : Laws index = record { rises = K.rises; given = K.given; counts = K.counts; rests = K.rests; extends = K.extends } in
    let bytes = (g.S.EawStore.view c.args.pages.now.store).state.bytes in
    let names = c.in_ok-names.ensures.names told ∙ ap (λ (s : State). names_of s.bytes) ((c.in_ok-check.ensures.looks.still refl).state told) in
    let rows = c.into_rows-rows.ensures ∙ c.in_ok-check.ensures.records told ∙ ap (λ (l : List (List (ℕ × List ℕ))). l ++ records_of index bytes) c.new-tables.ensures in
    ap records_in (c.in_ok-tables.ensures ∙ (λ i. by_name (zip (names i) (rows i)))) ∙ records_are index laws bytes (c.in_ok-check.ensures.cause.1 told)

pub returns-in_err-names-clause-looks : goal.returns-in_err-names-clause-looks
returns-in_err-names-clause-looks g c =
    let V = g.S.EawStore.view in
    let T = g.S.EawStore.tells in
    let E = g.S.EawStore.opens in
    let v0 = pages_of (V c.args.pages.now.store) c.args.pages.now in
    let v1 = pages_of (V c.check.new.pages.store) c.check.new.pages in
    let v2 = pages_of (V c.names_and_roots.new.pages.store) c.names_and_roots.new.pages in
    let fault = c.in_err-names.field-0.0 in
    let exit = err_from_is_err_and c.from_residual-in_err-names.result c.from_residual-in_err-names.ensures.1 in
    rw (exit.1, exit.2) (subst (λ (b : Bool). Looks T (E (V c.args.pages.now.store).shape) b v0 v2) (failed_same (Unit {0}) fault) (looks_next T E _ v0 v1 v2 c.in_ok-check.ensures.looks c.in_err-names.ensures.looks))

pub returns-then-from-len-clause-looks : goal.returns-then-from-len-clause-looks
returns-then-from-len-clause-looks g c =
    let V = g.S.EawStore.view in
    looks_next g.S.EawStore.tells g.S.EawStore.opens false (pages_of (V c.args.pages.now.store) c.args.pages.now) (pages_of (V c.check.new.pages.store) c.check.new.pages)
    (pages_of (V c.names_and_roots.new.pages.store) c.names_and_roots.new.pages) c.in_ok-check.ensures.looks c.in_ok-names.ensures.looks

pub returns-clause-looks : goal.returns-clause-looks
returns-clause-looks g c =
    let V = g.S.EawStore.view in
    looks_next g.S.EawStore.tells g.S.EawStore.opens false (pages_of (V c.args.pages.now.store) c.args.pages.now) (pages_of (V c.check.new.pages.store) c.check.new.pages)
    (pages_of (V c.names_and_roots.new.pages.store) c.names_and_roots.new.pages) c.in_ok-check.ensures.looks c.in_ok-names.ensures.looks

pub returns-in_err-tables-clause-looks : goal.returns-in_err-tables-clause-looks
returns-in_err-tables-clause-looks g c =
    let exit = err_from_is_err_and c.from_residual-in_err-tables.result c.from_residual-in_err-tables.ensures.1 in
    rw (exit.1, exit.2) (
    let V = g.S.EawStore.view in
    looks_next g.S.EawStore.tells g.S.EawStore.opens false (pages_of (V c.args.pages.now.store) c.args.pages.now) (pages_of (V c.check.new.pages.store) c.check.new.pages)
    (pages_of (V c.names_and_roots.new.pages.store) c.names_and_roots.new.pages) c.in_ok-check.ensures.looks c.in_ok-names.ensures.looks)

pub returns-in_err-check-clause-blames : goal.returns-in_err-check-clause-blames
returns-in_err-check-clause-blames g c =
    let exit = err_from_is_err_and c.from_residual.result c.from_residual.ensures.1 in
    rw (exit.1) (
    let V = g.S.EawStore.view in
    subst (BlamesTested g.S.EawStore.tells (g.S.EawStore.calls c.args.pages.now.store) g.K.KeyIndex.access (V c.args.pages.now.store)) (sym exit.2)
    (tested_blames g.S.EawStore.tells (g.S.EawStore.calls c.args.pages.now.store) (g.S.EawStore.calls c.check.new.pages.store) g.K.KeyIndex.access (V c.args.pages.now.store) (V c.check.new.pages.store) c.in_err-check.field-0.0 c.in_err-check.ensures.tests))

pub returns-in_err-names-clause-blames : goal.returns-in_err-names-clause-blames
returns-in_err-names-clause-blames g c =
    let exit = err_from_is_err_and c.from_residual-in_err-names.result c.from_residual-in_err-names.ensures.1 in
    rw (exit.1, exit.2) (front_tested (Unit {0}) g.S.EawStore.tells (g.S.EawStore.calls c.args.pages.now.store) g.K.KeyIndex.access (g.S.EawStore.view c.args.pages.now.store) c.in_err-names.field-0.0 c.in_err-names.ensures.blames)

pub returns-then-from-len-clause-blames : goal.returns-then-from-len-clause-blames
returns-then-from-len-clause-blames g c = inl refl
