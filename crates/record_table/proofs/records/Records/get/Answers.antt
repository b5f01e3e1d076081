use Rattle.std.proofs.Common.{List, Option, Result, IsTrue, ◌∙◌, ap, subst, refl, sym, Ok, Err}
use Rattle.record_table.specs.Names.{name_at}
use Rattle.record_table.proofs.Sharing.{called_below}
use Rattle.record_table.proofs.Rooted.{rooted_as, inside_as, called_inside}
use Rattle.eaw_face.specs.Causes.{IsAlive}
use Rattle.page_store.specs.Index.{IsTable}
use Rattle.page_store.specs.Shown.{Shown, pages_of}
use Rattle.history.specs.Key.{of_table}
use Rattle.history.specs.Table.{found}
use Rattle.history.specs.declared.call.Call.TheVariants.{Table as OnTable}
use Rattle.history.specs.declared.call.TableCall.TheVariants.{Get}
use Rattle.record_table.specs.Faults.{as_table}
use Rattle.page_store.specs.declared.fault.PageFault.{PageFault}
use Rattle.record_table.specs.declared.slots.Place.{Place}
use Rattle.record_table.specs.Hearing.{Hearing}
use Rattle.record_table.specs.Seeks.{Gets, Seeks}
use Rattle.record_table.proofs.Seeking.{found_value}
use Rattle.record_table.proofs.Doing.{got, look_refused}
use Rattle.record_table.proofs.Ending.{does_of}
use Rattle.record_table.proofs.KeptNames.{kept}
use Rattle.std.proofs.lemmas.Result.{err_from_is_err_and}
use Rattle.record_table.proofs.records.Records.get.Goals as goal

pub invariant_of-self : goal.invariant_of-self
invariant_of-self g c =
    let V = g.S.EawStore.view in
    let inside = c.self.inside.pages in
    let name = name_at (V c.args.self.now.store).state.bytes c.args.table in
    let root = c.of_table-root.result in
    let calls = called_inside g.S.EawStore.tells V c.args.self.now c.self.inside.pages c.self.view_is c.args.table name (λ told alive. called_below (V c.args.self.now.store).state.bytes c.args.table (c.requires.there told alive)) in
    let roots = rooted_as g.S.EawStore.tells (pages_of (V c.self.inside.pages.store) c.self.inside.pages) c.self.inside.roots.at c.args.table c.requires.table c.self.invariant.1.1 name calls c.of_table-root.result c.of_table-root.ensures in
    let new = c.seek.new.pages in
    let T = g.S.EawStore.tells in
    let E = g.S.EawStore.opens (g.S.EawStore.view c.self.inside.pages.store).shape in
    kept (look_refused T E g.K.KeyIndex.index c.args.table c.args.tid (OnTable (Get name c.args.key)) (pages_of (V inside.store) inside) (pages_of (V new.store) new) c.self.invariant.0 _ c.in_err-found.field-0.0 tt c.in_err-found.ensures.cause c.in_err-found.ensures.looks
    (λ e. ap (λ (p : Shown g.row.S.Denot). pages_of (V p.store) p) (c.in_err-found.ensures.dead e))) c.self.invariant.1

pub invariant_of-self-2 : goal.invariant_of-self-2
invariant_of-self-2 g c =
    let V = g.S.EawStore.view in
    let inside = c.self.inside.pages in
    let name = name_at (V c.args.self.now.store).state.bytes c.args.table in
    let root = c.of_table-root.result in
    let calls = called_inside g.S.EawStore.tells V c.args.self.now c.self.inside.pages c.self.view_is c.args.table name (λ told alive. called_below (V c.args.self.now.store).state.bytes c.args.table (c.requires.there told alive)) in
    let roots = rooted_as g.S.EawStore.tells (pages_of (V c.self.inside.pages.store) c.self.inside.pages) c.self.inside.roots.at c.args.table c.requires.table c.self.invariant.1.1 name calls c.of_table-root.result c.of_table-root.ensures in
    let new = c.seek.new.pages in
    let T = g.S.EawStore.tells in
    let E = g.S.EawStore.opens (g.S.EawStore.view c.self.inside.pages.store).shape in
    kept (got T E g.K.KeyIndex.index c.args.table c.args.tid c.args.key name (pages_of (V inside.store) inside) (pages_of (V new.store) new) c.self.invariant.0 c.in_ok-found.ensures.cause c.in_ok-found.ensures.looks c.value_at.result (λ told. found_value g.K.KeyIndex.index c.args.tid (of_table name c.args.key) (pages_of (V inside.store) inside) c.in_ok-found.found (c.in_ok-found.ensures.finds told name (calls told c.in_ok-found.ensures.cause)) ∙ sym c.value_at.ensures)) c.self.invariant.1

pub returns-clause-does : goal.returns-clause-does
returns-clause-does g c = λ name its.
    let V = g.S.EawStore.view in
    let inside = c.self.inside.pages in
    let root = c.of_table-root.result in
    let calls = called_inside g.S.EawStore.tells V c.args.self.now c.self.inside.pages c.self.view_is c.args.table name its in
    let roots = rooted_as g.S.EawStore.tells (pages_of (V c.self.inside.pages.store) c.self.inside.pages) c.self.inside.roots.at c.args.table c.requires.table c.self.invariant.1.1 name calls c.of_table-root.result c.of_table-root.ensures in
    let new = c.seek.new.pages in
    let T = g.S.EawStore.tells in
    let E = g.S.EawStore.opens (g.S.EawStore.view c.self.inside.pages.store).shape in
    does_of V T g.S.EawStore.opens g.K.KeyIndex.index c.args.table c.args.tid (OnTable (Get name c.args.key)) c.args.self.now inside c.self.view_is (pages_of (V new.store) new) (Ok (found c.value_at.result))
    (got T E g.K.KeyIndex.index c.args.table c.args.tid c.args.key name (pages_of (V inside.store) inside) (pages_of (V new.store) new) c.self.invariant.0 c.in_ok-found.ensures.cause c.in_ok-found.ensures.looks c.value_at.result (λ told. found_value g.K.KeyIndex.index c.args.tid (of_table name c.args.key) (pages_of (V inside.store) inside) c.in_ok-found.found (c.in_ok-found.ensures.finds told name (calls told c.in_ok-found.ensures.cause)) ∙ sym c.value_at.ensures)).0

pub returns-in_err-found-clause-does : goal.returns-in_err-found-clause-does
returns-in_err-found-clause-does g c = λ name its.
    let V = g.S.EawStore.view in
    let inside = c.self.inside.pages in
    let root = c.of_table-root.result in
    let calls = called_inside g.S.EawStore.tells V c.args.self.now c.self.inside.pages c.self.view_is c.args.table name its in
    let roots = rooted_as g.S.EawStore.tells (pages_of (V c.self.inside.pages.store) c.self.inside.pages) c.self.inside.roots.at c.args.table c.requires.table c.self.invariant.1.1 name calls c.of_table-root.result c.of_table-root.ensures in
    let new = c.seek.new.pages in
    let T = g.S.EawStore.tells in
    let E = g.S.EawStore.opens (g.S.EawStore.view c.self.inside.pages.store).shape in
    let exit = err_from_is_err_and c.from_residual.result c.from_residual.ensures.1 in
    rw (exit.1, exit.2) (does_of V T g.S.EawStore.opens g.K.KeyIndex.index c.args.table c.args.tid (OnTable (Get name c.args.key)) c.args.self.now inside c.self.view_is (pages_of (V new.store) new) _
    (look_refused T E g.K.KeyIndex.index c.args.table c.args.tid (OnTable (Get name c.args.key)) (pages_of (V inside.store) inside) (pages_of (V new.store) new) c.self.invariant.0 _ c.in_err-found.field-0.0 tt c.in_err-found.ensures.cause c.in_err-found.ensures.looks
    (λ e. ap (λ (p : Shown g.row.S.Denot). pages_of (V p.store) p) (c.in_err-found.ensures.dead e))).0)

pub returns-clause-gets : goal.returns-clause-gets
returns-clause-gets g c =
    let V = g.S.EawStore.view in
    let inside = c.self.inside.pages in
    let name = name_at (V c.args.self.now.store).state.bytes c.args.table in
    let root = c.of_table-root.result in
    let calls = called_inside g.S.EawStore.tells V c.args.self.now c.self.inside.pages c.self.view_is c.args.table name (λ told alive. called_below (V c.args.self.now.store).state.bytes c.args.table (c.requires.there told alive)) in
    let roots = rooted_as g.S.EawStore.tells (pages_of (V c.self.inside.pages.store) c.self.inside.pages) c.self.inside.roots.at c.args.table c.requires.table c.self.invariant.1.1 name calls c.of_table-root.result c.of_table-root.ensures in
    let new = c.seek.new.pages in
    let there = subst (λ (p : Shown g.row.S.Denot). IsTrue g.S.EawStore.tells → IsAlive (V p.store) → IsTable (V p.store).state.bytes c.args.table c.of_table-root.result) c.self.view_is roots in
    let heard_first = λ (r : Result (Option Place) PageFault) (seeks : Seeks (g.K.KeyIndex.access.finding c.of_table-root.result c.args.key) c.args.key c.args.tid (g.S.EawStore.calls inside.store) c.new-hearings.result.said c.seek.new.hearings.said (V inside.store) (V new.store).moment r).
    subst (λ (hs : List Hearing). Seeks (g.K.KeyIndex.access.finding c.of_table-root.result c.args.key) c.args.key c.args.tid (g.S.EawStore.calls inside.store) hs c.seek.new.hearings.said (V inside.store) (V new.store).moment r) c.new-hearings.ensures seeks in (
      root,
      subst (λ (p : Shown g.row.S.Denot). Gets (g.K.KeyIndex.access.finding c.of_table-root.result c.args.key) c.args.key c.args.tid (g.S.EawStore.calls p.store) (V p.store) (V new.store) (Ok c.value_at.result)) c.self.view_is
          (record { sought = Ok c.in_ok-found.found; hearings = c.seek.new.hearings.said; seeks = heard_first (Ok c.in_ok-found.found) c.in_ok-found.ensures.seeks; told = ap Ok c.value_at.ensures }),
      there,
    )

pub returns-in_err-found-clause-gets : goal.returns-in_err-found-clause-gets
returns-in_err-found-clause-gets g c =
    let V = g.S.EawStore.view in
    let inside = c.self.inside.pages in
    let name = name_at (V c.args.self.now.store).state.bytes c.args.table in
    let root = c.of_table-root.result in
    let calls = called_inside g.S.EawStore.tells V c.args.self.now c.self.inside.pages c.self.view_is c.args.table name (λ told alive. called_below (V c.args.self.now.store).state.bytes c.args.table (c.requires.there told alive)) in
    let roots = rooted_as g.S.EawStore.tells (pages_of (V c.self.inside.pages.store) c.self.inside.pages) c.self.inside.roots.at c.args.table c.requires.table c.self.invariant.1.1 name calls c.of_table-root.result c.of_table-root.ensures in
    let new = c.seek.new.pages in
    let there = subst (λ (p : Shown g.row.S.Denot). IsTrue g.S.EawStore.tells → IsAlive (V p.store) → IsTable (V p.store).state.bytes c.args.table c.of_table-root.result) c.self.view_is roots in
    let heard_first = λ (r : Result (Option Place) PageFault) (seeks : Seeks (g.K.KeyIndex.access.finding c.of_table-root.result c.args.key) c.args.key c.args.tid (g.S.EawStore.calls inside.store) c.new-hearings.result.said c.seek.new.hearings.said (V inside.store) (V new.store).moment r).
    subst (λ (hs : List Hearing). Seeks (g.K.KeyIndex.access.finding c.of_table-root.result c.args.key) c.args.key c.args.tid (g.S.EawStore.calls inside.store) hs c.seek.new.hearings.said (V inside.store) (V new.store).moment r) c.new-hearings.ensures seeks in
    let exit = err_from_is_err_and c.from_residual.result c.from_residual.ensures.1 in
    rw (exit.1, exit.2) (
      root,
      subst (λ (p : Shown g.row.S.Denot). Gets (g.K.KeyIndex.access.finding c.of_table-root.result c.args.key) c.args.key c.args.tid (g.S.EawStore.calls p.store) (V p.store) (V new.store) (Err (as_table c.in_err-found.field-0.0))) c.self.view_is
          (record { sought = Err c.in_err-found.field-0.0; hearings = c.seek.new.hearings.said; seeks = heard_first (Err c.in_err-found.field-0.0) c.in_err-found.ensures.seeks; told = refl }),
      there,
    )

pub seek-requires-clause-named : goal.seek-requires-clause-named
seek-requires-clause-named g c =
    let V = g.S.EawStore.view in
    let name = name_at (V c.args.self.now.store).state.bytes c.args.table in
    let root = c.of_table-root.result in
    let calls = called_inside g.S.EawStore.tells V c.args.self.now c.self.inside.pages c.self.view_is c.args.table name (λ told alive. called_below (V c.args.self.now.store).state.bytes c.args.table (c.requires.there told alive)) in
    let roots = rooted_as g.S.EawStore.tells (pages_of (V c.self.inside.pages.store) c.self.inside.pages) c.self.inside.roots.at c.args.table c.requires.table c.self.invariant.1.1 name calls c.of_table-root.result c.of_table-root.ensures in
    roots

pub seek-requires-clause-root : goal.seek-requires-clause-root
seek-requires-clause-root g c = inside_as g.S.EawStore.tells (pages_of (g.S.EawStore.view c.self.inside.pages.store) c.self.inside.pages) c.self.inside.roots.at c.args.table c.requires.table c.self.invariant.1.1 c.of_table-root.result c.of_table-root.ensures
