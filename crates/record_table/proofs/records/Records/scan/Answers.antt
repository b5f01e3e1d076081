use Rattle.std.proofs.Common.{List, [], true, false, refl, subst}
use Rattle.page_store.specs.Shown.{Shown}
use Rattle.record_table.proofs.Doing.{does_dead}
use Rattle.record_table.proofs.Looking.{looks_none}
use Rattle.std.proofs.Common.{◌≡◌, Bool, Result, Ok, Err, sym, ◌∙◌, ap, arith}
use Rattle.std.specs.Result.{result_from_control_flow}
use Rattle.record_table.specs.declared.fault.TableFault.{TableFault}
use Rattle.record_table.specs.Does as answers
use Rattle.record_table.specs.Seeks.{row_cost}
use Rattle.record_table.specs.Walked.{Walked}
use Rattle.record_table.proofs.Walking.{scanned_failed}
use Rattle.record_table.specs.Names.{name_at}
use Rattle.record_table.proofs.Sharing.{called_below}
use Rattle.record_table.proofs.Rooted.{rooted_as, inside_as, called_inside}
use Rattle.page_store.specs.Shown.{pages_of}
use Rattle.history.specs.declared.call.Call.TheVariants.{Table as OnTable}
use Rattle.history.specs.declared.call.TableCall.TheVariants.{Scan}
use Rattle.record_table.proofs.Doing.{scanned_as, scanned}
use Rattle.record_table.proofs.Ending.{does_of}
use Rattle.record_table.proofs.KeptNames.{kept}
use Rattle.history.specs.Writes.{Row}
use Rattle.record_table.specs.Hearing.{Hearing, HearsRows}
use Rattle.record_table.proofs.Hearing.{rows_given}
use Rattle.std.proofs.lemmas.Result.{err_from_is_err_and}
use Rattle.record_table.proofs.records.Records.scan.Goals as goal

pub invariant_of-self : goal.invariant_of-self
invariant_of-self g c =
    let V = g.S.EawStore.view in
    let inside = c.self.inside.pages in
    let name = name_at (V c.args.self.now.store).state.bytes c.args.table in
    let root = c.of_table-root.result in
    let calls = called_inside g.S.EawStore.tells V c.args.self.now c.self.inside.pages c.self.view_is c.args.table name (λ told alive. called_below (V c.args.self.now.store).state.bytes c.args.table (c.requires.there told alive)) in
    let roots = rooted_as g.S.EawStore.tells (pages_of (V c.self.inside.pages.store) c.self.inside.pages) c.self.inside.roots.at c.args.table c.requires.table c.self.invariant.1.1 name calls c.of_table-root.result c.of_table-root.ensures in
    kept (scanned g.S.EawStore.tells (g.S.EawStore.opens (V inside.store).shape) g.K.KeyIndex.index c.args.table c.args.tid c.args.low c.args.high name (pages_of (V inside.store) inside) (pages_of (V c.gather.new.pages.store) c.gather.new.pages) c.self.invariant.0
    (sym c.is_dead.ensures.dead ∙ c.if-is_dead.false) c.gather.new.rows c.gather.result c.gather.ensures.looks c.gather.ensures.cause (λ told. c.gather.ensures.rows told name (calls told (sym c.is_dead.ensures.dead ∙ c.if-is_dead.false)))) c.self.invariant.1

pub invariant_of-self-2 : goal.invariant_of-self-2
invariant_of-self-2 g c =
    let V = g.S.EawStore.view in
    let inside = c.self.inside.pages in
    let name = name_at (V c.args.self.now.store).state.bytes c.args.table in
    let root = c.of_table-root.result in
    let calls = called_inside g.S.EawStore.tells V c.args.self.now c.self.inside.pages c.self.view_is c.args.table name (λ told alive. called_below (V c.args.self.now.store).state.bytes c.args.table (c.requires.there told alive)) in
    let roots = rooted_as g.S.EawStore.tells (pages_of (V c.self.inside.pages.store) c.self.inside.pages) c.self.inside.roots.at c.args.table c.requires.table c.self.invariant.1.1 name calls c.of_table-root.result c.of_table-root.ensures in
    kept (scanned g.S.EawStore.tells (g.S.EawStore.opens (V inside.store).shape) g.K.KeyIndex.index c.args.table c.args.tid c.args.low c.args.high name (pages_of (V inside.store) inside) (pages_of (V c.gather.new.pages.store) c.gather.new.pages) c.self.invariant.0
    (sym c.is_dead.ensures.dead ∙ c.if-is_dead.false) c.gather.new.rows c.gather.result c.gather.ensures.looks c.gather.ensures.cause (λ told. c.gather.ensures.rows told name (calls told (sym c.is_dead.ensures.dead ∙ c.if-is_dead.false)))) c.self.invariant.1

pub returns-clause-does : goal.returns-clause-does
returns-clause-does g c = λ name its.
    let V = g.S.EawStore.view in
    let inside = c.self.inside.pages in
    let root = c.of_table-root.result in
    let calls = called_inside g.S.EawStore.tells V c.args.self.now c.self.inside.pages c.self.view_is c.args.table name its in
    let roots = rooted_as g.S.EawStore.tells (pages_of (V c.self.inside.pages.store) c.self.inside.pages) c.self.inside.roots.at c.args.table c.requires.table c.self.invariant.1.1 name calls c.of_table-root.result c.of_table-root.ensures in
    does_of V g.S.EawStore.tells g.S.EawStore.opens g.K.KeyIndex.index c.args.table c.args.tid (OnTable (Scan name c.args.low c.args.high)) c.args.self.now inside c.self.view_is (pages_of (V c.gather.new.pages.store) c.gather.new.pages) _
    (scanned g.S.EawStore.tells (g.S.EawStore.opens (V inside.store).shape) g.K.KeyIndex.index c.args.table c.args.tid c.args.low c.args.high name (pages_of (V inside.store) inside) (pages_of (V c.gather.new.pages.store) c.gather.new.pages) c.self.invariant.0
    (sym c.is_dead.ensures.dead ∙ c.if-is_dead.false) c.gather.new.rows (Ok tt) c.in_ok-gather.ensures.looks c.in_ok-gather.ensures.cause (λ told. c.in_ok-gather.ensures.rows told name (calls told (sym c.is_dead.ensures.dead ∙ c.if-is_dead.false)))).0

pub returns-in_err-gather-clause-does : goal.returns-in_err-gather-clause-does
returns-in_err-gather-clause-does g c = λ name its.
    let V = g.S.EawStore.view in
    let inside = c.self.inside.pages in
    let root = c.of_table-root.result in
    let calls = called_inside g.S.EawStore.tells V c.args.self.now c.self.inside.pages c.self.view_is c.args.table name its in
    let roots = rooted_as g.S.EawStore.tells (pages_of (V c.self.inside.pages.store) c.self.inside.pages) c.self.inside.roots.at c.args.table c.requires.table c.self.invariant.1.1 name calls c.of_table-root.result c.of_table-root.ensures in
    let exit = err_from_is_err_and c.from_residual.result c.from_residual.ensures.1 in
    let answer = exit.1 ∙ ap (λ (f : TableFault). let r : Result (List Row) TableFault = Err f in r) exit.2 ∙ sym (ap (scanned_as c.gather.new.rows) (c.branch-gather.ensures ∙ ap result_from_control_flow c.in_err-gather.is)) in
    rw answer (does_of V g.S.EawStore.tells g.S.EawStore.opens g.K.KeyIndex.index c.args.table c.args.tid (OnTable (Scan name c.args.low c.args.high)) c.args.self.now inside c.self.view_is (pages_of (V c.gather.new.pages.store) c.gather.new.pages) _
    (scanned g.S.EawStore.tells (g.S.EawStore.opens (V inside.store).shape) g.K.KeyIndex.index c.args.table c.args.tid c.args.low c.args.high name (pages_of (V inside.store) inside) (pages_of (V c.gather.new.pages.store) c.gather.new.pages) c.self.invariant.0
    (sym c.is_dead.ensures.dead ∙ c.if-is_dead.false) c.gather.new.rows c.gather.result c.gather.ensures.looks c.gather.ensures.cause (λ told. c.gather.ensures.rows told name (calls told (sym c.is_dead.ensures.dead ∙ c.if-is_dead.false)))).0)

pub gather-requires-clause-named : goal.gather-requires-clause-named
gather-requires-clause-named g c =
    let V = g.S.EawStore.view in
    let name = name_at (V c.args.self.now.store).state.bytes c.args.table in
    let root = c.of_table-root.result in
    let calls = called_inside g.S.EawStore.tells V c.args.self.now c.self.inside.pages c.self.view_is c.args.table name (λ told alive. called_below (V c.args.self.now.store).state.bytes c.args.table (c.requires.there told alive)) in
    let roots = rooted_as g.S.EawStore.tells (pages_of (V c.self.inside.pages.store) c.self.inside.pages) c.self.inside.roots.at c.args.table c.requires.table c.self.invariant.1.1 name calls c.of_table-root.result c.of_table-root.ensures in
    roots

pub gather-requires-clause-root : goal.gather-requires-clause-root
gather-requires-clause-root g c = inside_as g.S.EawStore.tells (pages_of (g.S.EawStore.view c.self.inside.pages.store) c.self.inside.pages) c.self.inside.roots.at c.args.table c.requires.table c.self.invariant.1.1 c.of_table-root.result c.of_table-root.ensures

pub returns-then-is_dead-clause-does : goal.returns-then-is_dead-clause-does
returns-then-is_dead-clause-does g c = λ name its.
    let V = g.S.EawStore.view in
    let now = c.args.self.now in
    let v = pages_of (V now.store) now in
    does_dead g.S.EawStore.tells (g.S.EawStore.opens (V now.store).shape) g.K.KeyIndex.index c.args.table c.args.tid (OnTable (Scan name c.args.low c.args.high)) v v refl
    (subst (λ (p : Shown g.row.S.Denot). (V p.store).is_dead ≡ true) c.self.view_is (sym c.is_dead.ensures.dead ∙ c.if-is_dead.true))

pub returns-then-is_dead-clause-looks : goal.returns-then-is_dead-clause-looks
returns-then-is_dead-clause-looks g c =
    let V = g.S.EawStore.view in
    let now = c.args.self.now in
    looks_none g.S.EawStore.tells (g.S.EawStore.opens (V now.store).shape) c.args.tid (pages_of (V now.store) now)

pub returns-clause-hears : goal.returns-clause-hears
returns-clause-hears g c =
    let V = g.S.EawStore.view in (
      c.gather.new.hearings.said,
      subst (λ (p : Shown g.row.S.Denot). HearsRows (V p.store).shape c.gather.new.hearings.said (λ (rows : List Row). rows) (Ok c.gather.new.rows)) c.self.view_is
          (rows_given (V c.self.inside.pages.store).shape c.gather.new.hearings.said c.gather.new.rows (Ok tt) c.in_ok-gather.ensures.hears),
      c.of_table-root.result,
      subst (λ (p : Shown g.row.S.Denot). Walked g.K.KeyIndex.access c.of_table-root.result (g.S.EawStore.calls p.store) (row_cost (g.S.EawStore.calls p.store) c.args.tid (V p.store)) (V p.store).shape false (V p.store).moment (V c.gather.new.pages.store).moment c.gather.new.hearings.said) c.self.view_is
          c.in_ok-gather.ensures.walks,
    )

pub returns-in_err-gather-clause-hears : goal.returns-in_err-gather-clause-hears
returns-in_err-gather-clause-hears g c =
    let V = g.S.EawStore.view in
    let exit = err_from_is_err_and c.from_residual.result c.from_residual.ensures.1 in
    let answer = exit.1 ∙ ap (λ (f : TableFault). let r : Result (List Row) TableFault = Err f in r) exit.2 ∙ sym (ap (scanned_as c.gather.new.rows) (c.branch-gather.ensures ∙ ap result_from_control_flow c.in_err-gather.is)) in
    rw answer (
      c.gather.new.hearings.said,
      subst (λ (p : Shown g.row.S.Denot). HearsRows (V p.store).shape c.gather.new.hearings.said (λ (rows : List Row). rows) (scanned_as c.gather.new.rows c.gather.result)) c.self.view_is
          (rows_given (V c.self.inside.pages.store).shape c.gather.new.hearings.said c.gather.new.rows c.gather.result c.gather.ensures.hears),
      c.of_table-root.result,
      subst (λ (p : Shown g.row.S.Denot). Walked g.K.KeyIndex.access c.of_table-root.result (g.S.EawStore.calls p.store) (row_cost (g.S.EawStore.calls p.store) c.args.tid (V p.store)) (V p.store).shape (answers.is_failed (scanned_as c.gather.new.rows c.gather.result)) (V p.store).moment (V c.gather.new.pages.store).moment c.gather.new.hearings.said) c.self.view_is
          (subst (λ (failed : Bool). Walked g.K.KeyIndex.access c.of_table-root.result (g.S.EawStore.calls c.self.inside.pages.store) (row_cost (g.S.EawStore.calls c.self.inside.pages.store) c.args.tid (V c.self.inside.pages.store)) (V c.self.inside.pages.store).shape failed (V c.self.inside.pages.store).moment (V c.gather.new.pages.store).moment c.gather.new.hearings.said) (sym (scanned_failed c.gather.new.rows c.gather.result)) c.gather.ensures.walks),
    )

pub returns-then-is_dead-clause-hears : goal.returns-then-is_dead-clause-hears
returns-then-is_dead-clause-hears g c = let none : List Hearing = [] in (none, tt, 0, record { looks = []; are = tt; few = omega arith; few_heard = omega arith; exact = λ well. omega arith })
