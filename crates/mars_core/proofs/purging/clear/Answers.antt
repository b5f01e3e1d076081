use Rattle.std.proofs.Common.{◌+◌, ℕ, List, Ok, Err, sym, ap, subst, ◌∙◌, arith, length}
use Rattle.std.specs.Prelude.{slice_get}
use Rattle.array_shape.specs.declared.shape.Shape.{Shape}
use Rattle.page_store.specs.Shown.{pages_of}
use Rattle.mars_core.specs.Purging.{IsOfTable, IsOfFirst, Clears}
use Rattle.mars_core.proofs.Clearing.{still_may, going_first, going_more, counted_more, more_refused, going_to, all_tried}
use Rattle.mars_core.proofs.Passing.{first_none, first_more, first_both, first_before, first_all, sum_is}
use Rattle.std.proofs.lemmas.Result.{err_from_is_err_and}
use Rattle.mars_core.proofs.purging.clear.Goals as goal

pub loop-table-init : goal.loop-table-init
loop-table-init g c =
    let V = g.S.EawStore.view in
    let p = pages_of (V c.args.records.now.store) c.args.records.now in
    going_first g.S.EawStore.tells (g.S.EawStore.opens (V c.args.records.now.store).shape) g.K.KeyIndex.index c.args.seats.now c.args.caller p c.requires.alive (IsOfFirst c.args.seats.now.names 0) (first_none c.args.seats.now.names) c.requires.ready

pub clear_table-requires-clause-may : goal.clear_table-requires-clause-may
clear_table-requires-clause-may g c =
    let V = g.S.EawStore.view in
    still_may g.S.EawStore.tells (g.S.EawStore.opens (V c.args.records.now.store).shape) g.K.KeyIndex.index c.args.seats.now c.args.caller (pages_of (V c.args.records.now.store) c.args.records.now) (IsOfFirst c.args.seats.now.names c.loop-table.table) c.loop-table.taken
    (pages_of (V c.loop-table.records.store) c.loop-table.records) c.loop-table.invariant c.requires

pub loop-table-preserved : goal.loop-table-preserved
loop-table-preserved g c =
    let V = g.S.EawStore.view in
    let T = g.S.EawStore.tells in
    let I = g.K.KeyIndex.index in
    let E = g.S.EawStore.opens (V c.args.records.now.store).shape in
    let names = c.args.seats.now.names in
    let p = pages_of (V c.args.records.now.store) c.args.records.now in
    let m = pages_of (V c.loop-table.records.store) c.loop-table.records in
    let q = pages_of (V c.clear_table.new.records.store) c.clear_table.new.records in
    let clears = subst (λ (s : Shape). Clears g.S.EawStore.tells (g.S.EawStore.opens s) g.K.KeyIndex.index c.args.seats.now c.args.caller (IsOfTable c.in-Some.name) (pages_of (g.S.EawStore.view c.loop-table.records.store) c.loop-table.records)
    (pages_of (g.S.EawStore.view c.clear_table.new.records.store) c.clear_table.new.records) (Ok c.in_ok-more.more)) c.loop-table.invariant.shape c.in_ok-more.ensures.clears in
    let at = ap (λ (ns : List (List ℕ)). slice_get ns c.loop-table.table) (sym c.names-in-loop-table.ensures) ∙ (sym c.name.ensures ∙ c.in-Some.is) in
    let on = going_more T E I c.args.seats.now c.args.caller p c.requires.alive (IsOfFirst names c.loop-table.table) c.loop-table.taken m c.loop-table.invariant q (IsOfTable c.in-Some.name) c.in_ok-more.more clears
    (λ told. first_before names c.loop-table.table c.in-Some.name at) in
    going_to T E I c.args.seats.now c.args.caller (c.loop-table.taken + c.in_ok-more.more) c.saturating_add-taken.result _ (IsOfFirst names (c.loop-table.table + 1)) p q
    (λ told. sum_is c.loop-table.taken c.in_ok-more.more c.saturating_add-taken.result c.saturating_add-taken.ensures
    (counted_more T E I c.args.seats.now c.args.caller p c.requires.alive (IsOfFirst names c.loop-table.table) c.loop-table.taken m c.loop-table.invariant q (IsOfTable c.in-Some.name) c.in_ok-more.more clears told (c.requires.ready told)))
    (λ told key of is. first_more names c.loop-table.table c.in-Some.name at key of) (λ told. first_both names c.loop-table.table c.in-Some.name at) on

pub returns-in_err-more : goal.returns-in_err-more
returns-in_err-more g c =
    let exit = err_from_is_err_and c.from_residual.result c.from_residual.ensures.1 in
    rw (exit.1, exit.2) (
    let V = g.S.EawStore.view in
    let names = c.args.seats.now.names in
    let p = pages_of (V c.args.records.now.store) c.args.records.now in
    let m = pages_of (V c.loop-table.records.store) c.loop-table.records in
    let q = pages_of (V c.clear_table.new.records.store) c.clear_table.new.records in
    let clears = subst (λ (s : Shape). Clears g.S.EawStore.tells (g.S.EawStore.opens s) g.K.KeyIndex.index c.args.seats.now c.args.caller (IsOfTable c.in-Some.name) (pages_of (g.S.EawStore.view c.loop-table.records.store) c.loop-table.records)
    (pages_of (g.S.EawStore.view c.clear_table.new.records.store) c.clear_table.new.records) (Err c.in_err-more.field-0.0)) c.loop-table.invariant.shape c.in_err-more.ensures.clears in
    record {
      clears = more_refused g.S.EawStore.tells (g.S.EawStore.opens (V c.args.records.now.store).shape) g.K.KeyIndex.index c.args.seats.now c.args.caller p c.requires.alive (IsOfFirst names c.loop-table.table) c.loop-table.taken m c.loop-table.invariant q (IsOfTable c.in-Some.name)
          (IsOfFirst names (length names)) c.in_err-more.field-0.0 clears;
    })

pub returns : goal.returns
returns g c =
    let V = g.S.EawStore.view in
    let names = c.args.seats.now.names in
    let p = pages_of (V c.args.records.now.store) c.args.records.now in
    let m = pages_of (V c.loop-table.records.store) c.loop-table.records in
    record {
      clears = all_tried g.S.EawStore.tells (g.S.EawStore.opens (V c.args.records.now.store).shape) g.K.KeyIndex.index c.args.seats.now c.args.caller p c.requires.alive (IsOfFirst names c.loop-table.table) c.loop-table.taken m c.loop-table.invariant
          (IsOfFirst names (length names)) (λ told key of is. (of.0, omega (arith, of.1, c.loop-table-test.false, c.count-table-end.ensures.count, ap length c.names.ensures), of.2, of.3)) (λ told. first_all names c.loop-table.table);
    }
