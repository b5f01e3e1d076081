use Rattle.std.proofs.Common.{◌≡◌, length, Result, Ok, Err, refl, false}
use Rattle.std.specs.Prelude.{IsTrue, OnOk, OnErr}
use Rattle.eaw_face.specs.Command as command
use Rattle.page_store.specs.Command.{atomic_write}
use Rattle.page_store.specs.Ready.{IsFreeWrite}
use Rattle.page_store.specs.Shown.{PagesView, counts_in, top_in}
use Rattle.page_store.proofs.Lifting.{lifted}
use Rattle.page_store.proofs.Shown.{IsTold}
use Rattle.page_store.proofs.Writing.{makes_atomic}
use Rattle.page_store.proofs.pages.Pages.atomic_write.Goals as goal

any_ok : {T E : Type 0} {P : Type 0} (r : Result T E) → P → OnOk r P
any_ok (Ok x) p = p
any_ok (Err e) p = tt

any_err : {T E : Type 0} {P : Type 0} (r : Result T E) → P → OnErr r P
any_err (Ok x) p = tt
any_err (Err e) p = p

pub returns-clause-does : goal.returns-clause-does
returns-clause-does g c =
    let view = g.S.EawStore.view in
    let store = view c.self.inside.store in
    let marks = c.self.inside.marks.items in
    let old : PagesView = record { store = store; counts = counts_in marks; top = top_in marks } in
    let new : PagesView = record { store = view c.atomic_write.new.self; counts = counts_in marks; top = top_in marks } in
    let free : IsFreeWrite store.shape store.ranges c.args.tid c.args.addr (length c.args.bytes.now) = record { some = c.requires.some; inside = rw (← c.self.view_is) at c.requires.inside; free = rw (← c.self.view_is) at c.requires.free } in
    let told : IsTrue g.S.EawStore.tells → store.is_dead ≡ false → IsTold store = λ tell alive. record {
      long = g.met.S.EawStore.long c.self.inside.store tell;
      outlines = λ u. g.met.S.EawStore.outlines c.self.inside.store u tell alive;
      placed = g.met.S.EawStore.placed c.self.inside.store;
    } in
    rw (← c.self.view_is) (lifted g.S.EawStore.tells (g.S.EawStore.opens store.shape) (atomic_write c.args.tid c.args.addr c.args.bytes.now) (command.atomic_write c.args.tid c.args.addr c.args.bytes.now) old new
    (makes_atomic g.S.EawStore.tells old c.args.tid c.args.addr c.args.bytes.now free c.self.invariant.ordered told) c.atomic_write.result c.told.result c.told.ensures c.atomic_write.ensures.does
    (any_ok c.told.result (refl, refl)) (any_err c.told.result (refl, refl)))
