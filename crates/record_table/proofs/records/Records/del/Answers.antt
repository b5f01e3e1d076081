use Rattle.std.proofs.Common.{◌≡◌, IsTrue, ◌+◌, ◌*◌, Bool, Result, Ok, Err, refl, sym, ◌∙◌, ap, subst, arith}
use Rattle.std.specs.Prelude.{is_some, if◌then◌else◌}
use Rattle.std.specs.Result.{result_from_control_flow}
use Rattle.array_shape.specs.declared.shape.Shape.{Shape}
use Rattle.record_slots.specs.Slots.{slot_bytes}
use Rattle.record_slots.specs.declared.slot.Slot.TheVariants.{Absent}
use Rattle.page_store.specs.Command.{write_as}
use Rattle.page_store.specs.Does as page
use Rattle.page_store.specs.Index.{slots_of}
use Rattle.record_table.specs.Names.{name_at}
use Rattle.record_table.proofs.Rooted.{rooted_as, inside_as, called_inside}
use Rattle.page_store.specs.Shown.{Shown, pages_of}
use Rattle.history.specs.declared.call.Call.TheVariants.{Table as OnTable}
use Rattle.history.specs.declared.call.TableCall.TheVariants.{Del}
use Rattle.history.specs.declared.call.Reply.{Reply}
use Rattle.history.specs.declared.call.Reply.TheVariants as reply
use Rattle.record_table.specs.Does.{replied}
use Rattle.record_table.specs.declared.fault.TableFault.{TableFault}
use Rattle.record_table.proofs.Doing.{look_refused, not_removed}
use Rattle.record_table.proofs.Wrote.{none_is}
use Rattle.record_table.proofs.Ending.{does_of, err_same}
use Rattle.record_table.proofs.Putting.{answered, removed}
use Rattle.record_table.proofs.Sharing.{Laws, called_below}
use Rattle.record_table.proofs.KeptNames.{kept}
use Rattle.std.proofs.Common.{true, false, List, [], Option, None, Some}
use Rattle.eaw_face.specs.Causes.{IsAlive}
use Rattle.page_store.specs.Index.{IsTable}
use Rattle.page_store.specs.declared.fault.PageFault.{PageFault}
use Rattle.record_table.specs.Hearing.{Hearing}
use Rattle.record_table.specs.Seeks.{Seeks, Erases, AnswersErase}
use Rattle.record_table.specs.declared.slots.Place.{Place}
use Rattle.record_table.proofs.Erasing.{erases, erased_as, erased_if, is_erased}
use Rattle.std.proofs.lemmas.Result.{err_from_is_err_and}
use Rattle.record_table.proofs.records.Records.del.Goals as goal

pub invariant_of-self-in_default : goal.invariant_of-self-in_default
invariant_of-self-in_default g c =
    let V = g.S.EawStore.view in
    let inside = c.self.inside.pages in
    let name = name_at (V c.args.self.now.store).state.bytes c.args.table in
    let root = c.of_table-root.result in
    let calls = called_inside g.S.EawStore.tells V c.args.self.now c.self.inside.pages c.self.view_is c.args.table name (λ told alive. called_below (V c.args.self.now.store).state.bytes c.args.table (c.requires.there told alive)) in
    let roots = rooted_as g.S.EawStore.tells (pages_of (V c.self.inside.pages.store) c.self.inside.pages) c.self.inside.roots.at c.args.table c.requires.table c.self.invariant.1.1 name calls c.of_table-root.result c.of_table-root.ensures in
    kept (not_removed g.S.EawStore.tells (g.S.EawStore.opens (V inside.store).shape) g.K.KeyIndex.index c.args.table c.args.tid c.args.key name (pages_of (V inside.store) inside) (pages_of (V c.seek.new.pages.store) c.seek.new.pages) c.self.invariant.0
    c.in_ok-sought.ensures.cause c.in_ok-sought.ensures.looks (λ told. let f = rw c.in_default.is at (c.in_ok-sought.ensures.finds told name (calls told c.in_ok-sought.ensures.cause)) in f.1)) c.self.invariant.1

pub returns-in_default-clause-does : goal.returns-in_default-clause-does
returns-in_default-clause-does g c = λ name its.
    let V = g.S.EawStore.view in
    let inside = c.self.inside.pages in
    let root = c.of_table-root.result in
    let calls = called_inside g.S.EawStore.tells V c.args.self.now c.self.inside.pages c.self.view_is c.args.table name its in
    let roots = rooted_as g.S.EawStore.tells (pages_of (V c.self.inside.pages.store) c.self.inside.pages) c.self.inside.roots.at c.args.table c.requires.table c.self.invariant.1.1 name calls c.of_table-root.result c.of_table-root.ensures in
    does_of V g.S.EawStore.tells g.S.EawStore.opens g.K.KeyIndex.index c.args.table c.args.tid (OnTable (Del name c.args.key)) c.args.self.now inside c.self.view_is (pages_of (V c.seek.new.pages.store) c.seek.new.pages) (Ok reply.Absent)
    (not_removed g.S.EawStore.tells (g.S.EawStore.opens (V inside.store).shape) g.K.KeyIndex.index c.args.table c.args.tid c.args.key name (pages_of (V inside.store) inside) (pages_of (V c.seek.new.pages.store) c.seek.new.pages) c.self.invariant.0
    c.in_ok-sought.ensures.cause c.in_ok-sought.ensures.looks (λ told. let f = rw c.in_default.is at (c.in_ok-sought.ensures.finds told name (calls told c.in_ok-sought.ensures.cause)) in f.1)).0

pub invariant_of-self : goal.invariant_of-self
invariant_of-self g c =
    let V = g.S.EawStore.view in
    let inside = c.self.inside.pages in
    let name = name_at (V c.args.self.now.store).state.bytes c.args.table in
    let root = c.of_table-root.result in
    let calls = called_inside g.S.EawStore.tells V c.args.self.now c.self.inside.pages c.self.view_is c.args.table name (λ told alive. called_below (V c.args.self.now.store).state.bytes c.args.table (c.requires.there told alive)) in
    let roots = rooted_as g.S.EawStore.tells (pages_of (V c.self.inside.pages.store) c.self.inside.pages) c.self.inside.roots.at c.args.table c.requires.table c.self.invariant.1.1 name calls c.of_table-root.result c.of_table-root.ensures in
    kept (look_refused g.S.EawStore.tells (g.S.EawStore.opens (V inside.store).shape) g.K.KeyIndex.index c.args.table c.args.tid (OnTable (Del name c.args.key)) (pages_of (V inside.store) inside) (pages_of (V c.seek.new.pages.store) c.seek.new.pages) c.self.invariant.0 _ c.in_err-sought.field-0.0 tt
    c.in_err-sought.ensures.cause c.in_err-sought.ensures.looks (λ e. ap (λ (p : Shown g.row.S.Denot). pages_of (V p.store) p) (c.in_err-sought.ensures.dead e))) c.self.invariant.1

pub returns-in_err-sought-clause-does : goal.returns-in_err-sought-clause-does
returns-in_err-sought-clause-does g c =
    let exit = err_from_is_err_and c.from_residual.result c.from_residual.ensures.1 in
    rw (exit.1) (λ name its.
    let V = g.S.EawStore.view in
    let inside = c.self.inside.pages in
    let root = c.of_table-root.result in
    let calls = called_inside g.S.EawStore.tells V c.args.self.now c.self.inside.pages c.self.view_is c.args.table name its in
    let roots = rooted_as g.S.EawStore.tells (pages_of (V c.self.inside.pages.store) c.self.inside.pages) c.self.inside.roots.at c.args.table c.requires.table c.self.invariant.1.1 name calls c.of_table-root.result c.of_table-root.ensures in
    rw exit.2 (does_of V g.S.EawStore.tells g.S.EawStore.opens g.K.KeyIndex.index c.args.table c.args.tid (OnTable (Del name c.args.key)) c.args.self.now inside c.self.view_is (pages_of (V c.seek.new.pages.store) c.seek.new.pages) _
    (look_refused g.S.EawStore.tells (g.S.EawStore.opens (V inside.store).shape) g.K.KeyIndex.index c.args.table c.args.tid (OnTable (Del name c.args.key)) (pages_of (V inside.store) inside) (pages_of (V c.seek.new.pages.store) c.seek.new.pages) c.self.invariant.0 _ c.in_err-sought.field-0.0 tt
    c.in_err-sought.ensures.cause c.in_err-sought.ensures.looks (λ e. ap (λ (p : Shown g.row.S.Denot). pages_of (V p.store) p) (c.in_err-sought.ensures.dead e))).0))

pub invariant_of-self-then-is_none : goal.invariant_of-self-then-is_none
invariant_of-self-then-is_none g c =
    let V = g.S.EawStore.view in
    let inside = c.self.inside.pages in
    let name = name_at (V c.args.self.now.store).state.bytes c.args.table in
    let root = c.of_table-root.result in
    let calls = called_inside g.S.EawStore.tells V c.args.self.now c.self.inside.pages c.self.view_is c.args.table name (λ told alive. called_below (V c.args.self.now.store).state.bytes c.args.table (c.requires.there told alive)) in
    let roots = rooted_as g.S.EawStore.tells (pages_of (V c.self.inside.pages.store) c.self.inside.pages) c.self.inside.roots.at c.args.table c.requires.table c.self.invariant.1.1 name calls c.of_table-root.result c.of_table-root.ensures in
    kept (not_removed g.S.EawStore.tells (g.S.EawStore.opens (V inside.store).shape) g.K.KeyIndex.index c.args.table c.args.tid c.args.key name (pages_of (V inside.store) inside) (pages_of (V c.seek.new.pages.store) c.seek.new.pages) c.self.invariant.0
    c.in_ok-sought.ensures.cause c.in_ok-sought.ensures.looks (λ told. let f = rw c.in-Some.is at (c.in_ok-sought.ensures.finds told name (calls told c.in_ok-sought.ensures.cause)) in f.1 ∙ none_is c.in-Some.place.value c.if-is_none.ensures)) c.self.invariant.1

pub returns-then-is_none-clause-does : goal.returns-then-is_none-clause-does
returns-then-is_none-clause-does g c = λ name its.
    let V = g.S.EawStore.view in
    let inside = c.self.inside.pages in
    let root = c.of_table-root.result in
    let calls = called_inside g.S.EawStore.tells V c.args.self.now c.self.inside.pages c.self.view_is c.args.table name its in
    let roots = rooted_as g.S.EawStore.tells (pages_of (V c.self.inside.pages.store) c.self.inside.pages) c.self.inside.roots.at c.args.table c.requires.table c.self.invariant.1.1 name calls c.of_table-root.result c.of_table-root.ensures in
    does_of V g.S.EawStore.tells g.S.EawStore.opens g.K.KeyIndex.index c.args.table c.args.tid (OnTable (Del name c.args.key)) c.args.self.now inside c.self.view_is (pages_of (V c.seek.new.pages.store) c.seek.new.pages) (Ok reply.Absent)
    (not_removed g.S.EawStore.tells (g.S.EawStore.opens (V inside.store).shape) g.K.KeyIndex.index c.args.table c.args.tid c.args.key name (pages_of (V inside.store) inside) (pages_of (V c.seek.new.pages.store) c.seek.new.pages) c.self.invariant.0
    c.in_ok-sought.ensures.cause c.in_ok-sought.ensures.looks (λ told. let f = rw c.in-Some.is at (c.in_ok-sought.ensures.finds told name (calls told c.in_ok-sought.ensures.cause)) in f.1 ∙ none_is c.in-Some.place.value c.if-is_none.ensures)).0

-- the reply to a removal
abbrev told : Result Bool TableFault → Result Reply TableFault
told r = replied (λ was. if was then reply.Fine else reply.Absent) r

pub invariant_of-self-2 : goal.invariant_of-self-2
invariant_of-self-2 g c =
    let K = g.met.K.KeyIndex in
    let V = g.S.EawStore.view in
    let laws : Laws g.K.KeyIndex.index = record { rises = K.rises; given = K.given; counts = K.counts; rests = K.rests; extends = K.extends } in
    let inside = c.self.inside.pages in
    let name = name_at (V c.args.self.now.store).state.bytes c.args.table in
    let root = c.of_table-root.result in
    let calls = called_inside g.S.EawStore.tells V c.args.self.now c.self.inside.pages c.self.view_is c.args.table name (λ told alive. called_below (V c.args.self.now.store).state.bytes c.args.table (c.requires.there told alive)) in
    let roots = rooted_as g.S.EawStore.tells (pages_of (V c.self.inside.pages.store) c.self.inside.pages) c.self.inside.roots.at c.args.table c.requires.table c.self.invariant.1.1 name calls c.of_table-root.result c.of_table-root.ensures in
    let mid = c.seek.new.pages in
    let new = c.write_as.new.pages in
    let alive = c.in_ok-sought.ensures.cause in
    let looks = c.in_ok-sought.ensures.looks in
    let mid_alive = (looks.same refl).still.dead ∙ alive in
    let finds = λ (told : IsTrue g.S.EawStore.tells). rw c.in-Some.is at (c.in_ok-sought.ensures.finds told name (calls told c.in_ok-sought.ensures.cause)) in
    let does = subst (λ (s : Shape). page.Does g.S.EawStore.tells (g.S.EawStore.opens s) (write_as c.args.tid (64 * (slots_of (V mid.store).shape + c.in-Some.place.slot)) (slot_bytes (Absent c.args.table c.args.key))) (pages_of (V mid.store) mid) (pages_of (V new.store) new) c.write_as.result)
    looks.shape c.write_as.ensures.does in
    kept (removed g.S.EawStore.tells (g.S.EawStore.opens (V inside.store).shape) g.K.KeyIndex.index laws c.args.table c.args.tid c.args.key name (pages_of (V inside.store) inside) alive c.self.invariant.0 (λ told. calls told alive) (pages_of (V mid.store) mid) looks (pages_of (V new.store) new) c.in-Some.place.slot
    (λ told. (finds told).0) (λ told. ap is_some (finds told).1 ∙ c.if-is_none.ensures)
    (λ told. record { long = g.met.S.EawStore.long mid.store told; outlines = λ t. g.met.S.EawStore.outlines mid.store t told mid_alive; placed = λ t. g.met.S.EawStore.placed mid.store t })
    (c.write_as.ensures.ordered mid_alive) (c.write_as.ensures.reads_back mid_alive) (c.write_as.ensures.whole mid_alive) c.write_as.result does
    (λ f e ne. ap (λ (p : Shown g.row.S.Denot). pages_of (V p.store) p) (err_same c.write_as.result c.write_as.ensures.refused f e ne))) c.self.invariant.1

pub invariant_of-self-in_err-write_as : goal.invariant_of-self-in_err-write_as
invariant_of-self-in_err-write_as g c =
    let K = g.met.K.KeyIndex in
    let V = g.S.EawStore.view in
    let laws : Laws g.K.KeyIndex.index = record { rises = K.rises; given = K.given; counts = K.counts; rests = K.rests; extends = K.extends } in
    let inside = c.self.inside.pages in
    let name = name_at (V c.args.self.now.store).state.bytes c.args.table in
    let root = c.of_table-root.result in
    let calls = called_inside g.S.EawStore.tells V c.args.self.now c.self.inside.pages c.self.view_is c.args.table name (λ told alive. called_below (V c.args.self.now.store).state.bytes c.args.table (c.requires.there told alive)) in
    let roots = rooted_as g.S.EawStore.tells (pages_of (V c.self.inside.pages.store) c.self.inside.pages) c.self.inside.roots.at c.args.table c.requires.table c.self.invariant.1.1 name calls c.of_table-root.result c.of_table-root.ensures in
    let mid = c.seek.new.pages in
    let new = c.write_as.new.pages in
    let alive = c.in_ok-sought.ensures.cause in
    let looks = c.in_ok-sought.ensures.looks in
    let mid_alive = (looks.same refl).still.dead ∙ alive in
    let finds = λ (told : IsTrue g.S.EawStore.tells). rw c.in-Some.is at (c.in_ok-sought.ensures.finds told name (calls told c.in_ok-sought.ensures.cause)) in
    let does = subst (λ (s : Shape). page.Does g.S.EawStore.tells (g.S.EawStore.opens s) (write_as c.args.tid (64 * (slots_of (V mid.store).shape + c.in-Some.place.slot)) (slot_bytes (Absent c.args.table c.args.key))) (pages_of (V mid.store) mid) (pages_of (V new.store) new) c.write_as.result)
    looks.shape c.write_as.ensures.does in
    kept (removed g.S.EawStore.tells (g.S.EawStore.opens (V inside.store).shape) g.K.KeyIndex.index laws c.args.table c.args.tid c.args.key name (pages_of (V inside.store) inside) alive c.self.invariant.0 (λ told. calls told alive) (pages_of (V mid.store) mid) looks (pages_of (V new.store) new) c.in-Some.place.slot
    (λ told. (finds told).0) (λ told. ap is_some (finds told).1 ∙ c.if-is_none.ensures)
    (λ told. record { long = g.met.S.EawStore.long mid.store told; outlines = λ t. g.met.S.EawStore.outlines mid.store t told mid_alive; placed = λ t. g.met.S.EawStore.placed mid.store t })
    (c.write_as.ensures.ordered mid_alive) (c.write_as.ensures.reads_back mid_alive) (c.write_as.ensures.whole mid_alive) c.write_as.result does
    (λ f e ne. ap (λ (p : Shown g.row.S.Denot). pages_of (V p.store) p) (err_same c.write_as.result c.write_as.ensures.refused f e ne))) c.self.invariant.1

pub returns-clause-does : goal.returns-clause-does
returns-clause-does g c = λ name its.
    let K = g.met.K.KeyIndex in
    let V = g.S.EawStore.view in
    let laws : Laws g.K.KeyIndex.index = record { rises = K.rises; given = K.given; counts = K.counts; rests = K.rests; extends = K.extends } in
    let inside = c.self.inside.pages in
    let root = c.of_table-root.result in
    let calls = called_inside g.S.EawStore.tells V c.args.self.now c.self.inside.pages c.self.view_is c.args.table name its in
    let roots = rooted_as g.S.EawStore.tells (pages_of (V c.self.inside.pages.store) c.self.inside.pages) c.self.inside.roots.at c.args.table c.requires.table c.self.invariant.1.1 name calls c.of_table-root.result c.of_table-root.ensures in
    let mid = c.seek.new.pages in
    let new = c.write_as.new.pages in
    let alive = c.in_ok-sought.ensures.cause in
    let looks = c.in_ok-sought.ensures.looks in
    let mid_alive = (looks.same refl).still.dead ∙ alive in
    let finds = λ (told : IsTrue g.S.EawStore.tells). rw c.in-Some.is at (c.in_ok-sought.ensures.finds told name (calls told c.in_ok-sought.ensures.cause)) in
    let does = subst (λ (s : Shape). page.Does g.S.EawStore.tells (g.S.EawStore.opens s) (write_as c.args.tid (64 * (slots_of (V mid.store).shape + c.in-Some.place.slot)) (slot_bytes (Absent c.args.table c.args.key))) (pages_of (V mid.store) mid) (pages_of (V new.store) new) c.write_as.result)
    looks.shape c.write_as.ensures.does in
    let answer : told (Ok true) ≡ answered reply.Fine c.write_as.result = sym (ap (answered reply.Fine) (c.branch-write_as.ensures ∙ ap result_from_control_flow c.in_ok-write_as.is)) in
    rw answer (does_of V g.S.EawStore.tells g.S.EawStore.opens g.K.KeyIndex.index c.args.table c.args.tid (OnTable (Del name c.args.key)) c.args.self.now inside c.self.view_is (pages_of (V new.store) new) (answered reply.Fine c.write_as.result)
    (removed g.S.EawStore.tells (g.S.EawStore.opens (V inside.store).shape) g.K.KeyIndex.index laws c.args.table c.args.tid c.args.key name (pages_of (V inside.store) inside) alive c.self.invariant.0 (λ told. calls told alive) (pages_of (V mid.store) mid) looks (pages_of (V new.store) new) c.in-Some.place.slot
    (λ told. (finds told).0) (λ told. ap is_some (finds told).1 ∙ c.if-is_none.ensures)
    (λ told. record { long = g.met.S.EawStore.long mid.store told; outlines = λ t. g.met.S.EawStore.outlines mid.store t told mid_alive; placed = λ t. g.met.S.EawStore.placed mid.store t })
    (c.write_as.ensures.ordered mid_alive) (c.write_as.ensures.reads_back mid_alive) (c.write_as.ensures.whole mid_alive) c.write_as.result does
    (λ f e ne. ap (λ (p : Shown g.row.S.Denot). pages_of (V p.store) p) (err_same c.write_as.result c.write_as.ensures.refused f e ne))).0)

pub returns-in_err-write_as-clause-does : goal.returns-in_err-write_as-clause-does
returns-in_err-write_as-clause-does g c = λ name its.
    let K = g.met.K.KeyIndex in
    let V = g.S.EawStore.view in
    let laws : Laws g.K.KeyIndex.index = record { rises = K.rises; given = K.given; counts = K.counts; rests = K.rests; extends = K.extends } in
    let inside = c.self.inside.pages in
    let root = c.of_table-root.result in
    let calls = called_inside g.S.EawStore.tells V c.args.self.now c.self.inside.pages c.self.view_is c.args.table name its in
    let roots = rooted_as g.S.EawStore.tells (pages_of (V c.self.inside.pages.store) c.self.inside.pages) c.self.inside.roots.at c.args.table c.requires.table c.self.invariant.1.1 name calls c.of_table-root.result c.of_table-root.ensures in
    let mid = c.seek.new.pages in
    let new = c.write_as.new.pages in
    let alive = c.in_ok-sought.ensures.cause in
    let looks = c.in_ok-sought.ensures.looks in
    let mid_alive = (looks.same refl).still.dead ∙ alive in
    let finds = λ (told : IsTrue g.S.EawStore.tells). rw c.in-Some.is at (c.in_ok-sought.ensures.finds told name (calls told c.in_ok-sought.ensures.cause)) in
    let does = subst (λ (s : Shape). page.Does g.S.EawStore.tells (g.S.EawStore.opens s) (write_as c.args.tid (64 * (slots_of (V mid.store).shape + c.in-Some.place.slot)) (slot_bytes (Absent c.args.table c.args.key))) (pages_of (V mid.store) mid) (pages_of (V new.store) new) c.write_as.result)
    looks.shape c.write_as.ensures.does in
    let exit = err_from_is_err_and c.from_residual-in_err-write_as.result c.from_residual-in_err-write_as.ensures.1 in
    let answer : told c.from_residual-in_err-write_as.result ≡ answered reply.Fine c.write_as.result = ap told exit.1 ∙ ap (λ (f : TableFault). let r : Result Reply TableFault = Err f in r) exit.2 ∙ sym (ap (answered reply.Fine) (c.branch-write_as.ensures ∙ ap result_from_control_flow c.in_err-write_as.is)) in
    rw answer (does_of V g.S.EawStore.tells g.S.EawStore.opens g.K.KeyIndex.index c.args.table c.args.tid (OnTable (Del name c.args.key)) c.args.self.now inside c.self.view_is (pages_of (V new.store) new) (answered reply.Fine c.write_as.result)
    (removed g.S.EawStore.tells (g.S.EawStore.opens (V inside.store).shape) g.K.KeyIndex.index laws c.args.table c.args.tid c.args.key name (pages_of (V inside.store) inside) alive c.self.invariant.0 (λ told. calls told alive) (pages_of (V mid.store) mid) looks (pages_of (V new.store) new) c.in-Some.place.slot
    (λ told. (finds told).0) (λ told. ap is_some (finds told).1 ∙ c.if-is_none.ensures)
    (λ told. record { long = g.met.S.EawStore.long mid.store told; outlines = λ t. g.met.S.EawStore.outlines mid.store t told mid_alive; placed = λ t. g.met.S.EawStore.placed mid.store t })
    (c.write_as.ensures.ordered mid_alive) (c.write_as.ensures.reads_back mid_alive) (c.write_as.ensures.whole mid_alive) c.write_as.result does
    (λ f e ne. ap (λ (p : Shown g.row.S.Denot). pages_of (V p.store) p) (err_same c.write_as.result c.write_as.ensures.refused f e ne))).0)

pub seek-requires-clause-named : goal.seek-requires-clause-named
seek-requires-clause-named g c =
    let V = g.S.EawStore.view in
    let name = name_at (V c.args.self.now.store).state.bytes c.args.table in
    let root = c.of_table-root.result in
    let calls = called_inside g.S.EawStore.tells V c.args.self.now c.self.inside.pages c.self.view_is c.args.table name (λ told alive. called_below (V c.args.self.now.store).state.bytes c.args.table (c.requires.there told alive)) in
    let roots = rooted_as g.S.EawStore.tells (pages_of (V c.self.inside.pages.store) c.self.inside.pages) c.self.inside.roots.at c.args.table c.requires.table c.self.invariant.1.1 name calls c.of_table-root.result c.of_table-root.ensures in
    roots

pub seek-requires-clause-root : goal.seek-requires-clause-root
seek-requires-clause-root g c = inside_as g.S.EawStore.tells (pages_of (g.S.EawStore.view c.self.inside.pages.store) c.self.inside.pages) c.self.inside.roots.at c.args.table c.requires.table c.self.invariant.1.1 c.of_table-root.result c.of_table-root.ensures

pub returns-in_default-clause-erases : goal.returns-in_default-clause-erases
returns-in_default-clause-erases g c =
    let V = g.S.EawStore.view in
    let name = name_at (V c.args.self.now.store).state.bytes c.args.table in
    let calls = called_inside g.S.EawStore.tells V c.args.self.now c.self.inside.pages c.self.view_is c.args.table name (λ told alive. called_below (V c.args.self.now.store).state.bytes c.args.table (c.requires.there told alive)) in
    let roots = rooted_as g.S.EawStore.tells (pages_of (V c.self.inside.pages.store) c.self.inside.pages) c.self.inside.roots.at c.args.table c.requires.table c.self.invariant.1.1 name calls c.of_table-root.result c.of_table-root.ensures in
    erases V g.S.EawStore.calls g.S.EawStore.tells (λ root. g.K.KeyIndex.access.finding root c.args.key) c.args.table c.args.key c.args.tid c.of_table-root.result c.args.self.now c.self.inside.pages c.self.view_is roots
    (V c.seek.new.pages.store).moment c.new-hearings.result.said c.seek.new.hearings.said c.new-hearings.ensures (let r : Result (Option Place) PageFault = Ok None in r) (rw c.in_default.is at c.in_ok-sought.ensures.seeks) (Ok false) refl

pub returns-in_err-sought-clause-erases : goal.returns-in_err-sought-clause-erases
returns-in_err-sought-clause-erases g c =
    let exit = err_from_is_err_and c.from_residual.result c.from_residual.ensures.1 in
    rw (exit.1) (
    let V = g.S.EawStore.view in
    let name = name_at (V c.args.self.now.store).state.bytes c.args.table in
    let calls = called_inside g.S.EawStore.tells V c.args.self.now c.self.inside.pages c.self.view_is c.args.table name (λ told alive. called_below (V c.args.self.now.store).state.bytes c.args.table (c.requires.there told alive)) in
    let roots = rooted_as g.S.EawStore.tells (pages_of (V c.self.inside.pages.store) c.self.inside.pages) c.self.inside.roots.at c.args.table c.requires.table c.self.invariant.1.1 name calls c.of_table-root.result c.of_table-root.ensures in
    erases V g.S.EawStore.calls g.S.EawStore.tells (λ root. g.K.KeyIndex.access.finding root c.args.key) c.args.table c.args.key c.args.tid c.of_table-root.result c.args.self.now c.self.inside.pages c.self.view_is roots
    (V c.seek.new.pages.store).moment c.new-hearings.result.said c.seek.new.hearings.said c.new-hearings.ensures (let r : Result (Option Place) PageFault = Err c.in_err-sought.field-0.0 in r) c.in_err-sought.ensures.seeks (Err exit.0) (ap (λ (e : TableFault). let r : Result Bool TableFault = Err e in r) exit.2))

pub returns-then-is_none-clause-erases : goal.returns-then-is_none-clause-erases
returns-then-is_none-clause-erases g c =
    let V = g.S.EawStore.view in
    let name = name_at (V c.args.self.now.store).state.bytes c.args.table in
    let calls = called_inside g.S.EawStore.tells V c.args.self.now c.self.inside.pages c.self.view_is c.args.table name (λ told alive. called_below (V c.args.self.now.store).state.bytes c.args.table (c.requires.there told alive)) in
    let roots = rooted_as g.S.EawStore.tells (pages_of (V c.self.inside.pages.store) c.self.inside.pages) c.self.inside.roots.at c.args.table c.requires.table c.self.invariant.1.1 name calls c.of_table-root.result c.of_table-root.ensures in
    erases V g.S.EawStore.calls g.S.EawStore.tells (λ root. g.K.KeyIndex.access.finding root c.args.key) c.args.table c.args.key c.args.tid c.of_table-root.result c.args.self.now c.self.inside.pages c.self.view_is roots
    (V c.seek.new.pages.store).moment c.new-hearings.result.said c.seek.new.hearings.said c.new-hearings.ensures (let r : Result (Option Place) PageFault = Ok (Some c.in-Some.place) in r) (rw c.in-Some.is at c.in_ok-sought.ensures.seeks) (Ok false)
    (erased_if c.in-Some.place.value (none_is c.in-Some.place.value c.if-is_none.ensures))

pub returns-clause-erases : goal.returns-clause-erases
returns-clause-erases g c =
    let V = g.S.EawStore.view in
    let mid = c.seek.new.pages in
    let new = c.write_as.new.pages in
    let name = name_at (V c.args.self.now.store).state.bytes c.args.table in
    let calls = called_inside g.S.EawStore.tells V c.args.self.now c.self.inside.pages c.self.view_is c.args.table name (λ told alive. called_below (V c.args.self.now.store).state.bytes c.args.table (c.requires.there told alive)) in
    let roots = rooted_as g.S.EawStore.tells (pages_of (V c.self.inside.pages.store) c.self.inside.pages) c.self.inside.roots.at c.args.table c.requires.table c.self.invariant.1.1 name calls c.of_table-root.result c.of_table-root.ensures in
    let written : (let r : Result Bool TableFault = Ok true in r) ≡ erased_as c.write_as.result = sym (ap erased_as (c.branch-write_as.ensures ∙ ap result_from_control_flow c.in_ok-write_as.is)) in
    erases V g.S.EawStore.calls g.S.EawStore.tells (λ root. g.K.KeyIndex.access.finding root c.args.key) c.args.table c.args.key c.args.tid c.of_table-root.result c.args.self.now c.self.inside.pages c.self.view_is roots
    (V c.seek.new.pages.store).moment c.new-hearings.result.said c.seek.new.hearings.said c.new-hearings.ensures (let r : Result (Option Place) PageFault = Ok (Some c.in-Some.place) in r) (rw c.in-Some.is at c.in_ok-sought.ensures.seeks) (Ok true)
    (is_erased g.S.EawStore.tells (g.S.EawStore.opens (V mid.store).shape) (write_as c.args.tid (64 * (slots_of (V mid.store).shape + c.in-Some.place.slot)) (slot_bytes (Absent c.args.table c.args.key))) (pages_of (V mid.store) mid) (pages_of (V new.store) new) c.write_as.result
    c.write_as.ensures.does c.in-Some.place.value c.if-is_none.ensures (Ok true) written)

pub returns-in_err-write_as-clause-erases : goal.returns-in_err-write_as-clause-erases
returns-in_err-write_as-clause-erases g c =
    let V = g.S.EawStore.view in
    let mid = c.seek.new.pages in
    let new = c.write_as.new.pages in
    let name = name_at (V c.args.self.now.store).state.bytes c.args.table in
    let calls = called_inside g.S.EawStore.tells V c.args.self.now c.self.inside.pages c.self.view_is c.args.table name (λ told alive. called_below (V c.args.self.now.store).state.bytes c.args.table (c.requires.there told alive)) in
    let roots = rooted_as g.S.EawStore.tells (pages_of (V c.self.inside.pages.store) c.self.inside.pages) c.self.inside.roots.at c.args.table c.requires.table c.self.invariant.1.1 name calls c.of_table-root.result c.of_table-root.ensures in
    let exit = err_from_is_err_and c.from_residual-in_err-write_as.result c.from_residual-in_err-write_as.ensures.1 in
    let written : c.from_residual-in_err-write_as.result ≡ erased_as c.write_as.result = exit.1 ∙ ap (λ (f : TableFault). let r : Result Bool TableFault = Err f in r) exit.2 ∙ sym (ap erased_as (c.branch-write_as.ensures ∙ ap result_from_control_flow c.in_err-write_as.is)) in
    erases V g.S.EawStore.calls g.S.EawStore.tells (λ root. g.K.KeyIndex.access.finding root c.args.key) c.args.table c.args.key c.args.tid c.of_table-root.result c.args.self.now c.self.inside.pages c.self.view_is roots
    (V c.seek.new.pages.store).moment c.new-hearings.result.said c.seek.new.hearings.said c.new-hearings.ensures (let r : Result (Option Place) PageFault = Ok (Some c.in-Some.place) in r) (rw c.in-Some.is at c.in_ok-sought.ensures.seeks) c.from_residual-in_err-write_as.result
    (is_erased g.S.EawStore.tells (g.S.EawStore.opens (V mid.store).shape) (write_as c.args.tid (64 * (slots_of (V mid.store).shape + c.in-Some.place.slot)) (slot_bytes (Absent c.args.table c.args.key))) (pages_of (V mid.store) mid) (pages_of (V new.store) new) c.write_as.result
    c.write_as.ensures.does c.in-Some.place.value c.if-is_none.ensures c.from_residual-in_err-write_as.result written)
