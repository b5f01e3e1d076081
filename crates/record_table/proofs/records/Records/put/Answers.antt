use Rattle.std.proofs.Common.{IsTrue, ℕ, ◌+◌, ◌*◌, ◌<◌, false, Result, Ok, Err, refl, sym, ◌∙◌, ap, subst, arith}
use Rattle.std.specs.Prelude.{Option}
use Rattle.array_shape.specs.declared.shape.Shape.{Shape}
use Rattle.array_shape.specs.Places.{page_count}
use Rattle.eaw_face.specs.State.{State}
use Rattle.record_slots.specs.Slots.{slot_bytes}
use Rattle.record_slots.specs.declared.slot.Slot.TheVariants.{Absent, Present}
use Rattle.record_slots.proofs.SlotLemmas.{slot_said-slot_bytes}
use Rattle.page_store.specs.Command.{write_as}
use Rattle.page_store.specs.Does as page
use Rattle.page_store.specs.Index.{IsTable, slots_of}
use Rattle.page_store.specs.Inserts.{Inserts}
use Rattle.page_store.specs.Shown.{Shown, pages_of}
use Rattle.page_store.specs.declared.index_fault.IndexFault.{IndexFault}
use Rattle.page_store.specs.declared.leaf_page.Sought.{Sought}
use Rattle.history.specs.declared.call.Call.TheVariants.{Table as OnTable}
use Rattle.history.specs.declared.call.TableCall.TheVariants.{Put}
use Rattle.record_table.proofs.Doing.{look_refused}
use Rattle.record_table.proofs.Ending.{does_of, err_same}
use Rattle.record_table.proofs.Looking.{looks_as}
use Rattle.record_table.proofs.Putting.{told_is_answered, put_known, put_new, put_refused}
use Rattle.record_table.specs.Names.{name_at}
use Rattle.record_table.proofs.Rooted.{rooted_as, inside_as, called_inside}
use Rattle.record_table.proofs.Sharing.{Laws, called_below, found_in}
use Rattle.record_table.proofs.KeptNames.{kept}
use Rattle.record_table.specs.Blames.{BlamesOne}
use Rattle.record_table.specs.Faults.{as_table, inserted_as, told_as}
use Rattle.record_table.specs.declared.fault.TableFault.{TableFault}
use Rattle.record_table.proofs.Blaming.{found_blames, inserted_blames, done_blames}
use Rattle.std.proofs.lemmas.Result.{err_from_is_err_and}
use Rattle.record_table.proofs.records.Records.put.Goals as goal

pub insert-requires-clause-closed : goal.insert-requires-clause-closed
insert-requires-clause-closed g c = λ living.
    ap (λ (f : ℕ → Option ℕ). f c.args.tid) c.in_ok-sought.ensures.looks.tops ∙ (c.self.invariant.0 c.in_ok-sought.ensures.cause).closed c.args.tid

pub invariant_of-self-in-Some : goal.invariant_of-self-in-Some
invariant_of-self-in-Some g c =
    let K = g.met.K.KeyIndex in
    let V = g.S.EawStore.view in
    let T = g.S.EawStore.tells in
    let E = g.S.EawStore.opens in
    let I = g.K.KeyIndex.index in
    let laws : Laws g.K.KeyIndex.index = record { rises = K.rises; given = K.given; counts = K.counts; rests = K.rests; extends = K.extends } in
    let inside = c.self.inside.pages in
    let name = name_at (V c.args.self.now.store).state.bytes c.args.table in
    let root = c.of_table-root.result in
    let calls = called_inside g.S.EawStore.tells V c.args.self.now c.self.inside.pages c.self.view_is c.args.table name (λ told alive. called_below (V c.args.self.now.store).state.bytes c.args.table (c.requires.there told alive)) in
    let roots = rooted_as g.S.EawStore.tells (pages_of (V c.self.inside.pages.store) c.self.inside.pages) c.self.inside.roots.at c.args.table c.requires.table c.self.invariant.1.1 name calls c.of_table-root.result c.of_table-root.ensures in
    let mid = c.find_place.new.pages in
    let v0 = pages_of (V inside.store) inside in
    let v1 = pages_of (V mid.store) mid in
    let t = c.args.tid in
    let key = c.args.key in
    let new = c.write_as.new.pages in
    let v2 = pages_of (V new.store) new in
    let alive = c.in_ok-sought.ensures.cause in
    let there = λ (told : IsTrue g.S.EawStore.tells). roots told alive in
    let looks = looks_as T (E v0.store.shape) t false v0 v1 c.in_ok-sought.ensures.looks in
    let mid_alive = (looks.same refl).still.dead ∙ alive in
    let does = subst (λ (s : Shape). page.Does g.S.EawStore.tells (g.S.EawStore.opens s) (write_as c.args.tid (64 * (slots_of (V mid.store).shape + c.in-Some.slot)) (slot_bytes (Present c.args.table c.args.key c.args.value))) (pages_of (V mid.store) mid) (pages_of (V new.store) new) c.write_as.result)
    looks.shape c.write_as.ensures.does in
    kept (put_known T (E v0.store.shape) I laws c.args.table root t key name c.args.value v0 alive c.self.invariant.0 (λ told. calls told alive) there v1 looks v2 c.in-Some.slot (λ told. found_in g.K.KeyIndex.index laws (V inside.store).state.bytes c.args.table root c.args.key name ((c.self.invariant.0 alive).tied told).sound (calls told alive) (there told) ∙ sym (c.in_ok-sought.ensures.found told) ∙ sym c.slot_of.ensures ∙ c.in-Some.is)
    (λ told. record { long = g.met.S.EawStore.long mid.store told; outlines = λ t. g.met.S.EawStore.outlines mid.store t told mid_alive; placed = λ t. g.met.S.EawStore.placed mid.store t })
    (c.write_as.ensures.ordered mid_alive) (c.write_as.ensures.reads_back mid_alive) (c.write_as.ensures.whole mid_alive) c.write_as.result does
    (λ f e ne. ap (λ (p : Shown g.row.S.Denot). pages_of (V p.store) p) (err_same c.write_as.result c.write_as.ensures.refused f e ne))) c.self.invariant.1

pub returns-in-Some-clause-does : goal.returns-in-Some-clause-does
returns-in-Some-clause-does g c = λ name its.
    let K = g.met.K.KeyIndex in
    let V = g.S.EawStore.view in
    let T = g.S.EawStore.tells in
    let E = g.S.EawStore.opens in
    let I = g.K.KeyIndex.index in
    let laws : Laws g.K.KeyIndex.index = record { rises = K.rises; given = K.given; counts = K.counts; rests = K.rests; extends = K.extends } in
    let inside = c.self.inside.pages in
    let root = c.of_table-root.result in
    let calls = called_inside g.S.EawStore.tells V c.args.self.now c.self.inside.pages c.self.view_is c.args.table name its in
    let roots = rooted_as g.S.EawStore.tells (pages_of (V c.self.inside.pages.store) c.self.inside.pages) c.self.inside.roots.at c.args.table c.requires.table c.self.invariant.1.1 name calls c.of_table-root.result c.of_table-root.ensures in
    let mid = c.find_place.new.pages in
    let v0 = pages_of (V inside.store) inside in
    let v1 = pages_of (V mid.store) mid in
    let t = c.args.tid in
    let key = c.args.key in
    let new = c.write_as.new.pages in
    let v2 = pages_of (V new.store) new in
    let alive = c.in_ok-sought.ensures.cause in
    let there = λ (told : IsTrue g.S.EawStore.tells). roots told alive in
    let looks = looks_as T (E v0.store.shape) t false v0 v1 c.in_ok-sought.ensures.looks in
    let mid_alive = (looks.same refl).still.dead ∙ alive in
    let does = subst (λ (s : Shape). page.Does g.S.EawStore.tells (g.S.EawStore.opens s) (write_as c.args.tid (64 * (slots_of (V mid.store).shape + c.in-Some.slot)) (slot_bytes (Present c.args.table c.args.key c.args.value))) (pages_of (V mid.store) mid) (pages_of (V new.store) new) c.write_as.result)
    looks.shape c.write_as.ensures.does in
    rw (c.told.ensures, told_is_answered) (does_of V T E I c.args.table t (OnTable (Put name key c.args.value)) c.args.self.now inside c.self.view_is v2 _
    (put_known T (E v0.store.shape) I laws c.args.table root t key name c.args.value v0 alive c.self.invariant.0 (λ told. calls told alive) there v1 looks v2 c.in-Some.slot (λ told. found_in g.K.KeyIndex.index laws (V inside.store).state.bytes c.args.table root c.args.key name ((c.self.invariant.0 alive).tied told).sound (calls told alive) (there told) ∙ sym (c.in_ok-sought.ensures.found told) ∙ sym c.slot_of.ensures ∙ c.in-Some.is)
    (λ told. record { long = g.met.S.EawStore.long mid.store told; outlines = λ t. g.met.S.EawStore.outlines mid.store t told mid_alive; placed = λ t. g.met.S.EawStore.placed mid.store t })
    (c.write_as.ensures.ordered mid_alive) (c.write_as.ensures.reads_back mid_alive) (c.write_as.ensures.whole mid_alive) c.write_as.result does
    (λ f e ne. ap (λ (p : Shown g.row.S.Denot). pages_of (V p.store) p) (err_same c.write_as.result c.write_as.ensures.refused f e ne))).0)

pub invariant_of-self-2 : goal.invariant_of-self-2
invariant_of-self-2 g c =
    let K = g.met.K.KeyIndex in
    let V = g.S.EawStore.view in
    let T = g.S.EawStore.tells in
    let E = g.S.EawStore.opens in
    let I = g.K.KeyIndex.index in
    let laws : Laws g.K.KeyIndex.index = record { rises = K.rises; given = K.given; counts = K.counts; rests = K.rests; extends = K.extends } in
    let inside = c.self.inside.pages in
    let name = name_at (V c.args.self.now.store).state.bytes c.args.table in
    let root = c.of_table-root.result in
    let calls = called_inside g.S.EawStore.tells V c.args.self.now c.self.inside.pages c.self.view_is c.args.table name (λ told alive. called_below (V c.args.self.now.store).state.bytes c.args.table (c.requires.there told alive)) in
    let roots = rooted_as g.S.EawStore.tells (pages_of (V c.self.inside.pages.store) c.self.inside.pages) c.self.inside.roots.at c.args.table c.requires.table c.self.invariant.1.1 name calls c.of_table-root.result c.of_table-root.ensures in
    let mid = c.find_place.new.pages in
    let v0 = pages_of (V inside.store) inside in
    let v1 = pages_of (V mid.store) mid in
    let t = c.args.tid in
    let key = c.args.key in
    let far = c.insert.new.pages in
    let v2 = pages_of (V far.store) far in
    let new = c.write_as-2.new.pages in
    let v3 = pages_of (V new.store) new in
    let alive = c.in_ok-sought.ensures.cause in
    let there = λ (told : IsTrue g.S.EawStore.tells). roots told alive in
    let looks = looks_as T (E v0.store.shape) t false v0 v1 c.in_ok-sought.ensures.looks in
    let mid_alive = (looks.same refl).still.dead ∙ alive in
    let inserts = subst (λ (s : Shape). (let r : Result ℕ IndexFault = Ok c.in_ok-slot.slot in Inserts g.S.EawStore.tells (g.S.EawStore.opens s) g.K.KeyIndex.index c.args.tid c.of_table-root.result c.args.table c.args.key (pages_of (V mid.store) mid) (pages_of (V far.store) far) r)) looks.shape c.in_ok-slot.ensures.inserts in
    let far_alive = (inserts.kept refl).dead ∙ mid_alive in
    let does = subst (λ (s : Shape). page.Does g.S.EawStore.tells (g.S.EawStore.opens s) (write_as c.args.tid (64 * (slots_of (V far.store).shape + c.in_ok-slot.slot)) (slot_bytes (Present c.args.table c.args.key c.args.value))) (pages_of (V far.store) far) (pages_of (V new.store) new) c.write_as-2.result)
    (inserts.shape ∙ looks.shape) c.write_as-2.ensures.does in
    kept (put_new T (E v0.store.shape) I laws c.args.table root t key name c.args.value v0 alive c.self.invariant.0 (λ told. calls told alive) there v1 looks (λ told. sym (c.in_ok-sought.ensures.found told) ∙ sym c.slot_of.ensures ∙ c.in_default.is) v2
    (slot_said-slot_bytes (Absent c.args.table c.args.key) (omega (arith, c.requires.table))) c.in_ok-slot.slot inserts v3 (λ told. record { long = g.met.S.EawStore.long far.store told; outlines = λ t. g.met.S.EawStore.outlines far.store t told far_alive; placed = λ t. g.met.S.EawStore.placed far.store t })
    (c.write_as-2.ensures.ordered far_alive) (c.write_as-2.ensures.reads_back far_alive) (c.write_as-2.ensures.whole far_alive) c.write_as-2.result does
    (λ f e ne. ap (λ (p : Shown g.row.S.Denot). pages_of (V p.store) p) (err_same c.write_as-2.result c.write_as-2.ensures.refused f e ne))) c.self.invariant.1

pub returns-clause-does : goal.returns-clause-does
returns-clause-does g c = λ name its.
    let K = g.met.K.KeyIndex in
    let V = g.S.EawStore.view in
    let T = g.S.EawStore.tells in
    let E = g.S.EawStore.opens in
    let I = g.K.KeyIndex.index in
    let laws : Laws g.K.KeyIndex.index = record { rises = K.rises; given = K.given; counts = K.counts; rests = K.rests; extends = K.extends } in
    let inside = c.self.inside.pages in
    let root = c.of_table-root.result in
    let calls = called_inside g.S.EawStore.tells V c.args.self.now c.self.inside.pages c.self.view_is c.args.table name its in
    let roots = rooted_as g.S.EawStore.tells (pages_of (V c.self.inside.pages.store) c.self.inside.pages) c.self.inside.roots.at c.args.table c.requires.table c.self.invariant.1.1 name calls c.of_table-root.result c.of_table-root.ensures in
    let mid = c.find_place.new.pages in
    let v0 = pages_of (V inside.store) inside in
    let v1 = pages_of (V mid.store) mid in
    let t = c.args.tid in
    let key = c.args.key in
    let far = c.insert.new.pages in
    let v2 = pages_of (V far.store) far in
    let new = c.write_as-2.new.pages in
    let v3 = pages_of (V new.store) new in
    let alive = c.in_ok-sought.ensures.cause in
    let there = λ (told : IsTrue g.S.EawStore.tells). roots told alive in
    let looks = looks_as T (E v0.store.shape) t false v0 v1 c.in_ok-sought.ensures.looks in
    let mid_alive = (looks.same refl).still.dead ∙ alive in
    let inserts = subst (λ (s : Shape). (let r : Result ℕ IndexFault = Ok c.in_ok-slot.slot in Inserts g.S.EawStore.tells (g.S.EawStore.opens s) g.K.KeyIndex.index c.args.tid c.of_table-root.result c.args.table c.args.key (pages_of (V mid.store) mid) (pages_of (V far.store) far) r)) looks.shape c.in_ok-slot.ensures.inserts in
    let far_alive = (inserts.kept refl).dead ∙ mid_alive in
    let does = subst (λ (s : Shape). page.Does g.S.EawStore.tells (g.S.EawStore.opens s) (write_as c.args.tid (64 * (slots_of (V far.store).shape + c.in_ok-slot.slot)) (slot_bytes (Present c.args.table c.args.key c.args.value))) (pages_of (V far.store) far) (pages_of (V new.store) new) c.write_as-2.result)
    (inserts.shape ∙ looks.shape) c.write_as-2.ensures.does in
    rw (c.told-2.ensures, told_is_answered) (does_of V T E I c.args.table t (OnTable (Put name key c.args.value)) c.args.self.now inside c.self.view_is v3 _
    (put_new T (E v0.store.shape) I laws c.args.table root t key name c.args.value v0 alive c.self.invariant.0 (λ told. calls told alive) there v1 looks (λ told. sym (c.in_ok-sought.ensures.found told) ∙ sym c.slot_of.ensures ∙ c.in_default.is) v2
    (slot_said-slot_bytes (Absent c.args.table c.args.key) (omega (arith, c.requires.table))) c.in_ok-slot.slot inserts v3 (λ told. record { long = g.met.S.EawStore.long far.store told; outlines = λ t. g.met.S.EawStore.outlines far.store t told far_alive; placed = λ t. g.met.S.EawStore.placed far.store t })
    (c.write_as-2.ensures.ordered far_alive) (c.write_as-2.ensures.reads_back far_alive) (c.write_as-2.ensures.whole far_alive) c.write_as-2.result does
    (λ f e ne. ap (λ (p : Shown g.row.S.Denot). pages_of (V p.store) p) (err_same c.write_as-2.result c.write_as-2.ensures.refused f e ne))).0)

pub invariant_of-self-in_err-slot : goal.invariant_of-self-in_err-slot
invariant_of-self-in_err-slot g c =
    let K = g.met.K.KeyIndex in
    let V = g.S.EawStore.view in
    let T = g.S.EawStore.tells in
    let E = g.S.EawStore.opens in
    let I = g.K.KeyIndex.index in
    let laws : Laws g.K.KeyIndex.index = record { rises = K.rises; given = K.given; counts = K.counts; rests = K.rests; extends = K.extends } in
    let inside = c.self.inside.pages in
    let name = name_at (V c.args.self.now.store).state.bytes c.args.table in
    let root = c.of_table-root.result in
    let calls = called_inside g.S.EawStore.tells V c.args.self.now c.self.inside.pages c.self.view_is c.args.table name (λ told alive. called_below (V c.args.self.now.store).state.bytes c.args.table (c.requires.there told alive)) in
    let roots = rooted_as g.S.EawStore.tells (pages_of (V c.self.inside.pages.store) c.self.inside.pages) c.self.inside.roots.at c.args.table c.requires.table c.self.invariant.1.1 name calls c.of_table-root.result c.of_table-root.ensures in
    let mid = c.find_place.new.pages in
    let v0 = pages_of (V inside.store) inside in
    let v1 = pages_of (V mid.store) mid in
    let t = c.args.tid in
    let key = c.args.key in
    let far = c.insert.new.pages in
    let v2 = pages_of (V far.store) far in
    let alive = c.in_ok-sought.ensures.cause in
    let there = λ (told : IsTrue g.S.EawStore.tells). roots told alive in
    let looks = looks_as T (E v0.store.shape) t false v0 v1 c.in_ok-sought.ensures.looks in
    let inserts = subst (λ (s : Shape). (let r : Result ℕ IndexFault = Err c.in_err-slot.field-0.0 in Inserts g.S.EawStore.tells (g.S.EawStore.opens s) g.K.KeyIndex.index c.args.tid c.of_table-root.result c.args.table c.args.key (pages_of (V mid.store) mid) (pages_of (V far.store) far) r)) looks.shape c.in_err-slot.ensures.inserts in
    kept (put_refused T (E v0.store.shape) I laws c.args.table root t key name c.args.value v0 alive c.self.invariant.0 (λ told. calls told alive) there v1 looks (λ told. sym (c.in_ok-sought.ensures.found told) ∙ sym c.slot_of.ensures ∙ c.in_default.is) v2
    (slot_said-slot_bytes (Absent c.args.table c.args.key) (omega (arith, c.requires.table))) c.in_err-slot.field-0.0 inserts) c.self.invariant.1

pub returns-in_err-slot-clause-does : goal.returns-in_err-slot-clause-does
returns-in_err-slot-clause-does g c =
    let exit = err_from_is_err_and c.from_residual-in_err-slot.result c.from_residual-in_err-slot.ensures.1 in
    rw (exit.1) (λ name its.
    let K = g.met.K.KeyIndex in
    let V = g.S.EawStore.view in
    let T = g.S.EawStore.tells in
    let E = g.S.EawStore.opens in
    let I = g.K.KeyIndex.index in
    let laws : Laws g.K.KeyIndex.index = record { rises = K.rises; given = K.given; counts = K.counts; rests = K.rests; extends = K.extends } in
    let inside = c.self.inside.pages in
    let root = c.of_table-root.result in
    let calls = called_inside g.S.EawStore.tells V c.args.self.now c.self.inside.pages c.self.view_is c.args.table name its in
    let roots = rooted_as g.S.EawStore.tells (pages_of (V c.self.inside.pages.store) c.self.inside.pages) c.self.inside.roots.at c.args.table c.requires.table c.self.invariant.1.1 name calls c.of_table-root.result c.of_table-root.ensures in
    let mid = c.find_place.new.pages in
    let v0 = pages_of (V inside.store) inside in
    let v1 = pages_of (V mid.store) mid in
    let t = c.args.tid in
    let key = c.args.key in
    let far = c.insert.new.pages in
    let v2 = pages_of (V far.store) far in
    let alive = c.in_ok-sought.ensures.cause in
    let there = λ (told : IsTrue g.S.EawStore.tells). roots told alive in
    let looks = looks_as T (E v0.store.shape) t false v0 v1 c.in_ok-sought.ensures.looks in
    let inserts = subst (λ (s : Shape). (let r : Result ℕ IndexFault = Err c.in_err-slot.field-0.0 in Inserts g.S.EawStore.tells (g.S.EawStore.opens s) g.K.KeyIndex.index c.args.tid c.of_table-root.result c.args.table c.args.key (pages_of (V mid.store) mid) (pages_of (V far.store) far) r)) looks.shape c.in_err-slot.ensures.inserts in
    rw exit.2 (does_of V T E I c.args.table t (OnTable (Put name key c.args.value)) c.args.self.now inside c.self.view_is v2 _
    (put_refused T (E v0.store.shape) I laws c.args.table root t key name c.args.value v0 alive c.self.invariant.0 (λ told. calls told alive) there v1 looks (λ told. sym (c.in_ok-sought.ensures.found told) ∙ sym c.slot_of.ensures ∙ c.in_default.is) v2
    (slot_said-slot_bytes (Absent c.args.table c.args.key) (omega (arith, c.requires.table))) c.in_err-slot.field-0.0 inserts).0))

pub invariant_of-self : goal.invariant_of-self
invariant_of-self g c =
    let K = g.met.K.KeyIndex in
    let V = g.S.EawStore.view in
    let T = g.S.EawStore.tells in
    let E = g.S.EawStore.opens in
    let I = g.K.KeyIndex.index in
    let laws : Laws g.K.KeyIndex.index = record { rises = K.rises; given = K.given; counts = K.counts; rests = K.rests; extends = K.extends } in
    let inside = c.self.inside.pages in
    let name = name_at (V c.args.self.now.store).state.bytes c.args.table in
    let root = c.of_table-root.result in
    let calls = called_inside g.S.EawStore.tells V c.args.self.now c.self.inside.pages c.self.view_is c.args.table name (λ told alive. called_below (V c.args.self.now.store).state.bytes c.args.table (c.requires.there told alive)) in
    let roots = rooted_as g.S.EawStore.tells (pages_of (V c.self.inside.pages.store) c.self.inside.pages) c.self.inside.roots.at c.args.table c.requires.table c.self.invariant.1.1 name calls c.of_table-root.result c.of_table-root.ensures in
    let mid = c.find_place.new.pages in
    let v0 = pages_of (V inside.store) inside in
    let v1 = pages_of (V mid.store) mid in
    let t = c.args.tid in
    let key = c.args.key in
    kept (look_refused T (E v0.store.shape) I c.args.table t (OnTable (Put name key c.args.value)) v0 v1 c.self.invariant.0 _ c.in_err-sought.field-0.0 tt c.in_err-sought.ensures.cause (looks_as T (E v0.store.shape) t _ v0 v1 c.in_err-sought.ensures.looks)
    (λ e. ap (λ (p : Shown g.row.S.Denot). pages_of (V p.store) p) (c.in_err-sought.ensures.dead e))) c.self.invariant.1

pub returns-in_err-sought-clause-does : goal.returns-in_err-sought-clause-does
returns-in_err-sought-clause-does g c =
    let exit = err_from_is_err_and c.from_residual.result c.from_residual.ensures.1 in
    rw (exit.1) (λ name its.
    let K = g.met.K.KeyIndex in
    let V = g.S.EawStore.view in
    let T = g.S.EawStore.tells in
    let E = g.S.EawStore.opens in
    let I = g.K.KeyIndex.index in
    let laws : Laws g.K.KeyIndex.index = record { rises = K.rises; given = K.given; counts = K.counts; rests = K.rests; extends = K.extends } in
    let inside = c.self.inside.pages in
    let root = c.of_table-root.result in
    let calls = called_inside g.S.EawStore.tells V c.args.self.now c.self.inside.pages c.self.view_is c.args.table name its in
    let roots = rooted_as g.S.EawStore.tells (pages_of (V c.self.inside.pages.store) c.self.inside.pages) c.self.inside.roots.at c.args.table c.requires.table c.self.invariant.1.1 name calls c.of_table-root.result c.of_table-root.ensures in
    let mid = c.find_place.new.pages in
    let v0 = pages_of (V inside.store) inside in
    let v1 = pages_of (V mid.store) mid in
    let t = c.args.tid in
    let key = c.args.key in
    rw exit.2 (does_of V T E I c.args.table t (OnTable (Put name key c.args.value)) c.args.self.now inside c.self.view_is v1 _
    (look_refused T (E v0.store.shape) I c.args.table t (OnTable (Put name key c.args.value)) v0 v1 c.self.invariant.0 _ c.in_err-sought.field-0.0 tt c.in_err-sought.ensures.cause (looks_as T (E v0.store.shape) t _ v0 v1 c.in_err-sought.ensures.looks)
    (λ e. ap (λ (p : Shown g.row.S.Denot). pages_of (V p.store) p) (c.in_err-sought.ensures.dead e))).0))

pub find_place-requires-clause-named : goal.find_place-requires-clause-named
find_place-requires-clause-named g c =
    let V = g.S.EawStore.view in
    let name = name_at (V c.args.self.now.store).state.bytes c.args.table in
    let root = c.of_table-root.result in
    let calls = called_inside g.S.EawStore.tells V c.args.self.now c.self.inside.pages c.self.view_is c.args.table name (λ told alive. called_below (V c.args.self.now.store).state.bytes c.args.table (c.requires.there told alive)) in
    let roots = rooted_as g.S.EawStore.tells (pages_of (V c.self.inside.pages.store) c.self.inside.pages) c.self.inside.roots.at c.args.table c.requires.table c.self.invariant.1.1 name calls c.of_table-root.result c.of_table-root.ensures in
    roots

pub find_place-requires-clause-root : goal.find_place-requires-clause-root
find_place-requires-clause-root g c =
    inside_as g.S.EawStore.tells (pages_of (g.S.EawStore.view c.self.inside.pages.store) c.self.inside.pages) c.self.inside.roots.at c.args.table c.requires.table c.self.invariant.1.1 c.of_table-root.result c.of_table-root.ensures

pub insert-requires-clause-named : goal.insert-requires-clause-named
insert-requires-clause-named g c = λ told living.
    let V = g.S.EawStore.view in
    let name = name_at (V c.args.self.now.store).state.bytes c.args.table in
    let root = c.of_table-root.result in
    let calls = called_inside g.S.EawStore.tells V c.args.self.now c.self.inside.pages c.self.view_is c.args.table name (λ told alive. called_below (V c.args.self.now.store).state.bytes c.args.table (c.requires.there told alive)) in
    let roots = rooted_as g.S.EawStore.tells (pages_of (V c.self.inside.pages.store) c.self.inside.pages) c.self.inside.roots.at c.args.table c.requires.table c.self.invariant.1.1 name calls c.of_table-root.result c.of_table-root.ensures in
    subst (λ (s : State). IsTable s.bytes c.args.table c.of_table-root.result) (sym ((c.in_ok-sought.ensures.looks.still refl).state told)) (roots told c.in_ok-sought.ensures.cause)

pub insert-requires-clause-root : goal.insert-requires-clause-root
insert-requires-clause-root g c =
    subst (λ (s : Shape). c.of_table-root.result < page_count s) (sym c.in_ok-sought.ensures.looks.shape)
    (inside_as g.S.EawStore.tells (pages_of (g.S.EawStore.view c.self.inside.pages.store) c.self.inside.pages) c.self.inside.roots.at c.args.table c.requires.table c.self.invariant.1.1 c.of_table-root.result c.of_table-root.ensures)

pub returns-in_err-sought-clause-blames : goal.returns-in_err-sought-clause-blames
returns-in_err-sought-clause-blames g c =
    let exit = err_from_is_err_and c.from_residual.result c.from_residual.ensures.1 in
    rw (exit.1) (
    let V = g.S.EawStore.view in
    let inside = c.self.inside.pages in
    subst (λ (p : Shown g.row.S.Denot). (let r : Result (Unit {0}) TableFault = Err exit.0 in BlamesOne (V p.store).shape r)) c.self.view_is
    (rw exit.2 (found_blames Sought (Unit {0}) g.S.EawStore.tells (g.S.EawStore.calls inside.store) (g.S.EawStore.calls c.find_place.new.pages.store) (V inside.store) (V c.find_place.new.pages.store) c.in_err-sought.field-0.0 c.in_err-sought.ensures.follows)))

pub returns-in-Some-clause-blames : goal.returns-in-Some-clause-blames
returns-in-Some-clause-blames g c =
    let V = g.S.EawStore.view in
    let mid = c.find_place.new.pages in
    let new = c.write_as.new.pages in
    rw c.told.ensures (done_blames g.S.EawStore.tells (g.S.EawStore.opens (V mid.store).shape) _ (pages_of (V mid.store) mid) (pages_of (V new.store) new) (V c.args.self.now.store).shape c.write_as.result c.write_as.ensures.does)

pub returns-clause-blames : goal.returns-clause-blames
returns-clause-blames g c =
    let V = g.S.EawStore.view in
    let far = c.insert.new.pages in
    let new = c.write_as-2.new.pages in
    rw c.told-2.ensures (done_blames g.S.EawStore.tells (g.S.EawStore.opens (V far.store).shape) _ (pages_of (V far.store) far) (pages_of (V new.store) new) (V c.args.self.now.store).shape c.write_as-2.result c.write_as-2.ensures.does)

pub returns-in_err-slot-clause-blames : goal.returns-in_err-slot-clause-blames
returns-in_err-slot-clause-blames g c =
    let exit = err_from_is_err_and c.from_residual-in_err-slot.result c.from_residual-in_err-slot.ensures.1 in
    rw (exit.1) (
    let V = g.S.EawStore.view in
    let mid = c.find_place.new.pages in
    subst (λ (p : Shown g.row.S.Denot). (let r : Result (Unit {0}) TableFault = Err exit.0 in BlamesOne (V p.store).shape r)) c.self.view_is
    (subst (λ (s : Shape). (let r : Result (Unit {0}) TableFault = Err exit.0 in BlamesOne s r)) c.in_ok-sought.ensures.looks.shape
    (rw exit.2 (inserted_blames ℕ (Unit {0}) (V mid.store).shape _ c.in_err-slot.field-0.0 c.in_err-slot.ensures.works.blames))))
