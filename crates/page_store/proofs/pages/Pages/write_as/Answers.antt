use Rattle.std.proofs.Common.{◌≡◌, ℕ, ◌<◌, Option, false, Result, Ok, Err, length, refl, sym, ◌∙◌, ap, subst, arith}
use Rattle.std.specs.Prelude.{IsTrue, OnOk, OnErr}
use Rattle.std.proofs.lemmas.Result.{IfErr-at_err}
use Rattle.eaw_face.specs.declared.fault.EawFault.TheVariants.{Media}
use Rattle.eaw_face.specs.Command.{log_write, log_edit}
use Rattle.eaw_face.specs.Does.{Does as StoreDoes}
use Rattle.page_store.specs.Command.{write_as}
use Rattle.page_store.specs.Does.{Does}
use Rattle.page_store.specs.Shown.{PagesView, address, counts_in, top_in, outline_of}
use Rattle.page_store.proofs.Shown.{IsTold}
use Rattle.page_store.proofs.Lifting.{lifted, ordered_now}
use Rattle.page_store.proofs.Writing.{in_page_placed, makes_edit, makes_write, edit_there_is, edits_from, seen_of}
use Rattle.mars_base.specs.Costs.{Costs}
use Rattle.page_store.specs.Device.{device, device_cost, write_of}
use Rattle.page_store.proofs.Costing.{costs_told}
use Rattle.page_store.proofs.pages.Pages.write_as.Given as given
use Rattle.page_store.proofs.pages.Pages.write_as.Goals as goal

any_ok : {T E : Type 0} {P : Type 0} (r : Result T E) → P → OnOk r P
any_ok (Ok x) p = p
any_ok (Err e) p = tt

any_err : {T E : Type 0} {P : Type 0} (r : Result T E) → P → OnErr r P
any_err (Ok x) p = tt
any_err (Err e) p = p

pub log_edit-requires-clause-pos : goal.log_edit-requires-clause-pos
log_edit-requires-clause-pos g c live =
    let view = g.S.EawStore.view in
    let store = view c.self.inside.store in
    let marks = c.self.inside.marks.items in
    let t = c.args.tid in
    let bytes = c.args.bytes.now in
    let addr = address c.args.page c.args.at in
    let old : PagesView = record { store = store; counts = counts_in marks; top = top_in marks } in
    let there : c.args.tid < length marks = omega (arith, c.self.invariant.many, rw (← c.self.view_is) at c.requires.tid) in
    let placed = in_page_placed store c.args.page c.args.at (length bytes) c.requires.some (rw (← c.self.view_is) at c.requires.inside) in
    let edits = edits_from store marks t c.from.result c.from.ensures there c.index.result.now c.index.ensures c.floor-floor.result c.floor-floor.ensures c.address-addr.result addr (length bytes) c.address-addr.ensures c.edited_part.result c.edited_part.ensures in
    let told : IsTrue g.S.EawStore.tells → store.is_dead ≡ false → IsTold store = λ tell alive. record {
      long = g.met.S.EawStore.long c.self.inside.store tell;
      outlines = λ u. g.met.S.EawStore.outlines c.self.inside.store u tell alive;
      placed = g.met.S.EawStore.placed c.self.inside.store;
    } in
    (edit_there_is g.S.EawStore.tells old t addr bytes placed c.self.invariant.ordered told c.in-Some.pos (edits ∙ c.in-Some.is)).0

pub log_edit-requires-clause-within : goal.log_edit-requires-clause-within
log_edit-requires-clause-within g c live =
    let view = g.S.EawStore.view in
    let store = view c.self.inside.store in
    let marks = c.self.inside.marks.items in
    let t = c.args.tid in
    let bytes = c.args.bytes.now in
    let addr = address c.args.page c.args.at in
    let old : PagesView = record { store = store; counts = counts_in marks; top = top_in marks } in
    let there : c.args.tid < length marks = omega (arith, c.self.invariant.many, rw (← c.self.view_is) at c.requires.tid) in
    let placed = in_page_placed store c.args.page c.args.at (length bytes) c.requires.some (rw (← c.self.view_is) at c.requires.inside) in
    let edits = edits_from store marks t c.from.result c.from.ensures there c.index.result.now c.index.ensures c.floor-floor.result c.floor-floor.ensures c.address-addr.result addr (length bytes) c.address-addr.ensures c.edited_part.result c.edited_part.ensures in
    let told : IsTrue g.S.EawStore.tells → store.is_dead ≡ false → IsTold store = λ tell alive. record {
      long = g.met.S.EawStore.long c.self.inside.store tell;
      outlines = λ u. g.met.S.EawStore.outlines c.self.inside.store u tell alive;
      placed = g.met.S.EawStore.placed c.self.inside.store;
    } in
    let same = (edit_there_is g.S.EawStore.tells old t addr bytes placed c.self.invariant.ordered told c.in-Some.pos (edits ∙ c.in-Some.is)).1 in
    omega (arith, ap (λ (p : ℕ × ℕ). p.1) same)

edit_does : (g : given.Over) (c : goal.After-told g)
    → (let view = g.S.EawStore.view in
    let marks = c.self.inside.marks.items in
    let old : PagesView = record { store = view c.self.inside.store; counts = counts_in marks; top = top_in marks } in
    let new : PagesView = record { store = view c.log_edit.new.self; counts = counts_in marks; top = top_in marks } in
    Does g.S.EawStore.tells (g.S.EawStore.opens (view c.self.inside.store).shape) (write_as c.args.tid (address c.args.page c.args.at) c.args.bytes.now) old new c.told.result)
edit_does g c =
    let view = g.S.EawStore.view in
    let store = view c.self.inside.store in
    let marks = c.self.inside.marks.items in
    let t = c.args.tid in
    let bytes = c.args.bytes.now in
    let addr = address c.args.page c.args.at in
    let old : PagesView = record { store = store; counts = counts_in marks; top = top_in marks } in
    let there : c.args.tid < length marks = omega (arith, c.self.invariant.many, rw (← c.self.view_is) at c.requires.tid) in
    let placed = in_page_placed store c.args.page c.args.at (length bytes) c.requires.some (rw (← c.self.view_is) at c.requires.inside) in
    let edits = edits_from store marks t c.from.result c.from.ensures there c.index.result.now c.index.ensures c.floor-floor.result c.floor-floor.ensures c.address-addr.result addr (length bytes) c.address-addr.ensures c.edited_part.result c.edited_part.ensures in
    let told : IsTrue g.S.EawStore.tells → store.is_dead ≡ false → IsTold store = λ tell alive. record {
      long = g.met.S.EawStore.long c.self.inside.store tell;
      outlines = λ u. g.met.S.EawStore.outlines c.self.inside.store u tell alive;
      placed = g.met.S.EawStore.placed c.self.inside.store;
    } in
    let new : PagesView = record { store = view c.log_edit.new.self; counts = counts_in marks; top = top_in marks } in
    lifted g.S.EawStore.tells (g.S.EawStore.opens store.shape) (write_as t addr bytes) (log_edit t c.in-Some.pos 0 bytes) old new (makes_edit g.S.EawStore.tells old t addr bytes placed c.self.invariant.ordered told c.in-Some.pos (edits ∙ c.in-Some.is)) c.log_edit.result c.told.result c.told.ensures
    c.log_edit.ensures.does
    (any_ok c.told.result (refl, refl)) (any_err c.told.result (refl, refl))

write_does : (g : given.Over) (c : goal.After-told-in-None g)
    → (let view = g.S.EawStore.view in
    let marks = c.self.inside.marks.items in
    let old : PagesView = record { store = view c.self.inside.store; counts = counts_in marks; top = top_in marks } in
    let new : PagesView = record { store = view c.log_write.new.self; counts = counts_in marks; top = top_in marks } in
    Does g.S.EawStore.tells (g.S.EawStore.opens (view c.self.inside.store).shape) (write_as c.args.tid (address c.args.page c.args.at) c.args.bytes.now) old new c.told-in-None.result)
write_does g c =
    let view = g.S.EawStore.view in
    let store = view c.self.inside.store in
    let marks = c.self.inside.marks.items in
    let t = c.args.tid in
    let bytes = c.args.bytes.now in
    let addr = address c.args.page c.args.at in
    let old : PagesView = record { store = store; counts = counts_in marks; top = top_in marks } in
    let there : c.args.tid < length marks = omega (arith, c.self.invariant.many, rw (← c.self.view_is) at c.requires.tid) in
    let placed = in_page_placed store c.args.page c.args.at (length bytes) c.requires.some (rw (← c.self.view_is) at c.requires.inside) in
    let edits = edits_from store marks t c.from.result c.from.ensures there c.index.result.now c.index.ensures c.floor-floor.result c.floor-floor.ensures c.address-addr.result addr (length bytes) c.address-addr.ensures c.edited_part.result c.edited_part.ensures in
    let told : IsTrue g.S.EawStore.tells → store.is_dead ≡ false → IsTold store = λ tell alive. record {
      long = g.met.S.EawStore.long c.self.inside.store tell;
      outlines = λ u. g.met.S.EawStore.outlines c.self.inside.store u tell alive;
      placed = g.met.S.EawStore.placed c.self.inside.store;
    } in
    let new : PagesView = record { store = view c.log_write.new.self; counts = counts_in marks; top = top_in marks } in
    lifted g.S.EawStore.tells (g.S.EawStore.opens store.shape) (write_as t addr bytes) (log_write t addr bytes) old new (makes_write g.S.EawStore.tells old t addr bytes placed c.self.invariant.ordered told (edits ∙ c.in-None.is)) c.log_write.result c.told-in-None.result c.told-in-None.ensures
    (subst (λ (a : ℕ). StoreDoes g.S.EawStore.tells (g.S.EawStore.opens store.shape) (log_write t a bytes) store (view c.log_write.new.self) c.log_write.result) c.address-addr.ensures c.log_write.ensures.does)
    (any_ok c.told-in-None.result (refl, refl)) (any_err c.told-in-None.result (refl, refl))

pub returns-in-Some-clause-does : goal.returns-in-Some-clause-does
returns-in-Some-clause-does g c = rw (← c.self.view_is) (edit_does g c)

pub returns-in-None-clause-does : goal.returns-in-None-clause-does
returns-in-None-clause-does g c = rw (← c.self.view_is) (write_does g c)

pub returns-in-Some-clause-seen : goal.returns-in-Some-clause-seen
returns-in-Some-clause-seen g c =
    let view = g.S.EawStore.view in
    let store = view c.self.inside.store in
    let marks = c.self.inside.marks.items in
    let old : PagesView = record { store = store; counts = counts_in marks; top = top_in marks } in
    let new : PagesView = record { store = view c.log_edit.new.self; counts = counts_in marks; top = top_in marks } in
    let placed = in_page_placed store c.args.page c.args.at (length c.args.bytes.now) c.requires.some (rw (← c.self.view_is) at c.requires.inside) in
    let told : IsTrue g.S.EawStore.tells → store.is_dead ≡ false → IsTold store = λ tell alive. record {
      long = g.met.S.EawStore.long c.self.inside.store tell;
      outlines = λ u. g.met.S.EawStore.outlines c.self.inside.store u tell alive;
      placed = g.met.S.EawStore.placed c.self.inside.store;
    } in
    rw (← c.self.view_is) (seen_of g.S.EawStore.tells (g.S.EawStore.opens store.shape) old new c.args.tid (address c.args.page c.args.at) c.args.bytes.now c.told.result placed c.self.invariant.ordered told (edit_does g c))

pub returns-in-None-clause-seen : goal.returns-in-None-clause-seen
returns-in-None-clause-seen g c =
    let view = g.S.EawStore.view in
    let store = view c.self.inside.store in
    let marks = c.self.inside.marks.items in
    let old : PagesView = record { store = store; counts = counts_in marks; top = top_in marks } in
    let new : PagesView = record { store = view c.log_write.new.self; counts = counts_in marks; top = top_in marks } in
    let placed = in_page_placed store c.args.page c.args.at (length c.args.bytes.now) c.requires.some (rw (← c.self.view_is) at c.requires.inside) in
    let told : IsTrue g.S.EawStore.tells → store.is_dead ≡ false → IsTold store = λ tell alive. record {
      long = g.met.S.EawStore.long c.self.inside.store tell;
      outlines = λ u. g.met.S.EawStore.outlines c.self.inside.store u tell alive;
      placed = g.met.S.EawStore.placed c.self.inside.store;
    } in
    rw (← c.self.view_is) (seen_of g.S.EawStore.tells (g.S.EawStore.opens store.shape) old new c.args.tid (address c.args.page c.args.at) c.args.bytes.now c.told-in-None.result placed c.self.invariant.ordered told (write_does g c))

pub invariant_of-self-in-None : goal.invariant_of-self-in-None
invariant_of-self-in-None g c =
    let view = g.S.EawStore.view in
    let store = view c.self.inside.store in
    let marks = c.self.inside.marks.items in
    let t = c.args.tid in
    let bytes = c.args.bytes.now in
    let addr = address c.args.page c.args.at in
    let old : PagesView = record { store = store; counts = counts_in marks; top = top_in marks } in
    let there : c.args.tid < length marks = omega (arith, c.self.invariant.many, rw (← c.self.view_is) at c.requires.tid) in
    let placed = in_page_placed store c.args.page c.args.at (length bytes) c.requires.some (rw (← c.self.view_is) at c.requires.inside) in
    let edits = edits_from store marks t c.from.result c.from.ensures there c.index.result.now c.index.ensures c.floor-floor.result c.floor-floor.ensures c.address-addr.result addr (length bytes) c.address-addr.ensures c.edited_part.result c.edited_part.ensures in
    let told : IsTrue g.S.EawStore.tells → store.is_dead ≡ false → IsTold store = λ tell alive. record {
      long = g.met.S.EawStore.long c.self.inside.store tell;
      outlines = λ u. g.met.S.EawStore.outlines c.self.inside.store u tell alive;
      placed = g.met.S.EawStore.placed c.self.inside.store;
    } in
    let new : PagesView = record { store = view c.log_write.new.self; counts = counts_in marks; top = top_in marks } in
    let does = subst (λ (a : ℕ). StoreDoes g.S.EawStore.tells (g.S.EawStore.opens store.shape) (log_write t a bytes) store (view c.log_write.new.self) c.log_write.result) c.address-addr.ensures c.log_write.ensures.does in
    record {
      many = c.self.invariant.many ∙ (λ i. (sym does.shape i).numbers);
      ordered = ordered_now g.S.EawStore.tells (g.S.EawStore.opens store.shape) (write_as t addr bytes) (log_write t addr bytes) old new
          (makes_write g.S.EawStore.tells old t addr bytes placed c.self.invariant.ordered told (edits ∙ c.in-None.is)) c.log_write.result does
          (λ f is ne. ap view (IfErr-at_err (λ e. (e ≡ Media → ⊥) → c.log_write.new.self ≡ c.self.inside.store) is c.log_write.ensures.refused ne)) refl refl refl refl;
    }

pub returns-in-Some-clause-costs : goal.returns-in-Some-clause-costs
returns-in-Some-clause-costs g c =
    let view = g.S.EawStore.view in
    let store = view c.self.inside.store in
    let marks = c.self.inside.marks.items in
    let t = c.args.tid in
    let bytes = c.args.bytes.now in
    let addr = address c.args.page c.args.at in
    let old : PagesView = record { store = store; counts = counts_in marks; top = top_in marks } in
    let there : c.args.tid < length marks = omega (arith, c.self.invariant.many, rw (← c.self.view_is) at c.requires.tid) in
    let edits = edits_from store marks t c.from.result c.from.ensures there c.index.result.now c.index.ensures c.floor-floor.result c.floor-floor.ensures c.address-addr.result addr (length bytes) c.address-addr.ensures c.edited_part.result c.edited_part.ensures in
    let calls = g.S.EawStore.calls c.self.inside.store in
    let is : device_cost calls (device (write_as t addr bytes) (outline_of old)) ≡ calls (log_edit t c.in-Some.pos 0 bytes) = ap (λ (o : Option ℕ). calls (write_of t addr bytes o)) (edits ∙ c.in-Some.is) in
    rw (← c.self.view_is) (subst (λ (n : ℕ). Costs g.S.EawStore.tells n store.moment (view c.log_edit.new.self).moment c.told.result) (sym is)
    (costs_told g.S.EawStore.tells (calls (log_edit t c.in-Some.pos 0 bytes)) store.moment (view c.log_edit.new.self).moment c.log_edit.result c.told.result c.told.ensures c.log_edit.ensures.costs))

pub returns-in-None-clause-costs : goal.returns-in-None-clause-costs
returns-in-None-clause-costs g c =
    let view = g.S.EawStore.view in
    let store = view c.self.inside.store in
    let marks = c.self.inside.marks.items in
    let t = c.args.tid in
    let bytes = c.args.bytes.now in
    let addr = address c.args.page c.args.at in
    let old : PagesView = record { store = store; counts = counts_in marks; top = top_in marks } in
    let there : c.args.tid < length marks = omega (arith, c.self.invariant.many, rw (← c.self.view_is) at c.requires.tid) in
    let edits = edits_from store marks t c.from.result c.from.ensures there c.index.result.now c.index.ensures c.floor-floor.result c.floor-floor.ensures c.address-addr.result addr (length bytes) c.address-addr.ensures c.edited_part.result c.edited_part.ensures in
    let calls = g.S.EawStore.calls c.self.inside.store in
    let is : device_cost calls (device (write_as t addr bytes) (outline_of old)) ≡ calls (log_write t addr bytes) = ap (λ (o : Option ℕ). calls (write_of t addr bytes o)) (edits ∙ c.in-None.is) in
    rw (← c.self.view_is) (subst (λ (n : ℕ). Costs g.S.EawStore.tells n store.moment (view c.log_write.new.self).moment c.told-in-None.result) (sym is)
    (costs_told g.S.EawStore.tells (calls (log_write t addr bytes)) store.moment (view c.log_write.new.self).moment c.log_write.result c.told-in-None.result c.told-in-None.ensures
    (subst (λ (a : ℕ). Costs g.S.EawStore.tells (calls (log_write t a bytes)) store.moment (view c.log_write.new.self).moment c.log_write.result) c.address-addr.ensures c.log_write.ensures.costs)))
