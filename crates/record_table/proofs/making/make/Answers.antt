use Rattle.std.proofs.Common.{◌≡◌, refl, ◌∙◌, ◌+◌, ◌*◌, IsTrue, [], ◌∷◌, Result, Ok, Err, false, sym, ap, subst, arith}
use Rattle.array_shape.specs.declared.shape.Shape.{Shape}
use Rattle.eaw_face.specs.State.{State}
use Rattle.index_pages.specs.Acts.{Acts}
use Rattle.page_store.specs.Command as page
use Rattle.page_store.specs.Does as page_does
use Rattle.page_store.specs.Looks.{is_failed}
use Rattle.page_store.specs.Shown.{pages_of}
use Rattle.page_store.specs.declared.fault.PageFault.{PageFault}
use Rattle.record_slots.specs.Fresh.{fresh_page}
use Rattle.record_slots.specs.Places.{page_bytes}
use Rattle.record_slots.specs.Super.{IsWhole, SaysSuper, super_bytes}
use Rattle.record_slots.specs.declared.super_page.Super.{Super}
use Rattle.record_table.specs.Sought.{LooksAs}
use Rattle.record_table.proofs.Made.{not_upgraded, ready_of, not_read, not_placed, not_written, far_holds, written}
use Rattle.record_table.proofs.Sharing.{Laws}
use Rattle.record_table.proofs.Blaming.{front_made, acted_front}
use Rattle.std.proofs.lemmas.Result.{err_from_is_err_and}
use Rattle.record_table.proofs.making.make.Goals as goal

pub returns-in_err-upgrade-clause-makes : goal.returns-in_err-upgrade-clause-makes
returns-in_err-upgrade-clause-makes g c =
    let V = g.S.EawStore.view in
    let T = g.S.EawStore.tells in
    let E = g.S.EawStore.opens in
    let I = g.K.KeyIndex.index in
    let name = c.args.name.now in
    let old = c.args.pages.now in
    let mid = c.upgrade.new.pages in
    let O = g.S.EawStore.opens (V c.args.pages.now.store).shape in
    let v0 = pages_of (V old.store) old in
    let v1 = pages_of (V mid.store) mid in
    let exit = err_from_is_err_and c.from_residual.result c.from_residual.ensures.1 in
    rw (exit.1, exit.2) ((not_upgraded T O I name v0 v1 c.in_err-upgrade.field-0.0 c.in_err-upgrade.ensures.upgrades (λ e. ap (λ p. pages_of (V p.store) p) (c.in_err-upgrade.ensures.dead (ap (λ (f : PageFault). let r : Result (Unit {0}) PageFault = Err f in r) e)))))

pub returns-in_err-front-clause-makes : goal.returns-in_err-front-clause-makes
returns-in_err-front-clause-makes g c =
    let V = g.S.EawStore.view in
    let T = g.S.EawStore.tells in
    let E = g.S.EawStore.opens in
    let I = g.K.KeyIndex.index in
    let name = c.args.name.now in
    let old = c.args.pages.now in
    let mid = c.upgrade.new.pages in
    let O = g.S.EawStore.opens (V c.args.pages.now.store).shape in
    let v0 = pages_of (V old.store) old in
    let v1 = pages_of (V mid.store) mid in
    let now = c.read_front.new.pages in
    let v2 = pages_of (V now.store) now in
    let up = c.in_ok-upgrade.ensures.upgrades in
    let failed = subst (λ (s : Shape). (let r : Result Super PageFault = Err c.in_err-front.field-0.0 in LooksAs T (E s) 0 (is_failed r) v1 v2)) up.shape c.in_err-front.ensures.looks in
    let both = not_read T O I name v0 v1 v2 up c.in_ok-upgrade.ensures.holds c.in_err-front.field-0.0 (failed, c.in_err-front.ensures.cause) in
    let exit = err_from_is_err_and c.from_residual-in_err-front.result c.from_residual-in_err-front.ensures.1 in
    rw (exit.1, exit.2) (both.0)

pub returns-in_err-front-clause-holds : goal.returns-in_err-front-clause-holds
returns-in_err-front-clause-holds g c =
    let V = g.S.EawStore.view in
    let T = g.S.EawStore.tells in
    let E = g.S.EawStore.opens in
    let I = g.K.KeyIndex.index in
    let name = c.args.name.now in
    let old = c.args.pages.now in
    let mid = c.upgrade.new.pages in
    let O = g.S.EawStore.opens (V c.args.pages.now.store).shape in
    let v0 = pages_of (V old.store) old in
    let v1 = pages_of (V mid.store) mid in
    let now = c.read_front.new.pages in
    let v2 = pages_of (V now.store) now in
    let up = c.in_ok-upgrade.ensures.upgrades in
    let failed = subst (λ (s : Shape). (let r : Result Super PageFault = Err c.in_err-front.field-0.0 in LooksAs T (E s) 0 (is_failed r) v1 v2)) up.shape c.in_err-front.ensures.looks in
    let both = not_read T O I name v0 v1 v2 up c.in_ok-upgrade.ensures.holds c.in_err-front.field-0.0 (failed, c.in_err-front.ensures.cause) in
    both.1

pub returns-in_err-number-clause-makes : goal.returns-in_err-number-clause-makes
returns-in_err-number-clause-makes g c =
    let exit = err_from_is_err_and c.from_residual-in_err-number.result c.from_residual-in_err-number.ensures.1 in
    rw (exit.1, exit.2) (
    let V = g.S.EawStore.view in
    let T = g.S.EawStore.tells in
    let E = g.S.EawStore.opens in
    let I = g.K.KeyIndex.index in
    let name = c.args.name.now in
    let old = c.args.pages.now in
    let mid = c.upgrade.new.pages in
    let O = g.S.EawStore.opens (V c.args.pages.now.store).shape in
    let v0 = pages_of (V old.store) old in
    let v1 = pages_of (V mid.store) mid in
    let K = g.met.K.KeyIndex in
    let laws : Laws g.K.KeyIndex.index = record { rises = K.rises; given = K.given; counts = K.counts; rests = K.rests; extends = K.extends } in
    let now = c.read_front.new.pages in
    let v2 = pages_of (V now.store) now in
    let up = c.in_ok-upgrade.ensures.upgrades in
    let front = c.in_ok-front.front in
    let looks = subst (λ (s : Shape). LooksAs T (E s) 0 false v1 v2) up.shape c.in_ok-front.ensures.looks in
    let ready = ready_of T O I name v0 v1 v2 up c.in_ok-upgrade.ensures.holds looks in
    let says = λ (told : IsTrue T). subst (λ (s : State). SaysSuper (page_bytes s.bytes 0) front) (sym ((looks.same refl).still.state told)) (c.in_ok-front.ensures.says told) in
    let long = λ (told : IsTrue T). g.met.S.EawStore.long now.store told in
    not_placed T O I name laws v0 v2 ready front c.index_page_count.result says c.index_page_count.ensures.count long c.in_err-number.field-0.0 c.in_err-number.ensures.cause)

pub returns-in_err-number-clause-holds : goal.returns-in_err-number-clause-holds
returns-in_err-number-clause-holds g c =
    let V = g.S.EawStore.view in
    let T = g.S.EawStore.tells in
    let E = g.S.EawStore.opens in
    let I = g.K.KeyIndex.index in
    let name = c.args.name.now in
    let old = c.args.pages.now in
    let mid = c.upgrade.new.pages in
    let O = g.S.EawStore.opens (V c.args.pages.now.store).shape in
    let v0 = pages_of (V old.store) old in
    let v1 = pages_of (V mid.store) mid in
    let K = g.met.K.KeyIndex in
    let laws : Laws g.K.KeyIndex.index = record { rises = K.rises; given = K.given; counts = K.counts; rests = K.rests; extends = K.extends } in
    let now = c.read_front.new.pages in
    let v2 = pages_of (V now.store) now in
    let up = c.in_ok-upgrade.ensures.upgrades in
    let front = c.in_ok-front.front in
    let looks = subst (λ (s : Shape). LooksAs T (E s) 0 false v1 v2) up.shape c.in_ok-front.ensures.looks in
    let ready = ready_of T O I name v0 v1 v2 up c.in_ok-upgrade.ensures.holds looks in
    let says = λ (told : IsTrue T). subst (λ (s : State). SaysSuper (page_bytes s.bytes 0) front) (sym ((looks.same refl).still.state told)) (c.in_ok-front.ensures.says told) in
    let long = λ (told : IsTrue T). g.met.S.EawStore.long now.store told in
    ready.holds

pub write_table-requires-clause-closed : goal.write_table-requires-clause-closed
write_table-requires-clause-closed g c =
    let V = g.S.EawStore.view in
    let T = g.S.EawStore.tells in
    let E = g.S.EawStore.opens in
    let I = g.K.KeyIndex.index in
    let name = c.args.name.now in
    let old = c.args.pages.now in
    let mid = c.upgrade.new.pages in
    let O = g.S.EawStore.opens (V c.args.pages.now.store).shape in
    let v0 = pages_of (V old.store) old in
    let v1 = pages_of (V mid.store) mid in
    let K = g.met.K.KeyIndex in
    let laws : Laws g.K.KeyIndex.index = record { rises = K.rises; given = K.given; counts = K.counts; rests = K.rests; extends = K.extends } in
    let now = c.read_front.new.pages in
    let v2 = pages_of (V now.store) now in
    let up = c.in_ok-upgrade.ensures.upgrades in
    let front = c.in_ok-front.front in
    let looks = subst (λ (s : Shape). LooksAs T (E s) 0 false v1 v2) up.shape c.in_ok-front.ensures.looks in
    let ready = ready_of T O I name v0 v1 v2 up c.in_ok-upgrade.ensures.holds looks in
    let says = λ (told : IsTrue T). subst (λ (s : State). SaysSuper (page_bytes s.bytes 0) front) (sym ((looks.same refl).still.state told)) (c.in_ok-front.ensures.says told) in
    let long = λ (told : IsTrue T). g.met.S.EawStore.long now.store told in
    λ living. (ready.holds living).closed 0

pub returns-in_err-write_table-clause-makes : goal.returns-in_err-write_table-clause-makes
returns-in_err-write_table-clause-makes g c =
    let V = g.S.EawStore.view in
    let T = g.S.EawStore.tells in
    let E = g.S.EawStore.opens in
    let I = g.K.KeyIndex.index in
    let name = c.args.name.now in
    let old = c.args.pages.now in
    let mid = c.upgrade.new.pages in
    let O = g.S.EawStore.opens (V c.args.pages.now.store).shape in
    let v0 = pages_of (V old.store) old in
    let v1 = pages_of (V mid.store) mid in
    let K = g.met.K.KeyIndex in
    let laws : Laws g.K.KeyIndex.index = record { rises = K.rises; given = K.given; counts = K.counts; rests = K.rests; extends = K.extends } in
    let now = c.read_front.new.pages in
    let v2 = pages_of (V now.store) now in
    let up = c.in_ok-upgrade.ensures.upgrades in
    let front = c.in_ok-front.front in
    let looks = subst (λ (s : Shape). LooksAs T (E s) 0 false v1 v2) up.shape c.in_ok-front.ensures.looks in
    let ready = ready_of T O I name v0 v1 v2 up c.in_ok-upgrade.ensures.holds looks in
    let says = λ (told : IsTrue T). subst (λ (s : State). SaysSuper (page_bytes s.bytes 0) front) (sym ((looks.same refl).still.state told)) (c.in_ok-front.ensures.says told) in
    let long = λ (told : IsTrue T). g.met.S.EawStore.long now.store told in
    let far = c.write_table.new.pages in
    let v3 = pages_of (V far.store) far in
    let after = c.with_table.result in
    let number = c.in_ok-number.number in
    let half = c.index_page_count.result in
    let whole : IsWhole after = record {
      entries = omega arith;
      next_slot = omega arith;
      next_page = omega arith;
      free_slot = omega arith;
      free_page = omega arith;
      free_slots = omega arith;
      free_pages = omega arith;
    } in
    let acts = subst (λ (s : Shape). (let r : Result (Unit {0}) PageFault = Err c.in_err-write_table.field-0.0 in Acts T (E s) 0 (front.next_page ∷ 0 ∷ []) ((512 * front.next_page + 0, fresh_page 1) ∷ (512 * 0 + 0, super_bytes after) ∷ []) v2 v3 r)) ready.shape c.in_err-write_table.ensures.acts in
    let exit = err_from_is_err_and c.from_residual-in_err-write_table.result c.from_residual-in_err-write_table.ensures.1 in
    rw (exit.1, exit.2) ((not_written T O I name laws v0 v2 ready front half says c.index_page_count.ensures.count long number c.in_ok-number.ensures.cause after c.with_table.ensures.said c.with_table.ensures.tables c.with_table.ensures.has whole v3 (g.met.S.EawStore.shaped now.store).some_entries c.requires.free c.in_err-write_table.field-0.0 acts).0)

pub end-requires-clause-closed : goal.end-requires-clause-closed
end-requires-clause-closed g c =
    let V = g.S.EawStore.view in
    let T = g.S.EawStore.tells in
    let E = g.S.EawStore.opens in
    let I = g.K.KeyIndex.index in
    let name = c.args.name.now in
    let old = c.args.pages.now in
    let mid = c.upgrade.new.pages in
    let O = g.S.EawStore.opens (V c.args.pages.now.store).shape in
    let v0 = pages_of (V old.store) old in
    let v1 = pages_of (V mid.store) mid in
    let K = g.met.K.KeyIndex in
    let laws : Laws g.K.KeyIndex.index = record { rises = K.rises; given = K.given; counts = K.counts; rests = K.rests; extends = K.extends } in
    let now = c.read_front.new.pages in
    let v2 = pages_of (V now.store) now in
    let up = c.in_ok-upgrade.ensures.upgrades in
    let front = c.in_ok-front.front in
    let looks = subst (λ (s : Shape). LooksAs T (E s) 0 false v1 v2) up.shape c.in_ok-front.ensures.looks in
    let ready = ready_of T O I name v0 v1 v2 up c.in_ok-upgrade.ensures.holds looks in
    let says = λ (told : IsTrue T). subst (λ (s : State). SaysSuper (page_bytes s.bytes 0) front) (sym ((looks.same refl).still.state told)) (c.in_ok-front.ensures.says told) in
    let long = λ (told : IsTrue T). g.met.S.EawStore.long now.store told in
    let far = c.write_table.new.pages in
    let v3 = pages_of (V far.store) far in
    let after = c.with_table.result in
    let number = c.in_ok-number.number in
    let half = c.index_page_count.result in
    let whole : IsWhole after = record {
      entries = omega arith;
      next_slot = omega arith;
      next_page = omega arith;
      free_slot = omega arith;
      free_page = omega arith;
      free_slots = omega arith;
      free_pages = omega arith;
    } in
    let acts = subst (λ (s : Shape). (let r : Result (Unit {0}) PageFault = Ok tt in Acts T (E s) 0 (front.next_page ∷ 0 ∷ []) ((512 * front.next_page + 0, fresh_page 1) ∷ (512 * 0 + 0, super_bytes after) ∷ []) v2 v3 r)) ready.shape c.in_ok-write_table.ensures.acts in
    λ living. (far_holds T O I name laws v0 v2 ready front half says c.index_page_count.ensures.count long number c.in_ok-number.ensures.cause after c.with_table.ensures.said c.with_table.ensures.tables c.with_table.ensures.has whole v3 acts living).closed 0

pub returns-clause-makes : goal.returns-clause-makes
returns-clause-makes g c =
    let V = g.S.EawStore.view in
    let T = g.S.EawStore.tells in
    let E = g.S.EawStore.opens in
    let I = g.K.KeyIndex.index in
    let name = c.args.name.now in
    let old = c.args.pages.now in
    let mid = c.upgrade.new.pages in
    let O = g.S.EawStore.opens (V c.args.pages.now.store).shape in
    let v0 = pages_of (V old.store) old in
    let v1 = pages_of (V mid.store) mid in
    let K = g.met.K.KeyIndex in
    let laws : Laws g.K.KeyIndex.index = record { rises = K.rises; given = K.given; counts = K.counts; rests = K.rests; extends = K.extends } in
    let now = c.read_front.new.pages in
    let v2 = pages_of (V now.store) now in
    let up = c.in_ok-upgrade.ensures.upgrades in
    let front = c.in_ok-front.front in
    let looks = subst (λ (s : Shape). LooksAs T (E s) 0 false v1 v2) up.shape c.in_ok-front.ensures.looks in
    let ready = ready_of T O I name v0 v1 v2 up c.in_ok-upgrade.ensures.holds looks in
    let says = λ (told : IsTrue T). subst (λ (s : State). SaysSuper (page_bytes s.bytes 0) front) (sym ((looks.same refl).still.state told)) (c.in_ok-front.ensures.says told) in
    let long = λ (told : IsTrue T). g.met.S.EawStore.long now.store told in
    let far = c.write_table.new.pages in
    let v3 = pages_of (V far.store) far in
    let after = c.with_table.result in
    let number = c.in_ok-number.number in
    let half = c.index_page_count.result in
    let whole : IsWhole after = record {
      entries = omega arith;
      next_slot = omega arith;
      next_page = omega arith;
      free_slot = omega arith;
      free_page = omega arith;
      free_slots = omega arith;
      free_pages = omega arith;
    } in
    let acts = subst (λ (s : Shape). (let r : Result (Unit {0}) PageFault = Ok tt in Acts T (E s) 0 (front.next_page ∷ 0 ∷ []) ((512 * front.next_page + 0, fresh_page 1) ∷ (512 * 0 + 0, super_bytes after) ∷ []) v2 v3 r)) ready.shape c.in_ok-write_table.ensures.acts in
    let new = c.end.new.self in
    let v4 = pages_of (V new.store) new in
    let does = subst (λ (s : Shape). (let r : Result (Unit {0}) PageFault = Ok tt in page_does.Does T (E s) (page.end 0 false) v3 v4 r)) (acts.shape ∙ ready.shape) c.in_ok-end.ensures.does in
    (written T O I name laws v0 v2 ready front half says c.index_page_count.ensures.count long number c.in_ok-number.ensures.cause after c.with_table.ensures.said c.with_table.ensures.tables c.with_table.ensures.has whole v3 acts v4 does).0

pub returns-clause-holds : goal.returns-clause-holds
returns-clause-holds g c =
    let V = g.S.EawStore.view in
    let T = g.S.EawStore.tells in
    let E = g.S.EawStore.opens in
    let I = g.K.KeyIndex.index in
    let name = c.args.name.now in
    let old = c.args.pages.now in
    let mid = c.upgrade.new.pages in
    let O = g.S.EawStore.opens (V c.args.pages.now.store).shape in
    let v0 = pages_of (V old.store) old in
    let v1 = pages_of (V mid.store) mid in
    let K = g.met.K.KeyIndex in
    let laws : Laws g.K.KeyIndex.index = record { rises = K.rises; given = K.given; counts = K.counts; rests = K.rests; extends = K.extends } in
    let now = c.read_front.new.pages in
    let v2 = pages_of (V now.store) now in
    let up = c.in_ok-upgrade.ensures.upgrades in
    let front = c.in_ok-front.front in
    let looks = subst (λ (s : Shape). LooksAs T (E s) 0 false v1 v2) up.shape c.in_ok-front.ensures.looks in
    let ready = ready_of T O I name v0 v1 v2 up c.in_ok-upgrade.ensures.holds looks in
    let says = λ (told : IsTrue T). subst (λ (s : State). SaysSuper (page_bytes s.bytes 0) front) (sym ((looks.same refl).still.state told)) (c.in_ok-front.ensures.says told) in
    let long = λ (told : IsTrue T). g.met.S.EawStore.long now.store told in
    let far = c.write_table.new.pages in
    let v3 = pages_of (V far.store) far in
    let after = c.with_table.result in
    let number = c.in_ok-number.number in
    let half = c.index_page_count.result in
    let whole : IsWhole after = record {
      entries = omega arith;
      next_slot = omega arith;
      next_page = omega arith;
      free_slot = omega arith;
      free_page = omega arith;
      free_slots = omega arith;
      free_pages = omega arith;
    } in
    let acts = subst (λ (s : Shape). (let r : Result (Unit {0}) PageFault = Ok tt in Acts T (E s) 0 (front.next_page ∷ 0 ∷ []) ((512 * front.next_page + 0, fresh_page 1) ∷ (512 * 0 + 0, super_bytes after) ∷ []) v2 v3 r)) ready.shape c.in_ok-write_table.ensures.acts in
    let new = c.end.new.self in
    let v4 = pages_of (V new.store) new in
    let does = subst (λ (s : Shape). (let r : Result (Unit {0}) PageFault = Ok tt in page_does.Does T (E s) (page.end 0 false) v3 v4 r)) (acts.shape ∙ ready.shape) c.in_ok-end.ensures.does in
    (written T O I name laws v0 v2 ready front half says c.index_page_count.ensures.count long number c.in_ok-number.ensures.cause after c.with_table.ensures.said c.with_table.ensures.tables c.with_table.ensures.has whole v3 acts v4 does).1

pub returns-in_err-upgrade-clause-blames : goal.returns-in_err-upgrade-clause-blames
returns-in_err-upgrade-clause-blames g c =
    let exit = err_from_is_err_and c.from_residual.result c.from_residual.ensures.1 in
    rw (exit.1, exit.2) ((front_made (Unit {0}) c.in_err-upgrade.field-0.0 c.in_err-upgrade.ensures.blames))

pub returns-in_err-front-clause-blames : goal.returns-in_err-front-clause-blames
returns-in_err-front-clause-blames g c =
    let exit = err_from_is_err_and c.from_residual-in_err-front.result c.from_residual-in_err-front.ensures.1 in
    rw (exit.1, exit.2) ((front_made Super c.in_err-front.field-0.0 c.in_err-front.ensures.blames))

pub returns-in_err-number-clause-blames : goal.returns-in_err-number-clause-blames
returns-in_err-number-clause-blames g c =
    let exit = err_from_is_err_and c.from_residual-in_err-number.result c.from_residual-in_err-number.ensures.1 in
    rw (exit.1, exit.2) (c.in_err-number.ensures.blames)

pub returns-in_err-write_table-clause-blames : goal.returns-in_err-write_table-clause-blames
returns-in_err-write_table-clause-blames g c =
    let exit = err_from_is_err_and c.from_residual-in_err-write_table.result c.from_residual-in_err-write_table.ensures.1 in
    rw (exit.1, exit.2) ((front_made (Unit {0}) c.in_err-write_table.field-0.0 (acted_front _ _ _ _ _ _ c.in_err-write_table.field-0.0 c.in_err-write_table.ensures.acts)))
