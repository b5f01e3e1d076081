use Rattle.std.proofs.Common.{◌≡◌, ◌≢◌, length, Result, Err, ap, subst, arith}
use Rattle.array_shape.specs.declared.shape.Shape.{Shape}
use Rattle.record_slots.specs.declared.super_page.Super.{Super}
use Rattle.page_store.specs.Command as page
use Rattle.page_store.specs.Does as page_does
use Rattle.page_store.specs.Shown.{pages_of}
use Rattle.page_store.specs.declared.fault.PageFault.{PageFault}
use Rattle.record_table.proofs.Sharing.{Laws}
use Rattle.record_table.proofs.Versions.{unread, already, wrote}
use Rattle.record_table.proofs.upgrading.upgrade.Goals as goal

pub returns-in_err-front-clause-holds : goal.returns-in_err-front-clause-holds
returns-in_err-front-clause-holds g c =
    let V = g.S.EawStore.view in
    let old = c.args.pages.now in
    let mid = c.read_front.new.pages in
    (unread g.S.EawStore.tells (g.S.EawStore.opens (V old.store).shape) g.K.KeyIndex.index (pages_of (V old.store) old) (pages_of (V mid.store) mid) c.in_err-front.field-0.0 c.requires.holds
    (c.in_err-front.ensures.looks, c.in_err-front.ensures.cause) (λ e. ap (λ p. pages_of (V p.store) p) (c.in_err-front.ensures.dead (ap (λ (f : PageFault). let r : Result Super PageFault = Err f in r) e)))).1

pub returns-then-front-eq-VERSION-clause-upgrades : goal.returns-then-front-eq-VERSION-clause-upgrades
returns-then-front-eq-VERSION-clause-upgrades g c =
    let V = g.S.EawStore.view in
    let old = c.args.pages.now in
    let mid = c.read_front.new.pages in
    (already g.S.EawStore.tells (g.S.EawStore.opens (V old.store).shape) g.K.KeyIndex.index (pages_of (V old.store) old) (pages_of (V mid.store) mid) c.in_ok-front.front c.in_ok-front.ensures.cause
    c.requires.holds c.in_ok-front.ensures.looks c.in_ok-front.ensures.says (omega (arith, c.if-front-eq-VERSION.true))).0

pub returns-then-front-eq-VERSION-clause-holds : goal.returns-then-front-eq-VERSION-clause-holds
returns-then-front-eq-VERSION-clause-holds g c =
    let V = g.S.EawStore.view in
    let old = c.args.pages.now in
    let mid = c.read_front.new.pages in
    (already g.S.EawStore.tells (g.S.EawStore.opens (V old.store).shape) g.K.KeyIndex.index (pages_of (V old.store) old) (pages_of (V mid.store) mid) c.in_ok-front.front c.in_ok-front.ensures.cause
    c.requires.holds c.in_ok-front.ensures.looks c.in_ok-front.ensures.says (omega (arith, c.if-front-eq-VERSION.true))).1

pub returns-clause-upgrades : goal.returns-clause-upgrades
returns-clause-upgrades g c =
    let V = g.S.EawStore.view in
    let K = g.met.K.KeyIndex in
    let laws : Laws g.K.KeyIndex.index = record { rises = K.rises; given = K.given; counts = K.counts; rests = K.rests; extends = K.extends } in
    let old = c.args.pages.now in
    let mid = c.read_front.new.pages in
    let new = c.atomic_write.new.self in
    let bytes = c.main_super-bytes.result in
    let front = c.in_ok-front.front in
    let long : length bytes ≡ 512 = omega arith in
    let older : front.version ≢ 2 = λ e. omega (arith, e, c.if-front-eq-VERSION.false) in
    (wrote g.S.EawStore.tells (g.S.EawStore.opens (V old.store).shape) g.K.KeyIndex.index laws (pages_of (V old.store) old) (pages_of (V mid.store) mid) (pages_of (V new.store) new) bytes front long
    (g.met.S.EawStore.shaped mid.store).some_entries c.in_ok-front.ensures.cause c.requires.holds c.in_ok-front.ensures.looks c.in_ok-front.ensures.says older c.main_super-bytes.ensures.says c.main_super-bytes.ensures.bytes c.atomic_write.result
    (subst (λ (s : Shape). page_does.Does g.S.EawStore.tells (g.S.EawStore.opens s) (page.atomic_write 0 0 bytes) (pages_of (V mid.store) mid) (pages_of (V new.store) new) c.atomic_write.result) c.in_ok-front.ensures.looks.shape c.atomic_write.ensures.does)).0

pub returns-clause-holds : goal.returns-clause-holds
returns-clause-holds g c =
    let V = g.S.EawStore.view in
    let K = g.met.K.KeyIndex in
    let laws : Laws g.K.KeyIndex.index = record { rises = K.rises; given = K.given; counts = K.counts; rests = K.rests; extends = K.extends } in
    let old = c.args.pages.now in
    let mid = c.read_front.new.pages in
    let new = c.atomic_write.new.self in
    let bytes = c.main_super-bytes.result in
    let front = c.in_ok-front.front in
    let long : length bytes ≡ 512 = omega arith in
    let older : front.version ≢ 2 = λ e. omega (arith, e, c.if-front-eq-VERSION.false) in
    (wrote g.S.EawStore.tells (g.S.EawStore.opens (V old.store).shape) g.K.KeyIndex.index laws (pages_of (V old.store) old) (pages_of (V mid.store) mid) (pages_of (V new.store) new) bytes front long
    (g.met.S.EawStore.shaped mid.store).some_entries c.in_ok-front.ensures.cause c.requires.holds c.in_ok-front.ensures.looks c.in_ok-front.ensures.says older c.main_super-bytes.ensures.says c.main_super-bytes.ensures.bytes c.atomic_write.result
    (subst (λ (s : Shape). page_does.Does g.S.EawStore.tells (g.S.EawStore.opens s) (page.atomic_write 0 0 bytes) (pages_of (V mid.store) mid) (pages_of (V new.store) new) c.atomic_write.result) c.in_ok-front.ensures.looks.shape c.atomic_write.ensures.does)).1
