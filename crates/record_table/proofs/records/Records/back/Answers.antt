use Rattle.std.proofs.Common.{◌≡◌, true, refl, ◌∙◌}
use Rattle.record_table.proofs.Doing.{does_dead}
use Rattle.std.proofs.Common.{◌≤◌, length, sym, subst}
use Rattle.page_store.specs.Command as page
use Rattle.page_store.specs.Shown.{Shown, pages_of, counts_in}
use Rattle.history.specs.declared.call.Call.TheVariants.{Table as OnTable}
use Rattle.history.specs.declared.call.TableCall.TheVariants.{Back}
use Rattle.history.specs.declared.call.Reply.TheVariants.{Fine}
use Rattle.record_table.proofs.Ending.{ended, on_err_same, always, back_is, back_right, media_told}
use Rattle.record_table.proofs.Sharing.{Laws}
use Rattle.record_table.proofs.KeptNames.{kept_as}
use Rattle.record_table.proofs.records.Records.back.Goals as goal

pub invariant_of-self : goal.invariant_of-self
invariant_of-self g c =
    let K = g.met.K.KeyIndex in
    let V = g.S.EawStore.view in
    let laws : Laws g.K.KeyIndex.index = record { rises = K.rises; given = K.given; counts = K.counts; rests = K.rests; extends = K.extends } in
    let inside = c.self.inside.pages in
    kept_as V c.args.self.now inside c.self.view_is (ended V g.S.EawStore.tells g.S.EawStore.opens g.K.KeyIndex.index 0 c.args.tid (OnTable (Back c.args.n)) c.args.self.now inside c.self.view_is (page.back c.args.tid c.args.n) c.back.new.self c.self.invariant.0
    (λ alive. back_is g.S.EawStore.tells g.K.KeyIndex.index laws (pages_of (V inside.store) inside) (c.self.invariant.0 alive) 0 c.args.tid c.args.n c.requires.some
    (subst (λ (p : Shown g.row.S.Denot). c.args.n ≤ length (counts_in p.marks c.args.tid)) (sym c.self.view_is) c.requires.there) (c.is_dead.ensures.ordered alive)
    (λ told. record { long = g.met.S.EawStore.long inside.store told; outlines = λ t. g.met.S.EawStore.outlines inside.store t told alive; placed = λ t. g.met.S.EawStore.placed inside.store t })) (Unit {0}) (λ done. Fine) c.back.result c.back.ensures.does
    (on_err_same c.back.result c.back.ensures.refused) (λ told. always c.back.result (back_right g.K.KeyIndex.index (pages_of (V inside.store) inside) c.args.tid c.args.n c.requires.some (subst (λ (p : Shown g.row.S.Denot). c.args.n ≤ length (counts_in p.marks c.args.tid)) (sym c.self.view_is) c.requires.there))) c.told.result c.told.ensures) c.self.invariant.1

pub returns-clause-does : goal.returns-clause-does
returns-clause-does g c =
    let K = g.met.K.KeyIndex in
    let V = g.S.EawStore.view in
    let laws : Laws g.K.KeyIndex.index = record { rises = K.rises; given = K.given; counts = K.counts; rests = K.rests; extends = K.extends } in
    let inside = c.self.inside.pages in
    (ended V g.S.EawStore.tells g.S.EawStore.opens g.K.KeyIndex.index 0 c.args.tid (OnTable (Back c.args.n)) c.args.self.now inside c.self.view_is (page.back c.args.tid c.args.n) c.back.new.self c.self.invariant.0
    (λ alive. back_is g.S.EawStore.tells g.K.KeyIndex.index laws (pages_of (V inside.store) inside) (c.self.invariant.0 alive) 0 c.args.tid c.args.n c.requires.some
    (subst (λ (p : Shown g.row.S.Denot). c.args.n ≤ length (counts_in p.marks c.args.tid)) (sym c.self.view_is) c.requires.there) (c.is_dead.ensures.ordered alive)
    (λ told. record { long = g.met.S.EawStore.long inside.store told; outlines = λ t. g.met.S.EawStore.outlines inside.store t told alive; placed = λ t. g.met.S.EawStore.placed inside.store t })) (Unit {0}) (λ done. Fine) c.back.result c.back.ensures.does
    (on_err_same c.back.result c.back.ensures.refused) (λ told. always c.back.result (back_right g.K.KeyIndex.index (pages_of (V inside.store) inside) c.args.tid c.args.n c.requires.some (subst (λ (p : Shown g.row.S.Denot). c.args.n ≤ length (counts_in p.marks c.args.tid)) (sym c.self.view_is) c.requires.there))) c.told.result c.told.ensures).0

pub returns-clause-due : goal.returns-clause-due
returns-clause-due g c = λ failed. c.back.ensures.due (media_told c.back.result c.told.result c.told.ensures failed)

pub returns-then-is_dead-clause-does : goal.returns-then-is_dead-clause-does
returns-then-is_dead-clause-does g c =
    let V = g.S.EawStore.view in
    let now = c.args.self.now in
    let v = pages_of (V now.store) now in
    does_dead g.S.EawStore.tells (g.S.EawStore.opens (V now.store).shape) g.K.KeyIndex.index 0 c.args.tid (OnTable (Back c.args.n)) v v refl
    (subst (λ (p : Shown g.row.S.Denot). (V p.store).is_dead ≡ true) c.self.view_is (sym c.is_dead.ensures.dead ∙ c.if-is_dead.true))
