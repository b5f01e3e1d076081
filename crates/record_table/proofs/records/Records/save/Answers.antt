use Rattle.std.proofs.Common.{ℕ}
use Rattle.page_store.specs.Command as page
use Rattle.page_store.specs.Shown.{pages_of}
use Rattle.history.specs.declared.call.Call.TheVariants.{Table as OnTable}
use Rattle.history.specs.declared.call.TableCall.TheVariants.{Save}
use Rattle.history.specs.declared.call.Reply.TheVariants.{Saved}
use Rattle.record_table.proofs.Ending.{ended, on_err_same, save_is, saved_right, media_told}
use Rattle.record_table.proofs.Sharing.{Laws}
use Rattle.record_table.proofs.KeptNames.{kept_as}
use Rattle.record_table.proofs.records.Records.save.Goals as goal

pub invariant_of-self : goal.invariant_of-self
invariant_of-self g c =
    let K = g.met.K.KeyIndex in
    let V = g.S.EawStore.view in
    let laws : Laws g.K.KeyIndex.index = record { rises = K.rises; given = K.given; counts = K.counts; rests = K.rests; extends = K.extends } in
    let inside = c.self.inside.pages in
    kept_as V c.args.self.now inside c.self.view_is (ended V g.S.EawStore.tells g.S.EawStore.opens g.K.KeyIndex.index 0 c.args.tid (OnTable Save) c.args.self.now inside c.self.view_is (page.save c.args.tid) c.save.new.self c.self.invariant.0
    (λ alive. save_is g.S.EawStore.tells g.K.KeyIndex.index laws (pages_of (V inside.store) inside) (c.self.invariant.0 alive) 0 c.args.tid) ℕ Saved c.save.result c.save.ensures.does
    (on_err_same c.save.result c.save.ensures.refused) (λ told. saved_right g.S.EawStore.tells (g.S.EawStore.opens (V inside.store).shape) g.K.KeyIndex.index (pages_of (V inside.store) inside) (pages_of (V c.save.new.self.store) c.save.new.self) c.args.tid c.save.result c.save.ensures.does c.save.ensures.count) c.told.result c.told.ensures) c.self.invariant.1

pub returns-clause-does : goal.returns-clause-does
returns-clause-does g c =
    let K = g.met.K.KeyIndex in
    let V = g.S.EawStore.view in
    let laws : Laws g.K.KeyIndex.index = record { rises = K.rises; given = K.given; counts = K.counts; rests = K.rests; extends = K.extends } in
    let inside = c.self.inside.pages in
    (ended V g.S.EawStore.tells g.S.EawStore.opens g.K.KeyIndex.index 0 c.args.tid (OnTable Save) c.args.self.now inside c.self.view_is (page.save c.args.tid) c.save.new.self c.self.invariant.0
    (λ alive. save_is g.S.EawStore.tells g.K.KeyIndex.index laws (pages_of (V inside.store) inside) (c.self.invariant.0 alive) 0 c.args.tid) ℕ Saved c.save.result c.save.ensures.does
    (on_err_same c.save.result c.save.ensures.refused) (λ told. saved_right g.S.EawStore.tells (g.S.EawStore.opens (V inside.store).shape) g.K.KeyIndex.index (pages_of (V inside.store) inside) (pages_of (V c.save.new.self.store) c.save.new.self) c.args.tid c.save.result c.save.ensures.does c.save.ensures.count) c.told.result c.told.ensures).0

pub returns-clause-due : goal.returns-clause-due
returns-clause-due g c = λ failed. c.save.ensures.due (media_told c.save.result c.told.result c.told.ensures failed)
