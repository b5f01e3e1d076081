use Rattle.std.proofs.Common.{false, refl}
use Rattle.std.proofs.lemmas.Bool.{false≢true}
use Rattle.page_store.specs.Command as page
use Rattle.page_store.specs.Shown.{pages_of}
use Rattle.history.specs.declared.call.Call.TheVariants.{Control}
use Rattle.history.specs.declared.call.Control.TheVariants.{Abort}
use Rattle.history.specs.declared.call.Reply.TheVariants.{Fine}
use Rattle.record_table.proofs.Ending.{ended, freed, err_same, always, abort_is, media_told}
use Rattle.record_table.proofs.Sharing.{Laws}
use Rattle.record_table.proofs.KeptNames.{kept_as}
use Rattle.record_table.proofs.records.Records.abort.Goals as goal

pub invariant_of-self : goal.invariant_of-self
invariant_of-self g c =
    let K = g.met.K.KeyIndex in
    let V = g.S.EawStore.view in
    let laws : Laws g.K.KeyIndex.index = record { rises = K.rises; given = K.given; counts = K.counts; rests = K.rests; extends = K.extends } in
    let inside = c.self.inside.pages in
    kept_as V c.args.self.now inside c.self.view_is (ended V g.S.EawStore.tells g.S.EawStore.opens g.K.KeyIndex.index 0 c.args.tid (Control Abort) c.args.self.now inside c.self.view_is (page.end c.args.tid false) c.end.new.self c.self.invariant.0
    (λ alive. abort_is g.S.EawStore.tells g.K.KeyIndex.index laws (pages_of (V inside.store) inside) (c.self.invariant.0 alive) 0 c.args.tid) (Unit {0}) (λ done. Fine) c.end.result c.end.ensures.does
    (err_same c.end.result c.end.ensures.refused) (λ told. always c.end.result refl) c.told.result c.told.ensures) c.self.invariant.1

pub returns-clause-does : goal.returns-clause-does
returns-clause-does g c =
    let K = g.met.K.KeyIndex in
    let V = g.S.EawStore.view in
    let laws : Laws g.K.KeyIndex.index = record { rises = K.rises; given = K.given; counts = K.counts; rests = K.rests; extends = K.extends } in
    let inside = c.self.inside.pages in
    (ended V g.S.EawStore.tells g.S.EawStore.opens g.K.KeyIndex.index 0 c.args.tid (Control Abort) c.args.self.now inside c.self.view_is (page.end c.args.tid false) c.end.new.self c.self.invariant.0
    (λ alive. abort_is g.S.EawStore.tells g.K.KeyIndex.index laws (pages_of (V inside.store) inside) (c.self.invariant.0 alive) 0 c.args.tid) (Unit {0}) (λ done. Fine) c.end.result c.end.ensures.does
    (err_same c.end.result c.end.ensures.refused) (λ told. always c.end.result refl) c.told.result c.told.ensures).0

pub returns-clause-due : goal.returns-clause-due
returns-clause-due g c = λ failed. false≢true (c.end.ensures.due (media_told c.end.result c.told.result c.told.ensures failed)).0

pub returns-clause-free : goal.returns-clause-free
returns-clause-free g c =
    let V = g.S.EawStore.view in
    let inside = c.self.inside.pages in
    freed g.S.EawStore.tells (g.S.EawStore.opens (V inside.store).shape) c.args.tid false (pages_of (V inside.store) inside) (pages_of (V c.end.new.self.store) c.end.new.self) c.end.result c.told.result c.end.ensures.does c.told.ensures
