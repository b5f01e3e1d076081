use Rattle.std.proofs.Common.{true, ℕ, ◌<◌, length, sym, subst}
use Rattle.eaw_face.specs.Causes.{IsAlive}
use Rattle.page_store.specs.Command as page
use Rattle.page_store.specs.Shown.{pages_of}
use Rattle.history.specs.declared.call.Call.TheVariants.{Control}
use Rattle.history.specs.declared.call.Control.TheVariants.{Commit}
use Rattle.history.specs.declared.call.Reply.TheVariants.{Committed}
use Rattle.record_table.specs.Shown.{state_of}
use Rattle.record_table.proofs.Ending.{ended, freed, err_same, always, commit_is, media_told}
use Rattle.record_table.proofs.Holding.{as_many_writes}
use Rattle.record_table.proofs.Sharing.{Laws}
use Rattle.record_table.proofs.KeptNames.{kept_as}
use Rattle.record_table.proofs.records.Records.commit.Goals as goal

pub invariant_of-self : goal.invariant_of-self
invariant_of-self g c =
    let K = g.met.K.KeyIndex in
    let V = g.S.EawStore.view in
    let laws : Laws g.K.KeyIndex.index = record { rises = K.rises; given = K.given; counts = K.counts; rests = K.rests; extends = K.extends } in
    let inside = c.self.inside.pages in
    kept_as V c.args.self.now inside c.self.view_is (ended V g.S.EawStore.tells g.S.EawStore.opens g.K.KeyIndex.index 0 c.args.tid (Control Commit) c.args.self.now inside c.self.view_is (page.end c.args.tid true) c.end.new.self c.self.invariant.0
    (λ alive. commit_is g.S.EawStore.tells g.K.KeyIndex.index laws (pages_of (V inside.store) inside) (c.self.invariant.0 alive) 0 c.args.tid) (Unit {0}) (λ done. Committed 0) c.end.result c.end.ensures.does
    (err_same c.end.result c.end.ensures.refused) (λ told. always c.end.result tt) c.told.result c.told.ensures) c.self.invariant.1

pub returns-clause-does : goal.returns-clause-does
returns-clause-does g c n =
    let K = g.met.K.KeyIndex in
    let V = g.S.EawStore.view in
    let laws : Laws g.K.KeyIndex.index = record { rises = K.rises; given = K.given; counts = K.counts; rests = K.rests; extends = K.extends } in
    let inside = c.self.inside.pages in
    (ended V g.S.EawStore.tells g.S.EawStore.opens g.K.KeyIndex.index 0 c.args.tid (Control Commit) c.args.self.now inside c.self.view_is (page.end c.args.tid true) c.end.new.self c.self.invariant.0
    (λ alive. commit_is g.S.EawStore.tells g.K.KeyIndex.index laws (pages_of (V inside.store) inside) (c.self.invariant.0 alive) 0 c.args.tid) (Unit {0}) (λ done. Committed n) c.end.result c.end.ensures.does
    (err_same c.end.result c.end.ensures.refused) (λ told. always c.end.result tt) c.told.result c.told.ensures).0

pub returns-clause-due : goal.returns-clause-due
returns-clause-due g c = λ told alive failed.
    let V = g.S.EawStore.view in
    let inside = c.self.inside.pages in
    let living : IsAlive (V inside.store) = subst (λ p. IsAlive (V p.store)) (sym c.self.view_is) alive in
    let many = as_many_writes g.K.KeyIndex.index (pages_of (V inside.store) inside) c.args.tid (g.met.S.EawStore.outlines inside.store c.args.tid told living) in
    let due = (c.end.ensures.due (media_told c.end.result c.told.result c.told.ensures failed)).1 in
    subst (λ p. 0 < length ((state_of g.K.KeyIndex.index (pages_of (V p.store) p)).logs c.args.tid).writes) c.self.view_is (subst (λ (n : ℕ). 0 < n) many due)

pub returns-clause-free : goal.returns-clause-free
returns-clause-free g c =
    let V = g.S.EawStore.view in
    let inside = c.self.inside.pages in
    freed g.S.EawStore.tells (g.S.EawStore.opens (V inside.store).shape) c.args.tid true (pages_of (V inside.store) inside) (pages_of (V c.end.new.self.store) c.end.new.self) c.end.result c.told.result c.end.ensures.does c.told.ensures
