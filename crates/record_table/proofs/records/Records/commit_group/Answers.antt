use Rattle.std.proofs.Common.{ℕ, ◌<◌, length, sym, subst}
use Rattle.array_shape.specs.NumberSet.{members}
use Rattle.eaw_face.specs.Causes.{IsAlive}
use Rattle.page_store.specs.Shown.{pages_of}
use Rattle.record_table.specs.Groups.{group_writes}
use Rattle.record_table.specs.Shown.{state_of}
use Rattle.record_table.proofs.Ending.{err_same, media_told}
use Rattle.record_table.proofs.Grouping.{group_ended, as_many_in_group}
use Rattle.record_table.proofs.Sharing.{Laws}
use Rattle.record_table.proofs.KeptNames.{group_kept_as}
use Rattle.record_table.proofs.records.Records.commit_group.Goals as goal

pub invariant_of-self : goal.invariant_of-self
invariant_of-self g c =
    let K = g.met.K.KeyIndex in
    let V = g.S.EawStore.view in
    let laws : Laws g.K.KeyIndex.index = record { rises = K.rises; given = K.given; counts = K.counts; rests = K.rests; extends = K.extends } in
    let inside = c.self.inside.pages in
    group_kept_as V c.args.self.now inside c.self.view_is (group_ended V g.S.EawStore.tells g.S.EawStore.opens g.K.KeyIndex.index laws (members c.args.tids) c.args.self.now inside c.self.view_is c.end_group.new.self c.self.invariant.0 c.end_group.result c.end_group.ensures.does
    (err_same c.end_group.result c.end_group.ensures.refused) c.told.result c.told.ensures) c.self.invariant.1

pub returns-clause-does : goal.returns-clause-does
returns-clause-does g c =
    let K = g.met.K.KeyIndex in
    let V = g.S.EawStore.view in
    let laws : Laws g.K.KeyIndex.index = record { rises = K.rises; given = K.given; counts = K.counts; rests = K.rests; extends = K.extends } in
    let inside = c.self.inside.pages in
    (group_ended V g.S.EawStore.tells g.S.EawStore.opens g.K.KeyIndex.index laws (members c.args.tids) c.args.self.now inside c.self.view_is c.end_group.new.self c.self.invariant.0 c.end_group.result c.end_group.ensures.does
    (err_same c.end_group.result c.end_group.ensures.refused) c.told.result c.told.ensures).0

pub returns-clause-due : goal.returns-clause-due
returns-clause-due g c = λ told alive failed.
    let V = g.S.EawStore.view in
    let inside = c.self.inside.pages in
    let living : IsAlive (V inside.store) = subst (λ p. IsAlive (V p.store)) (sym c.self.view_is) alive in
    let many = as_many_in_group g.K.KeyIndex.index (pages_of (V inside.store) inside) (members c.args.tids) (λ t. g.met.S.EawStore.outlines inside.store t told living) in
    let due = c.end_group.ensures.due (media_told c.end_group.result c.told.result c.told.ensures failed) in
    subst (λ p. 0 < length (group_writes (state_of g.K.KeyIndex.index (pages_of (V p.store) p)) (members c.args.tids))) c.self.view_is (subst (λ (n : ℕ). 0 < n) many due)
