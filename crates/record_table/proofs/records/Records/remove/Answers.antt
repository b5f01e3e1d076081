use Rattle.record_table.specs.Names.{name_at}
use Rattle.record_table.proofs.Sharing.{called_below}
use Rattle.record_table.proofs.Rooted.{rooted_as, inside_as, called_inside}
use Rattle.page_store.specs.Shown.{pages_of}
use Rattle.std.proofs.Common.{ℕ, IsTrue, subst}
use Rattle.page_store.specs.Shown.{Shown}
use Rattle.eaw_face.specs.Causes.{IsAlive}
use Rattle.page_store.specs.Index.{IsTable}
use Rattle.record_table.specs.Blames.{BlamesOne}
use Rattle.record_table.specs.Works.{RemovesFrom}
use Rattle.record_table.specs.Faults.{told_as}
use Rattle.record_table.proofs.records.Records.remove.Goals as goal

pub remove-requires-clause-named : goal.remove-requires-clause-named
remove-requires-clause-named g c =
    let V = g.S.EawStore.view in
    let name = name_at (V c.args.self.now.store).state.bytes c.args.table in
    let root = c.of_table-root.result in
    let calls = called_inside g.S.EawStore.tells V c.args.self.now c.self.inside.pages c.self.view_is c.args.table name (λ told alive. called_below (V c.args.self.now.store).state.bytes c.args.table (c.requires.there told alive)) in
    let roots = rooted_as g.S.EawStore.tells (pages_of (V c.self.inside.pages.store) c.self.inside.pages) c.self.inside.roots.at c.args.table c.requires.table c.self.invariant.1.1 name calls c.of_table-root.result c.of_table-root.ensures in
    roots

pub remove-requires-clause-root : goal.remove-requires-clause-root
remove-requires-clause-root g c = inside_as g.S.EawStore.tells (pages_of (g.S.EawStore.view c.self.inside.pages.store) c.self.inside.pages) c.self.inside.roots.at c.args.table c.requires.table c.self.invariant.1.1 c.of_table-root.result c.of_table-root.ensures

pub returns-clause-blames : goal.returns-clause-blames
returns-clause-blames g c =
    let V = g.S.EawStore.view in
    rw c.told.ensures (subst (λ (p : Shown g.row.S.Denot). BlamesOne (V p.store).shape (told_as c.remove.result)) c.self.view_is c.remove.ensures.blames)

pub returns-clause-works : goal.returns-clause-works
returns-clause-works g c =
    let V = g.S.EawStore.view in
    let T = g.S.EawStore.tells in
    let name = name_at (V c.args.self.now.store).state.bytes c.args.table in
    let root = c.of_table-root.result in
    let calls = called_inside T V c.args.self.now c.self.inside.pages c.self.view_is c.args.table name (λ told alive. called_below (V c.args.self.now.store).state.bytes c.args.table (c.requires.there told alive)) in
    let roots = rooted_as T (pages_of (V c.self.inside.pages.store) c.self.inside.pages) c.self.inside.roots.at c.args.table c.requires.table c.self.invariant.1.1 name calls root c.of_table-root.ensures in
    rw c.told.ensures (
      root,
      subst (λ (p : Shown g.row.S.Denot). RemovesFrom T V g.S.EawStore.calls g.K.KeyIndex.index g.K.KeyIndex.access c.args.tid root c.args.key (V p.store) (V c.remove.new.pages.store) (told_as c.remove.result)) c.self.view_is c.remove.ensures.works,
      subst (λ (p : Shown g.row.S.Denot). IsTrue T → IsAlive (V p.store) → IsTable (V p.store).state.bytes c.args.table root) c.self.view_is roots,
    )
