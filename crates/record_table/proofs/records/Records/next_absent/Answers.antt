use Rattle.index_pages.proofs.Looking.{looks_none}
use Rattle.std.proofs.Common.{List, [], ℕ, Bool, Option, Result, subst, sym, arith}
use Rattle.record_table.specs.Does as answers
use Rattle.record_table.specs.Walked.{Walked, data_cost}
use Rattle.record_table.proofs.Walking.{told_failed}
use Rattle.record_table.specs.Names.{name_at}
use Rattle.record_table.proofs.Sharing.{called_below}
use Rattle.record_table.proofs.Rooted.{rooted_as, inside_as, called_inside}
use Rattle.page_store.specs.Shown.{pages_of}
use Rattle.record_table.proofs.Following.{holds_looked}
use Rattle.record_table.proofs.KeptNames.{kept_by_look}
use Rattle.page_store.specs.Shown.{Shown}
use Rattle.record_table.specs.Faults.{told_as}
use Rattle.record_table.specs.Hearing.{Hearing, HearsAbsent}
use Rattle.record_table.proofs.records.Records.next_absent.Goals as goal

pub invariant_of-self : goal.invariant_of-self
invariant_of-self g c =
    let V = g.S.EawStore.view in
    let inside = c.self.inside.pages in
    let new = c.next_absent.new.pages in
    let E = g.S.EawStore.opens (V inside.store).shape in (
      holds_looked g.S.EawStore.tells E g.K.KeyIndex.index (pages_of (V inside.store) inside) (pages_of (V new.store) new) _ (sym c.if-is_dead.ensures.dead) c.self.invariant.0 c.next_absent.ensures.looks,
      kept_by_look g.S.EawStore.tells E (pages_of (V inside.store) inside) (pages_of (V new.store) new) _ _ _ c.next_absent.ensures.looks c.self.invariant.1,
    )

pub next_absent-requires-clause-named : goal.next_absent-requires-clause-named
next_absent-requires-clause-named g c =
    let V = g.S.EawStore.view in
    let name = name_at (V c.args.self.now.store).state.bytes c.args.table in
    let root = c.of_table-root.result in
    let calls = called_inside g.S.EawStore.tells V c.args.self.now c.self.inside.pages c.self.view_is c.args.table name (λ told alive. called_below (V c.args.self.now.store).state.bytes c.args.table (c.requires.there told alive)) in
    let roots = rooted_as g.S.EawStore.tells (pages_of (V c.self.inside.pages.store) c.self.inside.pages) c.self.inside.roots.at c.args.table c.requires.table c.self.invariant.1.1 name calls c.of_table-root.result c.of_table-root.ensures in
    roots

pub next_absent-requires-clause-root : goal.next_absent-requires-clause-root
next_absent-requires-clause-root g c = inside_as g.S.EawStore.tells (pages_of (g.S.EawStore.view c.self.inside.pages.store) c.self.inside.pages) c.self.inside.roots.at c.args.table c.requires.table c.self.invariant.1.1 c.of_table-root.result c.of_table-root.ensures

pub returns-then-is_dead-clause-looks : goal.returns-then-is_dead-clause-looks
returns-then-is_dead-clause-looks g c =
    let V = g.S.EawStore.view in
    let now = c.args.self.now in
    looks_none g.S.EawStore.tells (g.S.EawStore.opens (V now.store).shape) (pages_of (V now.store) now)

pub returns-clause-hears : goal.returns-clause-hears
returns-clause-hears g c =
    let V = g.S.EawStore.view in (
      c.next_absent.new.hearings.said,
      rw c.told.ensures (subst (λ (p : Shown g.row.S.Denot). HearsAbsent (V p.store).shape c.next_absent.new.hearings.said (told_as c.next_absent.result)) c.self.view_is c.next_absent.ensures.hears),
      c.of_table-root.result,
      rw c.told.ensures (
          subst (λ (p : Shown g.row.S.Denot). Walked g.K.KeyIndex.access c.of_table-root.result (g.S.EawStore.calls p.store) (data_cost (g.S.EawStore.calls p.store) (V p.store).shape) (V p.store).shape (answers.is_failed (told_as c.next_absent.result)) (V p.store).moment (V c.next_absent.new.pages.store).moment c.next_absent.new.hearings.said) c.self.view_is
          (subst (λ (failed : Bool). Walked g.K.KeyIndex.access c.of_table-root.result (g.S.EawStore.calls c.self.inside.pages.store) (data_cost (g.S.EawStore.calls c.self.inside.pages.store) (V c.self.inside.pages.store).shape) (V c.self.inside.pages.store).shape failed (V c.self.inside.pages.store).moment (V c.next_absent.new.pages.store).moment c.next_absent.new.hearings.said) (sym (told_failed c.next_absent.result)) c.next_absent.ensures.walks)
          ),
    )

pub returns-then-is_dead-clause-hears : goal.returns-then-is_dead-clause-hears
returns-then-is_dead-clause-hears g c = let none : List Hearing = [] in (none, tt, 0, record { looks = []; are = tt; few = omega arith; few_heard = omega arith; exact = λ well. omega arith })
