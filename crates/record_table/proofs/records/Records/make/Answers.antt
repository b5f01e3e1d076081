use Rattle.std.proofs.Common.{ℕ, IsTrue, sym, subst}
use Rattle.std.specs.Prelude.{slice_set}
use Rattle.page_store.specs.Shown.{pages_of}
use Rattle.record_table.specs.Names.{KeepsTables}
use Rattle.record_table.proofs.KeptNames.{tables_kept}
use Rattle.record_table.proofs.Rooted.{one_more}
use Rattle.record_table.proofs.records.Records.make.Goals as goal

pub invariant_of-self-2 : goal.invariant_of-self-2
invariant_of-self-2 g c =
    let V = g.S.EawStore.view in
    let T = g.S.EawStore.tells in
    let inside = c.self.inside.pages in
    let new = c.make.new.pages in
    let makes = c.in_ok-number.ensures.makes in (
      c.in_ok-number.ensures.holds,
      subst (λ (n : ℕ). KeepsTables g.S.EawStore.tells (pages_of (g.S.EawStore.view c.make.new.pages.store) c.make.new.pages) c.push.new.self (slice_set c.self.inside.roots.at n c.make.new.root)) (sym c.from.ensures)
          (one_more T (pages_of (V inside.store) inside) (pages_of (V new.store) new) c.args.name.now c.in_ok-number.number c.make.new.root c.self.inside.names c.push.new.self c.self.inside.roots.at c.self.invariant.1
          makes.shape makes.cause.0 c.in_ok-number.ensures.number c.push.ensures.added c.push.ensures.full (λ told. ((makes.cause.1 told).1, (makes.cause.1 told).2)) (λ told. makes.tables told) (λ told. c.in_ok-number.ensures.root told) c.in_ok-number.ensures.inside),
    )

pub invariant_of-self : goal.invariant_of-self
invariant_of-self g c =
    let V = g.S.EawStore.view in
    let inside = c.self.inside.pages in
    let new = c.make.new.pages in
    let makes = c.in_err-number.ensures.makes in (
      c.in_err-number.ensures.holds,
      tables_kept g.S.EawStore.tells (pages_of (V inside.store) inside) (pages_of (V new.store) new) c.self.inside.names c.self.inside.roots.at _ makes.shape makes.faults makes.dies
          (λ told well. makes.same_tables told well) c.self.invariant.1,
    )
