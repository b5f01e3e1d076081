use Rattle.std.proofs.Common.{◌≡◌, ℕ, List, [], sym, subst, ap, ◌∙◌}
use Rattle.std.specs.Prelude.{Option, None}
use Rattle.eaw_face.specs.State.{listed}
use Rattle.eaw_face.specs.Causes.{IsAlive}
use Rattle.page_store.specs.Shown.{Shown, pages_of}
use Rattle.mars_core.specs.Attached.{is_media_fault, CoreCause, LeftAsItWas}
use Rattle.mars_core.specs.Making.{MakesTable}
use Rattle.mars_core.specs.declared.fault.CoreFault.{CoreFault}
use Rattle.mars_core.proofs.Attaching.{attach_cause, attach_left}
use Rattle.mars_core.proofs.Prefixes.{StoreLaws}
use Rattle.mars_core.proofs.Tabled.{made_table}
use Rattle.mars_core.proofs.making.make_table.Given.{Over}
use Rattle.mars_core.proofs.making.make_table.Goals as goal

laws_at : (g : Over) (store : g.row.S.Denot) → StoreLaws g.S.EawStore.tells g.S.EawStore.opens (g.S.EawStore.view store)
laws_at g store = record {
  long = λ told. g.met.S.EawStore.long store told;
  some = λ told alive. g.met.S.EawStore.some_now store told alive;
  counts = λ told t image le left. g.met.S.EawStore.counts_now store t image told le left;
  only = λ told alive image left. g.met.S.EawStore.only_now store image told alive left;
}

pub attach-requires : goal.attach-requires
attach-requires g c = record { idle = λ alive t. subst (λ (s : g.row.S.Denot). listed ((g.S.EawStore.view s).ranges t) ≡ []) (sym c.attach_in.ensures.store) (ap listed (c.requires.idle t)); closed = λ alive t. (c.attach_in.ensures.fresh t).1 }

pub make-made-requires : goal.make-made-requires
make-made-requires g c = record { free = ap (λ (f : ℕ → Option (List (ℕ × ℕ))). f 0) c.in-Ok.ensures.attached.looks.ranges ∙ subst (λ (s : g.row.S.Denot). (g.S.EawStore.view s).ranges 0 ≡ None) (sym c.attach_in.ensures.store) (c.requires.idle 0) }

pub returns-in-Err : goal.returns-in-Err
returns-in-Err g c =
    let s = g.S.EawStore in
    let cause = attach_cause s.tells g.K.KeyIndex.index (s.view c.attach_in.result.store) c.in-Err.fault c.in-Err.ensures.cause in
    let alive = subst (λ (st : g.row.S.Denot). IsAlive (g.S.EawStore.view st)) (sym c.attach_in.ensures.store) c.requires.alive in
    let left = attach_left s.tells (s.opens (s.view c.attach_in.result.store).shape) g.K.KeyIndex.index (pages_of (s.view c.attach_in.result.store) c.attach_in.result) (pages_of (s.view c.in-Err.pages.store) c.in-Err.pages) alive c.in-Err.fault c.in-Err.ensures.cause c.in-Err.ensures.looks in
    record {
      makes = tt;
      cause = subst (λ (x : g.row.S.Denot × CoreFault). CoreCause g.S.EawStore.tells g.K.KeyIndex.index (g.S.EawStore.view x.0) x.1) (λ i. (c.attach_in.ensures.store i, sym c.from.ensures i)) cause;
      left = subst (λ (x : g.row.S.Denot × CoreFault × g.row.S.Denot). LeftAsItWas g.S.EawStore.tells (g.S.EawStore.opens (g.S.EawStore.view x.0).shape) (is_media_fault x.1) (g.S.EawStore.view x.0) (g.S.EawStore.view x.2)) (λ i. (c.attach_in.ensures.store i, sym c.from.ensures i, sym c.into_store.ensures i)) left;
    }

pub returns : goal.returns
returns g c =
    let V = g.S.EawStore.view in
    let p = c.attach_in.result in
    let q = c.in-Ok.attached.0 in
    let r = c.make-made.new.self in
    let made = made_table g.S.EawStore.tells g.S.EawStore.opens g.K.KeyIndex.index g.met.S.EawStore.one_data (pages_of (V p.store) p) (pages_of (V q.store) q) (pages_of (V r.store) r) (laws_at g p.store) (laws_at g q.store) (laws_at g r.store) c.args.name.now
    c.in-Ok.ensures.attached c.make-made.result c.make-made.ensures.makes in
    let store : c.into_store-store.result ≡ c.make-made.new.self.store = c.into_store-store.ensures ∙ ap (λ (x : Shown g.row.S.Denot). x.store) c.into_pages.ensures in
    record {
      makes = subst (λ (x : g.row.S.Denot × g.row.S.Denot). MakesTable g.S.EawStore.tells (g.S.EawStore.opens (g.S.EawStore.view x.0).shape) g.K.KeyIndex.index c.args.name.now (g.S.EawStore.view x.0) (g.S.EawStore.view x.1) c.make-made.result)
          (λ i. (c.attach_in.ensures.store i, sym store i)) made;
      cause = tt;
      left = tt;
    }
