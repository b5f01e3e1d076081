use Rattle.page_store.specs.Shown.{Shown}
use Rattle.mars_core.specs.Attached.{GivesBack}
use Rattle.mars_core.proofs.Attaching.{gives_same}
use Rattle.std.proofs.Common.{◌≡◌, false, ap, sym, subst, ◌∙◌}
use Rattle.array_shape.specs.declared.shape.Shape.{Shape}
use Rattle.page_store.specs.Shown.{pages_of}
use Rattle.history.specs.Rows.{records_in}
use Rattle.mars_core.proofs.Prefixes.{StoreLaws}
use Rattle.mars_core.proofs.Opening.{opened_keeps, opened_begins}
use Rattle.mars_core.proofs.turns.begin_over.Given.{Over}
use Rattle.mars_core.proofs.turns.begin_over.Goals as goal

laws_at : (g : Over) (store : g.row.S.Denot) → StoreLaws g.S.EawStore.tells g.S.EawStore.opens (g.S.EawStore.view store)
laws_at g store = record {
  long = λ told. g.met.S.EawStore.long store told;
  some = λ told alive. g.met.S.EawStore.some_now store told alive;
  counts = λ told t image le left. g.met.S.EawStore.counts_now store t image told le left;
  only = λ told alive image left. g.met.S.EawStore.only_now store image told alive left;
}

pub invariant_of-result : goal.invariant_of-result
invariant_of-result g c =
    let V = g.S.EawStore.view in
    let after = c.in_ok-records.records in
    opened_keeps g.S.EawStore.tells g.S.EawStore.opens g.K.KeyIndex.index (pages_of (V c.args.records.store) c.args.records) (pages_of (V after.store) after) (laws_at g after.store) c.requires.alive c.requires.sound c.requires.idle c.requires.unsaved c.requires.unmarked
    c.in_ok-records.ensures.upgrades c.in-Ok.base (λ told. ap records_in c.in-Ok.ensures ∙ c.requires.base told) c.requires.free c.in-Ok-new.seats (λ told. c.in-Ok-new.ensures.names ∙ c.names.ensures.names told c.requires.alive) (c.in-Ok-new.ensures.count ∙ ap (λ (h : Shape). h.numbers) c.shape.ensures) c.in-Ok-new.ensures.none c.in-Ok-new.ensures.unoffered c.new-2.result.items c.new-2.ensures.items c.none.result c.none.ensures

pub returns-clause-begins : goal.returns-clause-begins
returns-clause-begins g c =
    let V = g.S.EawStore.view in
    let after = c.in_ok-records.records in
    opened_begins g.S.EawStore.tells g.S.EawStore.opens g.K.KeyIndex.index (pages_of (V c.args.records.store) c.args.records) (pages_of (V after.store) after) (laws_at g after.store) c.requires.alive c.requires.sound c.requires.idle c.requires.unsaved c.requires.unmarked
    c.in_ok-records.ensures.upgrades c.in-Ok.base (λ told. ap records_in c.in-Ok.ensures ∙ c.requires.base told) c.requires.free c.in-Ok-new.seats (λ told. c.in-Ok-new.ensures.names ∙ c.names.ensures.names told c.requires.alive) (c.in-Ok-new.ensures.count ∙ ap (λ (h : Shape). h.numbers) c.shape.ensures) c.in-Ok-new.ensures.none c.in-Ok-new.ensures.unoffered c.new-2.result.items c.new-2.ensures.items c.none.result c.none.ensures

pub returns-in-Err-clause-begins : goal.returns-in-Err-clause-begins
returns-in-Err-clause-begins g c = tt

pub returns-in-Err-clause-cause : goal.returns-in-Err-clause-cause
returns-in-Err-clause-cause g c = tt

pub returns-clause-cause : goal.returns-clause-cause
returns-clause-cause g c = tt

pub returns-clause-gives_back : goal.returns-clause-gives_back
returns-clause-gives_back g c = tt

pub returns-in-Err-clause-gives_back : goal.returns-in-Err-clause-gives_back
returns-in-Err-clause-gives_back g c =
    let s = g.S.EawStore in
    let store : c.into_store.result ≡ c.args.records.store = c.into_store.ensures ∙ ap (λ (r : Shown g.row.S.Denot). r.store) c.into_pages.ensures in
    subst (λ (st : g.row.S.Denot). GivesBack g.S.EawStore.tells (g.S.EawStore.opens (g.S.EawStore.view c.args.records.store).shape) false (g.S.EawStore.view c.args.records.store) (g.S.EawStore.view st)) (sym store)
    (gives_same s.tells (s.opens (s.view c.args.records.store).shape) (s.view c.args.records.store))

pub returns-in-Err-new-clause-gives_back : goal.returns-in-Err-new-clause-gives_back
returns-in-Err-new-clause-gives_back g c =
    let s = g.S.EawStore in
    let store : c.into_store-in-Err-new.result ≡ c.args.records.store = c.into_store-in-Err-new.ensures ∙ ap (λ (r : Shown g.row.S.Denot). r.store) c.into_pages-in-Err-new.ensures in
    subst (λ (st : g.row.S.Denot). GivesBack g.S.EawStore.tells (g.S.EawStore.opens (g.S.EawStore.view c.args.records.store).shape) false (g.S.EawStore.view c.args.records.store) (g.S.EawStore.view st)) (sym store)
    (gives_same s.tells (s.opens (s.view c.args.records.store).shape) (s.view c.args.records.store))
