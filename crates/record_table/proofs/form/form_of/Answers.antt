use Rattle.std.proofs.Common.{◌≤◌, ◌*◌, refl, sym, subst}
use Rattle.array_shape.specs.declared.shape.Shape.{Shape}
use Rattle.array_shape.specs.Places.{page_count}
use Rattle.std.proofs.lemmas.Bool.{false≢true}
use Rattle.record_table.specs.Form.{form_number}
use Rattle.record_table.proofs.Fronts.{first_page, unmarked, is_super, miscounted, untabled, of_neither}
use Rattle.record_table.proofs.form.form_of.Goals as goal

pub returns-in_default-clause-cause : goal.returns-in_default-clause-cause
returns-in_default-clause-cause g c =
    let store = c.args.store.now in
    let view = g.S.EawStore.view store in (
      c.in-Ok.ensures.does.cause.0,
      refl,
      λ told. unmarked view.shape view.state.bytes c.read.new.buf (g.met.S.EawStore.long store told) (first_page _ _ (c.in-Ok.ensures.bytes told)) c.in_default.ensures.unmarked,
    )

pub returns-then-not-has_counts-clause-cause : goal.returns-then-not-has_counts-clause-cause
returns-then-not-has_counts-clause-cause g c =
    let store = c.args.store.now in
    let view = g.S.EawStore.view store in (
      c.in-Ok.ensures.does.cause.0,
      refl,
      λ told. miscounted view.shape view.state.bytes c.read.new.buf (g.met.S.EawStore.long store told) (first_page _ _ (c.in-Ok.ensures.bytes told)) c.in-Some.front c.in-Some.ensures.says
          (λ counts. false≢true (c.if-not-has_counts.ensures.1 (subst (λ (s : Shape). (c.in-Some.front.next_slot ≤ 4 * page_count s) × (2 ≤ c.in-Some.front.next_page) × (2 * c.in-Some.front.next_page ≤ page_count s)) (sym c.shape-shape.ensures) counts))),
    )

pub returns-then-not-has_tables-clause-cause : goal.returns-then-not-has_tables-clause-cause
returns-then-not-has_tables-clause-cause g c =
    let store = c.args.store.now in
    let view = g.S.EawStore.view store in (
      c.in-Ok.ensures.does.cause.0,
      refl,
      λ told. untabled view.shape view.state.bytes c.read.new.buf (g.met.S.EawStore.long store told) (first_page _ _ (c.in-Ok.ensures.bytes told)) c.in-Some.front c.in-Some.ensures.says
          (λ tables. false≢true (c.if-not-has_tables.ensures.1 tables)),
    )

pub returns-in-Some-numbered-clause-cause : goal.returns-in-Some-numbered-clause-cause
returns-in-Some-numbered-clause-cause g c =
    let store = c.args.store.now in
    let view = g.S.EawStore.view store in (
      c.in-Ok.ensures.does.cause.0,
      λ told. is_super view.shape view.state.bytes c.read.new.buf (g.met.S.EawStore.long store told) (first_page _ _ (c.in-Ok.ensures.bytes told)) c.in-Some.front c.in-Some.ensures.says
          (subst (λ (s : Shape). (c.in-Some.front.next_slot ≤ 4 * page_count s) × (2 ≤ c.in-Some.front.next_page) × (2 * c.in-Some.front.next_page ≤ page_count s)) c.shape-shape.ensures (c.if-not-has_counts.ensures.0 refl)) (c.if-not-has_tables.ensures.0 refl) (form_number c.in-Some-numbered.form) c.in-Some-numbered.ensures.some,
    )

pub returns-in-None-clause-cause : goal.returns-in-None-clause-cause
returns-in-None-clause-cause g c =
    let store = c.args.store.now in
    let view = g.S.EawStore.view store in (
      c.in-Ok.ensures.does.cause.0,
      refl,
      λ told. of_neither view.shape view.state.bytes c.read.new.buf (g.met.S.EawStore.long store told) (first_page _ _ (c.in-Ok.ensures.bytes told)) c.in-Some.front c.in-Some.ensures.says c.in-None.ensures.none.0 c.in-None.ensures.none.1,
    )
