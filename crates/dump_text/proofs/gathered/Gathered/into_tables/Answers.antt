use Rattle.std.proofs.Common.{◌≡◌, List, [], ◌∷◌, ◌++◌, append_assoc, sym, ap, subst, ◌∙◌, arith}
use Rattle.std.specs.List.{All}
use Rattle.std.proofs.lemmas.List.Elements.{All-append, All-cons}
use Rattle.history.specs.Rows.{NamedRows}
use Rattle.history.specs.Writes.{Row}
use Rattle.dump_text.specs.Dump.{AreRising}
use Rattle.dump_text.proofs.gathered.Gathered.into_tables.Goals as goal

pub loop-name-preserved : goal.loop-name-preserved
loop-name-preserved c =
    let done : List NamedRows = c.loop-name.tables in
    let name = c.in-Some.name in
    let rows = c.in_ok-into_rows.field-0 in
    let rest : List NamedRows = c.next.new.self.rest.items in
    let added = c.in_ok-push.ensures.ok in
    let same : c.push.new.self ≡ done ++ (name, c.in-Some.rows) ∷ [] = added ∙ ap (λ (l : List Row). done ++ (name, l) ∷ []) c.in_ok-into_rows.ensures.same in (
      ap (λ (l : List NamedRows). l ++ rest) same ∙ append_assoc done ((name, c.in-Some.rows) ∷ []) rest ∙ ap (λ (l : List NamedRows). done ++ l) (sym c.in-Some.ensures.steps.0) ∙ c.loop-name.invariant.0,
      subst (All AreRising) (sym added) (All-append AreRising done ((name, rows) ∷ []) c.loop-name.invariant.1 (All-cons AreRising (name, rows) [] c.in_ok-into_rows.ensures.rising (λ k d within. absurd (omega (arith, within))))),
    )
