use Rattle.std.proofs.Common.{◌≡◌, get_or, inl, inr, refl, sym, ◌∙◌, ap, arith}
use Rattle.std.specs.Prelude.{slice_get}
use Rattle.std.specs.Cmp.Lexicographic.{same_text, other_text}
use Rattle.std.proofs.lemmas.Bool.{cases_eq, false≢true}
use Rattle.history.specs.Rows.{NamedRows}
use Rattle.table_builder.proofs.Pieces.{get_read, same_item}
use Rattle.table_builder.proofs.checking.has_own_name.Goals as goal

pub returns-then-eq : goal.returns-then-eq
returns-then-eq c =
    let one = get_read c.args.tables.now c.loop-i.i (get_or c.args.tables.now c.loop-i.i c.index-tables-i.result) c.index-tables-i.result (omega (arith, c.loop-i-test.true, c.requires)) refl in
    let two = get_read c.args.tables.now c.args.j (get_or c.args.tables.now c.args.j c.index-tables-j.result) c.index-tables-j.result c.requires refl in (
      λ e. absurd (false≢true e),
      λ own. absurd (own c.loop-i.i (get_or c.args.tables.now c.loop-i.i c.index-tables-i.result) (get_or c.args.tables.now c.args.j c.index-tables-j.result) c.loop-i-test.true one two
          (sym c.as_bytes.ensures.text ∙ same_text _ _ c.if-eq.ensures ∙ c.as_bytes-in-loop-i.ensures.text)),
    )

pub loop-i-preserved : goal.loop-i-preserved
loop-i-preserved c = λ k one two lt is is'. elim (cases_eq k c.loop-i.i) [
  | inl here ↦
      let first : get_or c.args.tables.now c.loop-i.i c.index-tables-i.result ≡ one =
      same_item (get_or c.args.tables.now c.loop-i.i c.index-tables-i.result) one
      (sym (get_read c.args.tables.now c.loop-i.i (get_or c.args.tables.now c.loop-i.i c.index-tables-i.result) c.index-tables-i.result (omega (arith, c.loop-i-test.true, c.requires)) refl)
      ∙ ap (slice_get c.args.tables.now) (sym here) ∙ is) in
      let second : get_or c.args.tables.now c.args.j c.index-tables-j.result ≡ two =
      same_item (get_or c.args.tables.now c.args.j c.index-tables-j.result) two
      (sym (get_read c.args.tables.now c.args.j (get_or c.args.tables.now c.args.j c.index-tables-j.result) c.index-tables-j.result c.requires refl) ∙ is') in
      λ e. other_text _ _ c.if-eq.ensures
      (c.as_bytes.ensures.text ∙ ap (λ (t : NamedRows). t.0) first ∙ e ∙ sym (ap (λ (t : NamedRows). t.0) second) ∙ sym c.as_bytes-in-loop-i.ensures.text)
  | inr other ↦ c.loop-i.invariant k one two (omega (arith, lt, other)) is is'
]
