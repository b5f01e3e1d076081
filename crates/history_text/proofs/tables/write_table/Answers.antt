use Rattle.std.proofs.Common.{ℕ, ◌+◌, List, [], ◌∷◌, ◌++◌, take, append_assoc, append-nil, sym, arith, ap, ◌∙◌}
use Rattle.std.specs.List.{flat_map}
use Rattle.std.proofs.lemmas.List.{take_more, take_all}
use Rattle.std.proofs.lemmas.List.Concat.{flat_map-append}
use Rattle.history.specs.Writes.{Row}
use Rattle.history_text.proofs.TableLines.{row_line, keyed_lines}
use Rattle.history_text.proofs.tables.write_table.Goals as goal

pub loop-row-preserved : goal.loop-row-preserved
loop-row-preserved c =
    let name = c.args.name.now in
    let old = c.args.text.now.items in
    let rows : List Row = c.as_slice-row-items.result.now in
    let i = c.loop-row.row-index in
    let row : Row = c.row-item.result in
    let front = flat_map (row_line name) (take i rows) in
    c.in_ok-write_row.ensures ∙ ap (λ (l : List ℕ). l ++ row_line name row) (c.loop-row.invariant ∙ ap (λ (xs : List Row). old ++ flat_map (row_line name) (take i xs)) (sym c.as_slice-row-items.ensures)) ∙ append_assoc old front (row_line name row)
    ∙ ap (λ (l : List ℕ). old ++ l)
    (ap (λ (l : List ℕ). front ++ l) (sym (append-nil (row_line name row))) ∙ sym (flat_map-append (row_line name) (take i rows) (row ∷ []))
    ∙ ap (λ (r : Row). flat_map (row_line name) (take i rows ++ r ∷ [])) c.row-item.is ∙ ap (flat_map (row_line name)) (sym (take_more rows i row c.loop-row-test.true)))
    ∙ ap (λ (xs : List Row). old ++ flat_map (row_line name) (take (i + 1) xs)) c.as_slice-row-items.ensures

pub returns : goal.returns
returns c =
    let rows = c.as_slice-row-items.result.now in
    c.loop-row.invariant ∙ ap (λ (l : List ℕ). c.args.text.now.items ++ l) (ap (flat_map (row_line c.args.name.now)) (ap (take c.loop-row.row-index) (sym c.as_slice-row-items.ensures) ∙ take_all c.loop-row.row-index rows (omega (arith, c.loop-row-test.false)) ∙ c.as_slice-row-items.ensures) ∙ keyed_lines c.args.name.now c.args.rows.now)
