use Rattle.std.proofs.Common.{◌≡◌, ℕ, ◌+◌, ◌-◌, ◌<◌, arith, length, ap, sym, ◌∙◌, ◌++◌, ◌∷◌, [], List}
use Rattle.std.specs.Prelude.{slice_set}
use Rattle.std.proofs.lemmas.Result.{on_ok_weaker}
use Rattle.history.specs.Key.{of_table}
use Rattle.history.specs.Writes.{Row}
use Rattle.history.specs.Rows.{NamedRows, records_in}
use Rattle.history.proofs.Keys.{name_decides}
use Rattle.history.proofs.Adding.{same_item, records-add, records-push}
use Rattle.history.proofs.rows.Tables.add.Goals as goal

pub returns-then-eq : goal.returns-then-eq
returns-then-eq c =
    let items = c.self.inside.tables.items in
    let n = c.len-count.result - 1 in
    let last = c.index_mut.result.now in
    let count : length items ≡ n + 1 = omega (arith, c.len-count.ensures, c.if-count-gt0.true) in
    let within : n < length items = omega (arith, count) in
    let name : last.0 ≡ c.args.table = ap (λ (table : NamedRows). table.0) (same_item items n last c.index.result.now within c.index_mut.ensures.value c.index.ensures)
    ∙ sym c.as_bytes.ensures.text ∙ (name_decides c.as_bytes.result.now c.as_bytes-then-count-gt0.result.now).0 (sym c.eq.ensures ∙ c.if-eq.true) ∙ c.as_bytes-then-count-gt0.ensures.text in
    on_ok_weaker c.push.result (λ is.
    ap (λ (rows : List Row). records_in (slice_set items n (last.0, rows))) is
    ∙ records-add items n last (c.args.key, c.args.value) count c.index_mut.ensures.value
    ∙ ap (λ (text : List ℕ). records_in items ++ (of_table text c.args.key, c.args.value) ∷ []) name
    ∙ ap (λ (tables : List NamedRows). records_in tables ++ (of_table c.args.table c.args.key, c.args.value) ∷ []) c.self.view_is) c.push.ensures.ok

pub returns : goal.returns
returns c =
    let old = c.args.self.now in
    let rows : c.push-2.new.self ≡ (c.args.key, c.args.value) ∷ [] = c.in_ok-push.ensures.ok ∙ ap (λ (l : List Row). l ++ (c.args.key, c.args.value) ∷ []) c.new-rows.ensures in
    on_ok_weaker c.push-3.result (λ is.
    ap records_in is ∙ ap (λ (l : List Row). records_in (old ++ (c.args.table, l) ∷ [])) rows ∙ records-push old c.args.table (c.args.key, c.args.value)) c.push-3.ensures.ok
